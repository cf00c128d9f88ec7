-- `bit_stores::put_shifted`: the bytes that are behind are stored.
use Rattle.std.proofs.Common.{length, take, ap, ◌∙◌, take_all, arith}
use Rattle.table.specs.Bits.{bits_of}
use Rattle.table.specs.Cursor.{place}
use Rattle.bit_stores.proofs.Penned.{length_penned}
use Rattle.bit_stores.proofs.Tables.{pens_nil, pens_byte, pens_same}
use Rattle.bit_stores.proofs.put_shifted.Goals as goal

pub loop-b-init : goal.loop-b-init
loop-b-init c = pens_nil c.args.out.now c.args.c c.requires.0 c.requires.1 (omega (arith, c.requires.2))

pub loop-b-preserved : goal.loop-b-preserved
loop-b-preserved c =
    pens_byte c.args.out.now c.args.c c.args.src.now c.loop-b.b-index c.wide.result c.loop-b.out c.loop-b.next _ _
    (omega arith) c.wide.ensures.0 c.requires.2 c.loop-b.invariant c.put_bits-next.ensures

pub shape_of-out : goal.shape_of-out
shape_of-out c =
    let a = c.args in
    ap length c.loop-b.invariant.bytes ∙ length_penned a.out.now (place a.c) (bits_of (take c.loop-b.b-index a.src.now))

pub returns : goal.returns
returns c =
    pens_same c.args.out.now c.args.c _ _ c.loop-b.out c.loop-b.next (ap bits_of (take_all c.loop-b.b-index c.args.src.now (omega arith))) c.loop-b.invariant
