-- `command_writer::insert::store_tail`: three numbers as one.
use Prim.Native.Nat.{◌+◌, ◌*◌}
use native.Mathlib.Omega.{arith}
use Rattle.command_measure.specs.Fields.{tail_fields}
use Rattle.command_writer.proofs.Storing.{pens_all, tail_bits}
use Rattle.command_writer.proofs.insert.store_tail.Goals as goal

pub returns : goal.returns
returns c =
    let a = c.args in
    let h = c.wide.ensures in
    let k = c.wide-2.ensures in
    let y = a.program_id * 0x10000 + c.wide.result * 0x100 + c.wide-2.result in
    pens_all a.out.now a.c _ _ (tail_fields a.program_id a.avail a.expected) 32 y
    (tail_bits a.program_id a.avail a.expected y (omega (arith, h.0, h.1)) (omega (arith, k.0, k.1)) (omega (arith, h.0, k.0))) c.put_bits.ensures
