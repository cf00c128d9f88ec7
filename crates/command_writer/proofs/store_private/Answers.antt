-- `command_writer::store_private`: the identifier, then the view.
use mathlib.Core.Path.{ap}
use Rattle.bit_stores.proofs.Tables.{pens_append, pens_same}
use Rattle.table.specs.Bits.{bits_of_num, bits_of}
use Rattle.table.specs.Lent.{viewed}
use Rattle.table.proofs.Bits.{all_num}
use Rattle.command_writer.proofs.store_private.Goals as goal

pub returns : goal.returns
returns c =
    let a = c.args in
    let b = bits_of (viewed a.lent.now a.p.private_bytes) in
    let r = pens_same _ _ _ b _ _ (ap bits_of c.view.ensures) c.put_run.ensures in
    (pens_append a.out.now a.c (bits_of_num 32 a.p.identifier) _ _ b (all_num 32 a.p.identifier) c.requires c.put_bits-c.ensures).both _ _ r
