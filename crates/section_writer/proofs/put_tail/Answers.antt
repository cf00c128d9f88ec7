-- `section_writer::put_tail`: the loop's length, the loop, and the CRC of all that stands before it.
use native.Mathlib.Omega.{arith}
use Rattle.section_writer.proofs.Stored.{tail_stored}
use Rattle.section_writer.proofs.put_tail.Goals as goal

pub returns : goal.returns
returns c =
    let a = c.args in
    tail_stored a.out.now _ _ _ a.descriptors.now a.at _ c.put_number.ensures c.put_bytes.ensures c.crc32-crc.ensures c.put_number-2.ensures (omega arith)
