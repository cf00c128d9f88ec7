-- `section_writer::put_head`: three numbers, one behind the other.
use native.Mathlib.Omega.{arith}
use Rattle.section_writer.proofs.Stored.{head_stored}
use Rattle.section_writer.proofs.put_head.Goals as goal

pub returns : goal.returns
returns c =
    let a = c.args in
    head_stored a.out.now _ _ _ a.header a.command_type a.size a.extent _ _ c.put_number.ensures c.put_number-2.ensures c.put_number-3.ensures
    c.first_number.ensures c.last_number.ensures c.requires.0 c.requires.1 (omega arith) c.requires.2 c.requires.3
