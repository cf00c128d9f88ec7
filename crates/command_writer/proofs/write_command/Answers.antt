-- `command_writer::write_command`: an insert, or what has no components.
use mathlib.Core.List.{[]}
use Rattle.command.specs.Command.{array}
use Rattle.command_measure.proofs.Making.{insert_is, made_without_components}
use Rattle.command_writer.proofs.Payloads.{other_made}
use borrow.Enum.Refused.{opened}
use Rattle.command_writer.proofs.write_command.Goals as goal

pub returns-in-SpliceInsert : goal.returns-in-SpliceInsert
returns-in-SpliceInsert c =
    let a = c.args in record { answer = (other_made _ _ a.target.now _ _ (insert_is a.command a.components a.lent.now _ c.in-SpliceInsert.is) (c.write_insert.ensures.answer, c.write_insert.ensures.bytes)).0; bytes = (other_made _ _ a.target.now _ _ (insert_is a.command a.components a.lent.now _ c.in-SpliceInsert.is) (c.write_insert.ensures.answer, c.write_insert.ensures.bytes)).1 }

pub returns-in_default : goal.returns-in_default
returns-in_default c =
    let a = c.args in record { answer = (other_made _ _ a.target.now _ _ (made_without_components a.command (array []) a.components a.lent.now (opened c.in_default.in_default-own.keys2)) (c.write_command_without_components.ensures.answer, c.write_command_without_components.ensures.bytes)).0; bytes = (other_made _ _ a.target.now _ _ (made_without_components a.command (array []) a.components a.lent.now (opened c.in_default.in_default-own.keys2)) (c.write_command_without_components.ensures.answer, c.write_command_without_components.ensures.bytes)).1 }
