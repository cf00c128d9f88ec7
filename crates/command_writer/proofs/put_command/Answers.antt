-- `command_writer::put_command`: an insert, or what has no components.
use mathlib.Core.List.{[]}
use mathlib.Core.Path.{ap, ◌∙◌}
use Rattle.command.specs.Command.{array}
use Rattle.bit_stores.specs.Written.{bytes_in}
use Rattle.table.specs.Lent.{stored}
use Rattle.table.specs.Writing.{Made}
use Rattle.command_measure.proofs.Making.{insert_is, made_without_components}
use borrow.Enum.Refused.{opened}
use Rattle.command_writer.proofs.put_command.Goals as goal

pub returns-in-SpliceInsert : goal.returns-in-SpliceInsert
returns-in-SpliceInsert c =
    let a = c.args in
    c.put_insert.ensures ∙ ap (λ (x : Made). stored a.out.now a.at (bytes_in x)) (insert_is a.command a.components a.lent.now _ c.in-SpliceInsert.is)

pub returns-in_default : goal.returns-in_default
returns-in_default c =
    let a = c.args in
    c.put_without_components.ensures ∙ ap (λ (x : Made). stored a.out.now a.at (bytes_in x)) (made_without_components a.command (array []) a.components a.lent.now (opened c.in_default.in_default-own.keys2))
