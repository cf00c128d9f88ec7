-- `section::full::read_full_section`: the command's bytes are those of the section's own view.
use mathlib.Core.Path.{refl, ap, sym, ◌∙◌}
use Rattle.section.specs.Full.{beside_command}
use Rattle.section.proofs.FullReadings.{full_is, full_refused}
use Rattle.section.proofs.full.read_full_section.Goals as goal

pub returns-in-Err : goal.returns-in-Err
returns-in-Err c =
    let a = c.args in
    full_refused a.section.now _ c.read_section-read.ensures _ c.in-Err.is _ c.blanks.ensures

pub returns-in-Ok : goal.returns-in-Ok
returns-in-Ok c =
    let a = c.args in
    full_is a.section.now _ (sym c.in-Ok.is ∙ c.read_section-read.ensures) _ refl _ (c.beside_command.ensures ∙ ap (beside_command c.in-Ok.x.command) c.view.ensures)
