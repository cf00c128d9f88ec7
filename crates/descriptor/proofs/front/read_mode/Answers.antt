-- `descriptor::front::read_mode`, by the flag; the count, and the components.
use Rattle.std.proofs.lemmas.Result.{err_from_is_err_and}
use mathlib.Core.List.{[]}
use mathlib.Core.Path.{sym}
use Rattle.table.proofs.Fields.{byte_field}
use Rattle.descriptor.specs.Private.{components_passed}
use Rattle.descriptor.proofs.Parts.{told, by_program_lem, no_count, no_components_lem, by_components}
use Rattle.descriptor.proofs.front.read_mode.Goals as goal

pub returns-then-program : goal.returns-then-program
returns-then-program c = let a = c.args in ([], by_program_lem a.s.now a.at _ c.if-program.true)

pub returns-then-s-at : goal.returns-then-s-at
returns-then-s-at c =
    let a = c.args in
    no_count a.s.now a.at _ c.if-program.false c.if-s-at.true

pub returns : goal.returns
returns c =
    let a = c.args in
    let g = told components_passed _ _ _ c.in_ok-next.was c.pass_components.ensures in
    (g.0, by_components a.s.now a.at _ c.if-program.false c.if-s-at.false _ (sym (byte_field a.s.now a.at c.if-s-at.false (c.type_inv.s a.at).fits)) _ _ g.1)

pub returns-in_err-next : goal.returns-in_err-next
returns-in_err-next c =
    let p = err_from_is_err_and c.from_residual.result c.from_residual.ensures.1 in
    let a = c.args in
    rw (p.1, p.2) (no_components_lem a.s.now a.at _ c.if-program.false c.if-s-at.false _ (sym (byte_field a.s.now a.at c.if-s-at.false (c.type_inv.s a.at).fits)) _ _ (told components_passed _ _ _ c.in_err-next.was c.pass_components.ensures))
