-- `descriptor::octet::take_octet`: eight bits hold what is taken.
use Rattle.std.proofs.lemmas.Result.{err_from_is_err_and}
use mathlib.Core.Path.{sym, ◌∙◌}
use Rattle.table.specs.Cursor.{place}
use native.Mathlib.Omega.{arith}
use Rattle.descriptor.proofs.Octets.{fits_octet, octet_is, octet_none}
use Rattle.descriptor.proofs.octet.take_octet.Goals as goal

pub overflow_cast-result : goal.overflow_cast-result
overflow_cast-result c =
    let a = c.args in
    omega (arith, fits_octet a.s.now (place a.c) a.w _ c.requires (sym c.in_ok-n.was ∙ c.take.ensures))

pub returns : goal.returns
returns c =
    let a = c.args in
    octet_is a.s.now (place a.c) a.w _ c.requires (sym c.in_ok-n.was ∙ c.take.ensures)

pub returns-in_err-n : goal.returns-in_err-n
returns-in_err-n c =
    let p = err_from_is_err_and c.from_residual.result c.from_residual.ensures.1 in
    rw (p.1, p.2) (octet_none _ _ (sym c.in_err-n.was ∙ c.take.ensures))
