-- `descriptor::plain::read_dtmf` walks as its table does: each step of the cursor is one of the table.
use Rattle.std.proofs.lemmas.Result.{err_from_is_err_and}
use mathlib.Core.Path.{sym, ◌∙◌}
use Rattle.descriptor.specs.Private.{lacking}
use Rattle.descriptor.proofs.Plains.{no_preroll, no_count, no_reserved, no_chars, dtmf_is}
use Rattle.descriptor.proofs.plain.read_dtmf.Goals as goal

pub returns-in_err-preroll : goal.returns-in_err-preroll
unfolding lacking
returns-in_err-preroll c =
    let p = err_from_is_err_and c.from_residual.result c.from_residual.ensures.1 in
    let a = c.args in
    rw (p.1, p.2) (no_preroll a.payload.now _ (sym c.in_err-preroll.was ∙ c.take_octet.ensures))

pub returns-in_err-count : goal.returns-in_err-count
unfolding lacking
returns-in_err-count c =
    let p = err_from_is_err_and c.from_residual-in_err-count.result c.from_residual-in_err-count.ensures.1 in
    let a = c.args in
    rw (p.1, p.2) (no_count a.payload.now _ (sym c.in_ok-preroll.was ∙ c.take_octet.ensures) _ (sym c.in_err-count.was ∙ c.take_octet-2.ensures))

pub returns-in_err-next : goal.returns-in_err-next
unfolding lacking
returns-in_err-next c =
    let p = err_from_is_err_and c.from_residual-in_err-next.result c.from_residual-in_err-next.ensures.1 in
    let a = c.args in
    rw (p.1, p.2) (no_reserved a.payload.now _ (sym c.in_ok-preroll.was ∙ c.take_octet.ensures) _ (sym c.in_ok-count.was ∙ c.take_octet-2.ensures) _ (sym c.in_err-next.was ∙ c.skip.ensures))

pub returns-in_err-chars : goal.returns-in_err-chars
unfolding lacking
returns-in_err-chars c =
    let p = err_from_is_err_and c.from_residual-in_err-chars.result c.from_residual-in_err-chars.ensures.1 in
    let a = c.args in
    rw (p.1, p.2) (no_chars a.payload.now _ (sym c.in_ok-preroll.was ∙ c.take_octet.ensures) _ (sym c.in_ok-count.was ∙ c.take_octet-2.ensures) _ (sym c.in_ok-next.was ∙ c.skip.ensures) _ c.size.ensures.0 _ (sym c.in_err-chars.was ∙ c.pass.ensures))

pub returns : goal.returns
returns c =
    let a = c.args in
    dtmf_is a.payload.now _ (sym c.in_ok-preroll.was ∙ c.take_octet.ensures) _ (sym c.in_ok-count.was ∙ c.take_octet-2.ensures) _ (sym c.in_ok-next.was ∙ c.skip.ensures) _ c.size.ensures.0 _ (sym c.in_ok-chars.was ∙ c.pass.ensures)
