-- `upid::mid::check_payload` meets its contract: each part is read as `read_of` reads it.
use Rattle.std.proofs.lemmas.Result.{err_from_is_err_and}
use mathlib.Core.Path.{refl, sym, ◌∙◌}
use native.Mathlib.Omega.{arith}
use native.Mathlib.Nat.{add-zero}
use Rattle.upid.proofs.Laws.{read_plain, read_mid}
use Rattle.upid.proofs.Walks.{read_end, read_head, read_short, inner_length, read_stop, read_on}
use Rattle.upid.proofs.mid.+check_payload.Goals as goal

pub returns-then-upid_type-ne-UPID_MID : goal.returns-then-upid_type-ne-UPID_MID
returns-then-upid_type-ne-UPID_MID t c = c.check_plain.ensures ∙ sym (read_plain _ _ _ c.if-upid_type-ne-UPID_MID.true)

pub walk-init : goal.walk-init
walk-init t c = (omega arith, rw add-zero (read_mid _ _ _ c.if-upid_type-ne-UPID_MID.false))

pub check_payload-requires : goal.check_payload-requires
check_payload-requires t c =
    let l = inner_length c.args.start _ _ c.args.s.now c.walk-test.true c.if-left-lt2.false c.size-n.ensures.0 c.if-present-n.false in
    (omega arith, omega arith)

pub walk-preserved : goal.walk-preserved
walk-preserved t c = (
  omega arith,
  c.walk.invariant.1 ∙ read_on _ _ _ _ c.walk-test.true c.if-left-lt2.false c.size-n.ensures.0 c.if-present-n.false _ _ (sym c.in_ok-check_payload.was ∙ c.check_payload.ensures) refl,
)

pub returns : goal.returns
returns t c = sym (read_end _ _ _ c.walk-test.false) ∙ sym c.walk.invariant.1

pub returns-then-left-lt2 : goal.returns-then-left-lt2
returns-then-left-lt2 t c = sym (read_head _ _ _ c.walk-test.true c.if-left-lt2.true) ∙ sym c.walk.invariant.1

pub returns-then-present-n : goal.returns-then-present-n
returns-then-present-n t c = sym (read_short _ _ _ _ c.walk-test.true c.if-left-lt2.false c.size-n.ensures.0 c.if-present-n.true) ∙ sym c.walk.invariant.1

pub returns-in_err-check_payload : goal.returns-in_err-check_payload
returns-in_err-check_payload t c =
    let p = err_from_is_err_and c.from_residual.result c.from_residual.ensures.1 in
    rw (p.1, p.2) (sym (read_stop _ _ _ _ c.walk-test.true c.if-left-lt2.false c.size-n.ensures.0 c.if-present-n.false _ _ (sym c.in_err-check_payload.was ∙ c.check_payload.ensures) refl) ∙ sym c.walk.invariant.1)
