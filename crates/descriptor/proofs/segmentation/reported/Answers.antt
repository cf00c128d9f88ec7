-- `descriptor::segmentation::reported`, by the type.
use mathlib.Core.Logic.{⊎_elim, inl, inr}
use borrow.Author.Tests.{ne_eqb}
use Rattle.descriptor.proofs.segmentation.reported.Goals as goal

pub returns-in-0 : goal.returns-in-0
returns-in-0 c = ⊎_elim (λ e. rw e) (λ e. rw e) c.in-0.is

pub returns-in_default : goal.returns-in_default
returns-in_default c =
    let a = c.args in
    rw (ne_eqb a.upid_type 0 (λ e. c.in_default.in_default-own.rest.1 (inl e)), ne_eqb a.upid_type 10 (λ e. c.in_default.in_default-own.rest.1 (inr e)))
