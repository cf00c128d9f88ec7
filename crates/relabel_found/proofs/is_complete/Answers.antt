-- `relabel_found::is_complete`: its tests in turn; `w` is the place that knows the UPID's length.
use native.Mathlib.Omega.{arith}
use mathlib.Core.Path.{refl}
use Rattle.relabel_found.proofs.Titles.{head_low, too_short, no_back, no_bytes, one_more, by_cancel}
use Rattle.relabel_found.proofs.is_complete.Goals as goal

pub returns-then-payload-lt11 : goal.returns-then-payload-lt11
returns-then-payload-lt11 c = too_short _ c.if-payload-lt11.true

pub overflow_add-head : goal.overflow_add-head
overflow_add-head c =
    let h = head_low c.args.payload.now (λ i. (c.type_inv.payload i).fits) in
    record { fits = omega (arith, c.upid_head-head.ensures, h.1) }

pub returns-then-payload-head : goal.returns-then-payload-head
returns-then-payload-head c = no_back _ _ c.upid_head-head.ensures c.if-payload-head.true

pub returns-then-left-len : goal.returns-then-left-len
returns-then-left-len c =
    no_bytes _ _ c.upid_head-head.ensures _ c.size-len.ensures.0 c.if-payload-head.false c.if-left-len.true

pub returns-then-left-len-2 : goal.returns-then-left-len-2
returns-then-left-len-2 c =
    one_more _ _ c.upid_head-head.ensures _ c.size-len.ensures.0 c.if-payload-head.false c.if-left-len.false c.if-left-len-2.true

pub returns : goal.returns
returns c =
    by_cancel _ _ c.upid_head-head.ensures _ c.size-len.ensures.0 c.if-payload-head.false c.if-left-len.false c.if-left-len-2.false _ refl
