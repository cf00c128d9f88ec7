-- `relabel_found::is_titled`: its tests in turn; `w` is the place that knows the length.
use native.Mathlib.Omega.{arith}
use mathlib.Core.Path.{refl, ◌∙◌}
use Rattle.relabel_found.proofs.Titles.{few_left, low, over, full, other_tag, by_identifier, cuei_in}
use Rattle.relabel_found.proofs.is_titled.Goals as goal

pub returns-then-items-offset : goal.returns-then-items-offset
returns-then-items-offset c = let a = c.args in few_left a.items.now a.offset (omega (arith, c.if-items-offset.true))

pub returns-then-left-lt17 : goal.returns-then-left-lt17
returns-then-left-lt17 c = few_left _ _ c.if-left-lt17.true

pub returns-then-len-lt15 : goal.returns-then-len-lt15
returns-then-len-lt15 c = low _ _ _ c.size-len.ensures.0 c.if-len-lt15.true

pub returns-then-left-len : goal.returns-then-left-len
returns-then-left-len c = over _ _ _ c.size-len.ensures.0 c.if-len-lt15.false c.if-left-len.true

pub returns-then-len-gt-MAX_DESCRIPTOR : goal.returns-then-len-gt-MAX_DESCRIPTOR
returns-then-len-gt-MAX_DESCRIPTOR c =
    full _ _ _ c.size-len.ensures.0 c.if-len-lt15.false c.if-left-len.false c.if-len-gt-MAX_DESCRIPTOR.true

pub returns-then-items-offset-ne2 : goal.returns-then-items-offset-ne2
returns-then-items-offset-ne2 c =
    other_tag _ _ _ c.size-len.ensures.0 c.if-len-lt15.false c.if-left-len.false c.if-len-gt-MAX_DESCRIPTOR.false c.if-items-offset-ne2.true

pub returns : goal.returns
returns c =
    let a = c.args in
    by_identifier _ _ _ c.size-len.ensures.0 c.if-len-lt15.false c.if-left-len.false c.if-len-gt-MAX_DESCRIPTOR.false c.if-items-offset-ne2.false _ (c.is_cuei.ensures ∙ cuei_in a.items.now a.offset _ _ _ _ refl refl refl refl)
