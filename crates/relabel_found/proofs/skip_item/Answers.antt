-- `relabel_found::skip_item`: the step's tests of the length, in turn; `w` is the place that knows it.
use Prim.Native.Nat.{◌-◌, ◌≤◌}
use mathlib.Core.Path.{ap, sym}
use lib.ListN.{length}
use Rattle.descriptor_loop.proofs.Steps.{step_few, step_over, step_full}
use Rattle.descriptor_loop.specs.declared.Step.{Step}
use Rattle.relabel_found.proofs.Walks.{next_is}
use Rattle.relabel_found.proofs.skip_item.Goals as goal

pub returns-then-left-lt6 : goal.returns-then-left-lt6
returns-then-left-lt6 c =
    sym (ap (λ (s : Step). s.next) (step_few _ _ c.requires.1 c.requires.0 c.if-left-lt6.true))

pub returns-then-left-len : goal.returns-then-left-len
returns-then-left-len c =
    sym (ap (λ (s : Step). s.next) (step_over _ _ c.requires.1 c.requires.0 _ c.size-len.ensures.0 ((let it : let a = c.args in 6 ≤ length a.items.now - a.at = c.if-left-lt6.false in it)) c.if-left-len.true))

pub returns-then-len-gt-MAX_DESCRIPTOR : goal.returns-then-len-gt-MAX_DESCRIPTOR
returns-then-len-gt-MAX_DESCRIPTOR c =
    sym (ap (λ (s : Step). s.next) (step_full _ _ c.requires.1 c.requires.0 _ c.size-len.ensures.0 ((let it : let a = c.args in 6 ≤ length a.items.now - a.at = c.if-left-lt6.false in it)) c.if-left-len.false c.if-len-gt-MAX_DESCRIPTOR.true))

pub returns : goal.returns
returns c =
    next_is _ _ c.requires.1 c.requires.0 _ c.size-len.ensures.0 ((let it : let a = c.args in 6 ≤ length a.items.now - a.at = c.if-left-lt6.false in it)) c.if-left-len.false c.if-len-gt-MAX_DESCRIPTOR.false
