-- `descriptor_loop::iteration::by_length` meets its contract: each answer takes the definition's tests of the length in turn; `w` is the place that knows it.
use Prim.Native.Nat.{◌-◌, ◌≤◌, ◌<◌}
use mathlib.Core.Path.{sym, ◌∙◌}
use native.Mathlib.Omega.{arith}
use lib.ListN.{length}
use Rattle.descriptor_loop.proofs.Steps.{step_over, step_full, step_small, step_complete}
use Rattle.descriptor_loop.proofs.iteration.by_length.Goals as goal

pub returns-then-left-len : goal.returns-then-left-len
returns-then-left-len c =
    c.plain.ensures ∙ rw c.lacks.ensures (sym (step_over _ _ c.requires.1 ((let it : let a = c.args in a.offset < length a.descriptors.now = omega (arith, c.requires.0) in it)) _ c.size-len.ensures.0 ((let it : let a = c.args in 6 ≤ length a.descriptors.now - a.offset = omega (arith, c.requires.0) in it)) c.if-left-len.true))

pub returns-then-len-gt-MAX_DESCRIPTOR : goal.returns-then-len-gt-MAX_DESCRIPTOR
returns-then-len-gt-MAX_DESCRIPTOR c =
    c.plain-then-len-gt-MAX_DESCRIPTOR.ensures ∙ sym (step_full _ _ c.requires.1 ((let it : let a = c.args in a.offset < length a.descriptors.now = omega (arith, c.requires.0) in it)) _ c.size-len.ensures.0 ((let it : let a = c.args in 6 ≤ length a.descriptors.now - a.offset = omega (arith, c.requires.0) in it)) c.if-left-len.false c.if-len-gt-MAX_DESCRIPTOR.true)

pub returns-then-len-lt4 : goal.returns-then-len-lt4
returns-then-len-lt4 c =
    c.plain-then-len-lt4.ensures ∙ rw c.lacks-then-len-lt4.ensures (sym (step_small _ _ c.requires.1 ((let it : let a = c.args in a.offset < length a.descriptors.now = omega (arith, c.requires.0) in it)) _ c.size-len.ensures.0 ((let it : let a = c.args in 6 ≤ length a.descriptors.now - a.offset = omega (arith, c.requires.0) in it)) c.if-left-len.false c.if-len-gt-MAX_DESCRIPTOR.false c.if-len-lt4.true))

pub returns : goal.returns
returns c =
    c.read_complete.ensures ∙ sym (step_complete _ _ c.requires.1 ((let it : let a = c.args in a.offset < length a.descriptors.now = omega (arith, c.requires.0) in it)) _ c.size-len.ensures.0 ((let it : let a = c.args in 6 ≤ length a.descriptors.now - a.offset = omega (arith, c.requires.0) in it)) c.if-left-len.false c.if-len-gt-MAX_DESCRIPTOR.false c.if-len-lt4.false)
