-- `descriptor_loop::iteration::step` meets its contract: each answer takes the definition's tests in turn.
use mathlib.Core.Path.{sym, ◌∙◌}
use Rattle.descriptor_loop.proofs.Steps.{step_long, step_end, step_few}
use Rattle.descriptor_loop.proofs.iteration.step.Goals as goal

pub returns-then-end-gt-MAX_LOOP : goal.returns-then-end-gt-MAX_LOOP
returns-then-end-gt-MAX_LOOP c = c.plain.ensures ∙ sym (step_long _ _ c.if-end-gt-MAX_LOOP.true)

pub returns-then-end-offset : goal.returns-then-end-offset
returns-then-end-offset c = c.plain-then-end-offset.ensures ∙ sym (step_end _ _ c.if-end-gt-MAX_LOOP.false c.if-end-offset.true)

pub returns-then-end-offset-lt6 : goal.returns-then-end-offset-lt6
returns-then-end-offset-lt6 c = c.plain-then-end-offset-lt6.ensures ∙ rw c.lacks.ensures (sym (step_few _ _ c.if-end-gt-MAX_LOOP.false c.if-end-offset.false c.if-end-offset-lt6.true))

pub returns : goal.returns
returns c = c.by_length.ensures
