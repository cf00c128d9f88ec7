-- `descriptor::full::list_components`. The loop's invariant: what is left, stored from a place on, gives what the whole gives.
use Rattle.std.proofs.Common.{◌<◌, ◌≤◌, ◌∙◌, length-set, arith}
use Rattle.descriptor.specs.Segmentation.{component}
use Rattle.descriptor.specs.Private.{component_read}
use Rattle.descriptor.proofs.Besides.{fill_end, fill_turn, fill_short}
use Rattle.descriptor.proofs.Parts.{told, ends_inside}
use Rattle.descriptor.proofs.full.list_components.Goals as goal

pub returns-in-Err : goal.returns-in-Err
returns-in-Err c =
    let a = c.args in
    let h : c.loop-at.at < a.n = omega arith in
    c.no_components.ensures ∙ fill_short a.s.now a.n a.from c.loop-at.out c.loop-at.at c.loop-at.next c.loop-at.invariant.2 h _ (told component_read _ _ _ c.in-Err.is c.read_component.ensures)

pub loop-at-preserved : goal.loop-at-preserved
loop-at-preserved c =
    let a = c.args in
    let g = told component_read _ _ _ c.in-Ok.is c.read_component.ensures in
    let h : c.loop-at.at < a.n = omega arith in (
      simp length-set c.loop-at.invariant.0,
      ends_inside component a.s.now c.loop-at.next _ _ c.loop-at.invariant.1 g,
      fill_turn a.s.now a.n a.from c.loop-at.out c.loop-at.at c.loop-at.next c.loop-at.invariant.2 h _ g,
    )

pub returns : goal.returns
returns c =
    let a = c.args in
    let h : a.n ≤ c.loop-at.at = omega arith in
    fill_end a.s.now a.n a.from c.loop-at.out c.loop-at.at c.loop-at.next c.loop-at.invariant.2 h
