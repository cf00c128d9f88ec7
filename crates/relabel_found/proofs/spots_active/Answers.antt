-- `relabel_found::spots_active`: its tests in turn, and the payload of an item that stands there whole.
use mathlib.Core.Path.{sym, ◌∙◌}
use native.Mathlib.Omega.{arith}
use borrow.Author.Tests.{not-true, not-false}
use Rattle.relabel_found.proofs.Spots.{titled_is}
use Rattle.relabel_found.proofs.Titles.{spots_long, spots_none, spots_other, spots_complete}
use Rattle.relabel_found.proofs.spots_active.Goals as goal

pub returns-then-items-gt-MAX_LOOP : goal.returns-then-items-gt-MAX_LOOP
returns-then-items-gt-MAX_LOOP c = spots_long _ _ c.if-items-gt-MAX_LOOP.true

pub returns-then-not-begins_item : goal.returns-then-not-begins_item
returns-then-not-begins_item c = spots_none _ _ (sym c.begins_item.ensures ∙ not-true _ c.if-not-begins_item.true-raw)

pub returns-then-not-is_titled : goal.returns-then-not-is_titled
returns-then-not-is_titled c =
    spots_other _ _ (sym c.begins_item.ensures ∙ not-false _ c.if-not-begins_item.false-raw) (sym c.is_titled.ensures ∙ not-true _ c.if-not-is_titled.true-raw)

pub overflow_add-start : goal.overflow_add-start
overflow_add-start c =
    let y = titled_is _ _ (sym c.is_titled.ensures ∙ not-false _ c.if-not-is_titled.false-raw) in
    record { fits = omega (arith, y.there, y.long, c.if-items-gt-MAX_LOOP.false) }

pub overflow_add-stop : goal.overflow_add-stop
overflow_add-stop c =
    let y = titled_is _ _ (sym c.is_titled.ensures ∙ not-false _ c.if-not-is_titled.false-raw) in
    record { fits = omega (arith, y.there, y.long, c.if-items-gt-MAX_LOOP.false) }

pub overflow_add-offset : goal.overflow_add-offset
overflow_add-offset c =
    let y = titled_is _ _ (sym c.is_titled.ensures ∙ not-false _ c.if-not-is_titled.false-raw) in
    record { fits = omega (arith, y.there, y.long, c.if-items-gt-MAX_LOOP.false) }

pub bounds-items-offset : goal.bounds-items-offset
bounds-items-offset c =
    let y = titled_is _ _ (sym c.is_titled.ensures ∙ not-false _ c.if-not-is_titled.false-raw) in
    omega (arith, y.there)

pub overflow_add-stop-2 : goal.overflow_add-stop-2
overflow_add-stop-2 c =
    let y = titled_is _ _ (sym c.is_titled.ensures ∙ not-false _ c.if-not-is_titled.false-raw) in
    record { fits = omega (arith, y.there, c.if-items-gt-MAX_LOOP.false, c.size.ensures.0) }

pub slice_bounds-is_complete-count : goal.slice_bounds-is_complete-count
slice_bounds-is_complete-count c =
    let y = titled_is _ _ (sym c.is_titled.ensures ∙ not-false _ c.if-not-is_titled.false-raw) in
    omega (arith, y.long, c.size.ensures.0)

pub slice_bounds-is_complete-start : goal.slice_bounds-is_complete-start
slice_bounds-is_complete-start c =
    let y = titled_is _ _ (sym c.is_titled.ensures ∙ not-false _ c.if-not-is_titled.false-raw) in
    omega (arith, y.long, y.there, c.size.ensures.0)

pub slice_bounds-is_complete-end : goal.slice_bounds-is_complete-end
slice_bounds-is_complete-end c =
    let y = titled_is _ _ (sym c.is_titled.ensures ∙ not-false _ c.if-not-is_titled.false-raw) in
    omega (arith, y.there, c.size.ensures.0)

pub returns : goal.returns
returns c =
    spots_complete _ _ (sym c.begins_item.ensures ∙ not-false _ c.if-not-begins_item.false-raw) (sym c.is_titled.ensures ∙ not-false _ c.if-not-is_titled.false-raw) _ c.size.ensures.0 _ c.is_complete.ensures
