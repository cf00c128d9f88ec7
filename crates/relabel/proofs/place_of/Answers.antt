-- `relabel::place_of`: the item's length and the UPID's head are where the definition has them.
use native.Mathlib.Omega.{arith}
use Rattle.relabel.proofs.Mades.{stop_fits, head_fits, place_is}
use Rattle.relabel.proofs.place_of.Goals as goal

pub slice_bounds-upid_head-count : goal.slice_bounds-upid_head-count
slice_bounds-upid_head-count c =
    let a = c.args in
    let f = stop_fits a.section.now a.offset c.requires.0 a.list _ c.requires.1 c.size.ensures.0 in
    omega (arith, f.0)

pub slice_bounds-upid_head-start : goal.slice_bounds-upid_head-start
slice_bounds-upid_head-start c =
    let a = c.args in
    let f = stop_fits a.section.now a.offset c.requires.0 a.list _ c.requires.1 c.size.ensures.0 in
    omega (arith, f.0, f.1)

pub slice_bounds-upid_head-end : goal.slice_bounds-upid_head-end
slice_bounds-upid_head-end c =
    let a = c.args in
    let f = stop_fits a.section.now a.offset c.requires.0 a.list _ c.requires.1 c.size.ensures.0 in
    omega (arith, f.1)

pub overflow_add-head : goal.overflow_add-head
overflow_add-head c =
    let a = c.args in
    let f = stop_fits a.section.now a.offset c.requires.0 a.list _ c.requires.1 c.size.ensures.0 in
    let h = head_fits a.section.now a.offset c.requires.0 a.list _ _ c.requires.1 c.size.ensures.0 c.upid_head.ensures in
    omega (arith, h.1, h.2)

pub overflow_add-counts : goal.overflow_add-counts
overflow_add-counts c =
    let a = c.args in
    let f = stop_fits a.section.now a.offset c.requires.0 a.list _ c.requires.1 c.size.ensures.0 in
    let h = head_fits a.section.now a.offset c.requires.0 a.list _ _ c.requires.1 c.size.ensures.0 c.upid_head.ensures in
    omega (arith, h.1, h.2)

pub overflow_add-end : goal.overflow_add-end
overflow_add-end c =
    let a = c.args in
    let f = stop_fits a.section.now a.offset c.requires.0 a.list _ c.requires.1 c.size.ensures.0 in
    let h = head_fits a.section.now a.offset c.requires.0 a.list _ _ c.requires.1 c.size.ensures.0 c.upid_head.ensures in
    omega (arith, h.1, h.2)

pub bounds-section-counts : goal.bounds-section-counts
bounds-section-counts c =
    let a = c.args in
    let f = stop_fits a.section.now a.offset c.requires.0 a.list _ c.requires.1 c.size.ensures.0 in
    let h = head_fits a.section.now a.offset c.requires.0 a.list _ _ c.requires.1 c.size.ensures.0 c.upid_head.ensures in
    omega (arith, h.1)

pub overflow_add-end-2 : goal.overflow_add-end-2
overflow_add-end-2 c =
    let a = c.args in
    let f = stop_fits a.section.now a.offset c.requires.0 a.list _ c.requires.1 c.size.ensures.0 in
    let h = head_fits a.section.now a.offset c.requires.0 a.list _ _ c.requires.1 c.size.ensures.0 c.upid_head.ensures in
    omega (arith, h.1, h.2, c.size-2.ensures.1)

pub returns : goal.returns
returns c =
    let a = c.args in
    let f = stop_fits a.section.now a.offset c.requires.0 a.list _ c.requires.1 c.size.ensures.0 in
    let h = head_fits a.section.now a.offset c.requires.0 a.list _ _ c.requires.1 c.size.ensures.0 c.upid_head.ensures in
    place_is a.section.now a.offset c.requires.0 a.list a.len _ _ c.requires.1 c.requires.2 h.0 c.size-2.ensures.0
