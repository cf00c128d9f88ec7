-- `upid::mid::list_parts` meets its contract. The loop's invariant: what is left of each open MID was accepted, and the parts that are left of them go
-- after those of `out`; each level and each part took two bytes of head, so that both have their places. The measure: a turn goes two bytes on or leaves
-- a MID. In the answers `start`, `loop`, `turn` and `part` are the places where the function, the loop, its turn and a part begin.
use Prim.Native.Nat.{◌+◌, ◌<◌}
use mathlib.Core.Path.{refl, sym, ap, ◌∙◌}
use native.Mathlib.Omega.{arith}
use lib.ListN.{length, length-set}
use Rattle.upid.specs.Upid.{listed}
use Rattle.upid.specs.Private.{grown}
use Rattle.upid.specs.declared.PartList.{PartList}
use Rattle.upid.proofs.Laws.{list_plain, accepted_mid}
use Rattle.upid.proofs.Lister.{open_first, part_complete, closed, passed, entered, begun, store, ended}
use Rattle.upid.proofs.mid.list_parts.Goals as goal

-- in the answers `h` says that the part is whole, in the innermost MID

pub returns-then-upid_type-ne-UPID_MID : goal.returns-then-upid_type-ne-UPID_MID
returns-then-upid_type-ne-UPID_MID c = c.blank-out.ensures ∙ ap listed (sym (list_plain _ _ _ _ c.if-upid_type-ne-UPID_MID.true))

pub overflow_cast-ends : goal.overflow_cast-ends
overflow_cast-ends c = let r = c.requires in omega arith

pub bounds-ends-0 : goal.bounds-ends-0
bounds-ends-0 c = omega arith

pub walk-init : goal.walk-init
unfolding listed
walk-init c = (
  omega arith,
  omega arith,
  omega (arith, ap (λ (l : PartList). l.count) c.blank-out.ensures),
  open_first _ _ refl (accepted_mid _ _ _ c.if-upid_type-ne-UPID_MID.false (c.requires.accepted c.if-upid_type-ne-UPID_MID.false)),
  begun _ _ _ _ c.if-upid_type-ne-UPID_MID.false c.requires.short refl c.blank-out.ensures,
  refl,
)

pub overflow_sub-open : goal.overflow_sub-open
overflow_sub-open c = omega arith

pub bounds-ends-open : goal.bounds-ends-open
bounds-ends-open c = let r = c.requires in omega arith

pub walk-smaller-then-at-end : goal.walk-smaller-then-at-end
walk-smaller-then-at-end c = omega arith

pub walk-preserved-then-at-end : goal.walk-preserved-then-at-end
walk-preserved-then-at-end c =
    let o = closed c.args.s.now c.walk.ends c.walk.level c.walk.at c.size-end.result c.walk-test.true c.size-end.ensures.0 c.walk.invariant.3 c.if-at-end.true in (
      omega arith,
      omega arith,
      omega arith,
      o.0,
      c.walk.invariant.4 ∙ ap (grown c.walk.out) o.1,
      c.walk.invariant.5,
    )

pub bounds-s-at : goal.bounds-s-at
bounds-s-at c = let h = part_complete c.args.s.now c.walk.ends c.walk.level c.walk.at c.size-end.result c.walk-test.true c.size-end.ensures.0 c.walk.invariant.3 c.if-at-end.false in
    let r = c.requires in omega arith

pub overflow_add-l : goal.overflow_add-l
overflow_add-l c = let h = part_complete c.args.s.now c.walk.ends c.walk.level c.walk.at c.size-end.result c.walk-test.true c.size-end.ensures.0 c.walk.invariant.3 c.if-at-end.false in
    let r = c.requires in omega arith

pub bounds-s-at-in-walk : goal.bounds-s-at-in-walk
bounds-s-at-in-walk c = let h = part_complete c.args.s.now c.walk.ends c.walk.level c.walk.at c.size-end.result c.walk-test.true c.size-end.ensures.0 c.walk.invariant.3 c.if-at-end.false in
    let r = c.requires in omega arith

pub overflow_add-from : goal.overflow_add-from
overflow_add-from c = let h = part_complete c.args.s.now c.walk.ends c.walk.level c.walk.at c.size-end.result c.walk-test.true c.size-end.ensures.0 c.walk.invariant.3 c.if-at-end.false in
    let r = c.requires in omega arith

pub overflow_add-to : goal.overflow_add-to
overflow_add-to c = let h = part_complete c.args.s.now c.walk.ends c.walk.level c.walk.at c.size-end.result c.walk-test.true c.size-end.ensures.0 c.walk.invariant.3 c.if-at-end.false in
    let r = c.requires in omega arith

pub overflow_cast-out : goal.overflow_cast-out
overflow_cast-out c = let h = part_complete c.args.s.now c.walk.ends c.walk.level c.walk.at c.size-end.result c.walk-test.true c.size-end.ensures.0 c.walk.invariant.3 c.if-at-end.false in
    let r = c.requires in omega arith

pub overflow_cast-out-in-walk : goal.overflow_cast-out-in-walk
overflow_cast-out-in-walk c = let h = part_complete c.args.s.now c.walk.ends c.walk.level c.walk.at c.size-end.result c.walk-test.true c.size-end.ensures.0 c.walk.invariant.3 c.if-at-end.false in
    let r = c.requires in omega arith

pub offset_bounds-out-count : goal.offset_bounds-out-count
offset_bounds-out-count c = let h = part_complete c.args.s.now c.walk.ends c.walk.level c.walk.at c.size-end.result c.walk-test.true c.size-end.ensures.0 c.walk.invariant.3 c.if-at-end.false in
    let r = c.requires in omega arith

pub bounds-out-count : goal.bounds-out-count
bounds-out-count c = let h = part_complete c.args.s.now c.walk.ends c.walk.level c.walk.at c.size-end.result c.walk-test.true c.size-end.ensures.0 c.walk.invariant.3 c.if-at-end.false in
    let r = c.requires in omega arith

pub overflow_add-out : goal.overflow_add-out
overflow_add-out c = let h = part_complete c.args.s.now c.walk.ends c.walk.level c.walk.at c.size-end.result c.walk-test.true c.size-end.ensures.0 c.walk.invariant.3 c.if-at-end.false in
    let r = c.requires in omega arith

pub walk-smaller-then-k-ne-UPID_MID : goal.walk-smaller-then-k-ne-UPID_MID
walk-smaller-then-k-ne-UPID_MID c = let h = part_complete c.args.s.now c.walk.ends c.walk.level c.walk.at c.size-end.result c.walk-test.true c.size-end.ensures.0 c.walk.invariant.3 c.if-at-end.false in
    let r = c.requires in omega arith

pub walk-preserved-then-k-ne-UPID_MID : goal.walk-preserved-then-k-ne-UPID_MID
walk-preserved-then-k-ne-UPID_MID c =
    let h = part_complete c.args.s.now c.walk.ends c.walk.level c.walk.at c.size-end.result c.walk-test.true c.size-end.ensures.0 c.walk.invariant.3 c.if-at-end.false in
    let r = c.requires in
    let o = passed c.args.s.now c.walk.ends c.walk.level c.walk.at c.size-end.result c.walk-test.true c.size-end.ensures.0 c.walk.invariant.3 c.if-at-end.false c.size.result c.size.ensures.0 c.if-k-ne-UPID_MID.true in (
      omega arith,
      omega arith,
      omega arith,
      o.0,
      store c.walk.out _ _ _ _ _ c.walk.invariant.4 o.1 c.reported.ensures,
      c.walk.invariant.5,
    )

pub overflow_cast-ends-in-walk : goal.overflow_cast-ends-in-walk
overflow_cast-ends-in-walk c = let h = part_complete c.args.s.now c.walk.ends c.walk.level c.walk.at c.size-end.result c.walk-test.true c.size-end.ensures.0 c.walk.invariant.3 c.if-at-end.false in
    let r = c.requires in omega arith

pub bounds-ends-level : goal.bounds-ends-level
bounds-ends-level c = let h = part_complete c.args.s.now c.walk.ends c.walk.level c.walk.at c.size-end.result c.walk-test.true c.size-end.ensures.0 c.walk.invariant.3 c.if-at-end.false in
    let r = c.requires in omega arith

pub overflow_add-level : goal.overflow_add-level
overflow_add-level c = let h = part_complete c.args.s.now c.walk.ends c.walk.level c.walk.at c.size-end.result c.walk-test.true c.size-end.ensures.0 c.walk.invariant.3 c.if-at-end.false in
    let r = c.requires in omega arith

pub walk-smaller : goal.walk-smaller
walk-smaller c = let h = part_complete c.args.s.now c.walk.ends c.walk.level c.walk.at c.size-end.result c.walk-test.true c.size-end.ensures.0 c.walk.invariant.3 c.if-at-end.false in
    let r = c.requires in omega arith

pub walk-preserved : goal.walk-preserved
walk-preserved c =
    let h = part_complete c.args.s.now c.walk.ends c.walk.level c.walk.at c.size-end.result c.walk-test.true c.size-end.ensures.0 c.walk.invariant.3 c.if-at-end.false in
    let r = c.requires in
    let room : c.walk.level < length c.walk.ends = omega (arith, c.walk.invariant.5) in
    let o = entered c.args.s.now c.walk.ends c.walk.level c.walk.at c.size-end.result c.walk-test.true c.size-end.ensures.0 c.walk.invariant.3 c.if-at-end.false c.size.result c.size.ensures.0 c.if-k-ne-UPID_MID.false room in (
      omega arith,
      omega arith,
      omega arith,
      o.0,
      store c.walk.out _ _ _ _ _ c.walk.invariant.4 o.1 c.reported.ensures,
      length-set c.walk.ends c.walk.level (c.walk.at + 2 + c.size.result) ∙ c.walk.invariant.5,
    )

pub returns : goal.returns
returns c = ended _ _ _ _ _ _ c.walk-test.false c.walk.invariant.4
