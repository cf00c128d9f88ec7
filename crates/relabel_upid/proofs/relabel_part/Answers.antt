-- `relabel_upid::relabel_part`, answer by answer.
use mathlib.Core.Bool.{true}
use mathlib.Core.Path.{◌≡◌, sym, ap, ◌∙◌}
use Prim.Native.Nat.{◌+◌, ◌-◌, ◌≤◌}
use lib.ListN.{length}
use native.Mathlib.Omega.{arith}
use borrow.Author.Tests.{not-true, not-false}
use Rattle.bit_stores.proofs.Writes.{refused_answer, short_answer, wrote_answer}
use Rattle.upid.specs.Upid.{check_of}
use Rattle.relabel_upid.specs.Private.{nth}
use Rattle.relabel_upid.specs.Relabel.{taken, up_to}
use Rattle.relabel_upid.proofs.Turns.{up_to_over, up_to_fits}
use Rattle.relabel_upid.proofs.Stores.{no_mid, no_reading, walkable, made_none, part_inside, part_fits, made_long, made_unfit, made_is, storable, size_is}
use Rattle.relabel_upid.proofs.relabel_part.Goals as goal
use Rattle.std.proofs.Common.{Ok}

pub returns-then-upid_type-ne-UPID_MID : goal.returns-then-upid_type-ne-UPID_MID
returns-then-upid_type-ne-UPID_MID c =
    let a = c.args in
    refused_answer _ a.target.now 41 (ap (up_to a.limit) (no_mid a.upid_type a.new_type a.i a.upid.now a.new.now c.if-upid_type-ne-UPID_MID.true))

pub returns-then-not-is_fine : goal.returns-then-not-is_fine
returns-then-not-is_fine c =
    let a = c.args in
    refused_answer _ a.target.now 41 (ap (up_to a.limit) (no_reading a.upid_type a.new_type a.i a.upid.now a.new.now (ap taken (sym c.check_upid.ensures) ∙ sym c.is_fine.ensures ∙ not-true _ c.if-not-is_fine.true-raw)))

pub head_of-head-requires : goal.head_of-head-requires
head_of-head-requires c =
    let a = c.args in
    let mid = c.if-upid_type-ne-UPID_MID.false in
    let ok : taken (check_of a.upid_type a.upid.now) ≡ true = ap taken (sym c.check_upid.ensures) ∙ sym c.is_fine.ensures ∙ not-false _ c.if-not-is_fine.false-raw in
    walkable a.upid_type a.new_type a.i a.upid.now a.new.now mid ok

pub returns-then-upid-head : goal.returns-then-upid-head
returns-then-upid-head c =
    let a = c.args in
    let mid = c.if-upid_type-ne-UPID_MID.false in
    let ok : taken (check_of a.upid_type a.upid.now) ≡ true = ap taken (sym c.check_upid.ensures) ∙ sym c.is_fine.ensures ∙ not-false _ c.if-not-is_fine.false-raw in
    refused_answer _ a.target.now 41 (ap (up_to a.limit) (made_none a.upid_type a.new_type a.i a.upid.now a.new.now mid ok (c.head_of-head.ensures.none c.if-upid-head.true)))

pub returns-then-new-gt-MAX_UPID : goal.returns-then-new-gt-MAX_UPID
returns-then-new-gt-MAX_UPID c =
    let a = c.args in
    let mid = c.if-upid_type-ne-UPID_MID.false in
    let ok : taken (check_of a.upid_type a.upid.now) ≡ true = ap taken (sym c.check_upid.ensures) ∙ sym c.is_fine.ensures ∙ not-false _ c.if-not-is_fine.false-raw in
    let t = c.head_of-head.ensures.some c.if-upid-head.false in
    refused_answer _ a.target.now 32 (ap (up_to a.limit) (made_long a.upid_type a.new_type a.i a.upid.now a.new.now mid ok t.0 (omega (arith, c.if-new-gt-MAX_UPID.true))))

pub bounds-upid-head : goal.bounds-upid-head
bounds-upid-head c =
    let a = c.args in
    let mid = c.if-upid_type-ne-UPID_MID.false in
    let ok : taken (check_of a.upid_type a.upid.now) ≡ true = ap taken (sym c.check_upid.ensures) ∙ sym c.is_fine.ensures ∙ not-false _ c.if-not-is_fine.false-raw in
    let t = c.head_of-head.ensures.some c.if-upid-head.false in
    omega (arith, t.1, (part_inside a.upid_type a.new_type a.i a.upid.now a.new.now mid ok t.0).1)

pub overflow_sub-then : goal.overflow_sub-then
overflow_sub-then c =
    let a = c.args in
    let mid = c.if-upid_type-ne-UPID_MID.false in
    let ok : taken (check_of a.upid_type a.upid.now) ≡ true = ap taken (sym c.check_upid.ensures) ∙ sym c.is_fine.ensures ∙ not-false _ c.if-not-is_fine.false-raw in
    let t = c.head_of-head.ensures.some c.if-upid-head.false in
    omega (arith, c.size.ensures.0, part_fits a.upid_type a.new_type a.i a.upid.now a.new.now mid ok t.0, t.2)

pub returns-then-then-gt-MAX_UPID : goal.returns-then-then-gt-MAX_UPID
returns-then-then-gt-MAX_UPID c =
    let a = c.args in
    let mid = c.if-upid_type-ne-UPID_MID.false in
    let ok : taken (check_of a.upid_type a.upid.now) ≡ true = ap taken (sym c.check_upid.ensures) ∙ sym c.is_fine.ensures ∙ not-false _ c.if-not-is_fine.false-raw in
    let t = c.head_of-head.ensures.some c.if-upid-head.false in
    refused_answer _ a.target.now 32 (ap (up_to a.limit) (made_long a.upid_type a.new_type a.i a.upid.now a.new.now mid ok t.0 (omega (arith, c.if-then-gt-MAX_UPID.true, c.size.ensures.0, t.2))))

pub returns-then-not-is_taken : goal.returns-then-not-is_taken
returns-then-not-is_taken c =
    let a = c.args in
    let mid = c.if-upid_type-ne-UPID_MID.false in
    let ok : taken (check_of a.upid_type a.upid.now) ≡ true = ap taken (sym c.check_upid.ensures) ∙ sym c.is_fine.ensures ∙ not-false _ c.if-not-is_fine.false-raw in
    let t = c.head_of-head.ensures.some c.if-upid-head.false in
    let h : length a.upid.now - (nth a.upid.now a.i).len + length a.new.now ≤ 255 = omega (arith, c.if-then-gt-MAX_UPID.false, c.size.ensures.0, t.2) in
    refused_answer _ a.target.now 33 (ap (up_to a.limit) (made_unfit a.upid_type a.new_type a.i a.upid.now a.new.now mid ok t.0 h (sym c.is_taken.ensures ∙ not-true _ c.if-not-is_taken.true-raw)))

pub returns-then-limit-then : goal.returns-then-limit-then
returns-then-limit-then c =
    let a = c.args in
    let mid = c.if-upid_type-ne-UPID_MID.false in
    let ok : taken (check_of a.upid_type a.upid.now) ≡ true = ap taken (sym c.check_upid.ensures) ∙ sym c.is_fine.ensures ∙ not-false _ c.if-not-is_fine.false-raw in
    let t = c.head_of-head.ensures.some c.if-upid-head.false in
    let h : length a.upid.now - (nth a.upid.now a.i).len + length a.new.now ≤ 255 = omega (arith, c.if-then-gt-MAX_UPID.false, c.size.ensures.0, t.2) in
    let long = size_is a.upid_type a.new_type a.i a.upid.now a.new.now mid ok t.0 h in
    let is_made = made_is a.upid_type a.new_type a.i a.upid.now a.new.now mid ok t.0 h (sym c.is_taken.ensures ∙ not-false _ c.if-not-is_taken.false-raw) in
    refused_answer _ a.target.now 34 (up_to_over a.limit _ _ is_made (omega (arith, long, c.if-limit-then.true, c.size.ensures.0, t.2)))

pub returns-then-target-then : goal.returns-then-target-then
returns-then-target-then c =
    let a = c.args in
    let mid = c.if-upid_type-ne-UPID_MID.false in
    let ok : taken (check_of a.upid_type a.upid.now) ≡ true = ap taken (sym c.check_upid.ensures) ∙ sym c.is_fine.ensures ∙ not-false _ c.if-not-is_fine.false-raw in
    let t = c.head_of-head.ensures.some c.if-upid-head.false in
    let h : length a.upid.now - (nth a.upid.now a.i).len + length a.new.now ≤ 255 = omega (arith, c.if-then-gt-MAX_UPID.false, c.size.ensures.0, t.2) in
    let long = size_is a.upid_type a.new_type a.i a.upid.now a.new.now mid ok t.0 h in
    let is_made = made_is a.upid_type a.new_type a.i a.upid.now a.new.now mid ok t.0 h (sym c.is_taken.ensures ∙ not-false _ c.if-not-is_taken.false-raw) in
    short_answer _ a.target.now _ (up_to_fits a.limit _ _ is_made (omega (arith, long, c.if-limit-then.false, c.size.ensures.0, t.2)))
    (omega (arith, long, c.if-target-then.true, c.size.ensures.0, t.2))

pub store_part-requires : goal.store_part-requires
store_part-requires c =
    let a = c.args in
    let mid = c.if-upid_type-ne-UPID_MID.false in
    let ok : taken (check_of a.upid_type a.upid.now) ≡ true = ap taken (sym c.check_upid.ensures) ∙ sym c.is_fine.ensures ∙ not-false _ c.if-not-is_fine.false-raw in
    let t = c.head_of-head.ensures.some c.if-upid-head.false in
    let h : length a.upid.now - (nth a.upid.now a.i).len + length a.new.now ≤ 255 = omega (arith, c.if-then-gt-MAX_UPID.false, c.size.ensures.0, t.2) in
    storable a.upid_type a.new_type a.i a.upid.now a.new.now mid ok t.0 h _ a.target.now t.1 t.2 c.if-new-gt-MAX_UPID.false (omega (arith, c.if-target-then.false, c.size.ensures.0, t.2))

pub returns : goal.returns
returns c =
    let a = c.args in
    let mid = c.if-upid_type-ne-UPID_MID.false in
    let ok : taken (check_of a.upid_type a.upid.now) ≡ true = ap taken (sym c.check_upid.ensures) ∙ sym c.is_fine.ensures ∙ not-false _ c.if-not-is_fine.false-raw in
    let t = c.head_of-head.ensures.some c.if-upid-head.false in
    let h : length a.upid.now - (nth a.upid.now a.i).len + length a.new.now ≤ 255 = omega (arith, c.if-then-gt-MAX_UPID.false, c.size.ensures.0, t.2) in
    let long = size_is a.upid_type a.new_type a.i a.upid.now a.new.now mid ok t.0 h in
    let is_made = made_is a.upid_type a.new_type a.i a.upid.now a.new.now mid ok t.0 h (sym c.is_taken.ensures ∙ not-false _ c.if-not-is_taken.false-raw) in
    let w = wrote_answer _ a.target.now _ (up_to_fits a.limit _ _ is_made (omega (arith, long, c.if-limit-then.false, c.size.ensures.0, t.2))) (omega (arith, long, c.if-target-then.false, c.size.ensures.0, t.2)) in
    (ap Ok (omega (arith, long, c.size.ensures.0, t.2)) ∙ w.0, c.store_part.ensures ∙ w.1)
