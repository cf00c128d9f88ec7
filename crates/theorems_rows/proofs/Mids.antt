-- A MID is read part by part; a part is read as the UPID alone.
use Prim.Native.Nat.{ℕ, suc, ◌+◌, ◌≤◌}
use mathlib.Core.Bool.{Bool, true, false, not, ◌&&◌}
use mathlib.Core.List.{List, [], ◌∷◌}
use mathlib.Core.Path.{◌≡◌, refl, ap, ◌∙◌}
use native.Mathlib.Omega.{arith}
use borrow.Author.Tests.{eq-eqb, ne_eqb, lt-ltb, le-ltb}
use lib.Dec.{eqb, ltb}
use lib.ListN.{length, take, drop, length-take, length-drop}
use Rattle.table.specs.Bits.{pick}
use Rattle.upid.proofs.Laws.{walk_any}
use Rattle.upid.specs.Text.{text_of}
use Rattle.upid.specs.Upid.{◌then◌, walk_of, plain_of, length_of, is_text, reported_of, read_of, check_of}
use Rattle.upid.specs.declared.Refusal.{Refusal}
use Rattle.theorems_rows.specs.Payloads.{MidReads, part_read}
use Rattle.std.proofs.Common.{Ok, Err, None, Result}

module _ (start k n : ℕ) (rest : List ℕ) where
  -- the part, and those behind it
  inner : pick (eqb k 13) (walk_of (suc (length rest)) (start + 2) (take n rest)) (plain_of k (start + 2) (take n rest)) ≡ read_of k (start + 2) (take n rest)
  unfolding read_of
  inner =
      ap (λ (w : Result ℕ Refusal). pick (eqb k 13) w (plain_of k (start + 2) (take n rest)))
      (walk_any (suc (length rest)) (length (take n rest)) (start + 2) (take n rest) (omega (arith, length-take n rest)) (omega arith))

  behind : walk_of (suc (length rest)) (start + (2 + n)) (drop n rest) ≡ read_of 13 (start + (2 + n)) (drop n rest)
  unfolding read_of
  behind = walk_any (suc (length rest)) (length (drop n rest)) (start + (2 + n)) (drop n rest) (omega (arith, length-drop n rest)) (omega arith)

  walked : read_of 13 start (k ∷ n ∷ rest)
      ≡ pick (ltb (length rest) n) (Err (Refusal.NotEnoughData n (length rest)))
      (pick (eqb k 13) (walk_of (suc (length rest)) (start + 2) (take n rest)) (plain_of k (start + 2) (take n rest)) then walk_of (suc (length rest)) (start + (2 + n)) (drop n rest))
  unfolding read_of walk_of
  walked = refl

  split : read_of 13 start (k ∷ n ∷ rest)
      ≡ pick (ltb (length rest) n) (Err (Refusal.NotEnoughData n (length rest))) (read_of k (start + 2) (take n rest) then read_of 13 (start + (2 + n)) (drop n rest))
  split =
      walked
      ∙ ap (λ (w : Result ℕ Refusal). pick (ltb (length rest) n) (Err (Refusal.NotEnoughData n (length rest))) (w then walk_of (suc (length rest)) (start + (2 + n)) (drop n rest))) inner
      ∙ ap (λ (w : Result ℕ Refusal). pick (ltb (length rest) n) (Err (Refusal.NotEnoughData n (length rest))) (read_of k (start + 2) (take n rest) then w)) behind

pub mid_reads : (start : ℕ) → MidReads start
unfolding read_of walk_of ◌then◌
mid_reads start = record {
  done = refl;
  headless = λ k. refl;
  short = λ k n rest h. split start k n rest ∙ rw (lt-ltb (length rest) n h);
  faulty = λ k n rest r h e. split start k n rest ∙ rw (le-ltb (length rest) n h, e);
  next = λ k n q rest h e. split start k n rest ∙ rw (le-ltb (length rest) n h, e);
}

pub mid_at_top : (b : List ℕ) → 1 ≤ length b → length b ≤ 255 → check_of 13 b ≡ read_of 13 0 b
unfolding check_of
mid_at_top b some fits = rw (le-ltb 255 (length b) fits, ne_eqb (length b) 0 (λ z. omega arith))

pub part_alone : (k start : ℕ) (b : List ℕ) → (k ≡ 13 → ⊥) → 1 ≤ length b → length b ≤ 255 → read_of k start b ≡ part_read start (check_of k b)
unfolding read_of check_of plain_of
part_alone k start b h some fits =
    rw (ne_eqb k 13 h, le-ltb 255 (length b) fits, ne_eqb (length b) 0 (λ z. omega arith)) (go (eqb k 0) (eqb (length_of k) 0) (not (eqb (length b) (length_of k))) (is_text k && not (text_of b)))
  where
    at : start ≡ start + 0
    at = omega arith

    go : (p q r t : Bool)
        → pick p (Err Refusal.UpidLengthTypeMismatch) (pick q (Ok (reported_of k)) (pick r (Err (Refusal.InvalidUpidLength k (length_of k) (length b)))
        (pick t (Err (Refusal.InvalidUpidContent k (record { at = start; len = length b }))) (Ok (reported_of k)))))
        ≡ part_read start (pick p (Err Refusal.UpidLengthTypeMismatch) (pick q (Ok (reported_of k)) (pick r (Err (Refusal.InvalidUpidLength k (length_of k) (length b)))
        (pick t (Err (Refusal.InvalidUpidContent k (record { at = 0; len = length b }))) (Ok (reported_of k))))))
    go true q r t = refl
    go false true r t = refl
    go false false true t = refl
    go false false false true = ap (λ (a : ℕ). Err (Refusal.InvalidUpidContent k (record { at = a; len = length b }))) at
    go false false false false = refl

-- an empty part is no None
pub part_empty : (k start : ℕ) → (k ≡ 13 → ⊥) → (k ≡ 0 → read_of k start [] ≡ Err Refusal.UpidLengthTypeMismatch)
    × ((k ≡ 0 → ⊥) → 1 ≤ length_of k → read_of k start [] ≡ Err (Refusal.InvalidUpidLength k (length_of k) 0))
    × ((k ≡ 0 → ⊥) → length_of k ≡ 0 → read_of k start [] ≡ Ok (reported_of k))
unfolding read_of plain_of
part_empty k start h = (
  λ z. rw (ne_eqb k 13 h, eq-eqb k 0 z),
  λ z f. rw (ne_eqb k 13 h, ne_eqb k 0 z, ne_eqb (length_of k) 0 (λ e. omega arith), ne_eqb 0 (length_of k) (λ e. omega arith)),
  λ z f. rw (ne_eqb k 13 h, ne_eqb k 0 z, eq-eqb (length_of k) 0 f),
)
