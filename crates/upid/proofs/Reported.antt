-- What a UPID that is accepted reports, and what was written of it.
--     reports          the reported type, and the length of a type that has a fixed one
--     mid_is_written   a MID was written as one
--     eidr_is_written  an EIDR was written as one, with 12 bytes
use Prim.Native.Nat.{ℕ, zero, suc, ◌+◌, ◌≤◌}
use mathlib.Core.Bool.{Bool, true, false, not, ◌&&◌, cond as pick}
use mathlib.Core.List.{List, [], ◌∷◌}
use mathlib.Core.Path.{◌≡◌, refl, sym, ◌∙◌}
use native.Mathlib.Omega.{arith}
use lib.Dec.{eqb, ltb}
use lib.ListN.{length, drop}
use borrow.Author.Tests.{eqb-true, eqb-false, eq-eqb, le-ltb}
use Rattle.table.proofs.Lists.{zero_one}
use Rattle.upid.proofs.Laws.{read_mid, read_plain}
use Rattle.upid.specs.Text.{text_of}
use Rattle.upid.specs.Upid.{check_of, read_of, walk_of, plain_of, ◌then◌, length_of, is_text, reported_of}
use Rattle.upid.specs.declared.Refusal.{Refusal}
use Rattle.upid.specs.declared.Refusal.TheVariants.{InputTooLong, UpidLengthTypeMismatch, InvalidUpidContent, InvalidUpidLength}
use Rattle.std.proofs.Common.{Ok, Err, None, Result}

-- "Length 0 at top level is None"
pub check_none : (k : ℕ) (bytes : List ℕ) → length bytes ≡ 0 → check_of k bytes ≡ Ok 0
unfolding check_of
check_none k bytes e = rw (le-ltb 255 (length bytes) (omega arith), eq-eqb (length bytes) 0 e)

-- a UPID that reports another type than 0 is no None
some_read : (k : ℕ) (bytes : List ℕ) (q : ℕ) → check_of k bytes ≡ Ok q → (q ≡ 0 → ⊥) → read_of k 0 bytes ≡ Ok q
unfolding check_of
some_read k bytes q e some = go (ltb 255 (length bytes)) (eqb (length bytes) 0) (read_of k 0 bytes) e
  where
    go : (t u : Bool) (r : Result ℕ Refusal) → pick t (Err InputTooLong) (pick u (Ok 0) r) ≡ Ok q → r ≡ Ok q
    go true u r h = zero_one cc
    go false true r h = absurd (some cc)
    go false false r h = h

-- nor is one that has bytes
bytes_read : (k : ℕ) (bytes : List ℕ) (q : ℕ) → check_of k bytes ≡ Ok q → 1 ≤ length bytes → read_of k 0 bytes ≡ Ok q
unfolding check_of
bytes_read k bytes q e some = go (ltb 255 (length bytes)) (eqb (length bytes) 0) (read_of k 0 bytes) refl e
  where
    go : (t u : Bool) (r : Result ℕ Refusal) → eqb (length bytes) 0 ≡ u → pick t (Err InputTooLong) (pick u (Ok 0) r) ≡ Ok q → r ≡ Ok q
    go true u r eu h = zero_one cc
    go false true r eu h = let z = eqb-true (length bytes) 0 eu in absurd (omega arith)
    go false false r eu h = h

then_last : (a b : Result ℕ Refusal) (q : ℕ) → a then b ≡ Ok q → b ≡ Ok q
unfolding ◌then◌
then_last (Ok k) b q e = e
then_last (Err r) b q e = zero_one cc

long_last : (t : Bool) (r : Refusal) (b : Result ℕ Refusal) (q : ℕ) → pick t (Err r) b ≡ Ok q → b ≡ Ok q
long_last true r b q e = zero_one cc
long_last false r b q e = e

-- a MID reports 13
walk_reports : (n start : ℕ) (bytes : List ℕ) (q : ℕ) → walk_of n start bytes ≡ Ok q → q ≡ 13
unfolding walk_of
walk_reports zero start bytes q e = cc
walk_reports (suc n) start [] q e = cc
walk_reports (suc n) start (k ∷ []) q e = zero_one cc
walk_reports (suc n) start (k ∷ (l ∷ rest)) q e = walk_reports n (start + (2 + l)) (drop l rest) q (then_last _ _ q (long_last (ltb (length rest) l) _ _ q e))

plain_reports : (k start : ℕ) (bytes : List ℕ) (q : ℕ) → plain_of k start bytes ≡ Ok q → (reported_of k ≡ q) × ((length_of k ≡ 0 → ⊥) → length bytes ≡ length_of k) × (k ≡ 0 → ⊥)
unfolding plain_of
plain_reports k start bytes q e = go (eqb k 0) (eqb (length_of k) 0) (eqb (length bytes) (length_of k)) (is_text k && not (text_of bytes)) refl refl refl e
  where
    go : (a b c d : Bool) → eqb k 0 ≡ a → eqb (length_of k) 0 ≡ b → eqb (length bytes) (length_of k) ≡ c
        → pick a (Err UpidLengthTypeMismatch) (pick b (Ok (reported_of k)) (pick (not c) (Err (InvalidUpidLength k (length_of k) (length bytes)))
        (pick d (Err (InvalidUpidContent k (record { at = start; len = length bytes }))) (Ok (reported_of k))))) ≡ Ok q
        → (reported_of k ≡ q) × ((length_of k ≡ 0 → ⊥) → length bytes ≡ length_of k) × (k ≡ 0 → ⊥)
    go true b c d ea eb ec h = zero_one cc
    go false true c d ea eb ec h = (cc, (λ some. absurd (some (eqb-true _ _ eb))), eqb-false k 0 ea)
    go false false true true ea eb ec h = zero_one cc
    go false false true false ea eb ec h = (cc, (λ some. eqb-true _ _ ec), eqb-false k 0 ea)
    go false false false d ea eb ec h = zero_one cc

reported_is : (k q : ℕ) → reported_of k ≡ q → (q ≡ 6 → ⊥) → k ≡ q
unfolding reported_of
reported_is k q e other = go (eqb k 5) e
  where
    go : (t : Bool) → pick t 6 k ≡ q → k ≡ q
    go true h = absurd (other (sym h))
    go false h = h

-- a UPID that has bytes
pub reports : (k : ℕ) (bytes : List ℕ) (q : ℕ) → check_of k bytes ≡ Ok q → 1 ≤ length bytes → (reported_of k ≡ q) × ((length_of k ≡ 0 → ⊥) → length bytes ≡ length_of k) × (k ≡ 0 → ⊥)
unfolding read_of reported_of length_of
reports k bytes q e some = go (eqb k 13) refl
  where
    r : read_of k 0 bytes ≡ Ok q
    r = bytes_read k bytes q e some

    go : (t : Bool) → eqb k 13 ≡ t → (reported_of k ≡ q) × ((length_of k ≡ 0 → ⊥) → length bytes ≡ length_of k) × (k ≡ 0 → ⊥)
    go true t =
        let is : k ≡ 13 = eqb-true k 13 t in
        let z : q ≡ 13 = walk_reports (length bytes) 0 bytes q (sym (read_mid k 0 bytes is) ∙ r) in
        (rw (is, z), (λ no. absurd (no (rw is))), λ o. omega arith)
    go false t = plain_reports k 0 bytes q (sym (read_plain k 0 bytes (eqb-false k 13 t)) ∙ r)

pub mid_is_written : (k : ℕ) (bytes : List ℕ) → check_of k bytes ≡ Ok 13 → k ≡ 13
mid_is_written k bytes e = go (eqb k 13) refl
  where
    go : (t : Bool) → eqb k 13 ≡ t → k ≡ 13
    go true t = eqb-true k 13 t
    go false t =
        let r : read_of k 0 bytes ≡ Ok 13 = some_read k bytes 13 e (λ z. omega arith) in
        reported_is k 13 (plain_reports k 0 bytes 13 (sym (read_plain k 0 bytes (eqb-false k 13 t)) ∙ r)).0 (λ z. omega arith)

pub eidr_is_written : (k : ℕ) (bytes : List ℕ) → check_of k bytes ≡ Ok 10 → (k ≡ 10) × (length bytes ≡ 12)
unfolding read_of length_of
eidr_is_written k bytes e = go (eqb k 13) refl
  where
    r : read_of k 0 bytes ≡ Ok 10
    r = some_read k bytes 10 e (λ z. omega arith)

    go : (t : Bool) → eqb k 13 ≡ t → (k ≡ 10) × (length bytes ≡ 12)
    go true t = absurd (let z = walk_reports (length bytes) 0 bytes 10 (sym (read_mid k 0 bytes (eqb-true k 13 t)) ∙ r) in omega arith)
    go false t =
        let p = plain_reports k 0 bytes 10 (sym (read_plain k 0 bytes (eqb-false k 13 t)) ∙ r) in
        let is : k ≡ 10 = reported_is k 10 p.0 (λ z. omega arith) in
        let n : length_of k ≡ 12 = rw is in
        (is, p.1 (λ z. omega (arith, n)) ∙ n)
