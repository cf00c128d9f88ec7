-- A UPID that is accepted, as it is reported, is one that a writer takes.
use Prim.Native.Nat.{ℕ, zero, suc, ◌+◌, ◌≤◌, ◌<◌}
use mathlib.Core.Bool.{Bool, true, false, ◌&&◌}
use mathlib.Core.List.{List}
use mathlib.Core.Path.{◌≡◌, refl, ap, sym, ◌∙◌}
use native.Mathlib.Omega.{arith}
use lib.Dec.{eqb}
use lib.ListN.{length, replicate}
use borrow.Author.Tests.{eqb-true, eqb-false, ne_eqb}
use Rattle.table.specs.Bits.{pick, AllBytes}
use Rattle.table.specs.Lent.{viewed, no_view}
use Rattle.table.specs.declared.View.{View}
use Rattle.upid.specs.Upid.{check_of, eidr_of, length_of, reported_of}
use Rattle.descriptor.specs.Descriptor.{reported_upid}
use Rattle.descriptor.specs.declared.segmentation.SegmentationUpid.{SegmentationUpid}
use Rattle.descriptor_measure.specs.Writing.{all_zero, writable_upid, written_type, written_upid}
use Rattle.upid.proofs.Reported.{check_none, reports, eidr_is_written}
use Rattle.theorems_reader.proofs.Runs.{length_viewed}
use Rattle.std.proofs.Common.{Ok}

pub zeros_all : (n : ℕ) → all_zero (replicate n 0) ≡ true
unfolding all_zero
zeros_all zero = refl
zeros_all (suc n) = zeros_all n

pub zeros_bytes : (n : ℕ) → AllBytes (replicate n 0)
zeros_bytes zero = tt
zeros_bytes (suc n) = (omega arith, zeros_bytes n)

pub no_bytes : (s : List ℕ) → length (viewed s no_view) ≡ 0
no_bytes s = length_viewed s no_view (omega arith)

module _ (s : List ℕ) (k : ℕ) (v : View) (q : ℕ) (inside : v.at + v.len ≤ length s) (checked : check_of k (viewed s v) ≡ Ok q) where
  abbrev its : List ℕ
  its = viewed s v

  its_length : length its ≡ v.len
  its_length = length_viewed s v inside

  none_then : v.len ≡ 0 → q ≡ 0
  none_then z =
      let c : check_of k its ≡ Ok 0 = check_none k its (its_length ∙ z) in
      cc (c, checked)

  some_then : (q ≡ 0 → ⊥) → 1 ≤ v.len
  some_then n = go (eqb v.len 0) refl
    where
      go : (b : Bool) → eqb v.len 0 ≡ b → 1 ≤ v.len
      go true e = absurd (n (none_then (eqb-true _ _ e)))
      go false e = let z : v.len ≡ 0 → ⊥ = eqb-false _ _ e in omega arith

  -- what stands beside any other is blank
  pub no_eidr : (q ≡ 10 → ⊥) → all_zero (eidr_of k its) ≡ true
  unfolding eidr_of reported_of
  no_eidr other = go (eqb k 10) (eqb (length its) 12) refl refl
    where
      go : (a b : Bool) → eqb k 10 ≡ a → eqb (length its) 12 ≡ b → all_zero (pick (a && b) its (replicate 12 0)) ≡ true
      go true true ea eb =
          let n : length its ≡ 12 = eqb-true _ _ eb in
          let r = reports k its q checked (omega arith) in
          let z : reported_of k ≡ 10 = rw (eqb-true k 10 ea) in
          absurd (other (sym r.0 ∙ z))
      go true false ea eb = zeros_all 12
      go false b ea eb = zeros_all 12

  -- the type that is written again is the one that was written
  pub type_again : (q ≡ 0 → ⊥) → written_type (record { upid_type = q; bytes = v }) ≡ k
  unfolding written_type reported_of length_of
  type_again some = go (eqb k 5) (eqb k 6) refl refl
    where
      r : (reported_of k ≡ q) × ((length_of k ≡ 0 → ⊥) → length its ≡ length_of k) × (k ≡ 0 → ⊥)
      r = reports k its q checked (omega (arith, its_length, some_then some))

      go : (a b : Bool) → eqb k 5 ≡ a → eqb k 6 ≡ b → pick (eqb q 6 && eqb v.len 8) 5 q ≡ k
      go true b ea eb =
          let five : k ≡ 5 = eqb-true k 5 ea in
          let z : q ≡ 6 = sym r.0 ∙ rw five in
          let l : length_of k ≡ 8 = rw five in
          let n : v.len ≡ 8 = sym its_length ∙ r.1 (λ o. omega (arith, l)) ∙ l in
          rw (z, n) (sym five)
      go false true ea eb =
          let six : k ≡ 6 = eqb-true k 6 eb in
          let z : q ≡ 6 = sym r.0 ∙ rw six in
          let l : length_of k ≡ 12 = rw six in
          let n : v.len ≡ 12 = sym its_length ∙ r.1 (λ o. omega (arith, l)) ∙ l in
          rw (z, n) (sym six)
      go false false ea eb =
          let z : q ≡ k = sym r.0 ∙ rw ea in
          let o : eqb q 6 ≡ false = ap (λ (n : ℕ). eqb n 6) z ∙ eb in
          rw o z

  -- 5 is reported as 6
  pub not_five : eqb q 5 ≡ false
  unfolding reported_of
  not_five = go (eqb q 0) refl
    where
      at : (a : Bool) → eqb k 5 ≡ a → pick a 6 k ≡ q → eqb q 5 ≡ false
      at true ea z = rw (← z)
      at false ea z = ap (λ (n : ℕ). eqb n 5) (sym z) ∙ ea

      go : (b : Bool) → eqb q 0 ≡ b → eqb q 5 ≡ false
      go true e = rw (eqb-true q 0 e)
      go false e = at (eqb k 5) refl (reports k its q checked (omega (arith, its_length, some_then (eqb-false q 0 e)))).0

  abbrev u : SegmentationUpid
  u = reported_upid q v

  module _ (byte : k < 256) where
    pub reported_byte : q < 256
    unfolding reported_of
    reported_byte = go (eqb q 0) refl
      where
        at : (a : Bool) → pick a 6 k ≡ q → q < 256
        at true z = omega arith
        at false z = omega arith

        go : (b : Bool) → eqb q 0 ≡ b → q < 256
        go true e = omega (arith, eqb-true q 0 e)
        go false e = at (eqb k 5) (reports k its q checked (omega (arith, its_length, some_then (eqb-false q 0 e)))).0

  -- a writer takes it, in no more bytes
  pub record Writable : Type 0 where
    pub writable : writable_upid u (eidr_of k its) s ≡ true
    pub there : u.bytes.at + u.bytes.len ≤ length s
    pub shorter : u.bytes.len ≤ v.len
    pub size : (written_upid u).bytes.len ≤ v.len

  pub upid_writable : Writable
  unfolding writable_upid written_upid written_type
  upid_writable = go (eqb q 0) (eqb q 10) refl refl
    where
      go : (a b : Bool) → eqb q 0 ≡ a → eqb q 10 ≡ b → Writable
      go true b ea eb =
          let z : q ≡ 0 = eqb-true q 0 ea in
          let n : all_zero (eidr_of k its) ≡ true = no_eidr (λ t. omega arith) in
          let c : check_of 0 (viewed s no_view) ≡ Ok 0 = check_none 0 (viewed s no_view) (no_bytes s) in
          record { writable = rw (z, n, c); there = rw z (omega arith); shorter = rw z (omega arith); size = rw z (omega arith) }
      go false true ea eb =
          let z : q ≡ 10 = eqb-true q 10 eb in
          let t : length its ≡ 12 = (eidr_is_written k its (checked ∙ ap Ok z)).1 in
          record { writable = rw z; there = rw z (omega arith); shorter = rw z (omega arith); size = rw z (omega (arith, its_length)) }
      go false false ea eb =
          let n : all_zero (eidr_of k its) ≡ true = no_eidr (eqb-false q 10 eb) in
          let l : eqb v.len 0 ≡ false = ne_eqb v.len 0 (λ o. omega (arith, some_then (eqb-false q 0 ea))) in
          let w : pick (eqb q 6 && eqb v.len 8) 5 q ≡ k = type_again (eqb-false q 0 ea) in
          record {
            writable = rw (ea, eb, n, l, not_five, w, checked);
            there = rw (ea, eb) inside;
            shorter = rw (ea, eb) (omega arith);
            size = rw (ea, eb) (omega arith);
          }
