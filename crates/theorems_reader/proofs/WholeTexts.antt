-- The text of refusal 24: it stands behind its own head, its type and its length, also where it is a part of a MID, at any level.
--     text_headed      of a UPID with its head before it
use Prim.Native.Nat.{ℕ, zero, suc, ◌+◌, ◌-◌, ◌≤◌}
use mathlib.Core.Bool.{Bool, true, false, not, ◌&&◌, cond as pick}
use mathlib.Core.List.{List, [], ◌∷◌}
use mathlib.Core.Path.{◌≡◌, refl, ap, sym, ◌∙◌}
use native.Mathlib.Omega.{arith}
use lib.Dec.{ltb, eqb}
use lib.ListN.{length, take, drop, get_or, length-take, length-drop}
use lib.Seq.{get_or-take, get_or-drop}
use borrow.Author.Tests.{ltb-false}
use Rattle.table.proofs.Lists.{zero_one}
use Rattle.table.specs.declared.View.{View}
use Rattle.upid.specs.Text.{text_of}
use Rattle.upid.specs.Upid.{check_of, read_of, walk_of, plain_of, ◌then◌, length_of, is_text, reported_of}
use Rattle.upid.specs.declared.Refusal.{Refusal}
use Rattle.upid.specs.declared.Refusal.TheVariants.{InputTooLong, NotEnoughData, UpidLengthTypeMismatch, InvalidUpidContent, InvalidUpidLength}
use Rattle.std.proofs.Common.{Ok, Err, Result}

-- v lies in these bytes, which start at `start`, behind a head in them: its type q and its length
pub record Headed (bytes : List ℕ) (start q : ℕ) (v : View) : Type 0 where
  pub behind : start + 2 ≤ v.at
  pub upid_type : q ≡ get_or bytes (v.at - start - 2) 0
  pub len : v.len ≡ get_or bytes (v.at - start - 1) 0
  pub inside : v.at + v.len ≤ start + length bytes

-- a payload of its own is refused as a whole
plain_text : (k start : ℕ) (bytes : List ℕ) (q : ℕ) (v : View) → plain_of k start bytes ≡ Err (InvalidUpidContent q v) → (q ≡ k) × (v ≡ record { at = start; len = length bytes })
unfolding plain_of
plain_text k start bytes q v e = go (eqb k 0) (eqb (length_of k) 0) (eqb (length bytes) (length_of k)) (is_text k && not (text_of bytes)) e
  where
    go : (a b c d : Bool)
        → pick a (Err UpidLengthTypeMismatch) (pick b (Ok (reported_of k)) (pick (not c) (Err (InvalidUpidLength k (length_of k) (length bytes)))
        (pick d (Err (InvalidUpidContent k (record { at = start; len = length bytes }))) (Ok (reported_of k))))) ≡ Err (InvalidUpidContent q v)
        → (q ≡ k) × (v ≡ record { at = start; len = length bytes })
    go true b c d h = zero_one cc
    go false true c d h = zero_one cc
    go false false true true h = (cc, cc)
    go false false true false h = zero_one cc
    go false false false d h = zero_one cc

module _ (start k l : ℕ) (rest : List ℕ) (fits : l ≤ length rest) (q : ℕ) (v : View) where
  abbrev all : List ℕ
  all = k ∷ (l ∷ rest)

  at_index : (i j : ℕ) → i ≡ suc (suc j) → get_or all i 0 ≡ get_or rest j 0
  at_index i j e = ap (λ (n : ℕ). get_or all n 0) e

  -- in the first part
  inner : Headed (take l rest) (start + 2) q v → Headed all start q v
  inner h =
      let n : length (take l rest) ≡ l = omega (arith, length-take l rest) in
      record {
        behind = omega (arith, h.behind);
        upid_type =
            h.upid_type ∙ get_or-take l rest (v.at - (start + 2) - 2) 0 (omega (arith, h.behind, h.inside, n))
            ∙ sym (at_index (v.at - start - 2) (v.at - (start + 2) - 2) (omega (arith, h.behind)));
        len =
            h.len ∙ get_or-take l rest (v.at - (start + 2) - 1) 0 (omega (arith, h.behind, h.inside, n))
            ∙ sym (at_index (v.at - start - 1) (v.at - (start + 2) - 1) (omega (arith, h.behind)));
        inside = omega (arith, h.inside, n);
      }

  -- in those after it
  after : Headed (drop l rest) (start + (2 + l)) q v → Headed all start q v
  after h =
      let n : length (drop l rest) ≡ length rest - l = length-drop l rest in
      record {
        behind = omega (arith, h.behind);
        upid_type =
            h.upid_type ∙ get_or-drop l rest (v.at - (start + (2 + l)) - 2) 0
            ∙ sym (at_index (v.at - start - 2) (l + (v.at - (start + (2 + l)) - 2)) (omega (arith, h.behind)));
        len =
            h.len ∙ get_or-drop l rest (v.at - (start + (2 + l)) - 1) 0
            ∙ sym (at_index (v.at - start - 1) (l + (v.at - (start + (2 + l)) - 1)) (omega (arith, h.behind)));
        inside = omega (arith, h.inside, n);
      }

  -- it is the first part
  first : (q ≡ k) × (v ≡ record { at = start + 2; len = length (take l rest) }) → Headed all start q v
  first h =
      let n : length (take l rest) ≡ l = omega (arith, length-take l rest) in
      let zero_at : start + 2 - start - 2 ≡ 0 = omega arith in
      let one_at : start + 2 - start - 1 ≡ 1 = omega arith in
      rw h.1 (record {
        behind = omega arith;
        upid_type = h.0 ∙ sym (ap (λ (i : ℕ). get_or all i 0) zero_at);
        len = n ∙ sym (ap (λ (i : ℕ). get_or all i 0) one_at);
        inside = omega (arith, n);
      })

then_refused : {A : Type 0} (a b : Result ℕ Refusal) (r : Refusal) → a then b ≡ Err r → (a ≡ Err r → A) → (b ≡ Err r → A) → A
unfolding ◌then◌
then_refused (Ok k) b r e f g = g e
then_refused (Err x) b r e f g = f e

walk_text : (n start : ℕ) (bytes : List ℕ) (q : ℕ) (v : View) → walk_of n start bytes ≡ Err (InvalidUpidContent q v) → Headed bytes start q v
unfolding walk_of
walk_text zero start bytes q v e = zero_one cc
walk_text (suc n) start [] q v e = zero_one cc
walk_text (suc n) start (k ∷ []) q v e = zero_one cc
walk_text (suc n) start (k ∷ (l ∷ rest)) q v e =
    go (ltb (length rest) l) refl (walk_text n (start + 2) (take l rest) q v) (walk_text n (start + (2 + l)) (drop l rest) q v) e
  where
    kinds : (t : Bool) → l ≤ length rest → (walk_of n (start + 2) (take l rest) ≡ Err (InvalidUpidContent q v) → Headed (take l rest) (start + 2) q v)
        → pick t (walk_of n (start + 2) (take l rest)) (plain_of k (start + 2) (take l rest)) ≡ Err (InvalidUpidContent q v) → Headed (k ∷ (l ∷ rest)) start q v
    kinds true fits f h = inner start k l rest fits q v (f h)
    kinds false fits f h = first start k l rest fits q v (plain_text k (start + 2) (take l rest) q v h)

    go : (t : Bool) → ltb (length rest) l ≡ t → (walk_of n (start + 2) (take l rest) ≡ Err (InvalidUpidContent q v) → Headed (take l rest) (start + 2) q v)
        → (walk_of n (start + (2 + l)) (drop l rest) ≡ Err (InvalidUpidContent q v) → Headed (drop l rest) (start + (2 + l)) q v)
        → pick t (Err (NotEnoughData l (length rest)))
        (pick (eqb k 13) (walk_of n (start + 2) (take l rest)) (plain_of k (start + 2) (take l rest)) then walk_of n (start + (2 + l)) (drop l rest)) ≡ Err (InvalidUpidContent q v)
        → Headed (k ∷ (l ∷ rest)) start q v
    go true t f g h = zero_one cc
    go false t f g h =
        let fits : l ≤ length rest = ltb-false _ _ t in
        then_refused _ _ _ h (kinds (eqb k 13) fits f) (λ z. after start k l rest fits q v (g z))

-- of a UPID with its own head, two bytes that stand before its bytes
pub text_headed : (k : ℕ) (bytes : List ℕ) (q : ℕ) (v : View) → check_of k bytes ≡ Err (InvalidUpidContent q v) → Headed (k ∷ (length bytes ∷ bytes)) 0 q (record { at = 2 + v.at; len = v.len })
unfolding check_of read_of
text_headed k bytes q v e = go (ltb 255 (length bytes)) (eqb (length bytes) 0) (eqb k 13) e
  where
    go : (t u w : Bool) → pick t (Err InputTooLong) (pick u (Ok 0) (pick w (walk_of (length bytes) 0 bytes) (plain_of k 0 bytes))) ≡ Err (InvalidUpidContent q v)
        → Headed (k ∷ (length bytes ∷ bytes)) 0 q (record { at = 2 + v.at; len = v.len })
    go true u w h = zero_one cc
    go false true w h = zero_one cc
    go false false true h =
        let i = walk_text (length bytes) 0 bytes q v h in
        record {
          behind = omega (arith, i.behind);
          upid_type = i.upid_type ∙ sym (ap (λ (j : ℕ). get_or (k ∷ (length bytes ∷ bytes)) j 0) (let z : 2 + v.at - 0 - 2 ≡ suc (suc (v.at - 0 - 2)) = omega (arith, i.behind) in z));
          len = i.len ∙ sym (ap (λ (j : ℕ). get_or (k ∷ (length bytes ∷ bytes)) j 0) (let z : 2 + v.at - 0 - 1 ≡ suc (suc (v.at - 0 - 1)) = omega (arith, i.behind) in z));
          inside = omega (arith, i.inside);
        }
    go false false false h =
        let i = plain_text k 0 bytes q v h in
        let a : v.at ≡ 0 = ap (λ (v : View). v.at) i.1 in
        let l : v.len ≡ length bytes = ap (λ (v : View). v.len) i.1 in
        record {
          behind = omega arith;
          upid_type = i.0 ∙ sym (ap (λ (j : ℕ). get_or (k ∷ (length bytes ∷ bytes)) j 0) (let z : 2 + v.at - 0 - 2 ≡ 0 = omega arith in z));
          len = l ∙ sym (ap (λ (j : ℕ). get_or (k ∷ (length bytes ∷ bytes)) j 0) (let z : 2 + v.at - 0 - 1 ≡ 1 = omega arith in z));
          inside = omega arith;
        }
