-- Laws of the definitions of a MID.
--     read_nil, read_one, read_more    a MID is read by these three equations
--     list_nil, list_more              and so are its parts
--     few                              n bytes have at most n / 2 parts
--     then_both, then_off, then_on     what is accepted, part by part
use Prim.Native.Nat.{ℕ, zero, suc, ◌+◌, ◌*◌, ◌≤◌, ◌<◌}
use mathlib.Core.Path.{◌≡◌, refl, sym, ap, ◌∙◌}
use mathlib.Core.Bool.{Bool, true, false, cond as pick}
use mathlib.Core.List.{List, [], ◌∷◌, ◌++◌}
use native.Mathlib.Omega.{arith}
use lib.Dec.{ltb, eqb}
use lib.ListN.{length, take, drop, length-append, length-take, length-drop}
use borrow.Author.Tests.{ltb-true, ltb-false, ne_eqb}
use Rattle.upid.specs.Private.{Accepted}
use Rattle.upid.specs.Upid.{◌then◌, walk_of, read_of, parts_of, list_of, plain_of, reported_of}
use Rattle.upid.specs.declared.Part.{Part}
use Rattle.upid.specs.declared.Refusal.{Refusal}
use Rattle.upid.specs.declared.Refusal.TheVariants.{NotEnoughData}
use Rattle.std.proofs.Common.{Ok, Err, Result}

-- what a definition gives at a number, it gives at what equals that number
pub at_number : {A : Type 0} (f : ℕ → A) {v : A} (k n : ℕ) → f n ≡ v → k ≡ n → v ≡ f k
at_number f k n e h = sym (ap f h ∙ e)

-- ---- the number that says that the reading ends

walk_nil : (m start : ℕ) → walk_of m start [] ≡ Ok 13
unfolding walk_of
walk_nil zero start = refl
walk_nil (suc m) start = refl

pub walk_any : (n m start : ℕ) (bytes : List ℕ) → length bytes ≤ n → length bytes ≤ m → walk_of n start bytes ≡ walk_of m start bytes
unfolding walk_of
walk_any zero m start [] hn hm = sym (walk_nil m start)
walk_any zero m start (k ∷ r) hn hm = absurd (omega arith)
walk_any (suc n) zero start [] hn hm = refl
walk_any (suc n) zero start (k ∷ r) hn hm = absurd (omega arith)
walk_any (suc n) (suc m) start [] hn hm = refl
walk_any (suc n) (suc m) start (k ∷ []) hn hm = refl
walk_any (suc n) (suc m) start (k ∷ (l ∷ rest)) hn hm =
    let inner : walk_of n (start + 2) (take l rest) ≡ walk_of m (start + 2) (take l rest) =
    walk_any n m (start + 2) (take l rest) (omega (arith, length-take l rest)) (omega (arith, length-take l rest)) in
    let after : walk_of n (start + (2 + l)) (drop l rest) ≡ walk_of m (start + (2 + l)) (drop l rest) =
    walk_any n m (start + (2 + l)) (drop l rest) (omega (arith, length-drop l rest)) (omega (arith, length-drop l rest)) in
    cc

parts_nil : (m level start : ℕ) → parts_of m level start [] ≡ []
unfolding parts_of
parts_nil zero level start = refl
parts_nil (suc m) level start = refl

pub parts_any : (n m level start : ℕ) (bytes : List ℕ) → length bytes ≤ n → length bytes ≤ m → parts_of n level start bytes ≡ parts_of m level start bytes
unfolding parts_of
parts_any zero m level start [] hn hm = sym (parts_nil m level start)
parts_any zero m level start (k ∷ r) hn hm = absurd (omega arith)
parts_any (suc n) zero level start [] hn hm = refl
parts_any (suc n) zero level start (k ∷ r) hn hm = absurd (omega arith)
parts_any (suc n) (suc m) level start [] hn hm = refl
parts_any (suc n) (suc m) level start (k ∷ []) hn hm = refl
parts_any (suc n) (suc m) level start (k ∷ (l ∷ rest)) hn hm =
    let inner : parts_of n (level + 1) (start + 2) (take l rest) ≡ parts_of m (level + 1) (start + 2) (take l rest) =
    parts_any n m (level + 1) (start + 2) (take l rest) (omega (arith, length-take l rest)) (omega (arith, length-take l rest)) in
    let after : parts_of n level (start + (2 + l)) (drop l rest) ≡ parts_of m level (start + (2 + l)) (drop l rest) =
    parts_any n m level (start + (2 + l)) (drop l rest) (omega (arith, length-drop l rest)) (omega (arith, length-drop l rest)) in
    cc

-- ---- a MID, byte by byte from its front

pub read_nil : (start : ℕ) → read_of 13 start [] ≡ Ok 13
unfolding read_of walk_of
read_nil start = refl

pub read_one : (start k : ℕ) → read_of 13 start (k ∷ []) ≡ Err (NotEnoughData 1 0)
unfolding read_of walk_of
read_one start k = refl

-- a head of two bytes: its payload is short, or it is a part and what follows
pub read_more : (start k l : ℕ) (rest : List ℕ) → read_of 13 start (k ∷ (l ∷ rest)) ≡
    pick (ltb (length rest) l) (Err (NotEnoughData l (length rest)))
    (read_of k (start + 2) (take l rest) then read_of 13 (start + (2 + l)) (drop l rest))
unfolding read_of walk_of
read_more start k l rest =
    let n : ℕ = length (l ∷ rest) in
    let inner : walk_of n (start + 2) (take l rest) ≡ walk_of (length (take l rest)) (start + 2) (take l rest) =
    walk_any n (length (take l rest)) (start + 2) (take l rest) (omega (arith, length-take l rest)) (omega arith) in
    let after : walk_of n (start + (2 + l)) (drop l rest) ≡ walk_of (length (drop l rest)) (start + (2 + l)) (drop l rest) =
    walk_any n (length (drop l rest)) (start + (2 + l)) (drop l rest) (omega (arith, length-drop l rest)) (omega arith) in
    cc

pub list_nil : (level start : ℕ) → list_of 13 level start [] ≡ []
unfolding list_of parts_of
list_nil level start = refl

pub list_more : (level start k l : ℕ) (rest : List ℕ) → list_of 13 level start (k ∷ (l ∷ rest)) ≡
    record { upid_type = reported_of k; level = level; start = start + 2; len = l }
    ∷ (list_of k (level + 1) (start + 2) (take l rest) ++ list_of 13 level (start + (2 + l)) (drop l rest))
unfolding list_of parts_of
list_more level start k l rest =
    let n : ℕ = length (l ∷ rest) in
    let inner : parts_of n (level + 1) (start + 2) (take l rest) ≡ parts_of (length (take l rest)) (level + 1) (start + 2) (take l rest) =
    parts_any n (length (take l rest)) (level + 1) (start + 2) (take l rest) (omega (arith, length-take l rest)) (omega arith) in
    let after : parts_of n level (start + (2 + l)) (drop l rest) ≡ parts_of (length (drop l rest)) level (start + (2 + l)) (drop l rest) =
    parts_any n (length (drop l rest)) level (start + (2 + l)) (drop l rest) (omega (arith, length-drop l rest)) (omega arith) in
    cc

pub read_mid : (k start : ℕ) (bytes : List ℕ) → k ≡ 13 → read_of k start bytes ≡ read_of 13 start bytes
read_mid k start bytes h = rw h

pub read_plain : (k start : ℕ) (bytes : List ℕ) → (k ≡ 13 → ⊥) → read_of k start bytes ≡ plain_of k start bytes
unfolding read_of
read_plain k start bytes h = rw (ne_eqb k 13 h)

pub accepted_mid : (k start : ℕ) (bytes : List ℕ) → k ≡ 13 → Accepted (read_of k start bytes) → Accepted (read_of 13 start bytes)
accepted_mid k start bytes h a = rw h at a

pub list_mid : (k level start : ℕ) (bytes : List ℕ) → k ≡ 13 → list_of k level start bytes ≡ list_of 13 level start bytes
list_mid k level start bytes h = rw h

pub list_plain : (k level start : ℕ) (bytes : List ℕ) → (k ≡ 13 → ⊥) → list_of k level start bytes ≡ []
unfolding list_of
list_plain k level start bytes h = rw (ne_eqb k 13 h)

-- ---- how many parts there can be

few_or_none : (t : Bool) (n : ℕ) (ps : List Part) → 2 * length ps ≤ n → 2 * length (pick t ps []) ≤ n
few_or_none true n ps h = h
few_or_none false n ps h = omega arith

few_parts : (n level start : ℕ) (bytes : List ℕ) → 2 * length (parts_of n level start bytes) ≤ length bytes
unfolding parts_of
few_parts zero level start bytes = omega arith
few_parts (suc n) level start [] = omega arith
few_parts (suc n) level start (k ∷ []) = omega arith
few_parts (suc n) level start (k ∷ (l ∷ rest)) =
    omega (
      arith,
      length-append (pick (eqb k 13) (parts_of n (level + 1) (start + 2) (take l rest)) []) (parts_of n level (start + (2 + l)) (drop l rest)),
      few_or_none (eqb k 13) (length (take l rest)) (parts_of n (level + 1) (start + 2) (take l rest)) (few_parts n (level + 1) (start + 2) (take l rest)),
      few_parts n level (start + (2 + l)) (drop l rest),
      length-take l rest,
      length-drop l rest,
    )

pub few : (k level start : ℕ) (bytes : List ℕ) → 2 * length (list_of k level start bytes) ≤ length bytes
unfolding list_of
few k level start bytes = few_or_none (eqb k 13) _ _ (few_parts (length bytes) level start bytes)

-- ---- what is accepted

pub then_both : (a b : Result ℕ Refusal) → Accepted (a then b) → Accepted a × Accepted b
unfolding ◌then◌
then_both (Ok k) b h = (tt, h)
then_both (Err r) b h = absurd h

pub then_off : (a b : Result ℕ Refusal) (r : Refusal) → a ≡ Err r → a then b ≡ Err r
unfolding ◌then◌
then_off a b r e = rw e

pub then_on : (a b : Result ℕ Refusal) (k : ℕ) → a ≡ Ok k → a then b ≡ b
unfolding ◌then◌
then_on a b k e = rw e

pub by_cases {ℓ} : {P : Type ℓ} (a b : ℕ) → (a < b → P) → (b ≤ a → P) → P
by_cases {P = P} a b less not_less = go (ltb a b) refl
  where
    go : (t : Bool) → ltb a b ≡ t → P
    go true e = less (ltb-true a b e)
    go false e = not_less (ltb-false a b e)
