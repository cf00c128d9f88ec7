-- Laws of a walk of a MID that meets its parts at a place `at` of its bytes, and of a list of parts. (The walk that fills the list: Lister.antt.)
--     read_end, read_head, read_short, read_stop, read_on    a turn of the walk
--     grown_nil, grown_more, grown_blank                     a list grows by one run of parts after the other
--     sound                                                  a turn over what was accepted
--     answer_refused, answer_fine                            the answer
use Prim.Native.Nat.{ℕ, zero, suc, ◌+◌, ◌-◌, ◌≤◌, ◌<◌}
use mathlib.Core.Path.{◌≡◌, refl, sym, ap, ◌∙◌}
use mathlib.Core.List.{List, [], ◌∷◌, ◌++◌}
use native.Mathlib.Omega.{arith}
use native.Mathlib.Nat.{zero-add, add-zero, add-suc, suc-add, add_assoc, sub-zero, zero-sub, suc-sub-suc}
use native.Mathlib.Numerals.{add-one}
use lib.ListN.{length, take, drop, get_or, set, replicate, length-replicate, length-append, length-take, length-drop, drop_of_length-le}
use lib.Seq.{sets, sets-eq, drop-cons, drop-drop}
use borrow.Author.Tests.{lt-ltb, le-ltb, ne_eqb}
use Rattle.upid.specs.Upid.{◌then◌, read_of, list_of, listed, check_of, eidr_of, unless_refused, upid_of}
use Rattle.upid.specs.Private.{grown, Accepted}
use Rattle.upid.specs.declared.Part.{Part}
use Rattle.upid.specs.declared.PartList.{PartList}
use Rattle.upid.specs.declared.Refusal.{Refusal}
use Rattle.upid.specs.declared.Refusal.TheVariants.{NotEnoughData}
use Rattle.upid.proofs.Laws.{read_nil, read_one, read_more, list_nil, then_off, then_on, by_cases}
use Rattle.std.proofs.Common.{Ok, Err, Result}

-- ---- a MID from a place `at` of its bytes on

at_one : (s : List ℕ) (at : ℕ) → at < length s → length s - at < 2 → drop at s ≡ get_or s at 0 ∷ []
at_one s at h l =
    let none : length s ≤ suc at = omega arith in
    drop-cons s at 0 h ∙ ap (λ (r : List ℕ). get_or s at 0 ∷ r) (drop_of_length-le s none)

pub at_more : (s : List ℕ) (at : ℕ) → at < length s → 2 ≤ length s - at → drop at s ≡ get_or s at 0 ∷ (get_or s (at + 1) 0 ∷ drop (at + 2) s)
at_more s at h l =
    let h2 : suc at < length s = omega arith in
    let e : at + 2 ≡ suc (suc at) = omega arith in
    rw (drop-cons s at 0 h, drop-cons s (suc at) 0 h2, add-one, e)

pub read_end : (start at : ℕ) (s : List ℕ) → length s ≤ at → read_of 13 start (drop at s) ≡ Ok 13
read_end start at s h = rw (drop_of_length-le s h) (read_nil start)

pub list_end : (level start at : ℕ) (s : List ℕ) → length s ≤ at → list_of 13 level start (drop at s) ≡ []
list_end level start at s h = rw (drop_of_length-le s h) (list_nil level start)

pub read_head : (start at : ℕ) (s : List ℕ) → at < length s → length s - at < 2 → read_of 13 start (drop at s) ≡ Err (NotEnoughData 1 0)
read_head start at s h l = rw (at_one s at h l) (read_one start (get_or s at 0))

-- a part with its head of two bytes, and n bytes that its head announces
module _ (start at n : ℕ) (s : List ℕ) (inside : at < length s) (head : 2 ≤ length s - at) (en : n ≡ get_or s (at + 1) 0) where
  pub read_short : length s - (at + 2) < n → read_of 13 start (drop at s) ≡ Err (NotEnoughData n (length s - (at + 2)))
  read_short short =
      let e : length (drop (at + 2) s) ≡ length s - (at + 2) = length-drop (at + 2) s in
      rw (at_more s at inside head, read_more, ← en, e, lt-ltb _ _ short)

  module _ (present : n ≤ length s - (at + 2)) where
    ends : length (drop (at + 2) s) ≡ length s - (at + 2)
    ends = length-drop (at + 2) s

    here : start + at + 2 ≡ start + (at + 2)
    here = omega arith

    there : start + at + (2 + n) ≡ start + (at + 2 + n)
    there = omega arith

    overall : at + 2 + n - (at + 2) ≡ n
    overall = omega arith

    pub inner_length : length (take (at + 2 + n - (at + 2)) (drop (at + 2) s)) ≡ n
    inner_length = simp (length-take, length-drop) (omega arith)

    pub read_turn : read_of 13 (start + at) (drop at s) ≡
        (read_of (get_or s at 0) (start + (at + 2)) (take (at + 2 + n - (at + 2)) (drop (at + 2) s))
        then read_of 13 (start + (at + 2 + n)) (drop (at + 2 + n) s))
    read_turn = rw (at_more s at inside head, read_more, ← en, ends, le-ltb _ _ present, here, there, overall, drop-drop)

    pub read_stop : (inner : Result ℕ Refusal) (r : Refusal) → inner ≡ read_of (get_or s at 0) (start + (at + 2)) (take (at + 2 + n - (at + 2)) (drop (at + 2) s))
        → inner ≡ Err r → read_of 13 (start + at) (drop at s) ≡ Err r
    read_stop inner r e f = read_turn ∙ then_off _ _ r (sym e ∙ f)

    pub read_on : (inner : Result ℕ Refusal) (k : ℕ) → inner ≡ read_of (get_or s at 0) (start + (at + 2)) (take (at + 2 + n - (at + 2)) (drop (at + 2) s))
        → inner ≡ Ok k → read_of 13 (start + at) (drop at s) ≡ read_of 13 (start + (at + 2 + n)) (drop (at + 2 + n) s)
    read_on inner k e f = read_turn ∙ then_on _ _ k (sym e ∙ f)

-- ---- a list that grows

sets_append {ℓ} : {A : Type ℓ} (l : List A) (i : ℕ) (xs ys : List A) → sets l i (xs ++ ys) ≡ sets (sets l i xs) (i + length xs) ys
sets_append l i [] ys = rw add-zero
sets_append l i (x ∷ xs) ys = rw (add-suc, ← (suc-add i (length xs))) (sets_append (set l i x) (suc i) xs ys)

pub grown_nil : (w : PartList) → grown w [] ≡ w
unfolding grown
grown_nil w = rw add-zero

pub grown_more : (w : PartList) (ps qs : List Part) → grown w (ps ++ qs) ≡ grown (grown w ps) qs
unfolding grown
grown_more w ps qs = rw (sets_append, length-append, ← add_assoc)

drop_replicate {ℓ} : {A : Type ℓ} (i n : ℕ) (a : A) → drop i (replicate n a) ≡ replicate (n - i) a
drop_replicate zero n a = rw sub-zero
drop_replicate (suc i) zero a = rw zero-sub
drop_replicate (suc i) (suc n) a = rw suc-sub-suc (drop_replicate i n a)

-- elements stored from the front of an array of one value
sets_front {ℓ} : {A : Type ℓ} (n : ℕ) (a : A) (xs : List A) → length xs ≤ n → sets (replicate n a) 0 xs ≡ xs ++ replicate (n - length xs) a
sets_front n a xs h =
    let e : 0 + length xs ≡ length xs = zero-add (length xs) in
    let f : 0 + length xs ≤ length (replicate n a) = omega (arith, length-replicate n a) in
    sets-eq xs (replicate n a) 0 f ∙ rw (e, drop_replicate)

pub grown_blank : (ps : List Part) → length ps ≤ 127 → grown (listed []) ps ≡ listed ps
unfolding grown listed
grown_blank ps h =
    let e : 0 + length ps ≡ length ps = zero-add (length ps) in
    rw (e, sets_front 127 _ ps h)

-- ---- bytes that were accepted

-- a head is whole, and so is its payload
pub sound : (start at : ℕ) (s : List ℕ) → at < length s → Accepted (read_of 13 start (drop at s))
    → (2 ≤ length s - at) × (get_or s (at + 1) 0 ≤ length s - (at + 2))
sound start at s inside a =
    by_cases (length s - at) 2
    (λ short. absurd (rw (read_head start at s inside short) at a))
    (λ head. by_cases (length s - (at + 2)) (get_or s (at + 1) 0)
    (λ short. absurd (rw (read_short start at (get_or s (at + 1) 0) s inside head refl short) at a))
    (λ present. (head, present)))

-- a list with one part more
pub stored : (w : PartList) (p : Part) → record { parts = set w.parts w.count p; count = w.count + 1 } ≡ grown w (p ∷ [])
unfolding grown
stored w p = refl

-- ---- the answer

pub empty : (bytes : List ℕ) → length bytes ≡ 0 → bytes ≡ []
empty [] h = refl
empty (b ∷ bs) h = absurd (omega arith)

-- what is accepted has at most 255 bytes
pub check_short : (k : ℕ) (bytes : List ℕ) → Accepted (check_of k bytes) → length bytes ≤ 255
unfolding check_of
check_short k bytes a = by_cases 255 (length bytes) (λ long. absurd (rw (lt-ltb _ _ long) at a)) (λ short. short)

-- and what is accepted as a MID was read as one
pub check_mid : (bytes : List ℕ) → Accepted (check_of 13 bytes) → Accepted (read_of 13 0 bytes)
unfolding check_of
check_mid bytes a =
    by_cases 0 (length bytes)
    (λ some. let ne : length bytes ≡ 0 → ⊥ = omega arith in rw (le-ltb _ _ (check_short 13 bytes a), ne_eqb _ _ ne) at a)
    (λ none. let e : bytes ≡ [] = empty bytes (omega arith) in rw (e, read_nil) tt)

module _ (k : ℕ) (bytes id : List ℕ) (read : Result ℕ Refusal) (list : PartList) (eread : read ≡ check_of k bytes) (eid : id ≡ eidr_of k bytes) where
  pub answer_refused : (r : Refusal) → read ≡ Err r → list ≡ listed [] → record { read = read; eidr = id; list = list } ≡ upid_of k bytes
  unfolding upid_of unless_refused
  answer_refused r e el = rw (eid, el, ← eread, e)

  pub answer_fine : (q : ℕ) → read ≡ Ok q → list ≡ listed (list_of k 1 0 bytes) → record { read = read; eidr = id; list = list } ≡ upid_of k bytes
  unfolding upid_of unless_refused
  answer_fine q e el = rw (eid, el, ← eread, e)
