-- What the functions of this crate answer, case by case.
--     fine_alone, fine_bytes       whether an identifier is taken
--     mended_on, mended_off        a turn of the loop that mends the heads
--     whole-.., part-..            what is made, or refused
use Prim.Native.Nat.{ℕ, zero, suc, ◌+◌, ◌-◌, ◌≤◌, ◌<◌}
use mathlib.Core.Path.{◌≡◌, refl, sym, ap, ap₂, subst, ◌∙◌}
use mathlib.Core.Bool.{Bool, true, false}
use mathlib.Core.List.{List, [], ◌∷◌, ◌++◌}
use native.Mathlib.Omega.{arith}
use native.Mathlib.Numerals.{add-one}
use lib.ListN.{length, take, drop, get_or, set, length-take, length-set, drop_of_length-le}
use lib.Seq.{drop-cons, get_or-take, set-append_left, get_or-set_other}
use borrow.Author.Tests.{le-ltb, lt-ltb, le-leb, lt-leb, eq-eqb, ne_eqb}
use Rattle.table.specs.Bits.{pick}
use Rattle.table.specs.Writing.{Made, made, refused}
use Rattle.upid.specs.Cover.{All, none, more}
use Rattle.upid.specs.Upid.{read_of, check_of, upid_of, parts_in, blank_part, ◌then◌}
use Rattle.upid.specs.Private.{Accepted}
use Rattle.upid.specs.declared.Part.{Part}
use Rattle.upid.proofs.Answers.{anywhere}
use Rattle.upid.proofs.Laws.{read_nil, read_more}
use Rattle.relabel_upid.specs.Relabel.{instead, around, mended, part_at, replaced_in, taken, top_made, part_made, up_to}
use Rattle.relabel_upid.specs.Private.{Mends}
use Rattle.std.proofs.Common.{Ok, Err, Result}
use Rattle.upid.specs.declared.Refusal.{Refusal}

-- ---- whether an identifier is taken

same_taken : (a b : Result ℕ Refusal) → (Accepted a → Accepted b) → (Accepted b → Accepted a) → taken a ≡ taken b
unfolding taken
same_taken (Ok k) (Ok l) f g = refl
same_taken (Ok k) (Err r) f g = absurd (f tt)
same_taken (Err r) (Ok k) f g = absurd (g tt)
same_taken (Err r) (Err q) f g = refl

then_fine : (a : Result ℕ Refusal) (k : ℕ) → taken (a then Ok k) ≡ taken a
unfolding taken ◌then◌
then_fine (Ok q) k = refl
then_fine (Err r) k = refl

-- an empty part, read as the only part of a MID
pub fine_alone : (k : ℕ) → taken (check_of 13 (k ∷ (0 ∷ []))) ≡ taken (read_of k 0 [])
unfolding check_of
fine_alone k =
    ap taken (read_more 0 k 0 [])
    ∙ ap (λ (r : Result ℕ Refusal). taken (read_of k 2 [] then r)) (read_nil 2)
    ∙ then_fine (read_of k 2 []) 13
    ∙ same_taken (read_of k 2 []) (read_of k 0 []) (anywhere k 2 0 []) (anywhere k 0 2 [])

pub fine_bytes : (k : ℕ) (s : List ℕ) → length s ≤ 255 → (length s ≡ 0 → ⊥) → check_of k s ≡ read_of k 0 s
unfolding check_of
fine_bytes k s h some = rw (le-ltb _ _ h, ne_eqb _ _ some)

-- ---- the heads around a part

all_at : {A : Type 0} {P : A → Type 0} (d : A) {xs : List A} (j : ℕ) → All P xs → j < length xs → P (get_or xs j d)
all_at d j none h = absurd (omega arith)
all_at d zero (more x xs) h = x
all_at d (suc j) (more x xs) h = all_at d j xs (omega arith)

module _ (ps : List Part) (count j : ℕ) (p : Part) (n : ℕ) (h : j < count) (all : count ≤ length ps) where
  abbrev one : Part
  one = get_or ps j blank_part

  size : length (take count ps) ≡ count
  size = omega (arith, length-take count ps)

  one_is : get_or (take count ps) j blank_part ≡ one
  one_is = get_or-take count ps j blank_part h

  pub mends_one : (target : List ℕ) → All (Mends p n target) (take count ps) → Mends p n target one
  mends_one target a = subst (Mends p n target) one_is (all_at blank_part j a (omega (arith, size)))

  next : drop j (take count ps) ≡ one ∷ drop (j + 1) (take count ps)
  next =
      drop-cons (take count ps) j blank_part (omega (arith, size))
      ∙ ap₂ (λ (q : Part) (m : ℕ). q ∷ drop m (take count ps)) one_is (sym (add-one j))

  turn : (target : List ℕ) → mended p n (drop j (take count ps)) target ≡ mended p n (drop (j + 1) (take count ps)) (pick (around p one) (set target (one.start - 1) (instead p n one.len)) target)
  unfolding mended
  turn target = ap (λ (qs : List Part). mended p n qs target) next

  pub mended_on : (target later : List ℕ) (v at : ℕ) → around p one ≡ true → at ≡ one.start → v ≡ instead p n one.len → later ≡ set target (at - 1) v
      → mended p n (drop (j + 1) (take count ps)) later ≡ mended p n (drop j (take count ps)) target
  mended_on target later v at e ea ev el =
      sym (turn target ∙ ap (λ (t : Bool). mended p n (drop (j + 1) (take count ps)) (pick t (set target (one.start - 1) (instead p n one.len)) target)) e
      ∙ ap (mended p n (drop (j + 1) (take count ps))) (sym (el ∙ ap₂ (λ (a w : ℕ). set target (a - 1) w) ea ev)))

  pub mended_off : (target later : List ℕ) → around p one ≡ false → later ≡ target
      → mended p n (drop (j + 1) (take count ps)) later ≡ mended p n (drop j (take count ps)) target
  mended_off target later e el =
      sym (turn target ∙ ap (λ (t : Bool). mended p n (drop (j + 1) (take count ps)) (pick t (set target (one.start - 1) (instead p n one.len)) target)) e
      ∙ ap (mended p n (drop (j + 1) (take count ps))) (sym el))

pub mended_end : (qs : List Part) (p : Part) (n j count : ℕ) (target : List ℕ) → count ≤ j → mended p n (drop j (take count qs)) target ≡ target
unfolding mended
mended_end qs p n j count target h =
    let over : length (take count qs) ≤ j = omega (arith, length-take count qs) in
    let e : drop j (take count qs) ≡ [] = drop_of_length-le (take count qs) over in
    ap (λ (rs : List Part). mended p n rs target) e

pub mended_length : (p : Part) (n : ℕ) (qs : List Part) (s : List ℕ) → length (mended p n qs s) ≡ length s
unfolding mended
mended_length p n [] s = refl
mended_length p n (q ∷ qs) s = mended_length p n qs _ ∙ go (around p q)
  where
    go : (t : Bool) → length (pick t (set s (q.start - 1) (instead p n q.len)) s) ≡ length s
    go true = length-set s (q.start - 1) (instead p n q.len)
    go false = refl

-- what stands behind the heads is not touched
pub mended_append : (p : Part) (n : ℕ) (qs : List Part) (s t : List ℕ) → All (λ (q : Part). (2 ≤ q.start) × (q.start ≤ length s)) qs → mended p n qs (s ++ t) ≡ mended p n qs s ++ t
unfolding mended
mended_append p n [] s t none = refl
mended_append p n (q ∷ qs) s t (more h hs) =
    go (around p q)
    (mended_append p n qs (set s (q.start - 1) (instead p n q.len)) t (rw (length-set s (q.start - 1) (instead p n q.len)) hs))
    (mended_append p n qs s t hs)
  where
    go : (b : Bool) → mended p n qs (set s (q.start - 1) (instead p n q.len) ++ t) ≡ mended p n qs (set s (q.start - 1) (instead p n q.len)) ++ t
        → mended p n qs (s ++ t) ≡ mended p n qs s ++ t
        → mended p n qs (pick b (set (s ++ t) (q.start - 1) (instead p n q.len)) (s ++ t)) ≡ mended p n qs (pick b (set s (q.start - 1) (instead p n q.len)) s) ++ t
    go true on off = ap (mended p n qs) (set-append_left s t (q.start - 1) (instead p n q.len) (omega arith)) ∙ on
    go false on off = off

-- ---- the UPID itself

module _ (upid_type_number k : ℕ) (top new : List ℕ) where
  pub top_none : length top ≡ 0 → top_made upid_type_number top k new ≡ refused 41
  unfolding top_made
  top_none h = rw (eq-eqb _ _ h)

  module _ (some : length top ≡ 0 → ⊥) where
    pub top_refused : taken (check_of upid_type_number top) ≡ false → top_made upid_type_number top k new ≡ refused 41
    unfolding top_made
    top_refused h = rw (ne_eqb _ _ some, h)

    module _ (fine : taken (check_of upid_type_number top) ≡ true) where
      pub top_long : 255 < length new → top_made upid_type_number top k new ≡ refused 32
      unfolding top_made
      top_long h = rw (ne_eqb _ _ some, fine, lt-ltb _ _ h)

      module _ (short : length new ≤ 255) where
        pub top_empty : length new ≡ 0 → top_made upid_type_number top k new ≡ refused 33
        unfolding top_made
        top_empty h = rw (ne_eqb _ _ some, fine, le-ltb _ _ short, eq-eqb _ _ h)

        module _ (full : length new ≡ 0 → ⊥) where
          pub top_unfit : taken (read_of k 0 new) ≡ false → top_made upid_type_number top k new ≡ refused 33
          unfolding top_made
          top_unfit h = rw (ne_eqb _ _ some, fine, le-ltb _ _ short, ne_eqb _ _ full, h)

          pub top_made_lem : taken (read_of k 0 new) ≡ true → top_made upid_type_number top k new ≡ made new
          unfolding top_made
          top_made_lem h = rw (ne_eqb _ _ some, fine, le-ltb _ _ short, ne_eqb _ _ full, h)

-- ---- a part

module _ (upid_type_number k i : ℕ) (top new : List ℕ) where
  abbrev ps : List Part
  ps = parts_in (upid_of upid_type_number top)

  pub part_none : length ps ≤ i → part_made upid_type_number top i k new ≡ refused 41
  unfolding part_made
  part_none h = rw (le-leb _ _ h)

  module _ (there : i < length ps) where
    pub part_long : 255 < instead (part_at ps i) (length new) (length top) → part_made upid_type_number top i k new ≡ refused 32
    unfolding part_made
    part_long h = rw (lt-leb _ _ there, lt-ltb _ _ h)

    module _ (short : instead (part_at ps i) (length new) (length top) ≤ 255) where
      pub part_unfit : taken (read_of k 0 new) ≡ false → part_made upid_type_number top i k new ≡ refused 33
      unfolding part_made
      part_unfit h = rw (lt-leb _ _ there, le-ltb _ _ short, h)

      pub part_made_lem : taken (read_of k 0 new) ≡ true → part_made upid_type_number top i k new ≡ made (replaced_in top ps i k new)
      unfolding part_made
      part_made_lem h = rw (lt-leb _ _ there, le-ltb _ _ short, h)

-- ---- where the heads are not mended, nothing changes
pub mended_elsewhere : (p : Part) (n : ℕ) (qs : List Part) (s : List ℕ) (j : ℕ) → All (λ (q : Part). around p q ≡ true → q.start - 1 ≡ j → ⊥) qs
    → get_or (mended p n qs s) j 0 ≡ get_or s j 0
unfolding mended
mended_elsewhere p n [] s j none = refl
mended_elsewhere p n (q ∷ qs) s j (more h hs) = mended_elsewhere p n qs _ j hs ∙ go (around p q) refl
  where
    go : (t : Bool) → around p q ≡ t → get_or (pick t (set s (q.start - 1) (instead p n q.len)) s) j 0 ≡ get_or s j 0
    go true e = get_or-set_other s (q.start - 1) j (instead p n q.len) 0 (λ f. h e (sym f))
    go false e = refl

-- ---- no longer than there is room for
module _ (limit : ℕ) (m : Made) (b : List ℕ) (e : m ≡ made b) where
  pub up_to_over : limit < length b → up_to limit m ≡ refused 34
  up_to_over h = rw (e, lt-leb _ _ h)

  pub up_to_fits : length b ≤ limit → up_to limit m ≡ made b
  up_to_fits h = rw (e, le-leb _ _ h)
