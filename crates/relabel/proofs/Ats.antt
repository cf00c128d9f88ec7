-- The UPID stored where it goes, and what is answered.
--     refused_at     a refusal: no byte changes
--     wrote_at       what was stored
use Prim.Native.Nat.{ℕ, zero, suc, ◌+◌, ◌-◌, ◌^◌, ◌<◌, ◌≤◌}
use mathlib.Core.Bool.{Bool, true, false, not}
use mathlib.Core.List.{List, ◌∷◌, ◌++◌, append_assoc}
use mathlib.Core.Path.{◌≡◌, refl, ap, sym, subst, ◌∙◌}
use native.Mathlib.Omega.{arith}
use borrow.Author.Tests.{leb-true, leb-false}
use borrow.Rule.Slice.PartMut.{mid_of, post_of, put_mid, put_same}
use lib.Dec.{leb, ltb}
use lib.ListN.{length, take, drop, get_or, length-append, length-drop, take-append-drop}
use lib.Seq.{drop-drop, drop-append-le, length-take-le}
use Rattle.bit_stores.proofs.Writes.{refused_answer, short_answer, wrote_answer}
use Rattle.bit_stores.specs.Written.{answer_of, later_of}
use Rattle.relabel_joined.specs.Relabel.{type_then}
use Rattle.relabel_upid.proofs.Theorems.{the_upid_itself}
use Rattle.relabel_upid.specs.Relabel.{instead, mended, spliced, part_at, replaced_in, taken, part_made, upid_made, up_to}
use Rattle.table.proofs.Lists.{zero_one}
use Rattle.table.proofs.Stores.{stored_fits, length_stored}
use Rattle.table.specs.Bits.{pick}
use Rattle.table.specs.Lent.{stored}
use Rattle.table.specs.Writing.{Made, made, refused}
use Rattle.upid.specs.Upid.{read_of, upid_of, parts_in}
use Rattle.upid.specs.declared.Part.{Part}
use Rattle.relabel.specs.Private.{run, old_size, Lies, Takes, Limit, up_to_upid, cut_of, sealed, wrapped, placed_made}
use Rattle.relabel.specs.declared.Place.{Place}
use Rattle.relabel.proofs.Stores.{size_cut, all_stored}
use Rattle.std.proofs.Common.{Ok, Err, Result}

-- ---- a UPID that is made is not empty

picked : (a b c : Bool) (x b' : List ℕ) (m n o : ℕ) → pick a (refused m) (pick b (refused n) (pick c (refused o) (made x))) ≡ made b' → x ≡ b'
picked true b c x b' m n o e = zero_one cc
picked false true c x b' m n o e = zero_one cc
picked false false true x b' m n o e = zero_one cc
picked false false false x b' m n o e = cc

spliced_some : (top : List ℕ) (qs : List Part) (p : Part) (k : ℕ) (new : List ℕ) → 2 ≤ length (spliced top qs p k new)
unfolding spliced
spliced_some top qs p k new =
    omega (arith, length-append (mended p (length new) qs (take (p.start - 2) top)) (k ∷ (length new ∷ (new ++ drop (p.start + p.len) top))))

pub some_made : (upid_type_number : ℕ) (top : List ℕ) (part k : ℕ) (new b : List ℕ) → upid_made upid_type_number top part k new ≡ made b → 1 ≤ length b
unfolding upid_made part_made
some_made upid_type_number top zero k new b e = (the_upid_itself upid_type_number top k new b e).2
some_made upid_type_number top (suc i) k new b e =
    let ps : List Part = parts_in (upid_of upid_type_number top) in
    let z = picked (leb (length ps) i) (ltb 255 (instead (part_at ps i) (length new) (length top))) (not (taken (read_of k 0 new))) (replaced_in top ps i k new) b 41 32 33 e in
    omega (arith, ap length z, spliced_some top (take i ps) (part_at ps i) k new)

up_to_is : (limit : ℕ) (m : Made) (b : List ℕ) → up_to limit m ≡ made b → (m ≡ made b) × (length b ≤ limit)
up_to_is limit (refused n) b e = zero_one cc
up_to_is limit (made x) b e = go (leb (length x) limit) refl e
  where
    go : (t : Bool) → leb (length x) limit ≡ t → pick t (made x) (refused 34) ≡ made b → (made x ≡ made b) × (length b ≤ limit)
    go true h f = let z : x ≡ b = cc in (ap made z, omega (arith, ap length z, leb-true (length x) limit h))
    go false h f = zero_one cc

-- ---- the answer of a writer, the other way round

pub record Answered (m : Made) (t : List ℕ) (n : ℕ) : Type 0 where
  pub b : List ℕ
  pub is : m ≡ made b
  pub size : n ≡ length b
  pub fits : length b ≤ length t
  pub later : later_of m t ≡ b ++ drop (length b) t

wrote_is : (m : Made) (t : List ℕ) (n : ℕ) → Ok n ≡ answer_of m t → Answered m t n
unfolding answer_of later_of
wrote_is (refused q) t n e = zero_one cc
wrote_is (made b) t n e = go (leb (length b) (length t)) refl e
  where
    go : (c : Bool) → leb (length b) (length t) ≡ c → Ok n ≡ pick {A = Result ℕ ℕ} c (Ok (length b)) (Err 36) → Answered (made b) t n
    go true h f = record { b = b; is = refl; size = cc; fits = leb-true (length b) (length t) h; later = rw h }
    go false h f = zero_one cc

-- a refusal: of what was made, or 36
pub data Denied (m : Made) (t : List ℕ) : ℕ → Type 0 where
  was : {q : ℕ} → m ≡ refused q → Denied m t q
  short : (b : List ℕ) → m ≡ made b → length t < length b → Denied m t 36

denied : (m : Made) (t : List ℕ) (q : ℕ) → Err q ≡ answer_of m t → (t ≡ later_of m t) × Denied m t q
unfolding answer_of later_of
denied (refused r) t q e = let z : refused r ≡ refused q = cc in (refl, was {q = q} z)
denied (made b) t q e = go (leb (length b) (length t)) refl e
  where
    go : (c : Bool) → leb (length b) (length t) ≡ c → Err q ≡ pick c (Ok (length b)) (Err 36) → (t ≡ pick c (b ++ drop (length b) t) t) × Denied (made b) t q
    go true h f = zero_one cc
    go false h f = let z : q ≡ 36 = cc in (refl, rw z (short b refl (leb-false (length b) (length t) h)))

-- ---- numbers

part_size : (t : List ℕ) (from room : ℕ) → from + room ≤ length t → length (mid_of from (from + room - from) t) ≡ room
part_size t from room h =
    let z : from + room - from ≡ room = omega arith in
    ap (λ (k : ℕ). length (take k (drop from t))) z ∙ length-take-le room (drop from t) (omega (arith, length-drop from t))

room_short : (t o room b : ℕ) → room ≡ t - o → room < b → t < o + b
room_short t o room b e h = omega arith

room_fits : (t o room b : ℕ) → room ≡ t - o → b ≤ room → 1 ≤ b → (o + b ≤ t) × (t - room ≡ o)
room_fits t o room b e h g = (omega arith, omega arith)

below_64 : (n : ℕ) → n ≤ 4096 → n < 2 ^ 64
below_64 n h = omega arith

le_sum : (a o b t : ℕ) → a ≤ o → o + b ≤ t → a + b ≤ t
le_sum a o b t h g = omega arith

head_in_lem : (s : List ℕ) (p : Place) → Lies s p → p.head + 2 ≤ length s - old_size p
head_in_lem s p lies = omega (arith, lies.upid, lies.end)

inside : (t room from : ℕ) → room ≤ t → from ≤ t - room → from + room ≤ t
inside t room from g h = omega arith

no_more : (t o room : ℕ) → room ≡ t - o → room ≤ t
no_more t o room e = omega arith

-- ---- at a place

module _ (s : List ℕ) (p : Place) (limit part k : ℕ) (new t : List ℕ) (lies : Lies s p) (lim : Limit s p limit) where
  abbrev upid_type_number : ℕ
  upid_type_number = get_or s p.head 0

  abbrev its : Made
  its = up_to limit (upid_made upid_type_number (run s (p.head + 2) (old_size p)) part k new)

  abbrev all : Made
  all = placed_made s p limit part k new

  all_is : all ≡ wrapped s p (type_then part upid_type_number k) its
  unfolding placed_made
  all_is = refl

  module _ (room from : ℕ) (er : room ≡ length t - (length s - old_size p)) (below : from ≤ length t - room) (overall : p.head + 2 ≤ length t - room → from ≡ p.head + 2) where
    abbrev part_of : List ℕ
    part_of = mid_of from (from + room - from) t

    size_part : length part_of ≡ room
    size_part = part_size t from room (inside (length t) room from (no_more (length t) (length s - old_size p) room er) below)

    pub refused_at : (later : List ℕ) (q : ℕ) → Err q ≡ answer_of its part_of → later ≡ later_of its part_of
        → (Err q ≡ answer_of all t) × (put_mid from (from + room - from) t later ≡ later_of all t)
    refused_at later q e f =
        let d = denied its part_of q e in
        let same : put_mid from (from + room - from) t later ≡ t =
        ap (put_mid from (from + room - from) t) (f ∙ sym d.0) ∙ put_same from (from + room - from) t in
        let a = go d.1 in
        (a.0, same ∙ a.1)
      where
        go : {q : ℕ} → Denied its part_of q → (Err q ≡ answer_of all t) × (t ≡ later_of all t)
        go {q} (was z) = refused_answer all t q (all_is ∙ ap (wrapped s p (type_then part upid_type_number k)) z)
        go (short b z l) =
            short_answer all t (cut_of s p (type_then part upid_type_number k) b) (all_is ∙ ap (wrapped s p (type_then part upid_type_number k)) z)
            (subst (λ (n : ℕ). length t < n) (sym (size_cut s p (type_then part upid_type_number k) b lies))
            (room_short (length t) (length s - old_size p) room (length b) er (subst (λ (n : ℕ). n < length b) size_part l)))

    pub record Stored (n : ℕ) (later : List ℕ) : Type 0 where
      pub b : List ℕ
      pub is : all ≡ made (cut_of s p (type_then part upid_type_number k) b)
      pub size : n ≡ length b
      pub takes : Takes s p n
      pub fits : length s - old_size p + length b ≤ length t
      pub stores : put_mid from (from + room - from) t later ≡ stored t (p.head + 2) b
      pub leaves : length s - old_size p + n ≤ length (put_mid from (from + room - from) t later)
      pub small : length s - old_size p + n < 2 ^ 64

    pub wrote_at : (later : List ℕ) (n : ℕ) → Ok n ≡ answer_of its part_of → later ≡ later_of its part_of → Stored n later
    wrote_at later n e f =
        let w = wrote_is its part_of n e in
        let u = up_to_is limit _ w.b w.is in
        let some : 1 ≤ length w.b = some_made upid_type_number (run s (p.head + 2) (old_size p)) part k new w.b u.0 in
        let r : length w.b ≤ room = subst (λ (n : ℕ). length w.b ≤ n) size_part w.fits in
        let f₀ = room_fits (length t) (length s - old_size p) room (length w.b) er r some in
        let h : from ≡ p.head + 2 = overall (subst (λ (n : ℕ). p.head + 2 ≤ n) (sym f₀.1) (head_in_lem s p lies)) in
        let g : drop (length w.b) part_of ++ post_of from (from + room - from) t ≡ drop (length w.b) (drop from t) =
        sym (drop-append-le (length w.b) part_of (post_of from (from + room - from) t) w.fits) ∙ ap (drop (length w.b)) (take-append-drop (from + room - from) (drop from t)) in
        let stores : put_mid from (from + room - from) t later ≡ stored t (p.head + 2) w.b =
        ap (λ (l : List ℕ). take from t ++ (l ++ post_of from (from + room - from) t)) (f ∙ w.later)
        ∙ ap (λ (l : List ℕ). take from t ++ l) (append_assoc w.b (drop (length w.b) part_of) (post_of from (from + room - from) t) ∙ ap (λ (l : List ℕ). w.b ++ l) (g ∙ drop-drop (length w.b) from t))
        ∙ sym (append_assoc (take from t) w.b (drop (from + length w.b) t))
        ∙ ap (λ (i : ℕ). take i t ++ w.b ++ drop (i + length w.b) t) h
        ∙ sym (stored_fits t (p.head + 2) w.b (le_sum (p.head + 2) (length s - old_size p) (length w.b) (length t) (head_in_lem s p lies) f₀.0)) in
        let takes : Takes s p n = (lim n).0 (subst (λ (m : ℕ). m ≤ limit) (sym w.size) u.1) in
        record {
          b = w.b;
          is = all_is ∙ ap (wrapped s p (type_then part upid_type_number k)) w.is;
          size = w.size;
          takes = takes;
          fits = f₀.0;
          stores = stores;
          leaves = subst (λ (m : ℕ). length s - old_size p + n ≤ m) (sym (ap length stores ∙ length_stored t (p.head + 2) w.b)) (subst (λ (m : ℕ). length s - old_size p + m ≤ length t) (sym w.size) f₀.0);
          small = below_64 (length s - old_size p + n) takes.section;
        }

-- ---- the end

module _ (s : List ℕ) (p : Place) (limit part k : ℕ) (new t : List ℕ) (lies : Lies s p) (b : List ℕ) (is : placed_made s p limit part k new ≡ made (cut_of s p (type_then part (get_or s p.head 0) k) b)) where
  abbrev result : List ℕ
  result = cut_of s p (type_then part (get_or s p.head 0) k) b

  pub all_wrote : (t₁ later : List ℕ) (n upid_type_number : ℕ) → n ≡ length b → upid_type_number ≡ type_then part (get_or s p.head 0) k → length s - old_size p + length b ≤ length t → t₁ ≡ stored t (p.head + 2) b
      → later ≡ sealed s p n (stored t₁ 0 (up_to_upid s p upid_type_number n))
      → (Ok (length s - old_size p + n) ≡ answer_of (placed_made s p limit part k new) t) × (later ≡ later_of (placed_made s p limit part k new) t)
  all_wrote t₁ later n upid_type_number en ek fits e₁ e =
      let z = size_cut s p (type_then part (get_or s p.head 0) k) b lies in
      let w = wrote_answer _ t result is (subst (λ (m : ℕ). m ≤ length t) (sym z) fits) in
      let f : later ≡ stored t 0 result =
      all_stored s p (type_then part (get_or s p.head 0) k) b lies t t₁ _ later fits e₁ refl (rw (← en, ← ek) e) in
      (ap Ok (ap (λ (m : ℕ). length s - old_size p + m) en ∙ sym z) ∙ w.0, f ∙ w.1)
