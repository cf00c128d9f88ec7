-- The UPID and the UPID then, each with its head, cut at the identifier.
--     value_all      the lengths in the heads around a part, once they are mended
--     upid_cut       the cutting
use Prim.Native.Nat.{ℕ, zero, suc, ◌+◌, ◌-◌, ◌≤◌, ◌<◌}
use mathlib.Core.Bool.{Bool, true, false}
use mathlib.Core.List.{List, [], ◌∷◌, ◌++◌, append-nil}
use mathlib.Core.Path.{◌≡◌, refl, ap, sym, subst, ◌∙◌}
use native.Mathlib.Omega.{arith}
use lib.ListN.{length, take, drop, get_or, set, length-append, length-set, length-take, length-drop}
use lib.Seq.{length-take-le, get_or-set_same}
use Rattle.relabel_joined.specs.Relabel.{type_then}
use Rattle.relabel_upid.proofs.Answers.{has_parts, made_able}
use Rattle.relabel_upid.proofs.Stores.{placed_read}
use Rattle.relabel_upid.proofs.Theorems.{the_upid_itself}
use Rattle.relabel_upid.proofs.Turns.{mended_length, mended_elsewhere}
use Rattle.relabel_upid.specs.Relabel.{instead, around, mended, spliced, part_at, upid_made}
use Rattle.table.specs.Bits.{pick}
use Rattle.table.specs.Writing.{made}
use Rattle.upid.proofs.Answers.{in_byte_order}
use Rattle.upid.proofs.Tree.{all_map}
use Rattle.upid.specs.Cover.{All, none, more, Ascending, nothing, before}
use Rattle.upid.specs.Private.{Accepted}
use Rattle.upid.specs.Upid.{check_of, upid_of, parts_in}
use Rattle.upid.specs.declared.Part.{Part}
use Rattle.relabel_trips.specs.Cutting.{head_within, lengths_around, lengths_within, NotIn}
use Rattle.relabel_trips.specs.Named.{type_within, identifier_within}
use Rattle.relabel_trips.proofs.Upids.{same_upid}

-- ---- lists of places

pub around_all : (P : ℕ → Type 0) (p : Part) (qs : List Part) → All (λ (q : Part). around p q ≡ true → P (q.start + 1)) qs → All P (lengths_around p qs)
unfolding lengths_around
around_all P p [] none = none
around_all P p (q ∷ qs) (more h hs) = go (around_all P p qs hs) (around p q) refl
  where
    go : All P (lengths_around p qs) → (b : Bool) → around p q ≡ b → All P (pick b ((q.start + 1) ∷ lengths_around p qs) (lengths_around p qs))
    go less true e = more (h e) less
    go less false e = less

absurd_by : {A : Type 0} {b : Bool} → b ≡ false → b ≡ true → A
absurd_by e f = let z : ◌≡◌ {A = ℕ} 0 1 = cc in absurd (omega arith)

pub all_around : (P : ℕ → Type 0) (p : Part) (qs : List Part) → All P (lengths_around p qs) → All (λ (q : Part). around p q ≡ true → P (q.start + 1)) qs
unfolding lengths_around
all_around P p [] h = none
all_around P p (q ∷ qs) h = go (λ xs. all_around P p qs xs) (around p q) refl h
  where
    go : (All P (lengths_around p qs) → All (λ (q : Part). around p q ≡ true → P (q.start + 1)) qs) → (b : Bool) → around p q ≡ b
        → All P (pick b ((q.start + 1) ∷ lengths_around p qs) (lengths_around p qs)) → All (λ (q : Part). around p q ≡ true → P (q.start + 1)) (q ∷ qs)
    go less true e (more x xs) = more {x = q} (λ f. x) (less xs)
    go less false e xs = more {x = q} (λ f. absurd_by e f) (less xs)

all_both : {P Q : Part → Type 0} (qs : List Part) → All P qs → All Q qs → All (λ (q : Part). P q × Q q) qs
all_both [] none none = none
all_both (q ∷ qs) (more x xs) (more y ys) = more {x = q} (x, y) (all_both qs xs ys)

-- ---- the lengths, once they are mended

Room : List ℕ → Part → Type 0
Room s q = (2 ≤ q.start) × (q.start ≤ length s)

value_all : (p : Part) (n : ℕ) (qs : List Part) (s : List ℕ) → Ascending qs → All (Room s) qs
    → All (λ (q : Part). around p q ≡ true → get_or (mended p n qs s) (q.start - 1) 0 ≡ instead p n q.len) qs
unfolding mended Room
value_all p n [] s nothing none = none
value_all p n (q ∷ qs) s (before later rest) (more h hs) = more {x = q} (λ e. own e) (go (λ s r. value_all p n qs s rest r) (around p q))
  where
    then : Bool → List ℕ
    then b = pick b (set s (q.start - 1) (instead p n q.len)) s

    sizes : (b : Bool) → length (then b) ≡ length s
    sizes true = length-set s (q.start - 1) (instead p n q.len)
    sizes false = refl

    go : ((s : List ℕ) → All (Room s) qs → All (λ (q : Part). around p q ≡ true → get_or (mended p n qs s) (q.start - 1) 0 ≡ instead p n q.len) qs)
        → (b : Bool) → All (λ (q : Part). around p q ≡ true → get_or (mended p n qs (then b)) (q.start - 1) 0 ≡ instead p n q.len) qs
    go again b = again (then b) (all_map (λ q r. (r.0, omega (arith, r.1, sizes b))) hs)

    apart : All (λ (r : Part). around p r ≡ true → r.start - 1 ≡ q.start - 1 → ⊥) qs
    apart = all_map (λ r l. λ e f. omega (arith, l, f, h.0)) later

    own : around p q ≡ true → get_or (mended p n qs (then (around p q))) (q.start - 1) 0 ≡ instead p n q.len
    own e =
        ap (λ (b : Bool). get_or (mended p n qs (then b)) (q.start - 1) 0) e
        ∙ mended_elsewhere p n qs (then true) (q.start - 1) apart
        ∙ get_or-set_same s (q.start - 1) (instead p n q.len) 0 (omega (arith, h.0, h.1))

-- ---- the cutting

pub record UpidCut (upid_type_number : ℕ) (top : List ℕ) (part k : ℕ) (new b : List ℕ) : Type 0 where
  pub prior : List ℕ
  pub fixed : List ℕ
  pub rest : List ℕ
  pub old : upid_type_number ∷ (length top ∷ top) ≡ prior ++ (type_within upid_type_number top part ∷ (length (identifier_within upid_type_number top part) ∷ (identifier_within upid_type_number top part ++ rest)))
  pub then : type_then part upid_type_number k ∷ (length b ∷ b) ≡ fixed ++ (k ∷ (length new ∷ (new ++ rest)))
  pub place : length prior ≡ head_within upid_type_number top part
  pub size : length fixed ≡ length prior
  pub stays : (j : ℕ) → NotIn (lengths_within upid_type_number top part) j → get_or fixed j 0 ≡ get_or prior j 0
  pub fits : length (identifier_within upid_type_number top part) ≤ length top
  pub long : length b ≡ length top - length (identifier_within upid_type_number top part) + length new
  pub lengths : All (λ (j : ℕ). (j < length prior) × (get_or fixed j 0 ≡ get_or prior j 0 - length (identifier_within upid_type_number top part) + length new)) (lengths_within upid_type_number top part)

-- two bytes before a list
two_before : (a b : ℕ) (s : List ℕ) (j : ℕ) → 1 ≤ j → get_or (a ∷ (b ∷ s)) (j + 1) 0 ≡ get_or s (j - 1) 0
two_before a b s zero h = absurd (omega arith)
two_before a b s (suc j) h =
    let z : suc j + 1 ≡ suc (suc j) = omega arith in
    let y : j ≡ suc j - 1 = omega arith in
    ap (λ (i : ℕ). get_or (a ∷ (b ∷ s)) i 0) z ∙ ap (λ (i : ℕ). get_or s i 0) y

ascending_take : (n : ℕ) (ps : List Part) → Ascending ps → Ascending (take n ps)
ascending_take zero ps a = nothing
ascending_take (suc n) [] a = nothing
ascending_take (suc n) (p ∷ ps) (before h hs) = before (all_take n ps h) (ascending_take n ps hs)
  where
    all_take : {P : Part → Type 0} (n : ℕ) (ps : List Part) → All P ps → All P (take n ps)
    all_take zero ps a = none
    all_take (suc n) [] a = none
    all_take (suc n) (x ∷ xs) (more h hs) = more h (all_take n xs hs)

module _ (upid_type_number : ℕ) (top : List ℕ) (i k : ℕ) (new b : List ℕ) (e : upid_made upid_type_number top (suc i) k new ≡ made b) where
  abbrev ps : List Part
  ps = parts_in (upid_of upid_type_number top)

  abbrev p : Part
  p = part_at ps i

  abbrev qs : List Part
  qs = take i ps

  abbrev kd : ℕ
  kd = type_within upid_type_number top (suc i)

  abbrev bs : List ℕ
  bs = identifier_within upid_type_number top (suc i)

  abbrev F : List ℕ
  F = take (p.start - 2) top

  abbrev R : List ℕ
  R = drop (p.start + p.len) top

  there : i < length ps
  there = (made_able upid_type_number top i k new b e).0.there

  accepted : Accepted (check_of upid_type_number top)
  accepted = (has_parts upid_type_number top i there).1

  in_order : Ascending qs
  in_order = ascending_take i ps (ordered upid_type_number (has_parts upid_type_number top i there).0 accepted)
    where
      ordered : (j : ℕ) → j ≡ 13 → Accepted (check_of j top) → Ascending (parts_in (upid_of j top))
      ordered j z a = subst (λ (j : ℕ). Ascending (parts_in (upid_of j top))) (sym z) (in_byte_order top (subst (λ (j : ℕ). Accepted (check_of j top)) z a))

  begins : 2 ≤ p.start
  begins = (placed_read upid_type_number top i there).0

  within : p.start + p.len ≤ length top
  within = (placed_read upid_type_number top i there).1

  F-long : length F ≡ p.start - 2
  F-long = length-take-le (p.start - 2) top (omega (arith, within))

  rooms : All (Room F) qs
  unfolding Room
  rooms = all_map (λ q x. (x.0, omega (arith, x.1, F-long))) (placed_read upid_type_number top i there).2

  -- either is the same cut
  top_is : top ≡ mended p (length bs) qs F ++ (kd ∷ (length bs ∷ (bs ++ R)))
  unfolding spliced
  top_is = (made_able upid_type_number top i kd bs top (same_upid upid_type_number top (suc i) accepted there)).1

  then_is : b ≡ mended p (length new) qs F ++ (k ∷ (length new ∷ (new ++ R)))
  unfolding spliced
  then_is = (made_able upid_type_number top i k new b e).1

  abbrev old_prior : List ℕ
  old_prior = upid_type_number ∷ (length top ∷ mended p (length bs) qs F)

  abbrev new_prior : List ℕ
  new_prior = upid_type_number ∷ (length b ∷ mended p (length new) qs F)

  prior_long : (x n : ℕ) → length (upid_type_number ∷ (x ∷ mended p n qs F)) ≡ p.start
  prior_long x n = omega (arith, mended_length p n qs F, F-long, begins)

  long_is : length b ≡ length top - length bs + length new
  long_is =
      omega (
        arith,
        ap length top_is,
        ap length then_is,
        length-append (mended p (length bs) qs F) (kd ∷ (length bs ∷ (bs ++ R))),
        length-append (mended p (length new) qs F) (k ∷ (length new ∷ (new ++ R))),
        length-append bs R,
        length-append new R,
        mended_length p (length bs) qs F,
        mended_length p (length new) qs F,
      )

  elsewhere : (j : ℕ) → NotIn (lengths_around p qs) (suc (suc j)) → get_or (mended p (length new) qs F) j 0 ≡ get_or (mended p (length bs) qs F) j 0
  unfolding Room
  elsewhere j h =
      let apart : All (λ (q : Part). around p q ≡ true → q.start - 1 ≡ j → ⊥) qs =
      all_map (λ q x. λ a f. x.0 a (let z : q.start + 1 ≡ suc (suc j) = omega (arith, x.1.0, f) in z)) (all_both qs (all_around (λ (at : ℕ). at ≡ suc (suc j) → ⊥) p qs h) rooms) in
      mended_elsewhere p (length new) qs F j apart ∙ sym (mended_elsewhere p (length bs) qs F j apart)

  part_stays : (j : ℕ) → NotIn (lengths_within upid_type_number top (suc i)) j → get_or new_prior j 0 ≡ get_or old_prior j 0
  part_stays zero h = refl
  part_stays (suc zero) (more h hs) = absurd (h refl)
  part_stays (suc (suc j)) (more h hs) = elsewhere j hs

  part_lengths : All (λ (j : ℕ). (j < length old_prior) × (get_or new_prior j 0 ≡ get_or old_prior j 0 - length bs + length new)) (lengths_within upid_type_number top (suc i))
  unfolding Room
  part_lengths =
      more {x = 1} (omega (arith, prior_long (length top) (length bs), begins), long_is)
      (around_all (λ (j : ℕ). (j < length old_prior) × (get_or new_prior j 0 ≡ get_or old_prior j 0 - length bs + length new)) p qs
      (all_map
      (λ q x. λ a.
      let v : get_or new_prior (q.start + 1) 0 ≡ q.len - p.len + length new = two_before upid_type_number (length b) (mended p (length new) qs F) q.start (omega (arith, x.0.0)) ∙ x.1.0 a in
      let w : get_or old_prior (q.start + 1) 0 ≡ q.len - p.len + length bs = two_before upid_type_number (length top) (mended p (length bs) qs F) q.start (omega (arith, x.0.0)) ∙ x.1.1 a in
      (omega (arith, prior_long (length top) (length bs), x.0.1, F-long, begins), v ∙ counts (q.len - p.len) (length bs) (length new) _ w))
      (all_both qs rooms (all_both qs (value_all p (length new) qs F in_order rooms) (value_all p (length bs) qs F in_order rooms)))))
    where
      counts : (x m n y : ℕ) → y ≡ x + m → x + n ≡ y - m + n
      counts x m n y z = omega arith

  pub part_cut : UpidCut upid_type_number top (suc i) k new b
  part_cut =
      record {
        prior = old_prior;
        fixed = new_prior;
        rest = R;
        old = ap (λ (l : List ℕ). upid_type_number ∷ (length top ∷ l)) top_is;
        then = ap (λ (l : List ℕ). upid_type_number ∷ (length b ∷ l)) then_is;
        place = prior_long (length top) (length bs);
        size = prior_long (length b) (length new) ∙ sym (prior_long (length top) (length bs));
        stays = part_stays;
        fits = omega (arith, length-take p.len (drop p.start top), length-drop p.start top);
        long = long_is;
        lengths = part_lengths;
      }

pub upid_cut : (upid_type_number : ℕ) (top : List ℕ) (part k : ℕ) (new b : List ℕ) → upid_made upid_type_number top part k new ≡ made b → UpidCut upid_type_number top part k new b
upid_cut upid_type_number top zero k new b e =
    let x = the_upid_itself upid_type_number top k new b e in
    record {
      prior = [];
      fixed = [];
      rest = [];
      old = ap (λ (l : List ℕ). upid_type_number ∷ (length top ∷ l)) (sym (append-nil top));
      then = ap (λ (l : List ℕ). k ∷ (length l ∷ l)) x.0 ∙ ap (λ (l : List ℕ). k ∷ (length new ∷ l)) (sym (append-nil new));
      place = refl;
      size = refl;
      stays = λ j h. refl;
      fits = omega arith;
      long = ap length x.0 ∙ omega arith;
      lengths = none;
    }
upid_cut upid_type_number top (suc i) k new b e = part_cut upid_type_number top i k new b e
