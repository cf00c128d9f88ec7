-- An accepted MID as a tree of parts, and what its records say of it.
--     grow         an accepted MID is a tree's bytes, and its list of parts that tree's records
--     top_piece, inner_pieces    the top MID, and each MID inside it, is cut into its direct parts
--     announced, shallow           each record has a head before it, and is not too deep
use Prim.Native.Nat.{ℕ, zero, suc, ◌+◌, ◌*◌, ◌-◌, ◌≤◌, ◌<◌}
use mathlib.Core.Path.{◌≡◌, refl, sym, ap, ◌∙◌}
use mathlib.Core.Bool.{Bool, true, false, and-false, cond as pick}
use mathlib.Core.List.Memᴰ
use mathlib.Core.List.{List, [], ◌∷◌, ◌++◌, append_assoc, append-nil, Memᴰ}
use native.Mathlib.Omega.{arith}
use lib.Dec.{eqb}
use lib.ListN.{length, take, drop, get_or, length-append, length-take, length-drop, take-append-drop}
use lib.Seq.{take-length, take-append_seam, get_or-drop}
use borrow.Author.Tests.{lt-ltb, le-ltb, le-leb, lt-leb, eq-eqb, ne_eqb, eqb-true, eqb-false}
use Rattle.upid.specs.Private.{Accepted, Announced}
use Rattle.upid.specs.Upid.{read_of, list_of, reported_of}
use Rattle.upid.specs.Cover.{All, none, more, Ascending, nothing, before, Owned, Cut, joined, placed, top_part, bytes_of, directly, direct_of}
use Rattle.upid.specs.declared.Part.{Part}
use Rattle.upid.proofs.Laws.{read_one, read_more, list_nil, list_more, list_plain, list_mid, accepted_mid, then_both, by_cases}
use Rattle.upid.proofs.Cutting.{length_joined, after_head, after_part_lem}

-- ---- parts side by side, each with those inside it

pub data Forest : Type 0 where
  no_tree : Forest
  part : (k : ℕ) (payload : List ℕ) (inner after : Forest) → Forest

-- the direct parts
abbrev pub cuts : Forest → List Cut
cuts no_tree = []
cuts (part k p i a) = record { upid_type = k; payload = p } ∷ cuts a

-- the record of a part whose head is at `start`
abbrev pub recorded : ℕ → ℕ → ℕ → List ℕ → Part
recorded level start k p = record { upid_type = reported_of k; level = level; start = start + 2; len = length p }

abbrev pub records : ℕ → ℕ → Forest → List Part
records level start no_tree = []
records level start (part k p i a) =
    recorded level start k p
    ∷ (records (level + 1) (start + 2) i ++ records level (start + (2 + length p)) a)

-- what is inside a part lies in its payload: all of it in a MID, and nothing in any other part
pub record Holds (k : ℕ) (p : List ℕ) (i : Forest) : Type 0 where
  pub spare : List ℕ
  pub inside : p ≡ joined (cuts i) ++ spare
  pub mid : k ≡ 13 → spare ≡ []
  pub plain : (k ≡ 13 → ⊥) → i ≡ no_tree

abbrev pub Grown : Forest → Type 0
Grown no_tree = Unit {0}
Grown (part k p i a) = Holds k p i × Grown i × Grown a

abbrev pub Tree : ℕ → ℕ → List ℕ → List Part → Type 0
Tree level start bytes ps = (f : Forest) × Grown f × (joined (cuts f) ≡ bytes) × (ps ≡ records level start f)

grow_more : (level start k l : ℕ) (rest : List ℕ) → l ≤ length rest
    → (k ≡ 13 → Tree (level + 1) (start + 2) (take l rest) (list_of 13 (level + 1) (start + 2) (take l rest)))
    → Tree level (start + (2 + l)) (drop l rest) (list_of 13 level (start + (2 + l)) (drop l rest))
    → Tree level start (k ∷ (l ∷ rest)) (list_of 13 level start (k ∷ (l ∷ rest)))
unfolding joined
grow_more level start k l rest h inner after = go (eqb k 13) refl
  where
    m : length (take l rest) ≡ l
    m = omega (arith, length-take l rest)

    build : (i : Forest) → Holds k (take l rest) i → Grown i
        → list_of k (level + 1) (start + 2) (take l rest) ≡ records (level + 1) (start + 2) i
        → Tree level start (k ∷ (l ∷ rest)) (list_of 13 level start (k ∷ (l ∷ rest)))
    build i o g r = (
      part k (take l rest) i after.0,
      (o, g, after.1),
      rw (m, after.2, take-append-drop),
      rw (list_more, r, after.3, m),
    )

    go : (t : Bool) → eqb k 13 ≡ t → Tree level start (k ∷ (l ∷ rest)) (list_of 13 level start (k ∷ (l ∷ rest)))
    go true e =
        let h13 : k ≡ 13 = eqb-true k 13 e in
        let (f, g, j, r) = inner h13 in
        let overall : take l rest ≡ joined (cuts f) ++ [] = sym j ∙ sym (append-nil (joined (cuts f))) in
        build f (record { spare = []; inside = overall; mid = λ _. refl; plain = λ no. absurd (no h13) }) g (list_mid k _ _ _ h13 ∙ r)
    go false e =
        let no : k ≡ 13 → ⊥ = eqb-false k 13 e in
        build no_tree (record { spare = take l rest; inside = refl; mid = λ h13. absurd (no h13); plain = λ _. refl }) tt (list_plain k _ _ _ no)

pub grow : (n level start : ℕ) (bytes : List ℕ) → length bytes ≤ n → Accepted (read_of 13 start bytes) → Tree level start bytes (list_of 13 level start bytes)
unfolding joined
grow zero level start [] h a = (no_tree, tt, refl, list_nil level start)
grow zero level start (k ∷ rest) h a = absurd (omega arith)
grow (suc n) level start [] h a = (no_tree, tt, refl, list_nil level start)
grow (suc n) level start (k ∷ []) h a = absurd (rw read_one at a)
grow (suc n) level start (k ∷ (l ∷ rest)) h a =
    by_cases (length rest) l
    (λ short. absurd (rw (read_more start k l rest, lt-ltb _ _ short) at a))
    (λ present.
    let both : Accepted (read_of k (start + 2) (take l rest)) × Accepted (read_of 13 (start + (2 + l)) (drop l rest)) =
    then_both _ _ (rw (read_more start k l rest, le-ltb _ _ present) at a) in
    grow_more level start k l rest present
    (λ e. grow n (level + 1) (start + 2) (take l rest) (omega (arith, length-take l rest)) (accepted_mid _ _ _ e both.0))
    (grow n level (start + (2 + l)) (drop l rest) (omega (arith, length-drop l rest)) both.1))

-- ---- every one of these

pub all_append : {A : Type 0} {P : A → Type 0} {xs ys : List A} → All P xs → All P ys → All P (xs ++ ys)
all_append none hy = hy
all_append (more h hx) hy = more h (all_append hx hy)

pub all_map : {A : Type 0} {P Q : A → Type 0} {xs : List A} → ((x : A) → P x → Q x) → All P xs → All Q xs
all_map f none = none
all_map f (more h hs) = more (f _ h) (all_map f hs)

both_all : {A : Type 0} {P Q R : A → Type 0} {xs : List A} → ((x : A) → P x → Q x → R x) → All P xs → All Q xs → All R xs
both_all f none q = none
both_all f (more p ps) (more q qs) = more (f _ p q) (both_all f ps qs)

-- ---- where a forest's records lie

unfoldable pub size : Forest → ℕ
size f = length (joined (cuts f))

inside_size : (p s : List ℕ) (i : Forest) → p ≡ joined (cuts i) ++ s → size i ≤ length p
unfolding size
inside_size p s i e = rw e (omega (arith, length-append (joined (cuts i)) s))

part_size : (k : ℕ) (p : List ℕ) (i a : Forest) → size (part k p i a) ≡ 2 + (length p + size a)
unfolding size
part_size k p i a = length_joined (record { upid_type = k; payload = p }) (cuts a)

pub record Within (level low high : ℕ) (q : Part) : Type 0 where
  pub deep : level ≤ q.level
  pub from : low + 2 ≤ q.start
  pub to : q.start + q.len ≤ high

within : (f : Forest) (level start lv low high : ℕ) → Grown f → lv ≤ level → low ≤ start → start + size f ≤ high → All (Within lv low high) (records level start f)
within no_tree level start lv low high g d l h = none
within (part k p i a) level start lv low high g d l h =
    let s = inside_size p g.0.spare i g.0.inside in
    let n = part_size k p i a in
    more {x = recorded level start k p} (record { deep = d; from = omega arith; to = omega arith })
    (all_append
    (within i (level + 1) (start + 2) lv low high g.1 (omega arith) (omega arith) (omega arith))
    (within a level (start + (2 + length p)) lv low high g.2 d (omega arith) (omega arith)))

-- ---- the direct parts of a MID among the records

direct_append : (m : Part) (xs ys : List Part) → direct_of m (xs ++ ys) ≡ direct_of m xs ++ direct_of m ys
unfolding direct_of
direct_append m [] ys = refl
direct_append m (x ∷ xs) ys = go (directly m x) (direct_append m xs ys)
  where
    go : (t : Bool) → direct_of m (xs ++ ys) ≡ direct_of m xs ++ direct_of m ys
        → pick t (x ∷ direct_of m (xs ++ ys)) (direct_of m (xs ++ ys)) ≡ pick t (x ∷ direct_of m xs) (direct_of m xs) ++ direct_of m ys
    go true e = rw e
    go false e = e

-- q is a direct part of m; or it is none: by its level, since it lies before m's first part, or since it ends past m
module _ (m q : Part) where
  pub in_place : q.level ≡ m.level + 1 → m.start + 2 ≤ q.start → q.start + q.len ≤ m.start + m.len → directly m q ≡ true
  unfolding directly
  in_place d l h = rw (eq-eqb _ _ d, le-leb _ _ l, le-leb _ _ h)

  pub other_level : (q.level ≡ m.level + 1 → ⊥) → directly m q ≡ false
  unfolding directly
  other_level h = rw (ne_eqb _ _ h)

  pub too_early : q.start < m.start + 2 → directly m q ≡ false
  unfolding directly
  too_early h = rw (lt-leb _ _ h, and-false)

  pub too_late : m.start + m.len < q.start + q.len → directly m q ≡ false
  unfolding directly
  too_late h = rw (lt-leb _ _ h, and-false)

apart : (m : Part) {qs : List Part} → All (λ (q : Part). directly m q ≡ false) qs → direct_of m qs ≡ []
unfolding direct_of
apart m none = refl
apart m (more h hs) = rw h (apart m hs)

-- the pieces of the MID m are found among the records of its forest
direct_placed : (f : Forest) (level start : ℕ) (m : Part) → Grown f → level ≡ m.level + 1 → m.start ≤ start → start + size f ≤ m.start + m.len
    → direct_of m (records level start f) ≡ placed level start (cuts f)
unfolding direct_of placed
direct_placed no_tree level start m g d l h = refl
direct_placed (part k p i a) level start m g d l h =
    let s = inside_size p g.0.spare i g.0.inside in
    let n = part_size k p i a in
    let one : directly m (recorded level start k p) ≡ true = in_place m _ d (omega arith) (omega arith) in
    let inner : direct_of m (records (level + 1) (start + 2) i) ≡ [] =
    apart m (all_map (λ q w. other_level m q (omega (arith, w.deep))) (within i (level + 1) (start + 2) (level + 1) (start + 2) (start + 2 + size i) g.1 (omega arith) (omega arith) (omega arith))) in
    rw (one, direct_append m (records (level + 1) (start + 2) i) (records level (start + (2 + length p)) a), inner, direct_placed a level (start + (2 + length p)) m g.2 d (omega arith) (omega arith))

-- ---- each MID is cut into its direct parts

-- the MID m, whose direct parts are among ps
pub record Piece (top : List ℕ) (ps : List Part) (m : Part) : Type 0 where
  pub cutting : List Cut
  pub joins : joined cutting ≡ bytes_of top m
  pub size : length (joined cutting) ≡ m.len
  pub pieces : direct_of m ps ≡ placed (m.level + 1) m.start cutting

among : {top : List ℕ} {ps qs : List Part} {m : Part} → direct_of m qs ≡ direct_of m ps → Piece top ps m → Piece top qs m
among e h = record { cutting = h.cutting; joins = h.joins; size = h.size; pieces = e ∙ h.pieces }

pub reported_mid : (k : ℕ) → reported_of k ≡ 13 → k ≡ 13
unfolding reported_of
reported_mid k = go (eqb k 5)
  where
    go : (t : Bool) → pick t 6 k ≡ 13 → k ≡ 13
    go true e = absurd (omega arith)
    go false e = e

-- a part with the records inside it and those after it
module _ (top : List ℕ) (level start k : ℕ) (p : List ℕ) (i a : Forest) (g : Grown (part k p i a)) (rest : List ℕ)
    (here : drop start top ≡ k ∷ (length p ∷ (p ++ (joined (cuts a) ++ rest)))) where
  one : Part
  one = recorded level start k p

  inner : List Part
  inner = records (level + 1) (start + 2) i

  after : List Part
  after = records level (start + (2 + length p)) a

  all : List Part
  all = one ∷ (inner ++ after)

  inner_within : All (Within (level + 1) (start + 2) (start + 2 + length p)) inner
  unfolding inner
  inner_within = within i (level + 1) (start + 2) (level + 1) (start + 2) (start + 2 + length p) g.1 (omega arith) (omega arith) (omega (arith, inside_size p g.0.spare i g.0.inside))

  after_within : All (Within level (start + (2 + length p)) (start + (2 + length p) + size a)) after
  unfolding after
  after_within = within a level (start + (2 + length p)) level (start + (2 + length p)) (start + (2 + length p) + size a) g.2 (omega arith) (omega arith) (omega arith)

  split : (m : Part) → (level ≡ m.level + 1 → ⊥) → direct_of m all ≡ direct_of m inner ++ direct_of m after
  unfolding direct_of one all
  split m h = rw (other_level m one h) (direct_append m inner after)

  one_piece : one.upid_type ≡ 13 → Piece top all one
  unfolding one inner
  one_piece e =
      let e13 : k ≡ 13 = reported_mid k e in
      let ep : p ≡ joined (cuts i) = g.0.inside ∙ rw (g.0.mid e13) (append-nil (joined (cuts i))) in
      let own : direct_of one inner ≡ placed (level + 1) (start + 2) (cuts i) =
      direct_placed i (level + 1) (start + 2) one g.1 refl (omega arith) (omega (arith, inside_size p g.0.spare i g.0.inside)) in
      let others : direct_of one after ≡ [] = apart one (all_map (λ q w. too_late one q (omega (arith, w.from))) after_within) in
      record {
        cutting = cuts i;
        joins = sym ep ∙ rw (after_head top start _ _ _ here) (sym (take-append_seam p (joined (cuts a) ++ rest)));
        size = ap length (sym ep);
        pieces = split one (omega arith) ∙ rw (own, others) (append-nil _);
      }

  inner_among : (m : Part) → Within (level + 1) (start + 2) (start + 2 + length p) m → (m.upid_type ≡ 13 → Piece top inner m) → m.upid_type ≡ 13 → Piece top all m
  inner_among m w h e =
      let others : direct_of m after ≡ [] = apart m (all_map (λ q v. too_late m q (omega (arith, w.to, v.from))) after_within) in
      among (split m (omega (arith, w.deep)) ∙ rw others (append-nil _)) (h e)

  after_among : (m : Part) → Within level (start + (2 + length p)) (start + (2 + length p) + size a) m → (m.upid_type ≡ 13 → Piece top after m) → m.upid_type ≡ 13 → Piece top all m
  after_among m w h e =
      let others : direct_of m inner ≡ [] = apart m (all_map (λ q v. too_early m q (omega (arith, w.from, v.to))) inner_within) in
      among (split m (omega (arith, w.deep)) ∙ rw others) (h e)

  pieces_part : All (λ (m : Part). m.upid_type ≡ 13 → Piece top inner m) inner → All (λ (m : Part). m.upid_type ≡ 13 → Piece top after m) after → All (λ (m : Part). m.upid_type ≡ 13 → Piece top all m) all
  unfolding all
  pieces_part hi ha = more one_piece (all_append (both_all inner_among inner_within hi) (both_all after_among after_within ha))

  -- where the bytes inside the part, and those after it, lie
  inner_here : drop (start + 2) top ≡ joined (cuts i) ++ (g.0.spare ++ (joined (cuts a) ++ rest))
  inner_here = after_head top start _ _ _ here ∙ rw (g.0.inside, append_assoc)

  after_here : drop (start + (2 + length p)) top ≡ joined (cuts a) ++ rest
  after_here = after_part_lem top start _ _ p (joined (cuts a) ++ rest) here

  one_announced : Announced top one
  unfolding one
  one_announced =
      let n : length top - start ≡ 2 + (length p + length (joined (cuts a) ++ rest)) =
      sym (length-drop start top) ∙ rw here (omega (arith, length-append p (joined (cuts a) ++ rest))) in
      let k0 : get_or top (start + 0) 0 ≡ k = sym (get_or-drop start top 0 0) ∙ rw here in
      let l0 : get_or top (start + 1) 0 ≡ length p = sym (get_or-drop start top 1 0) ∙ rw here in
      let ek : start + 2 - 2 ≡ start + 0 = omega arith in
      let el : start + 2 - 1 ≡ start + 1 = omega arith in
      record {
        upid_type = rw (ek, k0);
        len = rw (el, l0);
        behind = omega arith;
        inside = omega arith;
      }

start_here : (top : List ℕ) (start k : ℕ) (p s rest : List ℕ) → drop start top ≡ (k ∷ (length p ∷ (p ++ s))) ++ rest → drop start top ≡ k ∷ (length p ∷ (p ++ (s ++ rest)))
start_here top start k p s rest e = e ∙ rw append_assoc

pub inner_pieces : (top : List ℕ) (f : Forest) (level start : ℕ) (rest : List ℕ) → Grown f → drop start top ≡ joined (cuts f) ++ rest
    → All (λ (m : Part). m.upid_type ≡ 13 → Piece top (records level start f) m) (records level start f)
unfolding joined inner after all one
inner_pieces top no_tree level start rest g e = none
inner_pieces top (part k p i a) level start rest g e =
    let h = start_here top start k p (joined (cuts a)) rest e in
    pieces_part top level start k p i a g rest h
    (inner_pieces top i (level + 1) (start + 2) _ g.1 (inner_here top level start k p i a g rest h))
    (inner_pieces top a level (start + (2 + length p)) rest g.2 (after_here top level start k p i a g rest h))

pub announced : (top : List ℕ) (f : Forest) (level start : ℕ) (rest : List ℕ) → Grown f → drop start top ≡ joined (cuts f) ++ rest
    → All (Announced top) (records level start f)
unfolding joined one
announced top no_tree level start rest g e = none
announced top (part k p i a) level start rest g e =
    let h = start_here top start k p (joined (cuts a)) rest e in
    more (one_announced top level start k p i a g rest h)
    (all_append
    (announced top i (level + 1) (start + 2) _ g.1 (inner_here top level start k p i a g rest h))
    (announced top a level (start + (2 + length p)) rest g.2 (after_here top level start k p i a g rest h)))

-- two bytes of head for each level
pub shallow : (f : Forest) (level start low high : ℕ) → Grown f → low ≤ level → 2 * level + size f ≤ high
    → All (λ (q : Part). (low ≤ q.level) × (2 * q.level + 2 ≤ high)) (records level start f)
shallow no_tree level start low high g l h = none
shallow (part k p i a) level start low high g l h =
    let s = inside_size p g.0.spare i g.0.inside in
    let n = part_size k p i a in
    more {x = recorded level start k p} (l, omega arith)
    (all_append
    (shallow i (level + 1) (start + 2) low high g.1 (omega arith) (omega arith))
    (shallow a level (start + (2 + length p)) low high g.2 l (omega arith)))

-- the top MID
pub top_piece : (f : Forest) → Grown f → Piece (joined (cuts f)) (records 1 0 f) (top_part (joined (cuts f)))
unfolding size
top_piece f g =
    record {
      cutting = cuts f;
      joins = sym (take-length (joined (cuts f)));
      size = refl;
      pieces = direct_placed f 1 0 (top_part (joined (cuts f))) g refl (omega arith) (omega arith);
    }

-- ---- each record follows those before it, and has a MID that it is a direct part of

ascending_append : {xs ys : List Part} → Ascending xs → Ascending ys → All (λ (x : Part). All (λ (y : Part). x.start < y.start) ys) xs → Ascending (xs ++ ys)
ascending_append nothing hy h = hy
ascending_append (before x xs) hy (more h hs) = before (all_append x h) (ascending_append xs hy hs)

pub ascending : (f : Forest) (level start : ℕ) → Grown f → Ascending (records level start f)
ascending no_tree level start g = nothing
ascending (part k p i a) level start g =
    let s = inside_size p g.0.spare i g.0.inside in
    let inner = within i (level + 1) (start + 2) (level + 1) (start + 2) (start + 2 + length p) g.1 (omega arith) (omega arith) (omega arith) in
    let after = within a level (start + (2 + length p)) level (start + (2 + length p)) (start + (2 + length p) + size a) g.2 (omega arith) (omega arith) (omega arith) in
    before {p = recorded level start k p}
    (all_append (all_map (λ q w. omega (arith, w.from)) inner) (all_map (λ q w. omega (arith, w.from)) after))
    (ascending_append (ascending i (level + 1) (start + 2) g.1) (ascending a level (start + (2 + length p)) g.2)
    (all_map (λ x w. all_map (λ y v. omega (arith, w.to, v.from)) after) inner))

owned_among : {qs rs : List Part} {p : Part} → ((m : Part) → Memᴰ m qs → Memᴰ m rs) → Owned qs p → Owned rs p
owned_among f o = record { mid = o.mid; found = f o.mid o.found; upid_type = o.upid_type; direct = o.direct }

mid_reported : (k : ℕ) → k ≡ 13 → reported_of k ≡ 13
unfolding reported_of
mid_reported k e = rw e

-- only a MID has parts inside it
owned_inside : (k : ℕ) (p : List ℕ) (i : Forest) (level start : ℕ) (m : Part) → Holds k p i
    → (k ≡ 13 → All (Owned (m ∷ records level start i)) (records level start i)) → All (Owned (m ∷ records level start i)) (records level start i)
owned_inside k p i level start m o h = go (eqb k 13) refl
  where
    go : (t : Bool) → eqb k 13 ≡ t → All (Owned (m ∷ records level start i)) (records level start i)
    go true e = h (eqb-true k 13 e)
    go false e = rw (o.plain (eqb-false k 13 e)) none

module _ (m one : Part) (inner after : List Part) where
  under_one : (q : Part) → Memᴰ q (one ∷ inner) → Memᴰ q (m ∷ (one ∷ (inner ++ after)))
  under_one q (Memᴰ.head e) = Memᴰ.tail (Memᴰ.head e)
  under_one q (Memᴰ.tail x) = Memᴰ.tail (Memᴰ.tail (Memᴰ.append_left after x))

  after_one : (q : Part) → Memᴰ q (m ∷ after) → Memᴰ q (m ∷ (one ∷ (inner ++ after)))
  after_one q (Memᴰ.head e) = Memᴰ.head e
  after_one q (Memᴰ.tail x) = Memᴰ.tail (Memᴰ.tail (Memᴰ.append_right inner x))

pub owned : (f : Forest) (level start : ℕ) (m : Part) → Grown f → m.upid_type ≡ 13 → level ≡ m.level + 1 → m.start ≤ start → start + size f ≤ m.start + m.len
    → All (Owned (m ∷ records level start f)) (records level start f)
owned no_tree level start m g e d l h = none
owned (part k p i a) level start m g e d l h =
    let s = inside_size p g.0.spare i g.0.inside in
    let n = part_size k p i a in
    let here : Part = recorded level start k p in
    let inner = owned_inside k p i (level + 1) (start + 2) here g.0 (λ e13. owned i (level + 1) (start + 2) here g.1 (mid_reported k e13) refl (omega arith) (omega arith)) in
    let after = owned a level (start + (2 + length p)) m g.2 e d (omega arith) (omega arith) in
    more {x = here}
    (record { mid = m; found = Memᴰ.head refl; upid_type = e; direct = in_place m here d (omega arith) (omega arith) })
    (all_append (all_map (λ q. owned_among (under_one m here _ _)) inner) (all_map (λ q. owned_among (after_one m here (records (level + 1) (start + 2) i) _)) after))
