-- The stores of a replaced part, one after the other.
use Prim.Native.Nat.{ℕ, zero, suc, ◌+◌, ◌-◌, ◌≤◌, ◌<◌}
use mathlib.Core.Path.{◌≡◌, refl, sym, ap, ap₂, subst, ◌∙◌}
use mathlib.Core.Bool.{true, false}
use mathlib.Core.List.{List, [], ◌∷◌, ◌++◌, append_assoc}
use native.Mathlib.Omega.{arith}
use lib.ListN.{length, take, drop, get_or, set, length-append, length-take, length-drop}
use lib.Seq.{take_all}
use borrow.Author.Tests.{leb-true, le-leb, lt-leb}
use Rattle.table.specs.Lent.{stored}
use Rattle.table.specs.Writing.{made, refused}
use Rattle.table.proofs.Lists.{zero_one}
use Rattle.table.proofs.Stores.{stored_fits, stored_append}
use Rattle.upid.specs.Cover.{All, none, more, Cut}
use Rattle.upid.specs.Upid.{read_of, check_of, list_of, upid_of, parts_in, blank_part}
use Rattle.upid.specs.Private.{Accepted}
use Rattle.upid.specs.declared.Part.{Part}
use Rattle.upid.proofs.Answers.{parts_of_mid}
use Rattle.upid.proofs.Laws.{by_cases}
use Rattle.upid.proofs.Tree.{all_append, all_map}
use Rattle.upid.proofs.Walks.{check_mid, check_short}
use Rattle.relabel_upid.specs.Hole.{Hole, here, inside, past, filled}
use Rattle.relabel_upid.specs.Relabel.{instead, around, mended, spliced, part_at, replaced_in, taken, top_made, part_made, upid_made}
use Rattle.relabel_upid.specs.Private.{heads, nth, next_head, Walkable, Mends, Mendable, Ahead, Storable}
use Rattle.relabel_upid.proofs.Answers.{part_is, take_is, taken_accepted, has_parts}
use Rattle.relabel_upid.proofs.Holes.{start_at, recorded, before, AcceptedBeside, Found, find, length_prior, length_filled}
use Rattle.relabel_upid.proofs.Places.{lies_in_lem, spot}
use Rattle.relabel_upid.proofs.Heads.{Rest, not_yet, told, complete, onward}
use Rattle.relabel_upid.proofs.Turns.{mends_one, mended_on, mended_off, mended_length, mended_append, top_none, top_refused, part_none, part_long, part_unfit, part_made_lem}
use Rattle.std.proofs.Common.{Ok, Err, Result}
use Rattle.upid.specs.declared.Refusal.{Refusal}

-- ---- where the parts before a part lie

abbrev pub Early : ℕ → ℕ → Part → Type 0
Early start high q = (2 ≤ q.start) × (q.start + 2 ≤ start) × (q.start + q.len ≤ high)

early : (c : Cut) (level start high : ℕ) (h : Hole) → AcceptedBeside h → start + length (filled h c) ≤ high → All (Early (start_at start h + 2) high) (before c level start h)
unfolding filled
early c level start high (here a) f l = none
early c level start high (inside h a) f l =
    more {x = recorded level start (record { upid_type = 13; payload = filled h c })}
    (omega arith, omega (arith, length_prior c (start + 2) h), omega (arith, length-append (filled h c) a))
    (early c (level + 1) (start + 2) high h f.0 (omega (arith, length-append (filled h c) a)))
early c level start high (past d h) f l =
    let n = length-append d.payload (filled h c) in
    all_append
    (all_map (λ q x. (omega arith, omega (arith, length_prior c (start + (2 + length d.payload)) h), omega arith)) (lies_in_lem level start d f.0))
    (early c level (start + (2 + length d.payload)) high h f.1 (omega arith))

-- a part of an accepted MID, and those before it
abbrev pub Placed : List ℕ → List Part → ℕ → Type 0
Placed top ps i =
    (2 ≤ (part_at ps i).start) × ((part_at ps i).start + (part_at ps i).len ≤ length top) × All (Early (part_at ps i).start (length top)) (take i ps)

placed_filled : (c : Cut) (h : Hole) → AcceptedBeside h → Placed (filled h c) (list_of 13 1 0 (filled h c)) (length (before c 1 0 h))
placed_filled c h f =
    let p : Part = spot c 1 0 h in
    let x : (2 ≤ p.start) × (p.start + p.len ≤ length (filled h c)) × All (Early p.start (length (filled h c))) (before c 1 0 h) =
    (omega arith, omega (arith, length_filled c 0 h), early c 1 0 (length (filled h c)) h f (omega arith)) in
    let y : (2 ≤ p.start) × (p.start + p.len ≤ length (filled h c)) × All (Early p.start (length (filled h c))) (take (length (before c 1 0 h)) (list_of 13 1 0 (filled h c))) =
    subst (λ (qs : List Part). (2 ≤ p.start) × (p.start + p.len ≤ length (filled h c)) × All (Early p.start (length (filled h c))) qs) (sym (take_is c h)) x in
    subst (λ (q : Part). (2 ≤ q.start) × (q.start + q.len ≤ length (filled h c)) × All (Early q.start (length (filled h c))) (take (length (before c 1 0 h)) (list_of 13 1 0 (filled h c)))) (sym (part_is c h)) y

placed : (top : List ℕ) (i : ℕ) → Accepted (read_of 13 0 top) → i < length (list_of 13 1 0 top) → Placed top (list_of 13 1 0 top) i
placed top i a hi =
    let x : Found 1 0 i top = find (length top) 1 0 i top (omega arith) a hi in
    let c : Cut = x.part in
    let h : Hole = x.hole in
    subst (λ (s : List ℕ). Placed s (list_of 13 1 0 s) i) x.is
    (subst (λ (j : ℕ). Placed (filled h c) (list_of 13 1 0 (filled h c)) j) x.count (placed_filled c h x.accepted))

-- of the parts that are read
pub placed_read : (upid_type_number : ℕ) (top : List ℕ) (i : ℕ) → i < length (parts_in (upid_of upid_type_number top)) → Placed top (parts_in (upid_of upid_type_number top)) i
placed_read upid_type_number top i there =
    let h = has_parts upid_type_number top i there in
    let mid : upid_type_number ≡ 13 = h.0 in
    let a : Accepted (check_of 13 top) = subst (λ (k : ℕ). Accepted (check_of k top)) mid h.1 in
    let e : parts_in (upid_of upid_type_number top) ≡ list_of 13 1 0 top = ap (λ (k : ℕ). parts_in (upid_of k top)) mid ∙ parts_of_mid top a in
    subst (λ (ps : List Part). Placed top ps i) (sym e) (placed top i (check_mid top a) (subst (λ (ps : List Part). i < length ps) e there))

ahead : (p : Part) (n high : ℕ) (q : Part) → p.len ≤ high → high - p.len + n ≤ 255 → Early p.start high q → Ahead p n q
unfolding around
ahead p n high q l h e =
    record {
      behind = e.0;
      before = e.1;
      counts = λ t. let r : p.start + p.len ≤ q.start + q.len = leb-true (p.start + p.len) (q.start + q.len) t in (omega arith, omega arith);
    }

pub mendable : (top : List ℕ) (i head end old : ℕ) (new target later : List ℕ) → Storable top i head new target → old ≡ get_or top (head + 1) 0 → end ≡ head + 2 + old
    → length later ≡ length target → Mendable top i end old (length new) later
mendable top i head end old new target later s eo ee e =
    record {
      walk = s.walk;
      there = s.there;
      ends = omega (arith, s.starts, s.has);
      has = eo ∙ sym s.has;
      new = s.short;
      each = all_map (λ q a. record { behind = a.behind; before = omega (arith, a.before, s.inside, s.room); counts = a.counts }) s.each;
    }

-- ---- a turn of the walk that mends the heads
module _ (s : List ℕ) (i end old n behind at : ℕ) (target₀ : List ℕ) (m : Mendable s i end old n target₀) (more : behind < i)
    (r : Rest at (drop at s) (drop behind (heads s))) where
  not_done : at < length s
  not_done = not_yet s behind at r (omega (arith, m.there))

  abbrev one : Part
  one = nth s behind

  one_told : (one.start ≡ at + 2) × (one.len ≡ get_or s (at + 1) 0) × (behind < length (heads s))
  one_told = told s behind at r not_done

  one_mends : Mends (nth s i) n target₀ one
  one_mends = mends_one (heads s) i behind (nth s i) n (omega arith) (omega (arith, m.there)) target₀ m.each

  pub head_complete : (at + 2 + get_or s (at + 1) 0 ≤ length s) × (at + 2 ≤ length target₀)
  head_complete = ((complete s behind at r not_done).0, omega (arith, one_mends.before, one_told.0))

  pub next_ahead : (to : ℕ) → to ≡ next_head s at → Rest to (drop to s) (drop (behind + 1) (heads s))
  next_ahead to e = onward s behind at r not_done to e

  module _ (l : ℕ) (el : l ≡ get_or s (at + 1) 0) where
    is_around : end ≤ at + 2 + l → around (nth s i) one ≡ true
    unfolding around
    is_around t = le-leb ((nth s i).start + (nth s i).len) (one.start + one.len) (omega (arith, m.ends, one_told.0, one_told.1))

    not_around : at + 2 + l < end → around (nth s i) one ≡ false
    unfolding around
    not_around t = lt-leb ((nth s i).start + (nth s i).len) (one.start + one.len) (omega (arith, m.ends, one_told.0, one_told.1))

    pub counts : end ≤ at + 2 + l → (old ≤ l) × (l - old + n ≤ 255)
    counts t =
        let x = one_mends.counts (is_around t) in
        (omega (arith, x.0, m.has, one_told.1), omega (arith, x.1, m.has, one_told.1))

    pub mends_it : (target later : List ℕ) (v : ℕ) → end ≤ at + 2 + l → v ≡ l - old + n → later ≡ set target (at + 1) v
        → mended (nth s i) n (drop (behind + 1) (take i (heads s))) later ≡ mended (nth s i) n (drop behind (take i (heads s))) target
    mends_it target later v t ev e =
        let z : at + 1 ≡ at + 2 - 1 = omega arith in
        let w : l - old + n ≡ instead (nth s i) n one.len = omega (arith, m.has, one_told.1) in
        mended_on (heads s) i behind (nth s i) n (omega arith) (omega (arith, m.there)) target later v (at + 2) (is_around t) (sym one_told.0) (ev ∙ w)
        (e ∙ ap (λ (x : ℕ). set target x v) z)

    pub keeps_it : (target later : List ℕ) → at + 2 + l < end → later ≡ target
        → mended (nth s i) n (drop (behind + 1) (take i (heads s))) later ≡ mended (nth s i) n (drop behind (take i (heads s))) target
    keeps_it target later t e =
        mended_off (heads s) i behind (nth s i) n (omega arith) (omega (arith, m.there)) target later (not_around t) e

-- ---- the stores

module _ (t prior : List ℕ) (p : Part) (n : ℕ) (qs : List Part) (fits : length prior ≤ length t) (each : All (λ (q : Part). (2 ≤ q.start) × (q.start ≤ length prior)) qs) where
  mended_stored : mended p n qs (stored t 0 prior) ≡ stored t 0 (mended p n qs prior)
  mended_stored =
      let l : length (mended p n qs prior) ≡ length prior = mended_length p n qs prior in
      ap (mended p n qs) (stored_fits t 0 prior (omega arith))
      ∙ mended_append p n qs prior (drop (0 + length prior) t) each
      ∙ ap (λ (m : ℕ). mended p n qs prior ++ drop (0 + m) t) (sym l)
      ∙ sym (stored_fits t 0 (mended p n qs prior) (omega arith))

-- the parts of a slice that the code lends
pub prior_slice : (h : ℕ) (s : List ℕ) → take (h - 0) s ≡ take h s
prior_slice h s = let e : h - 0 ≡ h = omega arith in ap (λ (n : ℕ). take n s) e

pub back_slice : (e : ℕ) (s : List ℕ) → take (length s - e) (drop e s) ≡ drop e s
back_slice e s = take_all (length s - e) (drop e s) (omega (arith, length-drop e s))

-- one store behind another, from the target's first byte on
behind : (t prior b later : List ℕ) (at : ℕ) → at ≡ length prior → length prior + length b ≤ length t → later ≡ stored (stored t 0 prior) at b → later ≡ stored t 0 (prior ++ b)
behind t prior b later at e fits h =
    let z : at ≡ 0 + length prior = omega arith in
    h ∙ ap (λ (m : ℕ). stored (stored t 0 prior) m b) z ∙ stored_append t 0 prior b (omega arith)

pub store_all : (top : List ℕ) (i k : ℕ) (new t t1 t2 t3 t4 t5 t6 : List ℕ) (prior back : List ℕ) (head start end : ℕ) → Storable top i head new t
    → start ≡ head + 2 → end ≡ (nth top i).start + (nth top i).len → prior ≡ take head top → back ≡ drop end top
    → t1 ≡ stored t 0 prior → t2 ≡ mended (nth top i) (length new) (take i (heads top)) t1
    → t3 ≡ stored t2 head (k ∷ []) → t4 ≡ stored t3 (head + 1) (length new ∷ []) → t5 ≡ stored t4 start new → t6 ≡ stored t5 (start + length new) back
    → t6 ≡ stored t 0 (spliced top (take i (heads top)) (nth top i) k new)
unfolding spliced
store_all top i k new t t1 t2 t3 t4 t5 t6 front₀ back₀ head start end s es ee ef eb e1 e2 e3 e4 e5 e6 =
    let n : ℕ = length new in
    let p : Part = nth top i in
    let qs : List Part = take i (heads top) in
    let eh : head ≡ p.start - 2 = omega (arith, s.starts) in
    let prior : List ℕ = take head top in
    let lf : length prior ≡ head = omega (arith, length-take head top, s.inside) in
    let F : List ℕ = mended p n qs prior in
    let lF : length F ≡ head = mended_length p n qs prior ∙ lf in
    let lb : length (drop end top) ≡ length top - end = length-drop end top in
    let each : All (λ (q : Part). (2 ≤ q.start) × (q.start ≤ length prior)) qs = all_map (λ q a. (a.behind, omega (arith, a.before, lf, s.starts))) s.each in
    let f2 : t2 ≡ stored t 0 F = e2 ∙ ap (mended p n qs) (e1 ∙ ap (stored t 0) ef) ∙ mended_stored t prior p n qs (omega (arith, s.inside, s.room)) each in
    let f3 : t3 ≡ stored t 0 (F ++ (k ∷ [])) = behind t F (k ∷ []) t3 head (sym lF) (omega (arith, s.inside, s.room, s.starts)) (e3 ∙ ap (λ (x : List ℕ). stored x head (k ∷ [])) f2) in
    let l3 : length (F ++ (k ∷ [])) ≡ head + 1 = omega (arith, length-append F (k ∷ [])) in
    let f4 : t4 ≡ stored t 0 ((F ++ (k ∷ [])) ++ (n ∷ [])) =
    behind t (F ++ (k ∷ [])) (n ∷ []) t4 (head + 1) (sym l3) (omega (arith, s.inside, s.room, s.starts)) (e4 ∙ ap (λ (x : List ℕ). stored x (head + 1) (n ∷ [])) f3) in
    let l4 : length ((F ++ (k ∷ [])) ++ (n ∷ [])) ≡ start = omega (arith, length-append (F ++ (k ∷ [])) (n ∷ []), s.starts) in
    let f5 : t5 ≡ stored t 0 (((F ++ (k ∷ [])) ++ (n ∷ [])) ++ new) =
    behind t ((F ++ (k ∷ [])) ++ (n ∷ [])) new t5 start (sym l4) (omega (arith, s.inside, s.room, s.starts)) (e5 ∙ ap (λ (x : List ℕ). stored x start new) f4) in
    let l5 : length (((F ++ (k ∷ [])) ++ (n ∷ [])) ++ new) ≡ start + n = omega (arith, length-append ((F ++ (k ∷ [])) ++ (n ∷ [])) new) in
    let f6 : t6 ≡ stored t 0 ((((F ++ (k ∷ [])) ++ (n ∷ [])) ++ new) ++ drop end top) =
    behind t (((F ++ (k ∷ [])) ++ (n ∷ [])) ++ new) (drop end top) t6 (start + n) (sym l5) (omega (arith, s.inside, s.room, s.starts)) (e6 ∙ ap₂ (λ (x b : List ℕ). stored x (start + n) b) f5 eb) in
    let g : (((F ++ (k ∷ [])) ++ (n ∷ [])) ++ new) ++ drop end top ≡ F ++ (k ∷ (n ∷ (new ++ drop end top))) = simp append_assoc in
    f6 ∙ ap (stored t 0) g
    ∙ ap₂ (λ (a b : ℕ). stored t 0 (mended p n qs (take a top) ++ (k ∷ (n ∷ (new ++ drop b top))))) eh ee

spliced_size : (top : List ℕ) (qs : List Part) (p : Part) (k : ℕ) (new : List ℕ) → 2 ≤ p.start → p.start + p.len ≤ length top
    → length (spliced top qs p k new) ≡ length top - p.len + length new
unfolding spliced
spliced_size top qs p k new two within =
    omega (
      arith,
      length-append (mended p (length new) qs (take (p.start - 2) top)) (k ∷ (length new ∷ (new ++ drop (p.start + p.len) top))),
      mended_length p (length new) qs (take (p.start - 2) top),
      length-take (p.start - 2) top,
      length-append new (drop (p.start + p.len) top),
      length-drop (p.start + p.len) top,
      within,
      two,
    )

-- ---- what is made of a part

never : (r : Result ℕ Refusal) → Accepted r → taken r ≡ false → ⊥
unfolding taken
never (Ok k) a e = zero_one cc
never (Err r) a e = a

module _ (upid_type_number k i : ℕ) (top new : List ℕ) where
  -- only a MID has parts, and only one that is accepted
  pub no_mid : (upid_type_number ≡ 13 → ⊥) → part_made upid_type_number top i k new ≡ refused 41
  no_mid h = part_none upid_type_number k i top new (by_cases i (length (parts_in (upid_of upid_type_number top))) (λ l. absurd (h (has_parts upid_type_number top i l).0)) (λ l. l))

  pub no_reading : taken (check_of upid_type_number top) ≡ false → part_made upid_type_number top i k new ≡ refused 41
  no_reading e = part_none upid_type_number k i top new (by_cases i (length (parts_in (upid_of upid_type_number top))) (λ l. absurd (never _ (has_parts upid_type_number top i l).1 e)) (λ l. l))

  module _ (mid : upid_type_number ≡ 13) (fine : taken (check_of upid_type_number top) ≡ true) where
    of_mid : Accepted (check_of 13 top)
    of_mid = subst (λ (q : ℕ). Accepted (check_of q top)) mid (taken_accepted _ fine)

    pub walkable : Walkable top
    walkable = record { accepted = check_mid top of_mid; short = check_short 13 top of_mid }

    parts_are : parts_in (upid_of upid_type_number top) ≡ heads top
    parts_are = ap (λ (q : ℕ). parts_in (upid_of q top)) mid ∙ parts_of_mid top of_mid

    pub made_none : length (heads top) ≤ i → part_made upid_type_number top i k new ≡ refused 41
    made_none h = part_none upid_type_number k i top new (omega (arith, ap length parts_are))

    module _ (there : i < length (heads top)) where
      is_there : i < length (parts_in (upid_of upid_type_number top))
      is_there = omega (arith, ap length parts_are)

      same_part : part_at (parts_in (upid_of upid_type_number top)) i ≡ nth top i
      same_part = ap (λ (ps : List Part). get_or ps i blank_part) parts_are

      placed_here : Placed top (heads top) i
      placed_here = placed top i walkable.accepted there

      pub part_inside : (2 ≤ (nth top i).start) × ((nth top i).start + (nth top i).len ≤ length top)
      part_inside = (placed_here.0, placed_here.1)

      pub part_fits : (nth top i).len ≤ length top
      part_fits = omega (arith, placed_here.1)

      pub made_long : (255 < length top - (nth top i).len + length new) → part_made upid_type_number top i k new ≡ refused 32
      made_long h = part_long upid_type_number k i top new is_there (subst (λ (q : Part). 255 < instead q (length new) (length top)) (sym same_part) h)

      module _ (h : length top - (nth top i).len + length new ≤ 255) where
        short_enough : instead (part_at (parts_in (upid_of upid_type_number top)) i) (length new) (length top) ≤ 255
        short_enough = subst (λ (q : Part). instead q (length new) (length top) ≤ 255) (sym same_part) h

        pub made_unfit : taken (read_of k 0 new) ≡ false → part_made upid_type_number top i k new ≡ refused 33
        made_unfit t = part_unfit upid_type_number k i top new is_there short_enough t

        pub made_is : taken (read_of k 0 new) ≡ true → part_made upid_type_number top i k new ≡ made (spliced top (take i (heads top)) (nth top i) k new)
        made_is t = part_made_lem upid_type_number k i top new is_there short_enough t ∙ ap (λ (ps : List Part). made (replaced_in top ps i k new)) parts_are

        pub storable : (head : ℕ) (target : List ℕ) → (nth top i).start ≡ head + 2 → (nth top i).len ≡ get_or top (head + 1) 0 → length new ≤ 255
            → length top - (nth top i).len + length new ≤ length target → Storable top i head new target
        storable head target starts has short room =
            record {
              walk = walkable;
              there = there;
              starts = starts;
              has = has;
              short = short;
              inside = placed_here.1;
              room = room;
              each = all_map (λ q y. ahead (nth top i) (length new) (length top) q (omega (arith, placed_here.1)) h y) placed_here.2;
            }

        pub size_is : length (spliced top (take i (heads top)) (nth top i) k new) ≡ length top - (nth top i).len + length new
        size_is = spliced_size top (take i (heads top)) (nth top i) k new placed_here.0 placed_here.1

pub relabel_zero : (upid_type_number k part : ℕ) (top new : List ℕ) → part ≡ 0 → upid_made upid_type_number top part k new ≡ top_made upid_type_number top k new
unfolding upid_made
relabel_zero upid_type_number k part top new h = rw h

pub relabel_more : (upid_type_number k part : ℕ) (top new : List ℕ) → (part ≡ 0 → ⊥) → upid_made upid_type_number top part k new ≡ part_made upid_type_number top (part - 1) k new
unfolding upid_made
relabel_more upid_type_number k zero top new h = absurd (h refl)
relabel_more upid_type_number k (suc i) top new h = let e : suc i - 1 ≡ i = omega arith in ap (λ (j : ℕ). part_made upid_type_number top j k new) (sym e)

-- of a UPID that is refused nothing is made
pub refused_upid : (upid_type_number : ℕ) (top : List ℕ) (part k : ℕ) (new : List ℕ) → taken (check_of upid_type_number top) ≡ false → upid_made upid_type_number top part k new ≡ refused 41
unfolding upid_made
refused_upid upid_type_number top zero k new e =
    by_cases 0 (length top)
    (λ some. top_refused upid_type_number k top new (λ z. omega arith) e)
    (λ none. top_none upid_type_number k top new (omega arith))
refused_upid upid_type_number top (suc i) k new e = no_reading upid_type_number k i top new e
