-- Laws of the walk that lists the parts of a MID, over bytes that were accepted: which MIDs are open at a place, and what parts are left.
--     open_first            the walk begins in the top MID
--     closed                it leaves a MID
--     part_complete            it meets a part: the head is whole, and so is the payload
--     passed, entered       it passes a part that is no MID, and goes into one that is
--     begun, store, ended   the list that it fills
use Prim.Native.Nat.{ℕ, zero, suc, ◌+◌, ◌-◌, ◌≤◌, ◌<◌}
use mathlib.Core.Path.{◌≡◌, refl, sym, ◌∙◌}
use mathlib.Core.List.{List, [], ◌∷◌, ◌++◌, append_assoc, append-nil}
use native.Mathlib.Omega.{arith}
use native.Mathlib.Numerals.{add-one}
use lib.ListN.{length, take, drop, get_or, set, length-drop}
use lib.Seq.{drop-drop, drop_at, take-add, take-take, take-length, length-take-le, get_or-take, get_or-set_same, get_or-set_other}
use borrow.Author.Tests.{le-ltb}
use Rattle.upid.specs.Upid.{read_of, list_of, reported_of, listed}
use Rattle.upid.specs.Private.{grown, Accepted, Open, pending}
use Rattle.upid.specs.declared.Part.{Part}
use Rattle.upid.specs.declared.PartList.{PartList}
use Rattle.upid.proofs.Laws.{few, read_more, list_more, list_mid, list_plain, then_both, accepted_mid}
use Rattle.upid.proofs.Walks.{at_more, sound, list_end, stored, grown_nil, grown_more, grown_blank}

-- ---- one part of a MID that ends at the place `end` of s

module _ (s : List ℕ) (end at : ℕ) (inside : at < end) (within : end ≤ length s) where
  cut : length (take end s) ≡ end
  cut = length-take-le end s within

  complete_head : Accepted (read_of 13 at (drop at (take end s))) → (2 ≤ end - at) × (get_or s (at + 1) 0 ≤ end - (at + 2))
  complete_head a =
      let l = cut in
      let h = sound at at (take end s) (omega arith) a in
      let e : get_or (take end s) (at + 1) 0 ≡ get_or s (at + 1) 0 = get_or-take end s (at + 1) 0 (omega arith) in
      (omega arith, omega arith)

  module _ (n : ℕ) (en : n ≡ get_or s (at + 1) 0) (fits : at + 2 + n ≤ end) where
    front : drop at (take end s) ≡ get_or s at 0 ∷ (get_or s (at + 1) 0 ∷ drop (at + 2) (take end s))
    front =
        let l = cut in
        let e0 : get_or (take end s) at 0 ≡ get_or s at 0 = get_or-take end s at 0 (omega arith) in
        let e1 : get_or (take end s) (at + 1) 0 ≡ get_or s (at + 1) 0 = get_or-take end s (at + 1) 0 (omega arith) in
        at_more (take end s) at (omega arith) (omega arith) ∙ rw (e0, e1)

    inner : take n (drop (at + 2) (take end s)) ≡ drop (at + 2) (take (at + 2 + n) s)
    inner =
        let l = cut in
        let h : at + 2 ≤ length (take end s) = omega arith in
        sym (rw (← (take-take (at + 2 + n) end s fits), take-add (at + 2) n (take end s)) (drop_at (take (at + 2) (take end s)) _ (at + 2) (length-take-le (at + 2) (take end s) h)))

    after : drop n (drop (at + 2) (take end s)) ≡ drop (at + 2 + n) (take end s)
    after = drop-drop n (at + 2) (take end s)

    there : at + (2 + n) ≡ at + 2 + n
    there = omega arith

    present : n ≤ length (drop (at + 2) (take end s))
    present = rw (length-drop, cut) (omega arith)

    turn_read : Accepted (read_of 13 at (drop at (take end s)))
        → Accepted (read_of (get_or s at 0) (at + 2) (drop (at + 2) (take (at + 2 + n) s))) × Accepted (read_of 13 (at + 2 + n) (drop (at + 2 + n) (take end s)))
    turn_read a = then_both _ _ (rw (front, read_more, ← en, le-ltb _ _ present, inner, after, there) at a)

    turn_list : (level : ℕ) → list_of 13 level at (drop at (take end s)) ≡
        record { upid_type = reported_of (get_or s at 0); level = level; start = at + 2; len = get_or s (at + 1) 0 }
        ∷ (list_of (get_or s at 0) (level + 1) (at + 2) (drop (at + 2) (take (at + 2 + n) s)) ++ list_of 13 level (at + 2 + n) (drop (at + 2 + n) (take end s)))
    turn_list level = rw (front, list_more, ← en, inner, after, there)

-- ---- the open MIDs

-- a MID that is entered does not change those around it
open_set : (s ends : List ℕ) (j v m at : ℕ) → m ≤ j → Open s ends m at → Open s (set ends j v) m at
unfolding Open
open_set s ends j v zero at h o = tt
open_set s ends j v (suc m) at h o =
    let ne : m ≡ j → ⊥ = omega arith in
    rw (get_or-set_other ends j m v 0 ne) (o.0, o.1, o.2, open_set s ends j v m (get_or ends m 0) (omega arith) o.3)

pending_set : (s ends : List ℕ) (j v m at : ℕ) → m ≤ j → pending s (set ends j v) m at ≡ pending s ends m at
unfolding pending
pending_set s ends j v zero at h = refl
pending_set s ends j v (suc m) at h =
    let ne : m ≡ j → ⊥ = omega arith in
    rw (get_or-set_other ends j m v 0 ne, pending_set s ends j v m (get_or ends m 0) (omega arith))

-- what is open in the innermost MID and around it, and the same of what is left
module _ (s ends : List ℕ) where
  abbrev Inner : ℕ → ℕ → ℕ → Type 0
  Inner m end at = (at ≤ end) × (end ≤ length s) × Accepted (read_of 13 at (drop at (take end s))) × Open s ends m end

  top_of : (level at : ℕ) → 0 < level → Open s ends level at → Inner (level - 1) (get_or ends (level - 1) 0) at
  unfolding Open
  top_of zero at h o = absurd (omega arith)
  top_of (suc m) at h o = let e : suc m - 1 ≡ m = omega arith in rw e o

  of_top : (level at : ℕ) → 0 < level → Inner (level - 1) (get_or ends (level - 1) 0) at → Open s ends level at
  unfolding Open
  of_top zero at h o = absurd (omega arith)
  of_top (suc m) at h o = let e : suc m - 1 ≡ m = omega arith in rw e at o

  left : (level at : ℕ) → 0 < level
      → pending s ends level at ≡ list_of 13 level at (drop at (take (get_or ends (level - 1) 0) s)) ++ pending s ends (level - 1) (get_or ends (level - 1) 0)
  unfolding pending
  left zero at h = absurd (omega arith)
  left (suc m) at h = let e : suc m - 1 ≡ m = omega arith in rw e

-- ---- the walk

-- it begins in the top MID
module _ (s ends : List ℕ) (e : get_or ends 0 0 ≡ length s) where
  pub open_first : Accepted (read_of 13 0 s) → Open s ends 1 0
  unfolding Open
  open_first a = rw (e, take-length) (omega arith, omega arith, a, tt)

  pending_first : list_of 13 1 0 s ≡ pending s ends 1 0
  unfolding pending
  pending_first = rw (e, take-length) (sym (append-nil _))

module _ (s ends : List ℕ) (level at end : ℕ) (some : 0 < level) (e : end ≡ get_or ends (level - 1) 0) (o : Open s ends level at) where
  o1 : Inner s ends (level - 1) end at
  o1 = rw e (top_of s ends level at some o)

  -- it comes to the end of a MID
  module _ (done : at ≡ end) where
    open_closed : Open s ends (level - 1) at
    open_closed = rw done o1.3

    pending_closed : pending s ends level at ≡ pending s ends (level - 1) at
    pending_closed =
        let l : length (take end s) ≤ at = omega (arith, length-take-le end s o1.1) in
        left s ends level at some ∙ rw (← e, list_end level at at (take end s) l, ← done)

    pub closed : Open s ends (level - 1) at × (pending s ends level at ≡ pending s ends (level - 1) at)
    closed = (open_closed, pending_closed)

  -- it comes to a part
  module _ (more : at ≡ end → ⊥) where
    inside : at < end
    inside = let h = o1 in omega arith

    pub part_complete : (at + 2 ≤ end) × (get_or s (at + 1) 0 ≤ end - (at + 2)) × (end ≤ length s)
    part_complete = let h = complete_head s end at inside o1.1 o1.2 in (omega arith, h.1, o1.1)

  module _ (more : at ≡ end → ⊥) (n : ℕ) (en : n ≡ get_or s (at + 1) 0) where
    fits : at + 2 + n ≤ end
    fits = let h = part_complete more in omega arith

    both : Accepted (read_of (get_or s at 0) (at + 2) (drop (at + 2) (take (at + 2 + n) s))) × Accepted (read_of 13 (at + 2 + n) (drop (at + 2 + n) (take end s)))
    both = turn_read s end at (inside more) o1.1 n en fits o1.2

    open_after : Open s ends level (at + 2 + n)
    open_after = of_top s ends level (at + 2 + n) some (rw (← e) (fits, o1.1, both.1, o1.3))

    abbrev here : Part
    here = record { upid_type = reported_of (get_or s at 0); level = level; start = at + 2; len = get_or s (at + 1) 0 }

    pending_part : pending s ends level at
        ≡ here ∷ (list_of (get_or s at 0) (level + 1) (at + 2) (drop (at + 2) (take (at + 2 + n) s)) ++ pending s ends level (at + 2 + n))
    pending_part =
        left s ends level at some
        ∙ rw (left s ends level (at + 2 + n) some, ← e, turn_list s end at (inside more) o1.1 n en fits level, append_assoc)

    -- which is no MID
    pub passed : (get_or s at 0 ≡ 13 → ⊥) → Open s ends level (at + 2 + n) × (pending s ends level at ≡ here ∷ pending s ends level (at + 2 + n))
    passed ne = (open_after, pending_part ∙ rw (list_plain (get_or s at 0) (level + 1) (at + 2) (drop (at + 2) (take (at + 2 + n) s)) ne))

    -- which is a MID
    module _ (mid : get_or s at 0 ≡ 13) (room : level < length ends) where
      same : get_or (set ends level (at + 2 + n)) level 0 ≡ at + 2 + n
      same = get_or-set_same ends level (at + 2 + n) 0 room

      open_entered : Open s (set ends level (at + 2 + n)) (level + 1) (at + 2)
      unfolding Open
      open_entered =
          let h : at + 2 + n ≤ length s = omega (arith, fits, o1.1) in
          rw (add-one, same) (omega arith, h, accepted_mid _ _ _ mid both.0, open_set s ends level (at + 2 + n) level (at + 2 + n) (omega arith) open_after)

      pending_entered : pending s ends level at ≡ here ∷ pending s (set ends level (at + 2 + n)) (level + 1) (at + 2)
      unfolding pending
      pending_entered =
          pending_part
          ∙ rw (add-one level, same, pending_set s ends level (at + 2 + n) level (at + 2 + n) (omega arith), list_mid (get_or s at 0) (suc level) (at + 2) (drop (at + 2) (take (at + 2 + n) s)) mid)

      pub entered : Open s (set ends level (at + 2 + n)) (level + 1) (at + 2) × (pending s ends level at ≡ here ∷ pending s (set ends level (at + 2 + n)) (level + 1) (at + 2))
      entered = (open_entered, pending_entered)

-- ---- the list

-- a part is stored, and what was to come after it is still to come
pub store : (w list : PartList) (p : Part) (r : ℕ) (ps rest : List Part) → list ≡ grown w ps → ps ≡ p ∷ rest → r ≡ p.upid_type
    → list ≡ grown (record { parts = set w.parts w.count (record { upid_type = r; level = p.level; start = p.start; len = p.len }); count = w.count + 1 }) rest
store w list p r ps rest e f g = e ∙ rw (f, g) (grown_more w (p ∷ []) rest ∙ rw (stored w p))

pub begun : (k : ℕ) (s ends : List ℕ) (w : PartList) → k ≡ 13 → length s ≤ 255 → get_or ends 0 0 ≡ length s → w ≡ listed []
    → listed (list_of k 1 0 s) ≡ grown w (pending s ends 1 0)
begun k s ends w h short e ew =
    let n : length (list_of 13 1 0 s) ≤ 127 = omega (arith, few 13 1 0 s) in
    rw (list_mid k 1 0 s h, ew, ← (pending_first s ends e)) (sym (grown_blank _ n))

-- no MID is open any more
pub ended : (s ends : List ℕ) (level at : ℕ) (w list : PartList) → level ≤ 0 → list ≡ grown w (pending s ends level at) → w ≡ list
unfolding pending
ended s ends zero at w list h e = sym (e ∙ grown_nil w)
ended s ends (suc m) at w list h e = absurd (omega arith)
