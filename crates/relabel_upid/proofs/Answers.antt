-- From holes to the public definitions, for the statements in Theorems.antt.
use Prim.Native.Nat.{ℕ, suc, ◌+◌, ◌-◌, ◌≤◌, ◌<◌}
use mathlib.Core.Path.{◌≡◌, refl, sym, ap, ap₂, subst, ◌∙◌}
use mathlib.Core.Bool.{Bool, true, false, not, ◌||◌}
use mathlib.Core.List.{List, [], ◌∷◌, ◌++◌, map, append_assoc, append-nil}
use native.Mathlib.Omega.{arith}
use lib.Dec.{eqb, leb, ltb}
use lib.ListN.{length, take, drop, get_or, length-append, length-map}
use lib.Seq.{take_at, drop_at, get_or_at, take-append_seam}
use borrow.Author.Tests.{eqb-true, eqb-false, le-ltb, lt-leb, ltb-false, leb-false}
use Rattle.table.specs.Bits.{pick}
use Rattle.table.specs.Writing.{made, refused}
use Rattle.upid.specs.Cover.{Cut, bytes_of}
use Rattle.upid.specs.Upid.{read_of, check_of, list_of, reported_of, upid_of, parts_in}
use Rattle.upid.specs.Private.{Accepted}
use Rattle.upid.specs.declared.Part.{Part}
use Rattle.upid.proofs.Answers.{parts_of_mid, no_mid_no_parts, refused_no_parts, check_of_read}
use Rattle.upid.proofs.Cutting.{after_head}
use Rattle.upid.proofs.Walks.{check_mid, check_short}
use Rattle.relabel_upid.specs.Hole.{Hole, headed, filled}
use Rattle.relabel_upid.specs.Kept.{Identifier, identifiers_in, identifiers_at, inside_of, after_part, identifiers_then, widened, moved, renewed, parts_then, written_type, Relabelled}
use Rattle.relabel_upid.specs.Relabel.{instead, mended, spliced, part_at, replaced_in, replaced, taken, top_made, part_made, upid_made}
use Rattle.relabel_upid.proofs.Holes.{level_at, start_at, inner, before, behind, list_filled, AcceptedBeside, AcceptedCut, accepted_filled, Found, find, prior, back, cut_filled, length_prior, length_filled}
use Rattle.relabel_upid.proofs.Places.{spot, mend_prior, before_widened, behind_moved}
use Rattle.relabel_upid.proofs.Told.{told_append, same_before, same_behind, reported_list, told_own}
use Rattle.std.proofs.Common.{Ok, Err, Result}
use Rattle.upid.specs.declared.Refusal.{Refusal}

-- ---- the part that fills a hole, by its number

module _ (c : Cut) (h : Hole) where
  abbrev full : List ℕ
  full = filled h c

  abbrev parts : List Part
  parts = list_of 13 1 0 (filled h c)

  abbrev number : ℕ
  number = length (before c 1 0 h)

  rest : List Part
  rest = inner (level_at 1 h) (start_at 0 h) c ++ behind c 1 0 h

  pub part_is : part_at parts number ≡ spot c 1 0 h
  unfolding rest
  part_is = ap (λ (ps : List Part). part_at ps number) (list_filled c 1 0 h) ∙ get_or_at (before c 1 0 h) (spot c 1 0 h) rest _ number refl

  pub take_is : take number parts ≡ before c 1 0 h
  unfolding rest
  take_is = ap (take number) (list_filled c 1 0 h) ∙ take_at (before c 1 0 h) (spot c 1 0 h ∷ rest) number refl

  place : length (prior c h) ≡ start_at 0 h
  place = omega (arith, length_prior c 0 h)

  -- what stands at the hole
  there : drop (start_at 0 h) full ≡ headed c (back h)
  there = ap (drop (start_at 0 h)) (cut_filled c h) ∙ drop_at (prior c h) (headed c (back h)) (start_at 0 h) place

  run_is : bytes_of full (spot c 1 0 h) ≡ c.payload
  run_is = ap (take (length c.payload)) (after_head full (start_at 0 h) c.upid_type (length c.payload) (c.payload ++ back h) there) ∙ take-append_seam c.payload (back h)

  type_is : get_or full ((spot c 1 0 h).start - 2) 0 ≡ c.upid_type
  type_is =
      let at : start_at 0 h + 2 - 2 ≡ start_at 0 h = omega arith in
      ap₂ (λ (n : ℕ) (s : List ℕ). get_or s n 0) at (cut_filled c h) ∙ get_or_at (prior c h) c.upid_type (length c.payload ∷ (c.payload ++ back h)) 0 (start_at 0 h) place

  inside_is : inside_of full (spot c 1 0 h) ≡ inner (level_at 1 h) (start_at 0 h) c
  inside_is =
      ap (list_of (reported_of c.upid_type) (level_at 1 h + 1) (start_at 0 h + 2)) run_is
      ∙ reported_list c.upid_type (level_at 1 h + 1) (start_at 0 h + 2) c.payload

  after_is : after_part full parts number ≡ behind c 1 0 h
  unfolding rest
  after_is =
      let own : List Part = inner (level_at 1 h) (start_at 0 h) c in
      let lead : List Part = before c 1 0 h ++ (spot c 1 0 h ∷ own) in
      let size : length lead ≡ number + (1 + length own) = omega (arith, length-append (before c 1 0 h) (spot c 1 0 h ∷ own)) in
      let split : parts ≡ lead ++ behind c 1 0 h = list_filled c 1 0 h ∙ sym (append_assoc (before c 1 0 h) (spot c 1 0 h ∷ own) (behind c 1 0 h)) in
      ap (λ (p : Part). drop (number + (1 + length (inside_of full p))) parts) part_is
      ∙ ap (λ (ps : List Part). drop (number + (1 + length ps)) parts) inside_is
      ∙ ap (drop (number + (1 + length own))) split
      ∙ drop_at lead (behind c 1 0 h) (number + (1 + length own)) size

-- ---- the hole filled anew

by_part : (top : List ℕ) (ps : List Part) (i k : ℕ) (new : List ℕ) (p : Part) (qs : List Part) → part_at ps i ≡ p → take i ps ≡ qs
    → replaced_in top ps i k new ≡ mended p (length new) qs (take (p.start - 2) top) ++ (k ∷ (length new ∷ (new ++ drop (p.start + p.len) top)))
unfolding spliced
by_part top ps i k new p qs e f = ap₂ (λ (p : Part) (qs : List Part). spliced top qs p k new) e f

module _ (c d : Cut) (h : Hole) (f : AcceptedBeside h) where
  before_hole : take ((spot c 1 0 h).start - 2) (full c h) ≡ prior c h
  before_hole =
      let at : start_at 0 h + 2 - 2 ≡ start_at 0 h = omega arith in
      ap₂ take at (cut_filled c h) ∙ take_at (prior c h) (headed c (back h)) (start_at 0 h) (place c h)

  after_hole : drop ((spot c 1 0 h).start + (spot c 1 0 h).len) (full c h) ≡ back h
  after_hole =
      let lead : List ℕ = prior c h ++ (c.upid_type ∷ (length c.payload ∷ c.payload)) in
      let size : length lead ≡ start_at 0 h + 2 + length c.payload = omega (arith, place c h, length-append (prior c h) (c.upid_type ∷ (length c.payload ∷ c.payload))) in
      let split : full c h ≡ lead ++ back h = cut_filled c h ∙ sym (append_assoc (prior c h) (c.upid_type ∷ (length c.payload ∷ c.payload)) (back h)) in
      ap (drop (start_at 0 h + 2 + length c.payload)) split ∙ drop_at lead (back h) (start_at 0 h + 2 + length c.payload) size

  pub refilled : replaced_in (full c h) (parts c h) (number c h) d.upid_type d.payload ≡ filled h d
  refilled =
      by_part (full c h) (parts c h) (number c h) d.upid_type d.payload (spot c 1 0 h) (before c 1 0 h) (part_is c h) (take_is c h)
      ∙ ap₂ (λ (s t : List ℕ). mended (spot c 1 0 h) (length d.payload) (before c 1 0 h) s ++ headed d t) before_hole after_hole
      ∙ ap (λ (s : List ℕ). s ++ headed d (back h)) (mend_prior c d 1 0 h [] refl f)
      ∙ sym (cut_filled d h)

  -- as many parts stand before it as before
  same_number : number d h ≡ number c h
  same_number = ap length (sym (before_widened c d 1 0 h f)) ∙ length-map (before c 1 0 h) (widened (spot c 1 0 h) (length d.payload))

  new_size : length (filled h d) ≡ instead (part_at (parts c h) (number c h)) (length d.payload) (length (full c h))
  new_size =
      let e : (part_at (parts c h) (number c h)).len ≡ length c.payload = ap (λ (p : Part). p.len) (part_is c h) in
      omega (arith, length_filled c 0 h, length_filled d 0 h, e)

  new_parts : list_of 13 1 0 (filled h d) ≡ parts_then (full c h) (parts c h) (number c h) d.upid_type d.payload
  unfolding parts_then
  new_parts =
      let n : ℕ = length d.payload in
      let old : Part = part_at (parts c h) (number c h) in
      let p : Part = spot c 1 0 h in
      let lead : map (widened old n) (take (number c h) (parts c h)) ≡ before d 1 0 h =
      ap₂ (λ (q : Part) (qs : List Part). map (widened q n) qs) (part_is c h) (take_is c h) ∙ before_widened c d 1 0 h f in
      let tail : map (moved old n) (after_part (full c h) (parts c h) (number c h)) ≡ behind d 1 0 h =
      ap₂ (λ (q : Part) (qs : List Part). map (moved q n) qs) (part_is c h) (after_is c h) ∙ behind_moved c d 1 0 h p refl in
      let own : renewed old d.upid_type d.payload ∷ list_of d.upid_type (old.level + 1) old.start d.payload ≡ spot d 1 0 h ∷ inner (level_at 1 h) (start_at 0 h) d =
      ap (λ (q : Part). renewed q d.upid_type d.payload ∷ list_of d.upid_type (q.level + 1) q.start d.payload) (part_is c h) in
      list_filled d 1 0 h
      ∙ sym (ap₂ (λ (xs ys : List Part). xs ++ ys) lead (ap₂ (λ (xs ys : List Part). xs ++ ys) own tail))

  new_told : AcceptedCut d → identifiers_in (filled h d) (list_of 13 1 0 (filled h d)) ≡ identifiers_then (full c h) (parts c h) (number c h) d.upid_type d.payload
  unfolding identifiers_then
  new_told g =
      let own : List Part = spot d 1 0 h ∷ inner (level_at 1 h) (start_at 0 h) d in
      let old : drop 0 (full c h) ≡ full c h ++ [] = sym (append-nil (full c h)) in
      let new : drop 0 (filled h d) ≡ filled h d ++ [] = sym (append-nil (filled h d)) in
      ap (identifiers_in (filled h d)) (list_filled d 1 0 h)
      ∙ told_append (filled h d) (before d 1 0 h) (own ++ behind d 1 0 h)
      ∙ ap (λ (xs : List Identifier). identifiers_in (filled h d) (before d 1 0 h) ++ xs) (told_append (filled h d) own (behind d 1 0 h))
      ∙ ap₂ (λ (xs ys : List Identifier). xs ++ ys)
      (sym (same_before c d 1 0 h (full c h) (filled h d) [] [] f old new) ∙ ap (identifiers_in (full c h)) (sym (take_is c h)))
      (ap₂ (λ (xs ys : List Identifier). xs ++ ys)
      (told_own (level_at 1 h) (start_at 0 h) d (filled h d) (back h) g (there d h) ∙ ap (λ (p : Part). identifiers_at p.level d.upid_type d.payload) (sym (part_is c h)))
      (sym (same_behind c d 1 0 h (full c h) (filled h d) [] [] f old new) ∙ ap (identifiers_in (full c h)) (sym (after_is c h))))

  new_there : number c h < length (list_of 13 1 0 (filled h d))
  new_there =
      omega (
        arith,
        ap length (list_filled d 1 0 h),
        same_number,
        length-append (before d 1 0 h) (spot d 1 0 h ∷ (inner (level_at 1 h) (start_at 0 h) d ++ behind d 1 0 h)),
      )

  new_spot : part_at (list_of 13 1 0 (filled h d)) (number c h) ≡ renewed (part_at (parts c h) (number c h)) d.upid_type d.payload
  new_spot =
      ap (part_at (parts d h)) (sym same_number) ∙ part_is d h
      ∙ ap (λ (p : Part). renewed p d.upid_type d.payload) (sym (part_is c h))

  new_run : bytes_of (filled h d) (renewed (part_at (parts c h) (number c h)) d.upid_type d.payload) ≡ d.payload
  new_run = ap (λ (p : Part). bytes_of (filled h d) (renewed p d.upid_type d.payload)) (part_is c h) ∙ run_is d h

-- ---- all of it, for any part of an accepted MID

pub record Done (top : List ℕ) (ps : List Part) (i k : ℕ) (new : List ℕ) (result : List ℕ) : Type 0 where
  pub is : replaced_in top ps i k new ≡ result
  pub accepted : Accepted (read_of 13 0 result)
  pub size : length result ≡ instead (part_at ps i) (length new) (length top)
  pub listed : list_of 13 1 0 result ≡ parts_then top ps i k new
  pub told : identifiers_in result (list_of 13 1 0 result) ≡ identifiers_then top ps i k new
  pub run : bytes_of result (renewed (part_at ps i) k new) ≡ new
  pub there : i < length (list_of 13 1 0 result)
  pub spot : part_at (list_of 13 1 0 result) i ≡ renewed (part_at ps i) k new
  pub again : replaced_in result (list_of 13 1 0 result) i (written_type top (part_at ps i)) (bytes_of top (part_at ps i)) ≡ top

module _ (c d : Cut) (h : Hole) (f : AcceptedBeside h) where
  put_back : replaced_in (filled h d) (parts d h) (number c h) (written_type (full c h) (part_at (parts c h) (number c h))) (bytes_of (full c h) (part_at (parts c h) (number c h))) ≡ full c h
  put_back =
      ap (λ (p : Part). replaced_in (filled h d) (parts d h) (number c h) (written_type (full c h) p) (bytes_of (full c h) p)) (part_is c h)
      ∙ ap₂ (replaced_in (filled h d) (parts d h) (number c h)) (type_is c h) (run_is c h)
      ∙ ap (λ (i : ℕ). replaced_in (filled h d) (parts d h) i c.upid_type c.payload) (sym (same_number c d h f))
      ∙ refilled d c h f

  done_filled : AcceptedCut d → Done (full c h) (parts c h) (number c h) d.upid_type d.payload (filled h d)
  done_filled g =
      record {
        is = refilled c d h f;
        accepted = accepted_filled h d 0 f g;
        size = new_size c d h f;
        listed = new_parts c d h f;
        told = new_told c d h f g;
        run = new_run c d h f;
        there = new_there c d h f;
        spot = new_spot c d h f;
        again = put_back;
      }

pub done : (top : List ℕ) (i : ℕ) (d : Cut) → Accepted (read_of 13 0 top) → i < length (list_of 13 1 0 top) → AcceptedCut d
    → (result : List ℕ) × Done top (list_of 13 1 0 top) i d.upid_type d.payload result
done top i d a hi g =
    let x : Found 1 0 i top = find (length top) 1 0 i top (omega arith) a hi in
    let c : Cut = x.part in
    let h : Hole = x.hole in (
      filled h d,
      subst (λ (s : List ℕ). Done s (list_of 13 1 0 s) i d.upid_type d.payload (filled h d)) x.is
          (subst (λ (j : ℕ). Done (filled h c) (list_of 13 1 0 (filled h c)) j d.upid_type d.payload (filled h d)) x.count (done_filled c d h x.accepted g)),
    )

-- a part of what is accepted is accepted by itself
pub own_accepted : (top : List ℕ) (i : ℕ) → Accepted (read_of 13 0 top) → i < length (list_of 13 1 0 top)
    → Accepted (read_of (written_type top (part_at (list_of 13 1 0 top) i)) 0 (bytes_of top (part_at (list_of 13 1 0 top) i)))
own_accepted top i a hi =
    let x : Found 1 0 i top = find (length top) 1 0 i top (omega arith) a hi in
    let c : Cut = x.part in
    let h : Hole = x.hole in
    let e : Accepted (read_of (written_type (filled h c) (spot c 1 0 h)) 0 (bytes_of (filled h c) (spot c 1 0 h))) = rw (type_is c h, run_is c h) x.own in
    let g : Accepted (read_of (written_type (filled h c) (part_at (parts c h) (number c h))) 0 (bytes_of (filled h c) (part_at (parts c h) (number c h)))) =
    subst (λ (p : Part). Accepted (read_of (written_type (filled h c) p) 0 (bytes_of (filled h c) p))) (sym (part_is c h)) e in
    subst (λ (s : List ℕ). Accepted (read_of (written_type s (part_at (list_of 13 1 0 s) i)) 0 (bytes_of s (part_at (list_of 13 1 0 s) i)))) x.is
    (subst (λ (j : ℕ). Accepted (read_of (written_type (filled h c) (part_at (parts c h) j)) 0 (bytes_of (filled h c) (part_at (parts c h) j)))) x.count g)

-- it ends within the MID
pub own_short : (top : List ℕ) (i : ℕ) → Accepted (read_of 13 0 top) → i < length (list_of 13 1 0 top)
    → ((part_at (list_of 13 1 0 top) i).len ≤ length top) × (length (bytes_of top (part_at (list_of 13 1 0 top) i)) ≡ (part_at (list_of 13 1 0 top) i).len)
own_short top i a hi =
    let x : Found 1 0 i top = find (length top) 1 0 i top (omega arith) a hi in
    let c : Cut = x.part in
    let h : Hole = x.hole in
    let e : ((spot c 1 0 h).len ≤ length (filled h c)) × (length (bytes_of (filled h c) (spot c 1 0 h)) ≡ length c.payload) = (omega (arith, length_filled c 0 h), ap length (run_is c h)) in
    let g : ((part_at (parts c h) (number c h)).len ≤ length (filled h c)) × (length (bytes_of (filled h c) (part_at (parts c h) (number c h))) ≡ (part_at (parts c h) (number c h)).len) =
    subst (λ (p : Part). (p.len ≤ length (filled h c)) × (length (bytes_of (filled h c) p) ≡ p.len)) (sym (part_is c h)) e in
    subst (λ (s : List ℕ). ((part_at (list_of 13 1 0 s) i).len ≤ length s) × (length (bytes_of s (part_at (list_of 13 1 0 s) i)) ≡ (part_at (list_of 13 1 0 s) i).len)) x.is
    (subst (λ (j : ℕ). ((part_at (parts c h) j).len ≤ length (filled h c)) × (length (bytes_of (filled h c) (part_at (parts c h) j)) ≡ (part_at (parts c h) j).len)) x.count g)

-- the part, with its own head and payload, put where it is
pub stays : (top : List ℕ) (i : ℕ) → Accepted (read_of 13 0 top) → i < length (list_of 13 1 0 top)
    → replaced_in top (list_of 13 1 0 top) i (written_type top (part_at (list_of 13 1 0 top) i)) (bytes_of top (part_at (list_of 13 1 0 top) i)) ≡ top
stays top i a hi =
    let x : Found 1 0 i top = find (length top) 1 0 i top (omega arith) a hi in
    let c : Cut = x.part in
    let h : Hole = x.hole in
    subst (λ (s : List ℕ). replaced_in s (list_of 13 1 0 s) i (written_type s (part_at (list_of 13 1 0 s) i)) (bytes_of s (part_at (list_of 13 1 0 s) i)) ≡ s) x.is
    (subst (λ (j : ℕ). replaced_in (filled h c) (list_of 13 1 0 (filled h c)) j (written_type (filled h c) (part_at (list_of 13 1 0 (filled h c)) j)) (bytes_of (filled h c) (part_at (list_of 13 1 0 (filled h c)) j)) ≡ filled h c)
    x.count (put_back c c h x.accepted))

-- ---- what is made

pub taken_accepted : (a : Result ℕ Refusal) → taken a ≡ true → Accepted a
unfolding taken
taken_accepted (Ok k) e = tt
taken_accepted (Err r) e = let z : ◌≡◌ {A = ℕ} 0 1 = cc in absurd (omega arith)

pub accepted_taken : (a : Result ℕ Refusal) → Accepted a → taken a ≡ true
unfolding taken
accepted_taken (Ok k) h = refl
accepted_taken (Err r) h = absurd h

-- a MID whose i-th part can be replaced by an identifier of type k with these bytes
pub record Able (upid_type_number : ℕ) (top : List ℕ) (i k : ℕ) (new : List ℕ) : Type 0 where
  pub there : i < length (parts_in (upid_of upid_type_number top))
  pub short : instead (part_at (parts_in (upid_of upid_type_number top)) i) (length new) (length top) ≤ 255
  pub accepted : taken (read_of k 0 new) ≡ true

pub able_made : (upid_type_number : ℕ) (top : List ℕ) (i k : ℕ) (new : List ℕ) → Able upid_type_number top i k new → upid_made upid_type_number top (suc i) k new ≡ made (replaced_in top (parts_in (upid_of upid_type_number top)) i k new)
unfolding upid_made part_made
able_made upid_type_number top i k new h = rw (lt-leb _ _ h.there, le-ltb _ _ h.short, h.accepted)

pub made_able : (upid_type_number : ℕ) (top : List ℕ) (i k : ℕ) (new b : List ℕ) → upid_made upid_type_number top (suc i) k new ≡ made b
    → Able upid_type_number top i k new × (b ≡ replaced_in top (parts_in (upid_of upid_type_number top)) i k new)
unfolding upid_made part_made
made_able upid_type_number top i k new b = go (leb (length (parts_in (upid_of upid_type_number top))) i) refl (ltb 255 (instead (part_at (parts_in (upid_of upid_type_number top)) i) (length new) (length top))) refl (taken (read_of k 0 new)) refl
  where
    result : List ℕ
    result = replaced_in top (parts_in (upid_of upid_type_number top)) i k new

    go : (t : Bool) → leb (length (parts_in (upid_of upid_type_number top))) i ≡ t → (u : Bool) → ltb 255 (instead (part_at (parts_in (upid_of upid_type_number top)) i) (length new) (length top)) ≡ u
        → (v : Bool) → taken (read_of k 0 new) ≡ v
        → pick t (refused 41) (pick u (refused 32) (pick (not v) (refused 33) (made result))) ≡ made b → Able upid_type_number top i k new × (b ≡ result)
    go true et u eu v ev e = let z : ◌≡◌ {A = ℕ} 0 1 = cc in absurd (omega arith)
    go false et true eu v ev e = let z : ◌≡◌ {A = ℕ} 0 1 = cc in absurd (omega arith)
    go false et false eu false ev e = let z : ◌≡◌ {A = ℕ} 0 1 = cc in absurd (omega arith)
    go false et false eu true ev e = (record { there = leb-false _ _ et; short = ltb-false _ _ eu; accepted = ev }, cc)

-- only an accepted MID has parts
pub has_parts : (upid_type_number : ℕ) (top : List ℕ) (i : ℕ) → i < length (parts_in (upid_of upid_type_number top)) → (upid_type_number ≡ 13) × Accepted (check_of upid_type_number top)
has_parts upid_type_number top i h = (go (eqb upid_type_number 13) refl, of_read (check_of upid_type_number top) refl)
  where
    go : (t : Bool) → eqb upid_type_number 13 ≡ t → upid_type_number ≡ 13
    go true e = eqb-true upid_type_number 13 e
    go false e = absurd (omega (arith, ap length (no_mid_no_parts upid_type_number top (eqb-false upid_type_number 13 e))))

    of_read : (a : Result ℕ Refusal) → check_of upid_type_number top ≡ a → Accepted (check_of upid_type_number top)
    of_read (Ok q) e = rw e tt
    of_read (Err r) e = absurd (omega (arith, ap length (refused_no_parts upid_type_number top r e)))

module _ (top : List ℕ) (i k : ℕ) (new : List ℕ) (a : Accepted (check_of 13 top)) (h : Able 13 top i k new) where
  ps_are : parts_in (upid_of 13 top) ≡ list_of 13 1 0 top
  ps_are = parts_of_mid top a

  there_is : i < length (list_of 13 1 0 top)
  there_is = rw ps_are at h.there

  -- all of it, of the parts that the reader lists
  overall : (result : List ℕ) × Done top (parts_in (upid_of 13 top)) i k new result
  overall =
      subst (λ (ps : List Part). (result : List ℕ) × Done top ps i k new result) (sym ps_are)
      (done top i (record { upid_type = k; payload = new }) (check_mid top a) there_is (taken_accepted _ h.accepted))

  result_is : replaced top i k new ≡ overall.0
  result_is = overall.1.is

  result_short : length overall.0 ≤ 255
  result_short = omega (arith, overall.1.size, h.short)

  result_accepted : Accepted (check_of 13 overall.0)
  result_accepted = check_of_read 13 overall.0 result_short overall.1.accepted

  result_parts : parts_in (upid_of 13 overall.0) ≡ list_of 13 1 0 overall.0
  result_parts = parts_of_mid overall.0 result_accepted

  -- what was there can be put back
  abbrev old : Part
  old = part_at (parts_in (upid_of 13 top)) i

  old_accepted : Accepted (read_of (written_type top old) 0 (bytes_of top old))
  old_accepted = subst (λ (ps : List Part). Accepted (read_of (written_type top (part_at ps i)) 0 (bytes_of top (part_at ps i)))) (sym ps_are) (own_accepted top i (check_mid top a) there_is)

  old_short : (old.len ≤ length top) × (length (bytes_of top old) ≡ old.len)
  old_short = subst (λ (ps : List Part). ((part_at ps i).len ≤ length top) × (length (bytes_of top (part_at ps i)) ≡ (part_at ps i).len)) (sym ps_are) (own_short top i (check_mid top a) there_is)

  new_len : (part_at (parts_in (upid_of 13 overall.0)) i).len ≡ length new
  new_len = ap (λ (ps : List Part). (part_at ps i).len) result_parts ∙ ap (λ (p : Part). p.len) overall.1.spot

  back_able : Able 13 overall.0 i (written_type top old) (bytes_of top old)
  back_able =
      record {
        there = rw result_parts overall.1.there;
        short = omega (arith, overall.1.size, old_short.0, old_short.1, new_len, check_short 13 top a);
        accepted = accepted_taken _ old_accepted;
      }

  back_is : upid_made 13 overall.0 (suc i) (written_type top old) (bytes_of top old) ≡ made top
  back_is =
      able_made 13 overall.0 i (written_type top old) (bytes_of top old) back_able
      ∙ ap (λ (ps : List Part). made (replaced_in overall.0 ps i (written_type top old) (bytes_of top old))) result_parts
      ∙ ap made overall.1.again

  told_is : identifiers_in overall.0 (parts_in (upid_of 13 overall.0)) ≡ identifiers_then top (parts_in (upid_of 13 top)) i k new
  told_is = ap (identifiers_in overall.0) result_parts ∙ overall.1.told

  relabelled_top : Relabelled top i k new overall.0
  unfolding upid_of
  relabelled_top =
      record {
        accepted = result_accepted;
        identifiers = told_is;
        parts = result_parts ∙ overall.1.listed;
        run = overall.1.run;
        again = back_is;
      }

  pub relabelled : Relabelled top i k new (replaced top i k new)
  relabelled = subst (Relabelled top i k new) (sym result_is) relabelled_top

pub relabelled_made : (upid_type_number : ℕ) (top : List ℕ) (i k : ℕ) (new b : List ℕ) → upid_made upid_type_number top (suc i) k new ≡ made b → (upid_type_number ≡ 13) × Relabelled top i k new b
relabelled_made upid_type_number top i k new b e =
    let x = made_able upid_type_number top i k new b e in
    let y = has_parts upid_type_number top i x.0.there in
    (y.0, of_mid y.0 y.1 x.0 x.1)
  where
    of_mid : upid_type_number ≡ 13 → Accepted (check_of upid_type_number top) → Able upid_type_number top i k new → b ≡ replaced_in top (parts_in (upid_of upid_type_number top)) i k new → Relabelled top i k new b
    of_mid e a h r =
        subst (Relabelled top i k new) (sym (r ∙ ap (λ (q : ℕ). replaced_in top (parts_in (upid_of q top)) i k new) e))
        (relabelled top i k new (rw e at a) (subst (λ (q : ℕ). Able q top i k new) e h))

-- the identifier that is there
module _ (top : List ℕ) (i : ℕ) (a : Accepted (check_of 13 top)) (h : i < length (parts_in (upid_of 13 top))) where
  abbrev mine : Part
  mine = part_at (parts_in (upid_of 13 top)) i

  mine_there : i < length (list_of 13 1 0 top)
  mine_there = rw (parts_of_mid top a) at h

  mine_accepted : Accepted (read_of (written_type top mine) 0 (bytes_of top mine))
  mine_accepted = subst (λ (ps : List Part). Accepted (read_of (written_type top (part_at ps i)) 0 (bytes_of top (part_at ps i)))) (sym (parts_of_mid top a)) (own_accepted top i (check_mid top a) mine_there)

  mine_short : (mine.len ≤ length top) × (length (bytes_of top mine) ≡ mine.len)
  mine_short = subst (λ (ps : List Part). ((part_at ps i).len ≤ length top) × (length (bytes_of top (part_at ps i)) ≡ (part_at ps i).len)) (sym (parts_of_mid top a)) (own_short top i (check_mid top a) mine_there)

  mine_stays : replaced_in top (parts_in (upid_of 13 top)) i (written_type top mine) (bytes_of top mine) ≡ top
  mine_stays = subst (λ (ps : List Part). replaced_in top ps i (written_type top (part_at ps i)) (bytes_of top (part_at ps i)) ≡ top) (sym (parts_of_mid top a)) (stays top i (check_mid top a) mine_there)

  pub same_again : upid_made 13 top (suc i) (written_type top mine) (bytes_of top mine) ≡ made top
  same_again =
      able_made 13 top i (written_type top mine) (bytes_of top mine)
      (record { there = h; short = omega (arith, mine_short.0, mine_short.1, check_short 13 top a); accepted = accepted_taken _ mine_accepted })
      ∙ ap made mine_stays

-- ---- the hole, and the UPID itself

pub one_hole : (top : List ℕ) (i : ℕ) → Accepted (check_of 13 top) → i < length (parts_in (upid_of 13 top))
    → (h : Hole) × (c : Cut) × (filled h c ≡ top) × ((d : Cut) → replaced top i d.upid_type d.payload ≡ filled h d)
one_hole top i a hi =
    let x : Found 1 0 i top = find (length top) 1 0 i top (omega arith) (check_mid top a) (rw (parts_of_mid top a) at hi) in
    let c : Cut = x.part in
    let h : Hole = x.hole in (
      h,
      c,
      x.is,
      λ d.
          ap (λ (ps : List Part). replaced_in top ps i d.upid_type d.payload) (parts_of_mid top a)
          ∙ subst (λ (s : List ℕ). replaced_in s (list_of 13 1 0 s) i d.upid_type d.payload ≡ filled h d) x.is
          (subst (λ (j : ℕ). replaced_in (filled h c) (list_of 13 1 0 (filled h c)) j d.upid_type d.payload ≡ filled h d) x.count (refilled c d h x.accepted)),
    )

pub top_made_is : (upid_type_number : ℕ) (top : List ℕ) (k : ℕ) (new b : List ℕ) → upid_made upid_type_number top 0 k new ≡ made b → (b ≡ new) × Accepted (check_of k b) × (0 < length b)
unfolding upid_made top_made
top_made_is upid_type_number top k new b = go (eqb (length top) 0 || not (taken (check_of upid_type_number top))) (ltb 255 (length new)) refl (eqb (length new) 0) refl (taken (read_of k 0 new)) refl
  where
    go : (t u : Bool) → ltb 255 (length new) ≡ u → (v : Bool) → eqb (length new) 0 ≡ v → (x : Bool) → taken (read_of k 0 new) ≡ x
        → pick t (refused 41) (pick u (refused 32) (pick (v || not x) (refused 33) (made new))) ≡ made b → (b ≡ new) × Accepted (check_of k b) × (0 < length b)
    go true u eu v ev x ex e = let z : ◌≡◌ {A = ℕ} 0 1 = cc in absurd (omega arith)
    go false true eu v ev x ex e = let z : ◌≡◌ {A = ℕ} 0 1 = cc in absurd (omega arith)
    go false false eu true ev x ex e = let z : ◌≡◌ {A = ℕ} 0 1 = cc in absurd (omega arith)
    go false false eu false ev false ex e = let z : ◌≡◌ {A = ℕ} 0 1 = cc in absurd (omega arith)
    go false false eu false ev true ex e =
        let is : b ≡ new = cc in
        let some : length new ≡ 0 → ⊥ = eqb-false (length new) 0 ev in
        let a : Accepted (check_of k new) = check_of_read k new (ltb-false _ _ eu) (taken_accepted _ ex) in
        (is, rw is a, rw is (omega arith))
