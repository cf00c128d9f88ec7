-- From trees of parts to the public answer, for the statements in Theorems.antt.
use Prim.Native.Nat.{ℕ, zero, suc, ◌+◌, ◌*◌, ◌-◌, ◌≤◌}
use mathlib.Core.Path.{◌≡◌, refl, sym, ap, ◌∙◌}
use mathlib.Core.Bool.{Bool, true, false, not, ◌&&◌, cond as pick}
use mathlib.Core.List.{List, [], ◌∷◌, ◌++◌, map, append-nil}
use native.Mathlib.Omega.{arith}
use lib.Dec.{ltb, eqb}
use lib.ListN.{length, take, drop, replicate, length-append, length-take, length-drop, length-replicate, take-append-drop}
use lib.Seq.{take-append_seam, drop-append_seam, take-length}
use borrow.Author.Tests.{le-ltb, ltb-false, eqb-true, eqb-false}
use Rattle.upid.specs.Upid.{upid_of, check_of, read_of, walk_of, plain_of, ◌then◌, list_of, reported_of, length_of, is_text, listed, blank_part, unless_refused, eidr_of, parts_in}
use Rattle.upid.specs.Text.{text_of}
use Rattle.upid.specs.Cover.{All, none, more, Cut, joined, placed, top_part, bytes_of, direct_of, Covered, Ascending, Owned, Once}
use Rattle.table.specs.declared.View.{View}
use Rattle.upid.specs.Private.{Accepted, Announced}
use Rattle.upid.specs.declared.Part.{Part}
use Rattle.upid.specs.declared.Refusal.{Refusal}
use Rattle.upid.specs.declared.Refusal.TheVariants.{NotEnoughData, InvalidUpidContent}
use Rattle.upid.proofs.Laws.{few, then_both, read_nil, read_more, list_nil, list_more, list_plain}
use Rattle.upid.proofs.Walks.{check_short, check_mid}
use Rattle.upid.proofs.Cutting.{one_cutting, placed_once, placed_runs}
use Rattle.upid.proofs.Tree.{Forest, cuts, records, Grown, size, grow, Piece, top_piece, inner_pieces, announced, shallow, ascending, owned, all_map}
use Rattle.std.proofs.Common.{Ok, Err, Result}

-- ---- the parts in an answer

pub parts_in_lem : (k : ℕ) (bytes : List ℕ) → parts_in (upid_of k bytes) ≡ unless_refused (check_of k bytes) (list_of k 1 0 bytes)
unfolding upid_of listed
parts_in_lem k bytes = take-append_seam _ _

kept : (a : Result ℕ Refusal) (ps : List Part) → Accepted a → unless_refused a ps ≡ ps
unfolding unless_refused
kept (Ok k) ps h = refl
kept (Err r) ps h = absurd h

pub parts_of_mid : (top : List ℕ) → Accepted (check_of 13 top) → parts_in (upid_of 13 top) ≡ list_of 13 1 0 top
parts_of_mid top a = parts_in_lem 13 top ∙ kept _ _ a

-- ---- a MID's pieces cover it

cover : (top : List ℕ) (ps : List Part) (m : Part) → Piece top ps m → Covered top ps m
cover top ps m h =
    let here : drop m.start top ≡ joined h.cutting ++ drop m.len (drop m.start top) =
    sym (take-append-drop m.len (drop m.start top)) ∙ rw h.joins in
    record {
      cutting = h.cutting;
      joins = h.joins;
      only = λ other e. one_cutting other h.cutting (e ∙ sym h.joins);
      pieces = h.pieces;
      runs = rw h.pieces (placed_runs top (m.level + 1) m.start h.cutting _ here);
    }

once : (top : List ℕ) (ps : List Part) (m : Part) → Piece top ps m → Once ps m
once top ps m h i low high = rw h.pieces (placed_once (m.level + 1) m.start i h.cutting low (rw h.size high))

-- what holds of each piece holds of every MID in what is accepted
module _ (P : List ℕ → List Part → Part → Type 0) (of-piece : (top : List ℕ) (ps : List Part) (m : Part) → Piece top ps m → P top ps m) where
  in_forest : (f : Forest) → Grown f → All (λ (m : Part). m.upid_type ≡ 13 → P (joined (cuts f)) (records 1 0 f) m) (top_part (joined (cuts f)) ∷ records 1 0 f)
  in_forest f g =
      all_map (λ m h e. of-piece (joined (cuts f)) (records 1 0 f) m (h e))
      (more (λ e. top_piece f g) (inner_pieces (joined (cuts f)) f 1 0 [] g (sym (append-nil _))))

  in_tree : (top : List ℕ) (ps : List Part) (f : Forest) → Grown f → joined (cuts f) ≡ top → ps ≡ records 1 0 f → All (λ (m : Part). m.upid_type ≡ 13 → P top ps m) (top_part top ∷ ps)
  in_tree top ps f g j r = rw (r, ← j) (in_forest f g)

  of_every_mid : (top : List ℕ) → Accepted (check_of 13 top) → All (λ (m : Part). m.upid_type ≡ 13 → P top (parts_in (upid_of 13 top)) m) (top_part top ∷ parts_in (upid_of 13 top))
  of_every_mid top a =
      let (f, g, j, r) = grow (length top) 1 0 top (omega arith) (check_mid top a) in
      in_tree top _ f g j (parts_of_mid top a ∙ r)

pub covered : (top : List ℕ) → Accepted (check_of 13 top) → All (λ (m : Part). m.upid_type ≡ 13 → Covered top (parts_in (upid_of 13 top)) m) (top_part top ∷ parts_in (upid_of 13 top))
covered = of_every_mid Covered cover

pub all_once : (top : List ℕ) → Accepted (check_of 13 top) → All (λ (m : Part). m.upid_type ≡ 13 → Once (parts_in (upid_of 13 top)) m) (top_part top ∷ parts_in (upid_of 13 top))
all_once = of_every_mid (λ top. Once) once

pub announced_all : (top : List ℕ) → Accepted (check_of 13 top) → All (Announced top) (parts_in (upid_of 13 top))
announced_all top a =
    let (f, g, j, r) = grow (length top) 1 0 top (omega arith) (check_mid top a) in
    rw (parts_of_mid top a, r) (announced top f 1 0 [] g (sym j ∙ sym (append-nil _)))

pub in_byte_order : (top : List ℕ) → Accepted (check_of 13 top) → Ascending (parts_in (upid_of 13 top))
in_byte_order top a =
    let (f, g, j, r) = grow (length top) 1 0 top (omega arith) (check_mid top a) in
    rw (parts_of_mid top a, r) (ascending f 1 0 g)

owned_tree : (top : List ℕ) (ps : List Part) (f : Forest) → Grown f → joined (cuts f) ≡ top → ps ≡ records 1 0 f → All (Owned (top_part top ∷ ps)) ps
unfolding size
owned_tree top ps f g j r = rw (r, ← j) (owned f 1 0 (top_part (joined (cuts f))) g refl refl (omega arith) (omega arith))

pub no_part_of_nothing : (top : List ℕ) → Accepted (check_of 13 top) → All (Owned (top_part top ∷ parts_in (upid_of 13 top))) (parts_in (upid_of 13 top))
no_part_of_nothing top a =
    let (f, g, j, r) = grow (length top) 1 0 top (omega arith) (check_mid top a) in
    owned_tree top _ f g j (parts_of_mid top a ∙ r)

-- ---- how many parts, and how deep

few_parts : (k : ℕ) (bytes : List ℕ) (a : Result ℕ Refusal) → (Accepted a → length bytes ≤ 255) → length (unless_refused a (list_of k 1 0 bytes)) ≤ 127
unfolding unless_refused
few_parts k bytes (Ok q) h = omega (arith, few k 1 0 bytes, h tt)
few_parts k bytes (Err r) h = omega arith

pub at_most_127 : (k : ℕ) (bytes : List ℕ) → (upid_of k bytes).list.count ≤ 127
unfolding upid_of listed
at_most_127 k bytes = few_parts k bytes (check_of k bytes) (check_short k bytes)

no_parts_lem : (k : ℕ) (bytes : List ℕ) (a : Result ℕ Refusal) → (Accepted a → k ≡ 13 → ⊥) → unless_refused a (list_of k 1 0 bytes) ≡ []
unfolding unless_refused
no_parts_lem k bytes (Ok q) h = list_plain k 1 0 bytes (h tt)
no_parts_lem k bytes (Err r) h = refl

pub no_mid_no_parts : (k : ℕ) (bytes : List ℕ) → (k ≡ 13 → ⊥) → parts_in (upid_of k bytes) ≡ []
no_mid_no_parts k bytes h = parts_in_lem k bytes ∙ no_parts_lem k bytes _ (λ _. h)

pub refused_no_parts : (k : ℕ) (bytes : List ℕ) (r : Refusal) → check_of k bytes ≡ Err r → parts_in (upid_of k bytes) ≡ []
refused_no_parts k bytes r e = parts_in_lem k bytes ∙ no_parts_lem k bytes _ (λ a. absurd (rw e at a))

mid_levels : (top : List ℕ) → Accepted (check_of 13 top) → All (λ (p : Part). (1 ≤ p.level) × (p.level ≤ 127)) (parts_in (upid_of 13 top))
unfolding size
mid_levels top a =
    let (f, g, j, r) = grow (length top) 1 0 top (omega arith) (check_mid top a) in
    let n : 2 * 1 + length (joined (cuts f)) ≤ 257 = omega (arith, ap length j, check_short 13 top a) in
    rw (parts_of_mid top a, r) (all_map (λ p h. (h.0, omega (arith, h.1))) (shallow f 1 0 1 257 g (omega arith) n))

pub levels : (k : ℕ) (bytes : List ℕ) → All (λ (p : Part). (1 ≤ p.level) × (p.level ≤ 127)) (parts_in (upid_of k bytes))
levels k bytes = go (eqb k 13) refl
  where
    of_read : (a : Result ℕ Refusal) → check_of k bytes ≡ a → k ≡ 13 → All (λ (p : Part). (1 ≤ p.level) × (p.level ≤ 127)) (parts_in (upid_of k bytes))
    of_read (Ok q) e h = let a : Accepted (check_of 13 bytes) = rw (← h, e) tt in rw h (mid_levels bytes a)
    of_read (Err r) e h = rw (refused_no_parts k bytes r e) none

    go : (t : Bool) → eqb k 13 ≡ t → All (λ (p : Part). (1 ≤ p.level) × (p.level ≤ 127)) (parts_in (upid_of k bytes))
    go true e = of_read (check_of k bytes) refl (eqb-true k 13 e)
    go false e = rw (no_mid_no_parts k bytes (eqb-false k 13 e)) none

pub blank_past_count : (k : ℕ) (bytes : List ℕ) → (upid_of k bytes).list.parts ≡ parts_in (upid_of k bytes) ++ replicate (127 - (upid_of k bytes).list.count) blank_part
unfolding upid_of listed
blank_past_count k bytes =
    let ps : List Part = unless_refused (check_of k bytes) (list_of k 1 0 bytes) in
    ap (λ (l : List Part). l ++ replicate (127 - length ps) blank_part) (sym (parts_in_lem k bytes))

pub all_127 : (k : ℕ) (bytes : List ℕ) → length (upid_of k bytes).list.parts ≡ 127
unfolding upid_of listed
all_127 k bytes =
    let n : length (unless_refused (check_of k bytes) (list_of k 1 0 bytes)) ≤ 127 = at_most_127 k bytes in
    rw (length-append, length-replicate) (omega arith)

-- ---- pieces that are accepted make up a MID that is accepted

-- where a payload lies does not matter
either : (t : Bool) (a b c d : Result ℕ Refusal) → (Accepted a → Accepted c) → (Accepted b → Accepted d) → Accepted (pick t a b) → Accepted (pick t c d)
either true a b c d f g h = f h
either false a b c d f g h = g h

pub then_all : (a b : Result ℕ Refusal) → Accepted a → Accepted b → Accepted (a then b)
unfolding ◌then◌
then_all (Ok k) b ha hb = hb
then_all (Err r) b ha hb = absurd ha

plain_anywhere : (k s t : ℕ) (bytes : List ℕ) → Accepted (plain_of k s bytes) → Accepted (plain_of k t bytes)
unfolding plain_of
plain_anywhere k s t bytes =
    either (eqb k 0) _ _ _ _ (λ h. h)
    (either (eqb (length_of k) 0) _ _ _ _ (λ h. h)
    (either (not (eqb (length bytes) (length_of k))) _ _ _ _ (λ h. h)
    (either (is_text k && not (text_of bytes)) _ _ _ _ (λ h. h) (λ h. h))))

walk_anywhere : (n s t : ℕ) (bytes : List ℕ) → Accepted (walk_of n s bytes) → Accepted (walk_of n t bytes)
unfolding walk_of
walk_anywhere zero s t bytes h = tt
walk_anywhere (suc n) s t [] h = tt
walk_anywhere (suc n) s t (k ∷ []) h = h
walk_anywhere (suc n) s t (k ∷ (l ∷ rest)) h =
    either (ltb (length rest) l) _ _ _ _ (λ x. x)
    (λ x.
    let both = then_both _ _ x in
    then_all _ _
    (either (eqb k 13) _ _ _ _ (walk_anywhere n (s + 2) (t + 2) (take l rest)) (plain_anywhere k (s + 2) (t + 2) (take l rest)) both.0)
    (walk_anywhere n (s + (2 + l)) (t + (2 + l)) (drop l rest) both.1))
    h

pub anywhere : (k s t : ℕ) (bytes : List ℕ) → Accepted (read_of k s bytes) → Accepted (read_of k t bytes)
unfolding read_of
anywhere k s t bytes = either (eqb k 13) _ _ _ _ (walk_anywhere (length bytes) s t bytes) (plain_anywhere k s t bytes)

join_read : (start : ℕ) (cs : List Cut) → All (λ (c : Cut). Accepted (read_of c.upid_type 0 c.payload)) cs → Accepted (read_of 13 start (joined cs))
unfolding joined
join_read start [] none = rw read_nil tt
join_read start (c ∷ cs) (more h hs) =
    let n : length c.payload ≤ length (c.payload ++ joined cs) = omega (arith, length-append c.payload (joined cs)) in
    rw (read_more, le-ltb _ _ n, take-append_seam, drop-append_seam)
    (then_all _ _ (anywhere c.upid_type 0 (start + 2) c.payload h) (join_read (start + (2 + length c.payload)) cs hs))

-- what is accepted where it stands is accepted as a whole UPID
pub check_of_read : (k : ℕ) (s : List ℕ) → length s ≤ 255 → Accepted (read_of k 0 s) → Accepted (check_of k s)
unfolding check_of
check_of_read k s n a = rw (le-ltb _ _ n) (go (eqb (length s) 0))
  where
    go : (t : Bool) → Accepted (pick t (Ok 0) (read_of k 0 s))
    go true = tt
    go false = a

join_checked : (cs : List Cut) → length (joined cs) ≤ 255 → All (λ (c : Cut). Accepted (read_of c.upid_type 0 c.payload)) cs → Accepted (check_of 13 (joined cs))
join_checked cs n h = check_of_read 13 (joined cs) n (join_read 0 cs h)

pub pieces_write_read : (cs : List Cut) → length (joined cs) ≤ 255 → All (λ (c : Cut). Accepted (read_of c.upid_type 0 c.payload)) cs
    → Accepted (check_of 13 (joined cs)) × (direct_of (top_part (joined cs)) (parts_in (upid_of 13 (joined cs))) ≡ placed 1 0 cs)
pieces_write_read cs n h = (join_checked cs n h, found (covered (joined cs) (join_checked cs n h)))
  where
    top : List ℕ
    top = joined cs

    found : All (λ (m : Part). m.upid_type ≡ 13 → Covered top (parts_in (upid_of 13 top)) m) (top_part top ∷ parts_in (upid_of 13 top))
        → direct_of (top_part top) (parts_in (upid_of 13 top)) ≡ placed 1 0 cs
    found (more c rest) =
        let own : cs ≡ (c refl).cutting = (c refl).only cs (sym (take-length top)) in
        (c refl).pieces ∙ rw (← own)

-- parts that are no MIDs have none inside them
plain_parts : (level start : ℕ) (cs : List Cut) → All (λ (c : Cut). c.upid_type ≡ 13 → ⊥) cs → list_of 13 level start (joined cs) ≡ placed level start cs
unfolding joined placed
plain_parts level start [] none = list_nil level start
plain_parts level start (c ∷ cs) (more h hs) =
    rw (list_more, take-append_seam, drop-append_seam, list_plain c.upid_type (level + 1) (start + 2) c.payload h, plain_parts level (start + (2 + length c.payload)) cs hs)

pub pieces_write_read_plain : (cs : List Cut) → length (joined cs) ≤ 255 → All (λ (c : Cut). Accepted (read_of c.upid_type 0 c.payload)) cs → All (λ (c : Cut). c.upid_type ≡ 13 → ⊥) cs
    → (parts_in (upid_of 13 (joined cs)) ≡ placed 1 0 cs) × (map (bytes_of (joined cs)) (parts_in (upid_of 13 (joined cs))) ≡ map (λ (c : Cut). c.payload) cs)
pieces_write_read_plain cs n h p =
    let e : parts_in (upid_of 13 (joined cs)) ≡ placed 1 0 cs = parts_of_mid (joined cs) (join_checked cs n h) ∙ plain_parts 1 0 cs p in
    (e, rw e (placed_runs (joined cs) 1 0 cs [] (sym (append-nil (joined cs)))))

-- ---- the view of a refusal 24 lies in the UPID

Inside : ℕ → Result ℕ Refusal → Type 0
Inside end a = (k : ℕ) (v : View) → a ≡ Err (InvalidUpidContent k v) → v.at + v.len ≤ end

inside_fine : (end k : ℕ) → Inside end (Ok k)
unfolding Inside
inside_fine end k q v e = let z : ◌≡◌ {A = ℕ} 0 1 = cc in absurd (omega arith)

inside_wider : (m n : ℕ) (a : Result ℕ Refusal) → m ≤ n → Inside m a → Inside n a
unfolding Inside
inside_wider m n a l h k v e = omega (arith, h k v e)

inside_pick : (end : ℕ) (t : Bool) (a b : Result ℕ Refusal) → Inside end a → (t ≡ false → Inside end b) → Inside end (pick t a b)
inside_pick end true a b ha hb = ha
inside_pick end false a b ha hb = hb refl

inside_then : (end : ℕ) (a b : Result ℕ Refusal) → Inside end a → Inside end b → Inside end (a then b)
unfolding ◌then◌
inside_then end (Ok k) b ha hb = hb
inside_then end (Err r) b ha hb = ha

inside_short : (end expected actual : ℕ) → Inside end (Err (NotEnoughData expected actual))
unfolding Inside
inside_short end expected actual q v e = let z : ◌≡◌ {A = ℕ} 0 1 = cc in absurd (omega arith)

inside_plain : (k start : ℕ) (bytes : List ℕ) → Inside (start + length bytes) (plain_of k start bytes)
unfolding Inside plain_of
inside_plain k start bytes =
    inside_pick _ (eqb k 0) _ _ (λ q v e. let z : ◌≡◌ {A = ℕ} 0 1 = cc in absurd (omega arith)) (λ _.
    inside_pick _ (eqb (length_of k) 0) _ _ (inside_fine _ _) (λ _.
    inside_pick _ (not (eqb (length bytes) (length_of k))) _ _ (λ q v e. let z : ◌≡◌ {A = ℕ} 0 1 = cc in absurd (omega arith)) (λ _.
    inside_pick _ (is_text k && not (text_of bytes)) _ _
    (λ q v e. let f : v ≡ record { at = start; len = length bytes } = cc in rw f (omega arith))
    (λ _. inside_fine _ _))))

inside_walk : (n start : ℕ) (bytes : List ℕ) → Inside (start + length bytes) (walk_of n start bytes)
unfolding walk_of
inside_walk zero start bytes = inside_fine _ _
inside_walk (suc n) start [] = inside_fine _ _
inside_walk (suc n) start (k ∷ []) = inside_short _ _ _
inside_walk (suc n) start (k ∷ (l ∷ rest)) =
    inside_pick _ (ltb (length rest) l) _ _ (inside_short _ _ _) (λ e.
    let present : l ≤ length rest = ltb-false _ _ e in
    let m : start + 2 + length (take l rest) ≤ start + length (k ∷ (l ∷ rest)) = omega (arith, length-take l rest) in
    inside_then _ _ _
    (inside_pick _ (eqb k 13) _ _ (inside_wider _ _ _ m (inside_walk n (start + 2) (take l rest))) (λ _. inside_wider _ _ _ m (inside_plain k (start + 2) (take l rest))))
    (inside_wider (start + (2 + l) + length (drop l rest)) _ _ (omega (arith, length-drop l rest)) (inside_walk n (start + (2 + l)) (drop l rest))))

pub view_inside : (k : ℕ) (bytes : List ℕ) (q : ℕ) (v : View) → check_of k bytes ≡ Err (InvalidUpidContent q v) → v.at + v.len ≤ length bytes
unfolding Inside check_of read_of
view_inside k bytes q v =
    inside_pick (length bytes) (ltb 255 (length bytes)) _ _ (λ q v e. let z : ◌≡◌ {A = ℕ} 0 1 = cc in absurd (omega arith)) (λ _.
    inside_pick _ (eqb (length bytes) 0) _ _ (inside_fine _ _) (λ _.
    inside_pick _ (eqb k 13) _ _ (inside_wider _ _ _ (omega arith) (inside_walk (length bytes) 0 bytes)) (λ _. inside_wider _ _ _ (omega arith) (inside_plain k 0 bytes))))
    q v

-- ---- a MID of 8 and 12 bytes

two_runs : (a b x y : List ℕ) → ◌≡◌ {A = List (List ℕ)} (x ∷ (y ∷ [])) (a ∷ (b ∷ [])) → (x ≡ a) × (y ≡ b)
two_runs a b x y e = (cc, cc)

module _ (j k : ℕ) (a b : List ℕ) (la : length a ≡ 8) (lb : length b ≡ 12)
    (ja : Accepted (read_of j 0 a)) (kb : Accepted (read_of k 0 b)) (nj : j ≡ 13 → ⊥) (nk : k ≡ 13 → ⊥) where
  two : List Cut
  two = record { upid_type = j; payload = a } ∷ (record { upid_type = k; payload = b } ∷ [])

  top : List ℕ
  top = j ∷ (8 ∷ (a ++ (k ∷ (12 ∷ b))))

  two_joined : joined two ≡ top
  unfolding joined two top
  two_joined = rw (la, lb, append-nil)

  two_short : length (joined two) ≤ 255
  unfolding top
  two_short = rw two_joined (omega (arith, length-append a (k ∷ (12 ∷ b))))

  two_placed : placed 1 0 two ≡ record { upid_type = reported_of j; level = 1; start = 2; len = 8 } ∷ (record { upid_type = reported_of k; level = 1; start = 12; len = 12 } ∷ [])
  unfolding placed two
  two_placed = rw (la, lb)

  back : (parts_in (upid_of 13 top) ≡ placed 1 0 two) × (map (bytes_of top) (parts_in (upid_of 13 top)) ≡ a ∷ (b ∷ []))
  unfolding two
  back = rw two_joined at (pieces_write_read_plain two two_short (more ja (more kb none)) (more nj (more nk none)))

  pub eight_and_twelve_lem : (parts_in (upid_of 13 (j ∷ (8 ∷ (a ++ (k ∷ (12 ∷ b)))))) ≡ record { upid_type = reported_of j; level = 1; start = 2; len = 8 } ∷ (record { upid_type = reported_of k; level = 1; start = 12; len = 12 } ∷ []))
      × (take 8 (drop 2 (j ∷ (8 ∷ (a ++ (k ∷ (12 ∷ b)))))) ≡ a) × (take 12 (drop 12 (j ∷ (8 ∷ (a ++ (k ∷ (12 ∷ b)))))) ≡ b)
  unfolding top
  eight_and_twelve_lem =
      let parts = back.0 ∙ two_placed in
      let runs = two_runs a b _ _ (rw parts at back.1) in
      (parts, runs.0, runs.1)

-- ---- an EIDR

pub eidr_held : (bytes : List ℕ) → length bytes ≡ 12 → ((upid_of 10 bytes).read ≡ Ok 10) × ((upid_of 10 bytes).eidr ≡ bytes)
unfolding upid_of check_of read_of plain_of eidr_of length_of is_text reported_of
eidr_held bytes h = (rw h, rw h)
