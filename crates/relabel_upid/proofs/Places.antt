-- The parts before a hole and those after it, where another piece fills it: what the positions of specs/Relabel.antt come to.
use Prim.Native.Nat.{ℕ, zero, suc, ◌+◌, ◌-◌, ◌≤◌}
use mathlib.Core.Path.{◌≡◌, refl, sym, ap, ap₂, ◌∙◌}
use mathlib.Core.Bool.{Bool, true, false, cond as pick}
use mathlib.Core.List.{List, [], ◌∷◌, ◌++◌, map, map-append, append_assoc}
use native.Mathlib.Omega.{arith}
use lib.Dec.{eqb}
use lib.ListN.{length, take, drop, set, length-append, length-take, length-drop}
use lib.Seq.{set_at}
use borrow.Author.Tests.{lt-ltb, le-ltb, le-leb, lt-leb, eqb-true, eqb-false}
use Rattle.upid.specs.Cover.{All, none, more, Cut}
use Rattle.upid.specs.Upid.{read_of, list_of, parts_of, reported_of}
use Rattle.upid.specs.Private.{Accepted}
use Rattle.upid.specs.declared.Part.{Part}
use Rattle.upid.proofs.Answers.{anywhere}
use Rattle.upid.proofs.Laws.{read_one, read_more, list_nil, list_more, list_plain, list_mid, accepted_mid, then_both, by_cases}
use Rattle.upid.proofs.Tree.{all_append, all_map}
use Rattle.relabel_upid.specs.Hole.{Hole, here, inside, past, headed, filled}
use Rattle.relabel_upid.specs.Kept.{widened, moved}
use Rattle.relabel_upid.specs.Relabel.{instead, around, mended}
use Rattle.relabel_upid.proofs.Holes.{level_at, start_at, recorded, inner, before, behind, AcceptedBeside, AcceptedCut, prior, length_prior, length_filled}

-- ---- the parts of what is accepted lie in it

abbrev pub Lies : ℕ → ℕ → Part → Type 0
Lies low high q = (low + 2 ≤ q.start) × (q.start + q.len ≤ high)

LiesIn : ℕ → Type 0
LiesIn n = (level start low high : ℕ) (s : List ℕ) → length s ≤ n → low ≤ start → start + length s ≤ high → Accepted (read_of 13 0 s) → All (Lies low high) (list_of 13 level start s)

lies_if_mid : (n k level start low high : ℕ) (s : List ℕ) → LiesIn n → length s ≤ n → low ≤ start → start + length s ≤ high → Accepted (read_of k 0 s) → All (Lies low high) (list_of k level start s)
unfolding LiesIn
lies_if_mid n k level start low high s again hn hl hh a = go (eqb k 13) refl
  where
    go : (t : Bool) → eqb k 13 ≡ t → All (Lies low high) (list_of k level start s)
    go true e = rw (list_mid k level start s (eqb-true k 13 e)) (again level start low high s hn hl hh (accepted_mid k 0 s (eqb-true k 13 e) a))
    go false e = rw (list_plain k level start s (eqb-false k 13 e)) none

lies_turn : (n level start low high k l : ℕ) (rest : List ℕ) → LiesIn n → length rest ≤ n → low ≤ start → start + (2 + length rest) ≤ high → l ≤ length rest
    → Accepted (read_of 13 0 (k ∷ (l ∷ rest))) → All (Lies low high) (list_of 13 level start (k ∷ (l ∷ rest)))
unfolding LiesIn
lies_turn n level start low high k l rest again hn hl hh present a =
    let b = then_both (read_of k (0 + 2) (take l rest)) (read_of 13 (0 + (2 + l)) (drop l rest)) (rw (read_more 0 k l rest, le-ltb _ _ present) at a) in
    rw list_more
    (more {x = record { upid_type = reported_of k; level = level; start = start + 2; len = l }} (omega arith, omega arith)
    (all_append
    (lies_if_mid n k (level + 1) (start + 2) low high (take l rest) again (omega (arith, length-take l rest)) (omega arith) (omega (arith, length-take l rest)) (anywhere _ _ 0 _ b.0))
    (again level (start + (2 + l)) low high (drop l rest) (omega (arith, length-drop l rest)) (omega arith) (omega (arith, length-drop l rest)) (anywhere _ _ 0 _ b.1))))

lies_mid : (n level start low high : ℕ) (s : List ℕ) → length s ≤ n → low ≤ start → start + length s ≤ high → Accepted (read_of 13 0 s) → All (Lies low high) (list_of 13 level start s)
unfolding LiesIn
lies_mid zero level start low high [] hn hl hh a = rw list_nil none
lies_mid zero level start low high (k ∷ s) hn hl hh a = absurd (omega arith)
lies_mid (suc n) level start low high [] hn hl hh a = rw list_nil none
lies_mid (suc n) level start low high (k ∷ []) hn hl hh a = absurd (rw read_one at a)
lies_mid (suc n) level start low high (k ∷ (l ∷ rest)) hn hl hh a =
    by_cases (length rest) l
    (λ short. absurd (rw (read_more 0 k l rest, lt-ltb _ _ short) at a))
    (λ present. lies_turn n level start low high k l rest (lies_mid n) (omega arith) hl (omega arith) present a)

-- those of a piece, its own included
pub lies_in_lem : (level start : ℕ) (d : Cut) → AcceptedCut d → All (Lies start (start + (2 + length d.payload))) (recorded level start d ∷ inner level start d)
unfolding LiesIn
lies_in_lem level start d f =
    more {x = recorded level start d} (omega arith, omega arith)
    (lies_if_mid (length d.payload) d.upid_type (level + 1) (start + 2) start (start + (2 + length d.payload)) d.payload
    (lies_mid (length d.payload)) (omega arith) (omega arith) (omega arith) f)

-- ---- which of the parts before the hole are around it

-- a part that ends before p's head is not around it
beside : (p : Part) (low high : ℕ) (qs : List Part) → high + 2 ≤ p.start → All (Lies low high) qs → All (λ (q : Part). around p q ≡ false) qs
unfolding around
beside p low high qs h = all_map (λ q l. lt-leb (p.start + p.len) (q.start + q.len) (omega arith))

mended_beside : (p : Part) (n : ℕ) (qs rs : List Part) (s : List ℕ) → All (λ (q : Part). around p q ≡ false) qs → mended p n (qs ++ rs) s ≡ mended p n rs s
unfolding mended
mended_beside p n [] rs s none = refl
mended_beside p n (q ∷ qs) rs s (more h hs) =
    ap (λ (t : Bool). mended p n (qs ++ rs) (pick t (set s (q.start - 1) (instead p n q.len)) s)) h ∙ mended_beside p n qs rs s hs

widened_beside : (p : Part) (n : ℕ) (qs : List Part) → All (λ (q : Part). around p q ≡ false) qs → map (widened p n) qs ≡ qs
widened_beside p n [] none = refl
widened_beside p n (q ∷ qs) (more h hs) = rw (h, widened_beside p n qs hs)

-- the hole's own part
abbrev pub spot : Cut → ℕ → ℕ → Hole → Part
spot c level start h = recorded (level_at level h) (start_at start h) c

-- a head around the hole counts what now is inside
counts : (c d : Cut) (start : ℕ) (h : Hole) → length (filled h c) - length c.payload + length d.payload ≡ length (filled h d)
counts c d start h = omega (arith, length_filled c start h, length_filled d start h, length_prior c start h)

is_around : (c : Cut) (level start : ℕ) (h : Hole) (q : Part) → q.start ≡ start → q.len ≡ length (filled h c) → around (spot c level start h) q ≡ true
unfolding around
is_around c level start h q es el =
    let z : start_at start h + 2 + length c.payload ≤ q.start + q.len = omega (arith, length_filled c start h) in
    le-leb (start_at start h + 2 + length c.payload) (q.start + q.len) z

beside_past : (c d : Cut) (level start : ℕ) (h : Hole) → AcceptedCut d
    → All (λ (q : Part). around (spot c level (start + (2 + length d.payload)) h) q ≡ false) (recorded level start d ∷ inner level start d)
beside_past c d level start h f =
    beside (spot c level (start + (2 + length d.payload)) h) start (start + (2 + length d.payload)) (recorded level start d ∷ inner level start d)
    (omega (arith, length_prior c (start + (2 + length d.payload)) h)) (lies_in_lem level start d f)

-- a length stored in a head
store_length : (pre : List ℕ) (start l v : ℕ) (rest : List ℕ) → length pre ≡ start → set (pre ++ (13 ∷ (l ∷ rest))) (start + 2 - 1) v ≡ (pre ++ (13 ∷ (v ∷ []))) ++ rest
store_length pre start l v rest e =
    let n : length (pre ++ (13 ∷ [])) ≡ start + 2 - 1 = omega (arith, length-append pre (13 ∷ [])) in
    let f : pre ++ (13 ∷ (l ∷ rest)) ≡ (pre ++ (13 ∷ [])) ++ (l ∷ rest) = sym (append_assoc pre (13 ∷ []) (l ∷ rest)) in
    ap (λ (s : List ℕ). set s (start + 2 - 1) v) f ∙ set_at (pre ++ (13 ∷ [])) l rest v (start + 2 - 1) n ∙ simp append_assoc

-- what stands before the hole, mended
pub mend_prior : (c d : Cut) (level start : ℕ) (h : Hole) (pre : List ℕ) → length pre ≡ start → AcceptedBeside h
    → mended (spot c level start h) (length d.payload) (before c level start h) (pre ++ prior c h) ≡ pre ++ prior d h
unfolding mended
mend_prior c d level start (here a) pre e f = refl
mend_prior c d level start (inside h a) pre e f =
    let p : Part = spot c (level + 1) (start + 2) h in
    let q : Part = recorded level start (record { upid_type = 13; payload = filled h c }) in
    let v : ℕ = length (filled h c) - length c.payload + length d.payload in
    let n : length (pre ++ (13 ∷ (v ∷ []))) ≡ start + 2 = omega (arith, length-append pre (13 ∷ (v ∷ []))) in
    let r : List Part = before c (level + 1) (start + 2) h in
    let s : List ℕ = pre ++ (13 ∷ (length (filled h c) ∷ prior c h)) in
    ap (λ (t : Bool). mended p (length d.payload) r (pick t (set s (start + 2 - 1) v) s)) (is_around c (level + 1) (start + 2) h q refl refl)
    ∙ ap (mended p (length d.payload) r) (store_length pre start (length (filled h c)) v (prior c h) e)
    ∙ mend_prior c d (level + 1) (start + 2) h (pre ++ (13 ∷ (v ∷ []))) n f.0
    ∙ append_assoc pre (13 ∷ (v ∷ [])) (prior d h)
    ∙ ap (λ (x : ℕ). pre ++ (13 ∷ (x ∷ prior d h))) (counts c d start h)
mend_prior c d level start (past x h) pre e f =
    let there : ℕ = start + (2 + length x.payload) in
    let p : Part = spot c level there h in
    let head : List ℕ = x.upid_type ∷ (length x.payload ∷ x.payload) in
    let n : length (pre ++ head) ≡ there = omega (arith, length-append pre head) in
    mended_beside p (length d.payload) (recorded level start x ∷ inner level start x) (before c level there h) (pre ++ headed x (prior c h)) (beside_past c x level start h f.0)
    ∙ ap (mended p (length d.payload) (before c level there h)) (sym (append_assoc pre head (prior c h)))
    ∙ mend_prior c d level there h (pre ++ head) n f.1
    ∙ append_assoc pre head (prior d h)

-- the parts before the hole: those around it are longer
pub before_widened : (c d : Cut) (level start : ℕ) (h : Hole) → AcceptedBeside h → map (widened (spot c level start h) (length d.payload)) (before c level start h) ≡ before d level start h
before_widened c d level start (here a) f = refl
before_widened c d level start (inside h a) f =
    let q : Part = recorded level start (record { upid_type = 13; payload = filled h c }) in
    ap₂ (λ (x : Part) (xs : List Part). x ∷ xs)
    (ap (λ (t : Bool). pick t (record { upid_type = q.upid_type; level = level; start = start + 2; len = length (filled h c) - length c.payload + length d.payload }) q) (is_around c (level + 1) (start + 2) h q refl refl)
    ∙ ap (λ (x : ℕ). record { upid_type = q.upid_type; level = level; start = start + 2; len = x }) (counts c d start h))
    (before_widened c d (level + 1) (start + 2) h f.0)
before_widened c d level start (past x h) f =
    let there : ℕ = start + (2 + length x.payload) in
    let p : Part = spot c level there h in
    map-append (widened p (length d.payload)) (recorded level start x ∷ inner level start x) (before c level there h)
    ∙ ap₂ (λ (xs ys : List Part). xs ++ ys)
    (widened_beside p (length d.payload) (recorded level start x ∷ inner level start x) (beside_past c x level start h f.0))
    (before_widened c d level there h f.1)

-- ---- the parts after the hole

moved_parts : (n m level start to : ℕ) (p : Part) (s : List ℕ) → p.len ≤ start → to ≡ instead p m start → map (moved p m) (parts_of n level start s) ≡ parts_of n level to s
unfolding parts_of
moved_parts zero m level start to p s h e = refl
moved_parts (suc n) m level start to p [] h e = refl
moved_parts (suc n) m level start to p (k ∷ []) h e = refl
moved_parts (suc n) m level start to p (k ∷ (l ∷ rest)) h e =
    let at : instead p m (start + 2) ≡ to + 2 = omega arith in
    let i : map (moved p m) (parts_of n (level + 1) (start + 2) (take l rest)) ≡ parts_of n (level + 1) (to + 2) (take l rest) = moved_parts n m (level + 1) (start + 2) (to + 2) p (take l rest) (omega arith) (omega arith) in
    let j : map (moved p m) (parts_of n level (start + (2 + l)) (drop l rest)) ≡ parts_of n level (to + (2 + l)) (drop l rest) = moved_parts n m level (start + (2 + l)) (to + (2 + l)) p (drop l rest) (omega arith) (omega arith) in
    ap₂ (λ (x : ℕ) (xs : List Part). record { upid_type = reported_of k; level = level; start = x; len = l } ∷ xs) at
    (map-append (moved p m) (pick (eqb k 13) (parts_of n (level + 1) (start + 2) (take l rest)) []) (parts_of n level (start + (2 + l)) (drop l rest))
    ∙ ap₂ (λ (xs ys : List Part). xs ++ ys) (go (eqb k 13) i) j)
  where
    go : (t : Bool) → map (moved p m) (parts_of n (level + 1) (start + 2) (take l rest)) ≡ parts_of n (level + 1) (to + 2) (take l rest)
        → map (moved p m) (pick t (parts_of n (level + 1) (start + 2) (take l rest)) []) ≡ pick t (parts_of n (level + 1) (to + 2) (take l rest)) []
    go true e = e
    go false e = refl

moved_list : (m level start to : ℕ) (p : Part) (s : List ℕ) → p.len ≤ start → to ≡ instead p m start → map (moved p m) (list_of 13 level start s) ≡ list_of 13 level to s
unfolding list_of
moved_list m level start to p s h e = moved_parts (length s) m level start to p s h e

-- the parts after the hole are the same, moved
pub behind_moved : (c d : Cut) (level start : ℕ) (h : Hole) (p : Part) → p.len ≡ length c.payload → map (moved p (length d.payload)) (behind c level start h) ≡ behind d level start h
behind_moved c d level start (here a) p e = moved_list (length d.payload) level _ _ p a (omega arith) (omega arith)
behind_moved c d level start (inside h a) p e =
    map-append (moved p (length d.payload)) (behind c (level + 1) (start + 2) h) (list_of 13 level (start + (2 + length (filled h c))) a)
    ∙ ap₂ (λ (xs ys : List Part). xs ++ ys) (behind_moved c d (level + 1) (start + 2) h p e)
    (moved_list (length d.payload) level (start + (2 + length (filled h c))) (start + (2 + length (filled h d))) p a
    (omega (arith, length_filled c start h, length_prior c start h)) (omega (arith, counts c d start h, length_filled c start h, length_prior c start h)))
behind_moved c d level start (past x h) p e = behind_moved c d level (start + (2 + length x.payload)) h p e
