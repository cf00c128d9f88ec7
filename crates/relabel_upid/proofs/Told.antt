-- What is told of the identifiers beside a hole does not depend on what fills it.
use Prim.Native.Nat.{ℕ, zero, suc, ◌+◌, ◌-◌, ◌≤◌}
use mathlib.Core.Path.{◌≡◌, refl, sym, ap, ap₂, subst, ◌∙◌}
use mathlib.Core.Bool.{Bool, true, false, cond as pick}
use mathlib.Core.List.{List, [], ◌∷◌, ◌++◌, append_assoc, append-nil}
use native.Mathlib.Omega.{arith}
use lib.Dec.{eqb}
use lib.ListN.{length, take, drop, get_or, length-take, length-drop}
use lib.Seq.{take-append_seam, drop-append_seam, get_or-drop}
use borrow.Author.Tests.{lt-ltb, eqb-true, eqb-false, ne_eqb}
use Rattle.upid.specs.Cover.{Cut}
use Rattle.upid.specs.Upid.{read_of, list_of, reported_of}
use Rattle.upid.specs.Private.{Accepted}
use Rattle.upid.specs.declared.Part.{Part}
use Rattle.upid.proofs.Cutting.{after_head, after_part_lem}
use Rattle.upid.proofs.Laws.{read_one, read_more, list_nil, list_more, list_plain, list_mid, accepted_mid, by_cases}
use Rattle.relabel_upid.specs.Hole.{Hole, here, inside, past, headed, filled}
use Rattle.relabel_upid.specs.Kept.{Identifier, told, identifiers_in, identifiers_at}
use Rattle.relabel_upid.proofs.Holes.{recorded, inner, before, behind, AcceptedBeside, AcceptedCut, first, first_headed, both}

pub told_append : (top : List ℕ) (xs ys : List Part) → identifiers_in top (xs ++ ys) ≡ identifiers_in top xs ++ identifiers_in top ys
unfolding identifiers_in
told_append top [] ys = refl
told_append top (x ∷ xs) ys = go (eqb x.upid_type 13) (told_append top xs ys)
  where
    go : (t : Bool) → identifiers_in top (xs ++ ys) ≡ identifiers_in top xs ++ identifiers_in top ys
        → pick t (identifiers_in top (xs ++ ys)) (told top x ∷ identifiers_in top (xs ++ ys)) ≡ pick t (identifiers_in top xs) (told top x ∷ identifiers_in top xs) ++ identifiers_in top ys
    go true e = e
    go false e = ap (λ (l : List Identifier). told top x ∷ l) e

-- what is told of a piece is what it is
pub told_is : (top : List ℕ) (level start : ℕ) (d : Cut) (rest : List ℕ) → drop start top ≡ headed d rest
    → told top (recorded level start d) ≡ record { level = level; upid_type = d.upid_type; bytes = d.payload }
told_is top level start d rest e =
    let at : start + 2 - 2 ≡ start + 0 = omega arith in
    let k : get_or top (start + 2 - 2) 0 ≡ d.upid_type = ap (λ (n : ℕ). get_or top n 0) at ∙ sym (get_or-drop start top 0 0) ∙ ap (λ (l : List ℕ). get_or l 0 0) e in
    let b : take (length d.payload) (drop (start + 2) top) ≡ d.payload =
    ap (take (length d.payload)) (after_head top start d.upid_type (length d.payload) (d.payload ++ rest) e) ∙ take-append_seam d.payload rest in
    ap₂ (λ (x : ℕ) (y : List ℕ). record { level = level; upid_type = x; bytes = y }) k b

-- ---- bytes that stand in two UPIDs, each at its place

Same : ℕ → Type 0
Same n = (level start to : ℕ) (s top other rest more : List ℕ) → length s ≤ n → Accepted (read_of 13 0 s) → drop start top ≡ s ++ rest → drop to other ≡ s ++ more
    → identifiers_in top (list_of 13 level start s) ≡ identifiers_in other (list_of 13 level to s)

same_inner : (n level start to : ℕ) (d : Cut) (top other rest more : List ℕ) → Same n → length d.payload ≤ n → AcceptedCut d → drop start top ≡ headed d rest → drop to other ≡ headed d more
    → identifiers_in top (inner level start d) ≡ identifiers_in other (inner level to d)
unfolding Same identifiers_in
same_inner n level start to d top other rest more again hn f e g = go (eqb d.upid_type 13) refl
  where
    go : (t : Bool) → eqb d.upid_type 13 ≡ t → identifiers_in top (inner level start d) ≡ identifiers_in other (inner level to d)
    go true t =
        let k13 : d.upid_type ≡ 13 = eqb-true d.upid_type 13 t in
        ap (identifiers_in top) (list_mid d.upid_type (level + 1) (start + 2) d.payload k13)
        ∙ again (level + 1) (start + 2) (to + 2) d.payload top other rest more hn (accepted_mid d.upid_type 0 d.payload k13 f) (after_head top start _ _ _ e) (after_head other to _ _ _ g)
        ∙ ap (identifiers_in other) (sym (list_mid d.upid_type (level + 1) (to + 2) d.payload k13))
    go false t =
        let no : d.upid_type ≡ 13 → ⊥ = eqb-false d.upid_type 13 t in
        ap (identifiers_in top) (list_plain d.upid_type (level + 1) (start + 2) d.payload no) ∙ ap (identifiers_in other) (sym (list_plain d.upid_type (level + 1) (to + 2) d.payload no))

same_first : (n level start to : ℕ) (d : Cut) (top other rest more : List ℕ) → Same n → length d.payload ≤ n → AcceptedCut d → drop start top ≡ headed d rest → drop to other ≡ headed d more
    → identifiers_in top (recorded level start d ∷ inner level start d) ≡ identifiers_in other (recorded level to d ∷ inner level to d)
unfolding identifiers_in
same_first n level start to d top other rest more again hn f e g =
    ap₂ (λ (x : Identifier) (xs : List Identifier). pick (eqb (reported_of d.upid_type) 13) xs (x ∷ xs))
    (told_is top level start d rest e ∙ sym (told_is other level to d more g))
    (same_inner n level start to d top other rest more again hn f e g)

list_headed : (level start : ℕ) (d : Cut) (r : List ℕ) → list_of 13 level start (headed d r) ≡ (recorded level start d ∷ inner level start d) ++ list_of 13 level (start + (2 + length d.payload)) r
list_headed level start d r = rw (list_more, take-append_seam, drop-append_seam)

same_more : (n level start to : ℕ) (d : Cut) (r top other rest more : List ℕ) → Same n → length d.payload ≤ n → length r ≤ n → AcceptedCut d → Accepted (read_of 13 0 r)
    → drop start top ≡ headed d (r ++ rest) → drop to other ≡ headed d (r ++ more)
    → identifiers_in top (list_of 13 level start (headed d r)) ≡ identifiers_in other (list_of 13 level to (headed d r))
unfolding Same
same_more n level start to d r top other rest more again hd hr fd fr e g =
    let there : ℕ = start + (2 + length d.payload) in
    let then : ℕ = to + (2 + length d.payload) in
    ap (identifiers_in top) (list_headed level start d r)
    ∙ told_append top (recorded level start d ∷ inner level start d) (list_of 13 level there r)
    ∙ ap₂ (λ (xs ys : List Identifier). xs ++ ys) (same_first n level start to d top other (r ++ rest) (r ++ more) again hd fd e g)
    (again level there then r top other rest more hr fr (after_part_lem top start _ _ d.payload (r ++ rest) e) (after_part_lem other to _ _ d.payload (r ++ more) g))
    ∙ sym (told_append other (recorded level to d ∷ inner level to d) (list_of 13 level then r))
    ∙ ap (identifiers_in other) (sym (list_headed level to d r))

headed_append : (d : Cut) (r rest : List ℕ) → headed d r ++ rest ≡ headed d (r ++ rest)
headed_append d r rest = simp append_assoc

same_turn : (n level start to k l : ℕ) (r top other rest more : List ℕ) → Same n → length r ≤ n → l ≤ length r → Accepted (read_of 13 0 (k ∷ (l ∷ r)))
    → drop start top ≡ (k ∷ (l ∷ r)) ++ rest → drop to other ≡ (k ∷ (l ∷ r)) ++ more
    → identifiers_in top (list_of 13 level start (k ∷ (l ∷ r))) ≡ identifiers_in other (list_of 13 level to (k ∷ (l ∷ r)))
unfolding first
same_turn n level start to k l r top other rest more again hn present a e g =
    let b = both 0 k l r present a in
    let h = first_headed k l r present in
    subst (λ (s : List ℕ). identifiers_in top (list_of 13 level start s) ≡ identifiers_in other (list_of 13 level to s)) h
    (same_more n level start to (first k l r) (drop l r) top other rest more again (omega (arith, length-take l r)) (omega (arith, length-drop l r)) b.0 b.1
    (e ∙ ap (λ (s : List ℕ). s ++ rest) (sym h) ∙ headed_append (first k l r) (drop l r) rest)
    (g ∙ ap (λ (s : List ℕ). s ++ more) (sym h) ∙ headed_append (first k l r) (drop l r) more))

same_told : (n level start to : ℕ) (s top other rest more : List ℕ) → length s ≤ n → Accepted (read_of 13 0 s) → drop start top ≡ s ++ rest → drop to other ≡ s ++ more
    → identifiers_in top (list_of 13 level start s) ≡ identifiers_in other (list_of 13 level to s)
unfolding Same identifiers_in
same_told zero level start to [] top other rest more hn a e g = rw (list_nil level start, list_nil level to)
same_told zero level start to (k ∷ s) top other rest more hn a e g = absurd (omega arith)
same_told (suc n) level start to [] top other rest more hn a e g = rw (list_nil level start, list_nil level to)
same_told (suc n) level start to (k ∷ []) top other rest more hn a e g = absurd (rw read_one at a)
same_told (suc n) level start to (k ∷ (l ∷ r)) top other rest more hn a e g =
    by_cases (length r) l
    (λ short. absurd (rw (read_more 0 k l r, lt-ltb _ _ short) at a))
    (λ present. same_turn n level start to k l r top other rest more (same_told n) (omega arith) present a e g)

pub same_bytes : (level start to : ℕ) (s top other rest more : List ℕ) → Accepted (read_of 13 0 s) → drop start top ≡ s ++ rest → drop to other ≡ s ++ more
    → identifiers_in top (list_of 13 level start s) ≡ identifiers_in other (list_of 13 level to s)
same_bytes level start to s top other rest more = same_told (length s) level start to s top other rest more (omega arith)

pub same_piece : (level start to : ℕ) (d : Cut) (top other rest more : List ℕ) → AcceptedCut d → drop start top ≡ headed d rest → drop to other ≡ headed d more
    → identifiers_in top (recorded level start d ∷ inner level start d) ≡ identifiers_in other (recorded level to d ∷ inner level to d)
unfolding Same
same_piece level start to d top other rest more = same_first (length d.payload) level start to d top other rest more (same_told (length d.payload)) (omega arith)

-- ---- beside a hole

pub same_before : (c d : Cut) (level start : ℕ) (h : Hole) (top other rest more : List ℕ) → AcceptedBeside h → drop start top ≡ filled h c ++ rest → drop start other ≡ filled h d ++ more
    → identifiers_in top (before c level start h) ≡ identifiers_in other (before d level start h)
unfolding filled identifiers_in reported_of
same_before c d level start (here a) top other rest more f e g = refl
same_before c d level start (inside h a) top other rest more f e g =
    same_before c d (level + 1) (start + 2) h top other (a ++ rest) (a ++ more) f.0
    (after_head top start 13 (length (filled h c)) (filled h c ++ (a ++ rest)) (e ∙ headed_append (record { upid_type = 13; payload = filled h c }) a rest))
    (after_head other start 13 (length (filled h d)) (filled h d ++ (a ++ more)) (g ∙ headed_append (record { upid_type = 13; payload = filled h d }) a more))
same_before c d level start (past x h) top other rest more f e g =
    let there : ℕ = start + (2 + length x.payload) in
    let e2 : drop start top ≡ headed x (filled h c ++ rest) = e ∙ headed_append x (filled h c) rest in
    let g2 : drop start other ≡ headed x (filled h d ++ more) = g ∙ headed_append x (filled h d) more in
    told_append top (recorded level start x ∷ inner level start x) (before c level there h)
    ∙ ap₂ (λ (xs ys : List Identifier). xs ++ ys) (same_piece level start start x top other (filled h c ++ rest) (filled h d ++ more) f.0 e2 g2)
    (same_before c d level there h top other rest more f.1
    (after_part_lem top start x.upid_type (length x.payload) x.payload (filled h c ++ rest) e2) (after_part_lem other start x.upid_type (length x.payload) x.payload (filled h d ++ more) g2))
    ∙ sym (told_append other (recorded level start x ∷ inner level start x) (before d level there h))

pub same_behind : (c d : Cut) (level start : ℕ) (h : Hole) (top other rest more : List ℕ) → AcceptedBeside h → drop start top ≡ filled h c ++ rest → drop start other ≡ filled h d ++ more
    → identifiers_in top (behind c level start h) ≡ identifiers_in other (behind d level start h)
unfolding filled
same_behind c d level start (here a) top other rest more f e g =
    same_bytes level (start + (2 + length c.payload)) (start + (2 + length d.payload)) a top other rest more f
    (after_part_lem top start c.upid_type (length c.payload) c.payload (a ++ rest) (e ∙ headed_append c a rest))
    (after_part_lem other start d.upid_type (length d.payload) d.payload (a ++ more) (g ∙ headed_append d a more))
same_behind c d level start (inside h a) top other rest more f e g =
    let e2 : drop start top ≡ headed (record { upid_type = 13; payload = filled h c }) (a ++ rest) = e ∙ headed_append (record { upid_type = 13; payload = filled h c }) a rest in
    let g2 : drop start other ≡ headed (record { upid_type = 13; payload = filled h d }) (a ++ more) = g ∙ headed_append (record { upid_type = 13; payload = filled h d }) a more in
    told_append top (behind c (level + 1) (start + 2) h) (list_of 13 level (start + (2 + length (filled h c))) a)
    ∙ ap₂ (λ (xs ys : List Identifier). xs ++ ys)
    (same_behind c d (level + 1) (start + 2) h top other (a ++ rest) (a ++ more) f.0 (after_head top start 13 (length (filled h c)) (filled h c ++ (a ++ rest)) e2) (after_head other start 13 (length (filled h d)) (filled h d ++ (a ++ more)) g2))
    (same_bytes level (start + (2 + length (filled h c))) (start + (2 + length (filled h d))) a top other rest more f.1
    (after_part_lem top start 13 (length (filled h c)) (filled h c) (a ++ rest) e2) (after_part_lem other start 13 (length (filled h d)) (filled h d) (a ++ more) g2))
    ∙ sym (told_append other (behind d (level + 1) (start + 2) h) (list_of 13 level (start + (2 + length (filled h d))) a))
same_behind c d level start (past x h) top other rest more f e g =
    same_behind c d level (start + (2 + length x.payload)) h top other rest more f.1
    (after_part_lem top start x.upid_type (length x.payload) x.payload (filled h c ++ rest) (e ∙ headed_append x (filled h c) rest))
    (after_part_lem other start x.upid_type (length x.payload) x.payload (filled h d ++ more) (g ∙ headed_append x (filled h d) more))

-- ---- what is told of the piece itself

pub reported_other : (k : ℕ) → (k ≡ 13 → ⊥) → reported_of k ≡ 13 → ⊥
unfolding reported_of
reported_other k = go (eqb k 5)
  where
    go : (t : Bool) → (k ≡ 13 → ⊥) → pick t 6 k ≡ 13 → ⊥
    go true ne e = omega arith
    go false ne e = ne e

pub reported_list : (k level start : ℕ) (s : List ℕ) → list_of (reported_of k) level start s ≡ list_of k level start s
unfolding reported_of
reported_list k level start s = go (eqb k 13) refl
  where
    go : (t : Bool) → eqb k 13 ≡ t → list_of (reported_of k) level start s ≡ list_of k level start s
    go true t = rw (eqb-true k 13 t)
    go false t =
        let no : k ≡ 13 → ⊥ = eqb-false k 13 t in
        list_plain (reported_of k) level start s (reported_other k no) ∙ sym (list_plain k level start s no)

pub told_own : (level start : ℕ) (d : Cut) (top rest : List ℕ) → AcceptedCut d → drop start top ≡ headed d rest
    → identifiers_in top (recorded level start d ∷ inner level start d) ≡ identifiers_at level d.upid_type d.payload
unfolding identifiers_in identifiers_at reported_of
told_own level start d top rest f e = go (eqb d.upid_type 13) refl
  where
    go : (t : Bool) → eqb d.upid_type 13 ≡ t → identifiers_in top (recorded level start d ∷ inner level start d) ≡ identifiers_at level d.upid_type d.payload
    go true t =
        let k13 : d.upid_type ≡ 13 = eqb-true d.upid_type 13 t in
        let s : identifiers_in top (list_of 13 (level + 1) (start + 2) d.payload) ≡ identifiers_in d.payload (list_of 13 (level + 1) 0 d.payload) =
        same_bytes (level + 1) (start + 2) 0 d.payload top d.payload rest [] (accepted_mid d.upid_type 0 d.payload k13 f) (after_head top start _ _ _ e) (sym (append-nil d.payload)) in
        rw k13 s
    go false t =
        let no : d.upid_type ≡ 13 → ⊥ = eqb-false d.upid_type 13 t in
        rw (ne_eqb (reported_of d.upid_type) 13 (reported_other d.upid_type no), t, list_plain d.upid_type (level + 1) (start + 2) d.payload no, told_is top level start d rest e)
