-- Cuttings of a MID.
--     one_cutting    no two cuttings join to the same bytes
--     placed_once    each byte lies in exactly one of the pieces of a cutting
--     placed_runs    and their payloads are runs of the top UPID
use Prim.Native.Nat.{ℕ, ◌+◌, ◌≤◌, ◌<◌}
use mathlib.Core.Path.{◌≡◌, refl, sym, ◌∙◌}
use mathlib.Core.List.{List, [], ◌∷◌, ◌++◌, map, append_assoc}
use native.Mathlib.Omega.{arith}
use lib.ListN.{length, drop, length-append}
use lib.Seq.{take-append_seam, drop-append_seam, drop-drop}
use borrow.Author.Tests.{lt-ltb, le-ltb, le-leb, lt-leb}
use Rattle.upid.specs.Cover.{Cut, joined, placed, bytes_of, lies, times}
use Rattle.upid.proofs.Laws.{by_cases}

-- ---- no two cuttings join to the same bytes

head_of : {a b : ℕ} {s t : List ℕ} → a ∷ s ≡ b ∷ t → a ≡ b
head_of e = cc

tail_of : {a b : ℕ} {s t : List ℕ} → a ∷ s ≡ b ∷ t → s ≡ t
tail_of e = cc

front : (p q s t : List ℕ) → length p ≡ length q → p ++ s ≡ q ++ t → p ≡ q
front p q s t l e = sym (take-append_seam p s) ∙ rw (e, l) (take-append_seam q t)

back : (p q s t : List ℕ) → length p ≡ length q → p ++ s ≡ q ++ t → s ≡ t
back p q s t l e = sym (drop-append_seam p s) ∙ rw (e, l) (drop-append_seam q t)

same_cut : (a b : ℕ) (s t : List ℕ) → a ≡ b → s ≡ t → ◌≡◌ {A = Cut} (record { upid_type = a; payload = s }) (record { upid_type = b; payload = t })
same_cut a b s t e f = rw (e, f)

pub one_cutting : (cs ds : List Cut) → joined cs ≡ joined ds → cs ≡ ds
unfolding joined
one_cutting [] [] e = refl
one_cutting [] (d ∷ ds) e = let z : ◌≡◌ {A = ℕ} 0 1 = cc in absurd (omega arith)
one_cutting (c ∷ cs) [] e = let z : ◌≡◌ {A = ℕ} 0 1 = cc in absurd (omega arith)
one_cutting (c ∷ cs) (d ∷ ds) e =
    let l : length c.payload ≡ length d.payload = head_of (tail_of e) in
    let p : c.payload ≡ d.payload = front c.payload d.payload (joined cs) (joined ds) l (tail_of (tail_of e)) in
    let r : cs ≡ ds = one_cutting cs ds (back c.payload d.payload (joined cs) (joined ds) l (tail_of (tail_of e))) in
    let h : c ≡ d = same_cut c.upid_type d.upid_type c.payload d.payload (head_of e) p in
    rw (h, r)

-- ---- each byte lies in exactly one piece

pub length_joined : (c : Cut) (cs : List Cut) → length (joined (c ∷ cs)) ≡ 2 + (length c.payload + length (joined cs))
unfolding joined
length_joined c cs = omega (arith, length-append c.payload (joined cs))

not_yet : (level start i : ℕ) (cs : List Cut) → i < start → times i (placed level start cs) ≡ 0
unfolding placed times lies
not_yet level start i [] h = refl
not_yet level start i (c ∷ cs) h =
    let a : i + 2 < start + 2 = omega arith in
    let e : times i (placed level (start + (2 + length c.payload)) cs) ≡ 0 = not_yet level (start + (2 + length c.payload)) i cs (omega arith) in
    rw (lt-leb _ _ a, e)

pub placed_once : (level start i : ℕ) (cs : List Cut) → start ≤ i → i < start + length (joined cs) → times i (placed level start cs) ≡ 1
unfolding joined placed times lies
placed_once level start i [] l h = absurd (omega arith)
placed_once level start i (c ∷ cs) l h =
    let next : ℕ = start + (2 + length c.payload) in
    let a : start + 2 ≤ i + 2 = omega arith in
    by_cases i (start + 2 + length c.payload)
    (λ b. let e : times i (placed level next cs) ≡ 0 = not_yet level next i cs (omega arith) in rw (le-leb _ _ a, lt-ltb _ _ b, e))
    (λ b. let e : times i (placed level next cs) ≡ 1 = placed_once level next i cs (omega arith) (omega (arith, length_joined c cs)) in rw (le-leb _ _ a, le-ltb _ _ b, e))

-- ---- each payload is a run of the top UPID

-- what follows a head, and what follows its payload
pub after_head : (top : List ℕ) (start k l : ℕ) (s : List ℕ) → drop start top ≡ k ∷ (l ∷ s) → drop (start + 2) top ≡ s
after_head top start k l s e = sym (drop-drop 2 start top) ∙ rw e

pub after_part_lem : (top : List ℕ) (start k l : ℕ) (p s : List ℕ) → drop start top ≡ k ∷ (l ∷ (p ++ s)) → drop (start + (2 + length p)) top ≡ s
after_part_lem top start k l p s e =
    let h : start + (2 + length p) ≡ start + 2 + length p = omega arith in
    rw (h, ← (drop-drop (length p) (start + 2) top), after_head top start k l (p ++ s) e) (drop-append_seam p s)

pub placed_runs : (top : List ℕ) (level start : ℕ) (cs : List Cut) (rest : List ℕ) → drop start top ≡ joined cs ++ rest
    → map (bytes_of top) (placed level start cs) ≡ map (λ (c : Cut). c.payload) cs
unfolding joined placed
placed_runs top level start [] rest e = refl
placed_runs top level start (c ∷ cs) rest e =
    let f : drop start top ≡ c.upid_type ∷ (length c.payload ∷ (c.payload ++ (joined cs ++ rest))) = e ∙ rw append_assoc in
    rw (
      after_head top start _ _ _ f,
      take-append_seam,
      placed_runs top level (start + (2 + length c.payload)) cs rest (after_part_lem top start _ _ c.payload (joined cs ++ rest) f),
    )
