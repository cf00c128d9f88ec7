-- A loop cut into canonical descriptors: its items are these.
--     canonical_cut    a canonical loop is the join of canonical descriptors
--     cut_canonical    and the other way round
--     items_cut        the items of such a loop
--     at_piece         a canonical descriptor that stands in any loop
use Prim.Native.Nat.{ℕ, zero, suc, ◌+◌, ◌-◌, ◌≤◌, ◌<◌}
use mathlib.Core.Bool.{Bool, true, ◌&&◌}
use mathlib.Core.List.{List, [], ◌∷◌, ◌++◌}
use mathlib.Core.Path.{◌≡◌, refl, ap, ap₂, sym, subst, ◌∙◌}
use native.Mathlib.Omega.{arith}
use lib.Dec.{leb, eqb}
use lib.ListN.{length, take, drop, get_or, length-append, length-drop, take-append-drop}
use lib.Seq.{take_at, drop_at, take-append-le, drop-append-le, drop-drop, get_or-drop}
use borrow.Author.Tests.{leb-true, eqb-true}
use Rattle.table.proofs.Lists.{zero_one, and_true}
use Rattle.upid.specs.Cover.{All, none, more}
use Rattle.descriptor.specs.Full.{full_of}
use Rattle.canonical_form.specs.Descriptor.{canonical_descriptor, canonical_from, canonical_loop}
use Rattle.descriptor_round_trips.specs.Trips.{full_in}
use Rattle.descriptor_loop.specs.Cover.{joined, run_of}
use Rattle.descriptor_loop.specs.Items.{step_of, reading_of, Listed, listed, items_of}
use Rattle.descriptor_loop.specs.declared.reading.Reading.{Reading}
use Rattle.descriptor_loop.proofs.Lists.{rest, rest_end, rest_more, items_rest}
use Rattle.descriptor_loop.proofs.Readings.{placed, reading_full}
use Rattle.descriptor_loop.proofs.Steps.{Stands}

abbrev pub Canonical : List ℕ → Type 0
Canonical t = canonical_descriptor t ≡ true

-- the length that a canonical descriptor says
pub said : (t : List ℕ) → Canonical t → (6 ≤ length t) × (get_or t 1 0 + 2 ≡ length t) × (get_or t 1 0 ≤ 254)
unfolding canonical_descriptor
said t c =
    let i = and_true (leb 6 (length t)) _ c in
    let j = and_true (eqb (get_or t 1 0 + 2) (length t)) _ i.1 in
    let k = and_true (leb (get_or t 1 0) 254) _ j.1 in
    (leb-true 6 (length t) i.0, eqb-true (get_or t 1 0 + 2) (length t) j.0, leb-true (get_or t 1 0) 254 k.0)

second : (t post : List ℕ) → 2 ≤ length t → get_or (t ++ post) 1 0 ≡ get_or t 1 0
second [] post h = absurd (omega arith)
second (a ∷ []) post h = absurd (omega arith)
second (a ∷ (b ∷ t)) post h = refl

first : (t post : List ℕ) → 2 ≤ length t → get_or (t ++ post) 0 0 ≡ get_or t 0 0
first [] post h = absurd (omega arith)
first (a ∷ t) post h = refl

-- ---- cuttings

pub canonical_cut : (n : ℕ) (s : List ℕ) → canonical_from n s ≡ true → (ts : List (List ℕ)) × All Canonical ts × (joined ts ≡ s)
unfolding canonical_from joined
canonical_cut zero [] e = ([], none, refl)
canonical_cut zero (b ∷ s) e = zero_one cc
canonical_cut (suc n) [] e = ([], none, refl)
canonical_cut (suc n) (b ∷ s) e =
    let L : ℕ = get_or (b ∷ s) 1 0 in
    let i = and_true (canonical_descriptor (take (L + 2) (b ∷ s))) _ e in
    let j = canonical_cut n (drop (L + 2) (b ∷ s)) i.1 in
    (take (L + 2) (b ∷ s) ∷ j.0, more i.0 j.1, ap (λ (l : List ℕ). take (L + 2) (b ∷ s) ++ l) j.2 ∙ take-append-drop (L + 2) (b ∷ s))

nothing : (n : ℕ) → canonical_from n [] ≡ true
unfolding canonical_from
nothing zero = refl
nothing (suc n) = refl

-- one piece, and then the rest
piece_first : (n : ℕ) (t post : List ℕ) → Canonical t → canonical_from (suc n) (t ++ post) ≡ canonical_from n post
unfolding canonical_from
piece_first n t post c = go t c
  where
    go : (t : List ℕ) → Canonical t → canonical_from (suc n) (t ++ post) ≡ canonical_from n post
    go [] c = absurd (let z = (said [] c).0 in omega arith)
    go (a ∷ t) c =
        let z = said (a ∷ t) c in
        let l : get_or (a ∷ (t ++ post)) 1 0 ≡ get_or (a ∷ t) 1 0 = second (a ∷ t) post (omega (arith, z.0)) in
        let m : length (a ∷ t) ≡ get_or (a ∷ (t ++ post)) 1 0 + 2 = omega (arith, z.1, l) in
        let p : take (get_or (a ∷ (t ++ post)) 1 0 + 2) (a ∷ (t ++ post)) ≡ a ∷ t = take_at (a ∷ t) post _ m in
        let q : drop (get_or (a ∷ (t ++ post)) 1 0 + 2) (a ∷ (t ++ post)) ≡ post = drop_at (a ∷ t) post _ m in
        ap₂ (λ (x y : List ℕ). canonical_descriptor x && canonical_from n y) p q ∙ ap (λ (b : Bool). b && canonical_from n post) c

cut_from_lem : {ts : List (List ℕ)} (n : ℕ) → All Canonical ts → length (joined ts) ≤ n → canonical_from n (joined ts) ≡ true
unfolding joined
cut_from_lem n none h = nothing n
cut_from_lem zero (more {x = t} {xs = ts} c cs) h = absurd (omega (arith, (said t c).0, length-append t (joined ts)))
cut_from_lem (suc n) (more {x = t} {xs = ts} c cs) h = piece_first n t (joined ts) c ∙ cut_from_lem n cs (omega (arith, (said t c).0, length-append t (joined ts)))

pub cut_canonical : {ts : List (List ℕ)} → All Canonical ts → canonical_loop (joined ts) ≡ true
unfolding canonical_loop
cut_canonical {ts} cs = cut_from_lem (length (joined ts)) cs (omega arith)

-- ---- a piece of a loop

-- the canonical descriptor t stands at this offset of the loop, and is read there
pub record At (loop : List ℕ) (offset : ℕ) (t : List ℕ) : Type 0 where
  pub canon : Canonical t
  pub reading : reading_of loop offset ≡ placed (offset + 6) (offset + length t) (full_in t)
  pub run : take (length t) (drop offset loop) ≡ t
  pub payload : take (length t - 6) (drop (offset + 6) loop) ≡ drop 6 t
  pub there : offset + 6 + (length t - 6) ≤ length loop
  pub inside : offset < length loop

module _ (loop : List ℕ) (fits : length loop ≤ 4076) where
  pub at_piece : (offset : ℕ) (t post : List ℕ) → offset ≤ length loop → drop offset loop ≡ t ++ post → Canonical t → At loop offset t
  at_piece o t post within is c =
      let z = said t c in
      let six : 6 ≤ length t = z.0 in
      let L : ℕ = get_or t 1 0 in
      let n : length loop ≡ o + (length t + length post) = omega (arith, length-drop o loop, ap length is, length-append t post) in
      let head : get_or loop o 0 ≡ get_or t 0 0 =
      ap (λ (k : ℕ). get_or loop k 0) (let e : o ≡ o + 0 = omega arith in e) ∙ sym (get_or-drop o loop 0 0) ∙ ap (λ (l : List ℕ). get_or l 0 0) is ∙ first t post (omega arith) in
      let len : L ≡ get_or loop (o + 1) 0 = sym (sym (get_or-drop o loop 1 0) ∙ ap (λ (l : List ℕ). get_or l 1 0) is ∙ second t post (omega arith)) in
      let two : drop (o + 2) loop ≡ drop 2 t ++ post = sym (drop-drop 2 o loop) ∙ ap (drop 2) is ∙ drop-append-le 2 t post (omega arith) in
      let id : take 4 (drop (o + 2) loop) ≡ take 4 (drop 2 t) = ap (take 4) two ∙ take-append-le 4 (drop 2 t) post (omega (arith, length-drop 2 t)) in
      let rest : drop (o + 6) loop ≡ drop 6 t ++ post = sym (drop-drop 6 o loop) ∙ ap (drop 6) is ∙ drop-append-le 6 t post six in
      let m : L - 4 ≡ length t - 6 = omega (arith, z.1) in
      let body : take (length t - 6) (drop (o + 6) loop) ≡ drop 6 t = ap (take (length t - 6)) rest ∙ take_at (drop 6 t) post (length t - 6) (length-drop 6 t) in
      let same : take (L - 4) (drop (o + 6) loop) ≡ drop 6 t = ap (λ (k : ℕ). take k (drop (o + 6) loop)) m ∙ body in
      let stands : Stands loop o L = record { fits = fits; is = len; six = omega arith; there = omega (arith, z.1); right = z.2 } in
      let next : o + (L + 2) ≡ o + length t = omega (arith, z.1) in
      record {
        canon = c;
        reading =
            reading_full loop o L stands (omega (arith, z.1))
            ∙ ap₂ (λ (k : ℕ) (w : _). placed (o + 6) k w) next
            (ap₂ (λ (k : ℕ) (i : List ℕ). full_of k i (take (L - 4) (drop (o + 6) loop))) head id ∙ ap (full_of (get_or t 0 0) (take 4 (drop 2 t))) same);
        run = ap (take (length t)) is ∙ take_at t post (length t) refl;
        payload = body;
        there = omega arith;
        inside = omega arith;
      }

  -- the items of a loop, piece by piece
  pub data Items : ℕ → List (List ℕ) → List Listed → Type 0 where
    end : {offset : ℕ} → Items offset [] []
    item : {offset : ℕ} {t : List ℕ} {ts : List (List ℕ)} {xs : List Listed} → At loop offset t → Items (offset + length t) ts xs → Items offset (t ∷ ts) (listed loop offset ∷ xs)

  next_is : (offset : ℕ) (t : List ℕ) → At loop offset t → (step_of loop offset).next ≡ offset + length t
  unfolding reading_of
  next_is o t a = ap (λ (r : Reading). r.step.next) a.reading

  -- the piece is the run of the loop that the item uses
  pub run_is : (offset : ℕ) (t : List ℕ) → At loop offset t → run_of loop (listed loop offset) ≡ t
  run_is o t a =
      let n : (step_of loop o).next - o ≡ length t = omega (arith, next_is o t a) in
      ap (λ (k : ℕ). take k (drop o loop)) n ∙ a.run

  cut_items : {ts : List (List ℕ)} → All Canonical ts → (offset : ℕ) → offset ≤ length loop → drop offset loop ≡ joined ts → Items offset ts (rest loop fits offset)
  unfolding joined
  cut_items none o h e = rw (rest_end loop fits o (omega (arith, length-drop o loop, ap length e))) end
  cut_items (more {x = t} {xs = ts} c cs) o h e =
      let a = at_piece o t (joined ts) h e c in
      let l : drop (o + length t) loop ≡ joined ts = sym (drop-drop (length t) o loop) ∙ ap (drop (length t)) e ∙ drop_at t (joined ts) (length t) refl in
      let i = cut_items cs (o + length t) (omega (arith, length-drop o loop, ap length e, length-append t (joined ts))) l in
      let r : rest loop fits o ≡ listed loop o ∷ rest loop fits (o + length t) =
      rest_more loop fits o a.inside ∙ ap (λ (k : ℕ). listed loop o ∷ rest loop fits k) (next_is o t a) in
      subst (Items o (t ∷ ts)) (sym r) (item a i)

  pub items_cut : {ts : List (List ℕ)} → All Canonical ts → joined ts ≡ loop → Items 0 ts (items_of loop)
  items_cut cs e = subst (Items 0 _) (sym (items_rest loop fits)) (cut_items cs 0 (omega arith) (sym e))
