-- A canonical loop with a canonical descriptor in place of one of its items.
use Prim.Native.Nat.{ℕ, ◌+◌, ◌-◌, ◌≤◌}
use mathlib.Core.Bool.{true}
use mathlib.Core.List.{List, [], ◌∷◌, ◌++◌, append_assoc}
use mathlib.Core.Path.{◌≡◌, refl, ap, ap₂, sym, subst, ◌∙◌}
use native.Mathlib.Omega.{arith}
use lib.ListN.{length, take, drop, length-append}
use lib.Seq.{take_at, drop_at}
use Rattle.descriptor_loop.specs.Cover.{joined}
use Rattle.descriptor_loop.specs.Items.{step_of, reading_of, Listed, listed, items_of}
use Rattle.descriptor_loop.specs.declared.reading.Reading.{Reading}
use Rattle.canonical_form.specs.Descriptor.{canonical_loop}
use Rattle.loop_round_trips.proofs.Pieces.{Canonical, At, Items, end, item, items_cut, cut_canonical}
use Rattle.loop_round_trips.proofs.Theorems.{cut}
use Rattle.relabel_loop.specs.Loop.{with_item}
use Rattle.upid.specs.Cover.{All, more}

joined_append : (us vs : List (List ℕ)) → joined (us ++ vs) ≡ joined us ++ joined vs
unfolding joined
joined_append [] vs = refl
joined_append (u ∷ us) vs = ap (λ (l : List ℕ). u ++ l) (joined_append us vs) ∙ sym (append_assoc u (joined us) (joined vs))

-- another piece among canonical ones
all_with : (us : List (List ℕ)) (t d : List ℕ) (vs : List (List ℕ)) → All Canonical (us ++ (t ∷ vs)) → Canonical d → All Canonical (us ++ (d ∷ vs))
all_with [] t d vs (more h hs) c = more c hs
all_with (u ∷ us) t d vs (more h hs) c = more h (all_with us t d vs hs c)

head_offset : List Listed → ℕ
head_offset [] = 0
head_offset (x ∷ xs) = x.offset

module _ (loop : List ℕ) (fits : length loop ≤ 4076) where
  -- the piece at an offset, those before it, and those after it
  record Spot (at : ℕ) (ts : List (List ℕ)) (offset : ℕ) : Type 0 where
    us : List (List ℕ)
    piece : List ℕ
    vs : List (List ℕ)
    is : ts ≡ us ++ (piece ∷ vs)
    place : at + length (joined us) ≡ offset
    here : At loop offset piece

  spot_in : {at : ℕ} {ts : List (List ℕ)} {xs : List Listed} → Items loop fits at ts xs → (lead : List Listed) (y : Listed) (tail : List Listed) → xs ≡ lead ++ (y ∷ tail)
      → Spot at ts y.offset
  unfolding joined head_offset
  spot_in end lead y tail e = absurd (omega (arith, ap length e, length-append lead (y ∷ tail)))
  spot_in (item {offset = o} {t = t} {ts = ts} a i) [] y tail e =
      let z : o ≡ y.offset = ap head_offset e in
      record { us = []; piece = t; vs = ts; is = refl; place = omega arith; here = subst (λ (n : ℕ). At loop n t) z a }
  spot_in (item {offset = o} {t = t} {xs = xs} a i) (x ∷ lead) y tail e =
      let f : xs ≡ lead ++ (y ∷ tail) = cc in
      let r = spot_in i lead y tail f in
      record {
        us = t ∷ r.us;
        piece = r.piece;
        vs = r.vs;
        is = ap (λ (l : List (List ℕ)). t ∷ l) r.is;
        place = omega (arith, r.place, length-append t (joined r.us));
        here = r.here;
      }

  pub next_at_lem : (offset : ℕ) (t : List ℕ) → At loop offset t → (step_of loop offset).next ≡ offset + length t
  unfolding reading_of
  next_at_lem offset t a = ap (λ (r : Reading). r.step.next) a.reading

  module _ (offset : ℕ) (lead tail : List Listed) (items : items_of loop ≡ lead ++ (listed loop offset ∷ tail)) (form : canonical_loop loop ≡ true) where
    pieces : (ts : List (List ℕ)) × All Canonical ts × (joined ts ≡ loop)
    pieces = cut loop form

    spot : Spot 0 pieces.0 offset
    spot = spot_in (items_cut loop fits pieces.1 pieces.2) lead (listed loop offset) tail items

    loop_is_lem : loop ≡ joined spot.us ++ (spot.piece ++ joined spot.vs)
    unfolding joined
    loop_is_lem = sym pieces.2 ∙ ap joined spot.is ∙ joined_append spot.us (spot.piece ∷ spot.vs)

    before_is : take offset loop ≡ joined spot.us
    before_is = ap (take offset) loop_is_lem ∙ take_at (joined spot.us) (spot.piece ++ joined spot.vs) offset (omega (arith, spot.place))

    -- the canonical descriptor that stands at the offset
    pub piece_at : (t : List ℕ) × At loop offset t
    piece_at = (spot.piece, spot.here)

    after_is : drop (offset + ((step_of loop offset).next - offset)) loop ≡ joined spot.vs
    after_is =
        let n : length (joined spot.us ++ spot.piece) ≡ offset + ((step_of loop offset).next - offset) =
        omega (arith, next_at_lem offset spot.piece spot.here, spot.place, length-append (joined spot.us) spot.piece) in
        ap (drop (offset + ((step_of loop offset).next - offset))) (loop_is_lem ∙ sym (append_assoc (joined spot.us) spot.piece (joined spot.vs)))
        ∙ drop_at (joined spot.us ++ spot.piece) (joined spot.vs) (offset + ((step_of loop offset).next - offset)) n

    pub with_canonical : (d : List ℕ) → Canonical d → canonical_loop (with_item loop (listed loop offset) d) ≡ true
    unfolding joined
    with_canonical d c =
        let e : with_item loop (listed loop offset) d ≡ joined (spot.us ++ (d ∷ spot.vs)) =
        ap₂ (λ (a b : List ℕ). a ++ (d ++ b)) before_is after_is ∙ sym (joined_append spot.us (d ∷ spot.vs)) in
        ap canonical_loop e ∙ cut_canonical (all_with spot.us spot.piece d spot.vs (subst (All Canonical) spot.is pieces.1) c)
