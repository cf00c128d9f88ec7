-- A piece of a loop: the step over it does not depend on what follows, and the items of what follows are the same, moved.
--     step_piece     the step over a whole item, whatever follows it
--     items_first    the items of a loop: its first, and those of the rest
--     replaced       one item replaced
use Prim.Native.Nat.{ℕ, ◌+◌, ◌-◌, ◌≤◌, ◌<◌}
use mathlib.Core.List.{List, [], ◌∷◌, ◌++◌, map, append-nil}
use mathlib.Core.Path.{◌≡◌, refl, ap, ap₂, sym, subst, ◌∙◌}
use native.Mathlib.Omega.{arith}
use lib.ListN.{length, take, drop, length-append, length-drop, take-append-drop}
use lib.Seq.{take-append-le, drop-append-le, take_at, drop-append_seam, length-take-le}
use Rattle.upid.proofs.Laws.{by_cases}
use Rattle.descriptor.specs.Descriptor.{descriptor_of}
use Rattle.descriptor.specs.Full.{identifier_read}
use Rattle.descriptor_loop.specs.Items.{short, without_identifier, item_at, read_at, complete_at, step_of, Listed, listed, items_of}
use Rattle.descriptor_loop.specs.declared.Step.{Step}
use Rattle.descriptor_loop.proofs.Lists.{rest, rest_end, rest_more, items_rest}
use Rattle.descriptor_loop.proofs.Steps.{step_small, step_complete, turn, within}
use Rattle.relabel_loop.specs.Loop.{moved_step, moved_listed, Piece}
use Rattle.relabel_loop.proofs.Moves.{step_moved, items_moved}

-- ---- the step over a piece

module _ (tag : ℕ) (body : List ℕ) (right : length body ≤ 254) where
  abbrev pub piece : List ℕ → List ℕ
  piece s = tag ∷ (length body ∷ (body ++ s))

  abbrev complete : Step
  complete =
      record {
        item = item_at 6 (descriptor_of tag (take 4 body) (drop 4 body));
        identifier = identifier_read (descriptor_of tag (take 4 body) (drop 4 body)) (take 4 body);
        next = 0 + (length body + 2);
      }

  complete_piece : (s : List ℕ) → 4 ≤ length body → complete_at (piece s) 0 (length body) ≡ complete
  unfolding complete_at read_at
  complete_piece s h =
      let id : take 4 (body ++ s) ≡ take 4 body = take-append-le 4 body s h in
      let load : take (length body - 4) (drop 4 (body ++ s)) ≡ drop 4 body =
      ap (take (length body - 4)) (drop-append-le 4 body s h) ∙ take_at (drop 4 body) s (length body - 4) (length-drop 4 body) in
      ap₂ (λ (i p : List ℕ). record { item = item_at 6 (descriptor_of tag i p); identifier = identifier_read (descriptor_of tag i p) i; next = 0 + (length body + 2) }) id load

  module _ (s : List ℕ) (fits : length (piece s) ≤ 4076) (six : 6 ≤ length body + 2 + length s) where
    size : length (piece s) ≡ 2 + (length body + length s)
    size = omega (arith, length-append body s)

    pub step_of_small : length body < 4 → step_of (piece s) 0 ≡ without_identifier (short 6 (length body + 2)) (0 + (length body + 2))
    step_of_small h = step_small (piece s) 0 fits (omega arith) (length body) refl (omega (arith, size)) (omega (arith, size)) right h

    pub step_of_complete : 4 ≤ length body → step_of (piece s) 0 ≡ complete
    step_of_complete h = step_complete (piece s) 0 fits (omega arith) (length body) refl (omega (arith, size)) (omega (arith, size)) right h ∙ complete_piece s h

  pub step_piece : (s t : List ℕ) → length (piece s) ≤ 4076 → length (piece t) ≤ 4076 → 6 ≤ length body + 2 + length s → 6 ≤ length body + 2 + length t
      → step_of (piece s) 0 ≡ step_of (piece t) 0
  step_piece s t fs ft ss st =
      by_cases (length body) 4
      (λ h. step_of_small s fs ss h ∙ sym (step_of_small t ft st h))
      (λ h. step_of_complete s fs ss h ∙ sym (step_of_complete t ft st h))

-- ---- the first item, and those after it

module _ (loop : List ℕ) (fits : length loop ≤ 4076) where
  rest_moved : (o : ℕ) → o ≤ length loop → rest loop fits o ≡ map (moved_listed o) (items_of (drop o loop))
  rest_moved o h =
      let e : take o loop ++ drop o loop ≡ loop = take-append-drop o loop in
      let l : length (take o loop) ≡ o = length-take-le o loop h in
      let f : length (take o loop ++ drop o loop) ≤ 4076 = rw e fits in
      let m : rest (take o loop ++ drop o loop) f (length (take o loop)) ≡ map (moved_listed (length (take o loop))) (items_of (drop o loop)) = items_moved (take o loop) (drop o loop) f in
      rw (e, l) at m

  pub items_first : 0 < length loop → items_of loop ≡ listed loop 0 ∷ map (moved_listed (step_of loop 0).next) (items_of (drop (step_of loop 0).next loop))
  items_first some =
      items_rest loop fits ∙ rest_more loop fits 0 some
      ∙ ap (λ (xs : List Listed). listed loop 0 ∷ xs) (rest_moved (step_of loop 0).next (within (turn loop 0 fits some)))

  pub items_empty : length loop ≤ 0 → items_of loop ≡ []
  items_empty h = items_rest loop fits ∙ rest_end loop fits 0 h

-- a piece in front of a loop
module _ (d s : List ℕ) (w : Piece d) (fits : length (d ++ s) ≤ 4076) where
  opened : d ++ s ≡ piece w.tag w.body w.short s
  opened = ap (λ (l : List ℕ). l ++ s) w.is

  alone : d ≡ piece w.tag w.body w.short []
  alone = w.is ∙ ap (λ (l : List ℕ). w.tag ∷ (length w.body ∷ l)) (sym (append-nil w.body))

  piece_size : length d ≡ length w.body + 2
  piece_size = omega (arith, ap length w.is)

  opened_fits : length (piece w.tag w.body w.short s) ≤ 4076
  opened_fits = subst (λ (l : List ℕ). length l ≤ 4076) opened fits

  step_first : step_of (d ++ s) 0 ≡ complete w.tag w.body w.short
  step_first = ap (λ (l : List ℕ). step_of l 0) opened ∙ step_of_complete w.tag w.body w.short s opened_fits (omega (arith, w.named)) w.named

  step_alone : step_of d 0 ≡ complete w.tag w.body w.short
  step_alone =
      let f : length (piece w.tag w.body w.short []) ≤ 4076 = subst (λ (l : List ℕ). length l ≤ 4076) alone (omega (arith, length-append d s)) in
      ap (λ (l : List ℕ). step_of l 0) alone ∙ step_of_complete w.tag w.body w.short [] f (omega (arith, w.named)) w.named

  next_is : (step_of (d ++ s) 0).next ≡ length d
  next_is = ap (λ (x : Step). x.next) step_first ∙ omega (arith, piece_size)

  pub items_piece : items_of (d ++ s) ≡ listed d 0 ∷ map (moved_listed (length d)) (items_of s)
  items_piece =
      items_first (d ++ s) fits (omega (arith, length-append d s, piece_size))
      ∙ ap₂ (λ (x : Step) (xs : List Listed). record { offset = 0; used = x.next - 0; step = x } ∷ xs) (step_first ∙ sym step_alone)
      (ap (λ (k : ℕ). map (moved_listed k) (items_of (drop k (d ++ s)))) next_is
      ∙ ap (λ (l : List ℕ). map (moved_listed (length d)) (items_of l)) (drop-append_seam d s))

-- nothing before it: nothing moves
pub still : (d : List ℕ) → length d ≤ 4076 → listed d 0 ≡ moved_listed 0 (listed d 0)
still d fits =
    let u : 0 + (step_of d 0).next - 0 ≡ (step_of d 0).next - 0 = omega arith in
    let e : step_of d 0 ≡ moved_step 0 (step_of d 0) = step_moved [] d fits 0 in
    ap (λ (x : Step). record { offset = 0; used = (step_of d 0).next - 0; step = x }) e
