-- What is told of an item by its reading and its payload, in whichever loop it stands.
--     moved_listed     the same behind more bytes
--     front_listed     the same before other bytes
--     own_listed       of a segmentation descriptor alone
--     at_listed        of the item that is found
use Prim.Native.Nat.{ℕ, ◌+◌, ◌-◌, ◌≤◌}
use mathlib.Core.Bool.{true}
use mathlib.Core.List.{List, [], ◌∷◌, ◌++◌, append-nil}
use mathlib.Core.Path.{◌≡◌, ap, sym, ◌∙◌}
use native.Mathlib.Omega.{arith}
use lib.ListN.{length, take, drop, get_or, length-append, length-drop}
use lib.Seq.{take-append-le, drop-append-le, drop-append-add, take-append_seam}
use Rattle.descriptor.specs.Descriptor.{cuei}
use Rattle.descriptor_loop.specs.Items.{step_of, Listed, listed}
use Rattle.descriptor_loop.specs.declared.Step.{Step}
use Rattle.relabel_found.proofs.Actives.{active_at_lem}
use Rattle.relabel_found.specs.Found.{found, payload_at}
use Rattle.relabel_loop.proofs.Pieces.{piece, step_of_complete}
use Rattle.relabel_loop.specs.Item.{segmentation_item}
use Rattle.relabel_loop.specs.Loop.{moved_item, moved_listed}
use Rattle.upid.proofs.Laws.{by_cases}
use Rattle.std.proofs.Common.{Option, Result}
use Rattle.descriptor.specs.declared.Descriptor.{Descriptor}
use Rattle.descriptor_loop.specs.declared.ItemRefusal.{ItemRefusal}

-- the item alone: its payload is all behind its head and identifier
module _ (s : List ℕ) (short : length s ≤ 250) where
  body_size : length (cuei ++ s) ≡ 4 + length s
  body_size = length-append cuei s

  right : length (cuei ++ s) ≤ 254
  right = omega (arith, body_size)

  next_is : (step_of (segmentation_item s) 0).next ≡ 6 + length s
  next_is =
      let fits : length (piece 2 (cuei ++ s) right []) ≤ 4076 = omega (arith, body_size, length-append (cuei ++ s) []) in
      let alone : segmentation_item s ≡ piece 2 (cuei ++ s) right [] = ap (λ (l : List ℕ). 2 ∷ (length (cuei ++ s) ∷ l)) (sym (append-nil (cuei ++ s))) in
      ap (λ (l : List ℕ). (step_of l 0).next) alone
      ∙ ap (λ (x : Step). x.next) (step_of_complete 2 (cuei ++ s) right [] fits (omega (arith, body_size)) (omega (arith, body_size))) ∙ omega (arith, body_size)

module _ {A : Type 0} (F : Option (Result Descriptor ItemRefusal) → List ℕ → A) where
  abbrev pub of_listed : List ℕ → Listed → A
  of_listed loop x = F x.step.item (take (x.used - 6) (drop (x.offset + 6) loop))

  pub moved_listed_lem : ((n : ℕ) (i : Option (Result Descriptor ItemRefusal)) (p : List ℕ) → F (moved_item n i) p ≡ F i p) → (pre s : List ℕ) (x : Listed) (n : ℕ) → n ≡ length pre
      → of_listed (pre ++ s) (moved_listed n x) ≡ of_listed s x
  moved_listed_lem same pre s x n e =
      let z : n + x.offset + 6 ≡ length pre + (x.offset + 6) = omega arith in
      let d : drop (n + x.offset + 6) (pre ++ s) ≡ drop (x.offset + 6) s = ap (λ (i : ℕ). drop i (pre ++ s)) z ∙ drop-append-add pre s (x.offset + 6) in
      ap (λ (l : List ℕ). F (moved_item n x.step.item) (take (x.used - 6) l)) d ∙ same n x.step.item (take (x.used - 6) (drop (x.offset + 6) s))

  pub front_listed : (a r t : List ℕ) (x : Listed) → x.offset + x.used ≤ length a → of_listed (a ++ r) x ≡ of_listed (a ++ t) x
  front_listed a r t x h = ap (F x.step.item) (run r ∙ sym (run t))
    where
      run : (r : List ℕ) → take (x.used - 6) (drop (x.offset + 6) (a ++ r)) ≡ take (x.used - 6) (drop (x.offset + 6) a)
      run r =
          by_cases x.used 6
          (λ l.
          let z : x.used - 6 ≡ 0 = omega arith in
          ap (λ (n : ℕ). take n (drop (x.offset + 6) (a ++ r))) z ∙ sym (ap (λ (n : ℕ). take n (drop (x.offset + 6) a)) z))
          (λ g.
          ap (take (x.used - 6)) (drop-append-le (x.offset + 6) a r (omega arith))
          ∙ take-append-le (x.used - 6) (drop (x.offset + 6) a) r (omega (arith, length-drop (x.offset + 6) a)))

  pub own_listed : (s : List ℕ) → length s ≤ 250 → (rest : List ℕ) → of_listed (segmentation_item s ++ rest) (listed (segmentation_item s) 0) ≡ F (step_of (segmentation_item s) 0).item s
  own_listed s short rest =
      let z : (step_of (segmentation_item s) 0).next - 0 - 6 ≡ length s = omega (arith, next_is s short) in
      ap (F (step_of (segmentation_item s) 0).item) (ap (λ (n : ℕ). take n (s ++ rest)) z ∙ take-append_seam s rest)

  pub at_listed : (loop : List ℕ) (offset : ℕ) → found loop offset ≡ true → of_listed loop (listed loop offset) ≡ F (step_of loop offset).item (payload_at loop offset)
  at_listed loop offset there =
      let i = active_at_lem loop offset there in
      let z : (step_of loop offset).next - offset - 6 ≡ get_or loop (offset + 1) 0 - 4 = omega (arith, i.next, i.named) in
      ap (λ (n : ℕ). F (step_of loop offset).item (take n (drop (offset + 6) loop))) z
