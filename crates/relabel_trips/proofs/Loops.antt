-- One item of a loop: itself put where it stands, and another put in and taken out again.
--     own_item_lem     the item's own bytes in its place
--     pay_then_lem     the payload of the item that was put in
--     again        a third item in its place
use Prim.Native.Nat.{ℕ, suc, ◌+◌, ◌-◌, ◌≤◌}
use mathlib.Core.Bool.{Bool, true, false, ◌||◌}
use mathlib.Core.List.{List, [], ◌∷◌, ◌++◌, append_assoc, append-nil}
use mathlib.Core.Path.{◌≡◌, refl, ap, ap₂, sym, ◌∙◌}
use native.Mathlib.Omega.{arith}
use borrow.Author.Tests.{eq-eqb}
use lib.Dec.{eqb}
use lib.ListN.{length, take, drop, get_or, length-append, length-drop, take-append-drop}
use lib.Seq.{length-take-le, take_at, drop_at, drop-cons, drop-drop, drop-append-add, get_or-append-add, take-append_seam, get_or-append_seam}
use Rattle.descriptor.specs.Descriptor.{cuei}
use Rattle.descriptor_loop.specs.Items.{step_of, Listed, listed, items_of}
use Rattle.descriptor_loop.specs.declared.Step.{Step}
use Rattle.relabel_found.proofs.Actives.{ActiveAt, active_at_lem}
use Rattle.relabel_found.specs.Found.{begins, is_active, found, payload_at, fore_in, type_in, size_in, upid_in, post_in}
use Rattle.relabel_laws.proofs.Lists.{head_then}
use Rattle.relabel_loop.proofs.Moves.{step_moved}
use Rattle.relabel_loop.proofs.Pieces.{step_piece}
use Rattle.relabel_loop.specs.Item.{segmentation_item}
use Rattle.relabel_loop.specs.Loop.{moved_item, behind_item, with_item}
use Rattle.relabel_payload.specs.Payload.{payload, upid_head}

module _ (loop : List ℕ) (offset : ℕ) (f : found loop offset ≡ true) where
  abbrev L : ℕ
  L = get_or loop (offset + 1) 0

  abbrev pay : List ℕ
  pay = payload_at loop offset

  abbrev it : Listed
  it = listed loop offset

  i : ActiveAt loop offset
  i = active_at_lem loop offset f

  pub pay_long : length pay ≡ L - 4
  pay_long = length-take-le (L - 4) (drop (offset + 6) loop) (omega (arith, length-drop (offset + 6) loop, i.stands.there, i.named))

  pub pay_short : length pay ≤ 250
  pay_short = omega (arith, pay_long, i.stands.right)

  pub A-long : length (take offset loop) ≡ offset
  A-long = length-take-le offset loop (omega (arith, i.stands.six))

  -- ---- the item's own bytes

  item_is : drop offset loop ≡ segmentation_item pay ++ behind_item loop it
  item_is =
      let one : suc offset ≡ offset + 1 = omega arith in
      let two : suc (offset + 1) ≡ offset + 2 = omega arith in
      let six : offset + 2 + 4 ≡ offset + 6 = omega arith in
      let end : offset + 6 + (L - 4) ≡ offset + ((step_of loop offset).next - offset) = omega (arith, i.next, i.named) in
      let size : L ≡ length (cuei ++ pay) = omega (arith, length-append cuei pay, pay_long, i.named) in
      let payed : drop (offset + 6) loop ≡ pay ++ behind_item loop it =
      sym (take-append-drop (L - 4) (drop (offset + 6) loop)) ∙ ap (λ (k : List ℕ). pay ++ k) (drop-drop (L - 4) (offset + 6) loop ∙ ap (λ (k : ℕ). drop k loop) end) in
      let named : drop (offset + 2) loop ≡ cuei ++ (pay ++ behind_item loop it) =
      sym (take-append-drop 4 (drop (offset + 2) loop))
      ∙ ap₂ (λ (a b : List ℕ). a ++ b) i.id (drop-drop 4 (offset + 2) loop ∙ ap (λ (k : ℕ). drop k loop) six ∙ payed) in
      drop-cons loop offset 0 (omega (arith, i.stands.six))
      ∙ ap₂ (λ (a : ℕ) (k : List ℕ). a ∷ k) i.tag
      (ap (λ (k : ℕ). drop k loop) one ∙ drop-cons loop (offset + 1) 0 (omega (arith, i.stands.six))
      ∙ ap₂ (λ (a : ℕ) (k : List ℕ). a ∷ k) size (ap (λ (k : ℕ). drop k loop) two ∙ named ∙ sym (append_assoc cuei pay (behind_item loop it))))

  pub own_item_lem : with_item loop it (segmentation_item pay) ≡ loop
  own_item_lem = ap (λ (k : List ℕ). take offset loop ++ k) (sym item_is) ∙ take-append-drop offset loop

  -- ---- another item

  module _ (other : List ℕ) where
    abbrev d : List ℕ
    d = segmentation_item other

    abbrev then : List ℕ
    then = with_item loop it d

    abbrev A : List ℕ
    A = take offset loop

    abbrev behind : List ℕ
    behind = behind_item loop it

    body_size : length (cuei ++ other) ≡ 4 + length other
    body_size = length-append cuei other

    length_byte : get_or then (offset + 1) 0 ≡ length (cuei ++ other)
    length_byte = ap (λ (k : ℕ). get_or then (k + 1) 0) (sym A-long) ∙ get_or-append-add A (d ++ behind) 1 0

    pub pay_then_lem : payload_at then offset ≡ other
    pay_then_lem =
        let n : get_or then (offset + 1) 0 - 4 ≡ length other = omega (arith, length_byte, body_size) in
        let k : drop (offset + 6) then ≡ other ++ behind = ap (λ (k : ℕ). drop (k + 6) then) (sym A-long) ∙ drop-append-add A (d ++ behind) 6 in
        ap₂ take n k ∙ take-append_seam other behind

    -- it is found there
    module _ (short : length other ≤ 250) (fits : length then ≤ 4076) where
      alone : step_of (d ++ behind) 0 ≡ step_of d 0
      alone =
          let right : length (cuei ++ other) ≤ 254 = omega (arith, body_size) in
          let size : length then ≡ offset + (2 + length (cuei ++ other) + length behind) = omega (arith, length-append A (d ++ behind), length-append d behind, A-long) in
          let none : cuei ++ other ++ [] ≡ cuei ++ other = append-nil (cuei ++ other) in
          let one : length ((cuei ++ other) ++ behind) ≡ length (cuei ++ other) + length behind = length-append (cuei ++ other) behind in
          let two : length ((cuei ++ other) ++ []) ≡ length (cuei ++ other) + 0 = length-append (cuei ++ other) [] in
          step_piece 2 (cuei ++ other) right behind [] (omega (arith, one, size, fits)) (omega (arith, two, right)) (omega (arith, body_size)) (omega (arith, body_size))
          ∙ ap (λ (k : List ℕ). step_of (2 ∷ (length (cuei ++ other) ∷ k)) 0) (append-nil (cuei ++ other))

      step_there : (step_of then offset).item ≡ moved_item offset (step_of d 0).item
      step_there =
          let z : offset ≡ length A + 0 = omega (arith, A-long) in
          ap (λ (k : ℕ). (step_of then k).item) z ∙ ap (λ (x : Step). x.item) (step_moved A (d ++ behind) fits 0)
          ∙ ap₂ (λ (k : ℕ) (x : Step). moved_item k x.item) A-long alone

      pub found_then : (lead tail : List Listed) (y : Listed) → items_of then ≡ lead ++ (y ∷ tail) → y.offset ≡ offset → is_active (moved_item offset (step_of d 0).item) ≡ true
          → found then offset ≡ true
      unfolding found begins
      found_then lead tail y e at is_one =
          rw (ap (λ (xs : List Listed). begins xs offset) e ∙ begins_at lead y tail at, ap is_active step_there ∙ is_one)
        where
          begins_at : (lead : List Listed) (y : Listed) (tail : List Listed) → y.offset ≡ offset → begins (lead ++ (y ∷ tail)) offset ≡ true
          begins_at [] y tail h = ap (λ (b : Bool). b || begins tail offset) (eq-eqb y.offset offset h)
          begins_at (x ∷ xs) y tail h = or (eqb x.offset offset) (begins_at xs y tail h)
            where
              or : (b : Bool) {a : Bool} → a ≡ true → b || a ≡ true
              or true e = refl
              or false e = e

    -- and a third one put in its place
    pub again : found then offset ≡ true → (third : List ℕ) → with_item then (listed then offset) third ≡ with_item loop it third
    again g third =
        let j : ActiveAt then offset = active_at_lem then offset g in
        let end : offset + ((step_of then offset).next - offset) ≡ length (A ++ d) = omega (arith, j.next, length_byte, length-append A d, A-long) in
        let rest : drop (offset + ((step_of then offset).next - offset)) then ≡ behind =
        ap₂ drop end (sym (append_assoc A d behind)) ∙ drop_at (A ++ d) behind (length (A ++ d)) refl in
        ap₂ (λ (a b : List ℕ). a ++ (third ++ b)) (take_at A (d ++ behind) offset A-long) rest

-- ---- the payload with another UPID, by its parts

module _ (pay : List ℕ) (K : ℕ) (b : List ℕ) (fits : upid_head pay + 2 + size_in pay ≤ length pay) where
  abbrev new : List ℕ
  new = payload (fore_in pay) (post_in pay) K b

  abbrev tail : List ℕ
  tail = K ∷ (length b ∷ (b ++ post_in pay))

  fore_size : length (fore_in pay) ≡ upid_head pay
  fore_size = length-take-le (upid_head pay) pay (omega arith)

  head_is : upid_head new ≡ length (fore_in pay)
  head_is = head_then pay K b fits ∙ sym fore_size

  pub fore_then : fore_in new ≡ fore_in pay
  fore_then = ap (λ (k : ℕ). take k new) head_is ∙ take_at (fore_in pay) tail (length (fore_in pay)) refl

  pub type_then_lem : type_in new ≡ K
  type_then_lem = ap (λ (k : ℕ). get_or new k 0) head_is ∙ get_or-append_seam (fore_in pay) K (length b ∷ (b ++ post_in pay)) 0

  pub size_then_lem : size_in new ≡ length b
  size_then_lem = ap (λ (k : ℕ). get_or new (k + 1) 0) head_is ∙ get_or-append-add (fore_in pay) tail 1 0

  pub upid_then_lem : upid_in new ≡ b
  upid_then_lem =
      ap₂ (λ (n k : ℕ). take n (drop (k + 2) new)) size_then_lem head_is ∙ ap (take (length b)) (drop-append-add (fore_in pay) tail 2)
      ∙ take-append_seam b (post_in pay)

  pub post_then : post_in new ≡ post_in pay
  post_then =
      let z : length (fore_in pay) + 2 + length b ≡ length (fore_in pay) + (2 + length b) = omega arith in
      ap₂ (λ (n k : ℕ). drop (k + 2 + n) new) size_then_lem head_is ∙ ap (λ (k : ℕ). drop k new) z
      ∙ drop-append-add (fore_in pay) tail (2 + length b) ∙ behind_two K (length b) b (post_in pay)
    where
      behind_two : (x y : ℕ) (p q : List ℕ) → drop (2 + length p) (x ∷ (y ∷ (p ++ q))) ≡ q
      behind_two x y p q =
          let z : 2 + length p ≡ length (x ∷ (y ∷ p)) = omega arith in
          ap (λ (k : ℕ). drop k (x ∷ (y ∷ (p ++ q)))) z ∙ drop_at (x ∷ (y ∷ p)) q (length (x ∷ (y ∷ p))) refl
