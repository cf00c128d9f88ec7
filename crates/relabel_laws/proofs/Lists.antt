-- The identifiers of a section, item by item.
use Prim.Native.Nat.{ℕ, ◌+◌, ◌*◌, ◌-◌, ◌/◌, ◌%◌, ◌≤◌, ◌<◌}
use mathlib.Core.Bool.{Bool, true, false, not}
use mathlib.Core.List.{List, [], ◌∷◌, ◌++◌, map, append_assoc}
use mathlib.Core.Path.{◌≡◌, refl, ap, ap₂, sym, subst, ◌∙◌}
use native.Mathlib.Omega.{arith}
use lib.Dec.{eqb}
use lib.ListN.{length, take, drop, get_or, get_or-append}
use lib.Seq.{drop-append-add, take-append_seam, get_or-append_seam, get_or-append-add, get_or-take, length-take-le}
use Rattle.descriptor.specs.Segmentation.{cancelled, fields_before}
use Rattle.descriptor.specs.Views.{with_upids}
use Rattle.descriptor.specs.declared.Descriptor.TheVariants.{Avail, Dtmf, Segmentation, Time, Reserved}
use Rattle.descriptor.specs.declared.segmentation.DescriptorDetail.{DescriptorDetail}
use Rattle.descriptor.specs.declared.segmentation.DescriptorDetail.TheVariants.{Cancel, Active}
use Rattle.descriptor_loop.proofs.Lists.{Walked, stop, step}
use Rattle.descriptor_loop.proofs.Steps.{forward}
use Rattle.descriptor_loop.specs.Items.{step_of, Listed, listed}
use Rattle.descriptor_loop.specs.Place.{moved_upid}
use Rattle.descriptor_loop.specs.declared.ItemRefusal.TheVariants.{InvalidDescriptorLength, Other}
use Rattle.relabel_found.specs.Found.{is_active, fore_in, type_in, size_in, post_in}
use Rattle.relabel_loop.specs.Item.{segmentation_item}
use Rattle.relabel_loop.specs.Loop.{moved_item, moved_listed}
use Rattle.relabel_payload.specs.Payload.{payload, upid_head}
use Rattle.table.specs.Bits.{pick}
use Rattle.upid.specs.Cover.{All, none, more}
use Rattle.relabel_upid.specs.Kept.{Identifier}
use Rattle.relabel_laws.specs.Identifiers.{of_upid, of_payload, of_item, each}
use Rattle.relabel_laws.proofs.Items.{moved_listed_lem, front_listed, own_listed}
use Rattle.std.proofs.Common.{Ok, Err, Some, None, Option, Result}
use Rattle.descriptor.specs.declared.Descriptor.{Descriptor}
use Rattle.descriptor_loop.specs.declared.ItemRefusal.{ItemRefusal}

-- ---- lists of items

pub each_append : (loop : List ℕ) (xs ys : List Listed) → each loop (xs ++ ys) ≡ each loop xs ++ each loop ys
each_append loop [] ys = refl
each_append loop (x ∷ xs) ys = ap (λ (l : List Identifier). of_item loop x ++ l) (each_append loop xs ys) ∙ sym (append_assoc (of_item loop x) (each loop xs) (each loop ys))

-- ---- the same item in a loop that has more bytes before it

same_detail : (n : ℕ) (d : DescriptorDetail) → cancelled (with_upids (moved_upid n) d) ≡ cancelled d
same_detail n Cancel = refl
same_detail n (Active i) = refl

same_actives : (n : ℕ) (i : Option (Result Descriptor ItemRefusal)) → is_active (moved_item n i) ≡ is_active i
same_actives n None = refl
same_actives n (Some (Err InvalidDescriptorLength)) = refl
same_actives n (Some (Err (Other r))) = refl
same_actives n (Some (Ok (Avail x))) = refl
same_actives n (Some (Ok (Dtmf x))) = refl
same_actives n (Some (Ok (Time x))) = refl
same_actives n (Some (Ok (Reserved tag v))) = refl
same_actives n (Some (Ok (Segmentation x))) = ap not (same_detail n x.descriptor_detail)

-- what an item tells by its reading and its payload
abbrev pub tells : Option (Result Descriptor ItemRefusal) → List ℕ → List Identifier
tells i p = pick (is_active i) (of_payload p) []

pub moved_item_lem : (pre s : List ℕ) (x : Listed) (n : ℕ) → n ≡ length pre → of_item (pre ++ s) (moved_listed n x) ≡ of_item s x
unfolding of_item
moved_item_lem = moved_listed_lem tells (λ n i p. ap (λ (b : Bool). pick b (of_payload p) []) (same_actives n i))

pub moved_each : (pre s : List ℕ) (n : ℕ) → n ≡ length pre → (xs : List Listed) → each (pre ++ s) (map (moved_listed n) xs) ≡ each s xs
moved_each pre s n e [] = refl
moved_each pre s n e (x ∷ xs) = ap₂ (λ (a b : List Identifier). a ++ b) (moved_item_lem pre s x n e) (moved_each pre s n e xs)

-- ---- an item that ends before what differs

abbrev Within : ℕ → Listed → Type 0
Within offset x = x.offset + x.used ≤ offset

front_item : (a r t : List ℕ) (x : Listed) → Within (length a) x → of_item (a ++ r) x ≡ of_item (a ++ t) x
unfolding of_item
front_item = front_listed tells

pub front_each : (a r t : List ℕ) (xs : List Listed) → All (Within (length a)) xs → each (a ++ r) xs ≡ each (a ++ t) xs
front_each a r t [] none = refl
front_each a r t (x ∷ xs) (more h hs) = ap₂ (λ (l m : List Identifier). l ++ m) (front_item a r t x h) (front_each a r t xs hs)

-- ---- the items before the one that is replaced end before it

first_at : {loop : List ℕ} {at : ℕ} (lead : List Listed) (y : Listed) (tail : List Listed) {xs : List Listed} → Walked loop at xs → xs ≡ lead ++ (y ∷ tail) → at ≤ y.offset
first_at [] y tail stop e = absurd (omega (arith, ap length e))
first_at [] y tail (step {offset} {next} {xs} inside f t w) e = let z : offset ≡ y.offset = ap (λ (l : List Listed). head_offset l) e in omega arith
  where
    head_offset : List Listed → ℕ
    head_offset [] = 0
    head_offset (x ∷ xs) = x.offset
first_at (z ∷ lead) y tail stop e = absurd (omega (arith, ap length e))
first_at (z ∷ lead) y tail (step {offset} {next} {xs} inside f t w) e =
    let g : xs ≡ lead ++ (y ∷ tail) = cc in
    omega (arith, first_at {at = next} lead y tail w g, forward inside t)

pub lead_within : {loop : List ℕ} {at : ℕ} (lead : List Listed) (y : Listed) (tail : List Listed) {xs : List Listed} → Walked loop at xs → xs ≡ lead ++ (y ∷ tail) → All (Within y.offset) lead
lead_within [] y tail w e = none
lead_within (z ∷ lead) y tail stop e = absurd (omega (arith, ap length e))
lead_within {loop} {at = at} (z ∷ lead) y tail (step {offset} {next} {xs} inside f t w) e =
    let g : xs ≡ lead ++ (y ∷ tail) = cc in
    let h : listed loop offset ≡ z = cc in
    let l : offset < next = forward inside t in
    let n : offset + ((step_of loop offset).next - offset) ≤ y.offset = omega (arith, f, first_at lead y tail w g) in
    more (subst (λ (x : Listed). Within y.offset x) h n) (lead_within {at = next} lead y tail w g)

-- ---- the item itself

head_same : (pay fore rest : List ℕ) → fore_in pay ≡ fore → length fore ≡ upid_head pay → length fore ≤ length pay → upid_head (fore ++ rest) ≡ upid_head pay
unfolding upid_head
head_same pay fore rest e n le = go (eqb (get_or pay 5 0 / 128 % 2) 1) refl
  where
    byte : (i : ℕ) → i < length fore → get_or (fore ++ rest) i 0 ≡ get_or pay i 0
    byte i h = get_or-append fore rest 0 i h ∙ ap (λ (l : List ℕ). get_or l i 0) (sym e) ∙ get_or-take (upid_head pay) pay i 0 (omega (arith, n))

    five : get_or (fore ++ rest) 5 0 ≡ get_or pay 5 0
    five = byte 5 (omega (arith, n))

    go : (b : Bool) → eqb (get_or pay 5 0 / 128 % 2) 1 ≡ b
        → 6 + fields_before (get_or (fore ++ rest) 5 0) (get_or (fore ++ rest) 6 0) ≡ 6 + fields_before (get_or pay 5 0) (get_or pay 6 0)
    go true h = rw (five, h)
    go false h =
        let l : 7 ≤ length fore = omega (arith, n, ap (λ (b : Bool). pick b 0 (1 + get_or pay 6 0 * 6)) h) in
        rw (five, byte 6 (omega arith))

module _ (pay : List ℕ) (K : ℕ) (b : List ℕ) (fits : upid_head pay + 2 + size_in pay ≤ length pay) where
  abbrev then : List ℕ
  then = payload (fore_in pay) (post_in pay) K b

  fore_long : length (fore_in pay) ≡ upid_head pay
  fore_long = length-take-le (upid_head pay) pay (omega arith)

  pub head_then : upid_head then ≡ upid_head pay
  head_then = head_same pay (fore_in pay) (K ∷ (length b ∷ (b ++ post_in pay))) refl fore_long (omega (arith, fore_long))

  head_long : upid_head then ≡ length (fore_in pay)
  head_long = head_then ∙ sym fore_long

  pub payload_then_lem : of_payload then ≡ of_upid K b
  payload_then_lem =
      let k : type_in then ≡ K = ap (λ (i : ℕ). get_or then i 0) head_long ∙ get_or-append_seam (fore_in pay) K (length b ∷ (b ++ post_in pay)) 0 in
      let n : size_in then ≡ length b = ap (λ (i : ℕ). get_or then (i + 1) 0) head_long ∙ get_or-append-add (fore_in pay) (K ∷ (length b ∷ (b ++ post_in pay))) 1 0 in
      let d : drop (upid_head then + 2) then ≡ b ++ post_in pay = ap (λ (i : ℕ). drop (i + 2) then) head_long ∙ drop-append-add (fore_in pay) (K ∷ (length b ∷ (b ++ post_in pay))) 2 in
      ap₂ of_upid k (ap₂ take n d ∙ take-append_seam b (post_in pay))

pub own_item_lem : (s : List ℕ) → length s ≤ 250 → is_active (step_of (segmentation_item s) 0).item ≡ true → (rest : List ℕ)
    → of_item (segmentation_item s ++ rest) (listed (segmentation_item s) 0) ≡ of_payload s
unfolding of_item
own_item_lem s short is rest = own_listed tells s short rest ∙ ap (λ (b : Bool). pick b (of_payload s) []) is
