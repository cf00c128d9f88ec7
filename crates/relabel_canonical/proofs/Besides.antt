-- What stands beside the items of a relabelled section.
--     old_besides, new_besides     the two lists
use Prim.Native.Nat.{ℕ, zero, suc, ◌+◌, ◌-◌, ◌≤◌, ◌<◌}
use mathlib.Core.List.{List, [], ◌∷◌, ◌++◌, map, map-append, append_assoc}
use mathlib.Core.Path.{◌≡◌, refl, ap, ap₂, sym, subst, ◌∙◌}
use native.Mathlib.Omega.{arith}
use lib.ListN.{length, take, drop, get_or, length-append, take-append-drop}
use lib.Seq.{length-take-le}
use Rattle.descriptor.specs.Full.{beside_of}
use Rattle.descriptor.specs.declared.Descriptor.TheVariants.{Avail, Dtmf, Segmentation, Time, Reserved}
use Rattle.descriptor.specs.declared.full.Beside.{Beside}
use Rattle.descriptor_loop.proofs.Lists.{Walked, stop, step, walked}
use Rattle.descriptor_loop.specs.Items.{step_of, beside_item, reading_of, Listed, listed, items_of}
use Rattle.descriptor_loop.specs.declared.ItemRefusal.TheVariants.{InvalidDescriptorLength, Other}
use Rattle.relabel.specs.Relabel.{payload_in, payload_then}
use Rattle.relabel_found.proofs.Actives.{ActiveAt, active_at_lem}
use Rattle.relabel_found.specs.Found.{fore_in, type_in, upid_in, post_in}
use Rattle.relabel_joined.specs.Relabel.{type_then, item_then}
use Rattle.relabel_laws.proofs.Items.{of_listed, moved_listed_lem, front_listed, own_listed, at_listed}
use Rattle.relabel_laws.proofs.Lists.{lead_within}
use Rattle.relabel_laws.specs.Result.{Result}
use Rattle.std.specs.declared.result.Result as answer
use Rattle.relabel_loop.specs.Loop.{moved_item, moved_listed, behind_item}
use Rattle.relabel_upid.proofs.Theorems.{every_other_identifier_stays, the_upid_itself}
use Rattle.relabel_upid.specs.Relabel.{upid_made}
use Rattle.relabel_section.proofs.Frames.{new_loop_fits}
use Rattle.section.specs.Section.{loop_bytes}
use Rattle.table.specs.Writing.{made}
use Rattle.upid.specs.Cover.{All, none, more}
use Rattle.upid.specs.Upid.{eidr_of}
use Rattle.relabel_canonical.specs.Beside.{besides, besides_in, beside_then}
use Rattle.relabel_canonical.proofs.Canon.{tabled_then, tabled_now, fits}
use Rattle.std.proofs.Common.{Ok, Err, Some, None, Option}
use Rattle.descriptor.specs.declared.Descriptor.{Descriptor}
use Rattle.descriptor_loop.specs.declared.ItemRefusal.{ItemRefusal}

-- ---- what is read beside an item is told by its reading and its payload

told : (loop : List ℕ) (offset : ℕ) → (reading_of loop offset).beside ≡ of_listed beside_item loop (listed loop offset)
unfolding reading_of
told loop offset =
    let z : (step_of loop offset).next - (offset + 6) ≡ (step_of loop offset).next - offset - 6 = omega arith in
    ap (λ (n : ℕ). beside_item (step_of loop offset).item (take n (drop (offset + 6) loop))) z

abbrev Told : List ℕ → Listed → Type 0
Told loop x = (reading_of loop x.offset).beside ≡ of_listed beside_item loop x

all_told : {loop : List ℕ} {at : ℕ} {xs : List Listed} → Walked loop at xs → All (Told loop) xs
all_told stop = none
all_told {loop} (step {offset} inside f t w) = more (told loop offset) (all_told w)

told_list : (loop : List ℕ) (xs : List Listed) → All (Told loop) xs → besides loop xs ≡ map (of_listed beside_item loop) xs
told_list loop [] none = refl
told_list loop (x ∷ xs) (more h hs) = ap₂ (λ (b : Beside) (bs : List Beside). b ∷ bs) h (told_list loop xs hs)

lead_told : {P : Listed → Type 0} (xs ys : List Listed) → All P (xs ++ ys) → All P xs
lead_told [] ys h = none
lead_told (x ∷ xs) ys (more h hs) = more h (lead_told xs ys hs)

here_told : {P : Listed → Type 0} (xs : List Listed) (y : Listed) (ys : List Listed) → All P (xs ++ (y ∷ ys)) → P y
here_told [] y ys (more h hs) = h
here_told (x ∷ xs) y ys (more h hs) = here_told xs y ys hs

tail_told : {P : Listed → Type 0} (xs : List Listed) (y : Listed) (ys : List Listed) → All P (xs ++ (y ∷ ys)) → All P ys
tail_told [] y ys (more h hs) = hs
tail_told (x ∷ xs) y ys (more h hs) = tail_told xs y ys hs

-- where the views lie makes no difference
same_beside : (n : ℕ) (i : Option (answer.Result Descriptor ItemRefusal)) (p : List ℕ) → beside_item (moved_item n i) p ≡ beside_item i p
same_beside n None p = refl
same_beside n (Some (Err InvalidDescriptorLength)) p = refl
same_beside n (Some (Err (Other r))) p = refl
same_beside n (Some (Ok (Avail x))) p = refl
same_beside n (Some (Ok (Dtmf x))) p = refl
same_beside n (Some (Ok (Time x))) p = refl
same_beside n (Some (Ok (Reserved tag v))) p = refl
same_beside n (Some (Ok (Segmentation x))) p = refl

moved_all : (pre s : List ℕ) (n : ℕ) → n ≡ length pre → (xs : List Listed) → map (of_listed beside_item (pre ++ s)) (map (moved_listed n) xs) ≡ map (of_listed beside_item s) xs
moved_all pre s n e [] = refl
moved_all pre s n e (x ∷ xs) = ap₂ (λ (b : Beside) (bs : List Beside). b ∷ bs) (moved_listed_lem beside_item same_beside pre s x n e) (moved_all pre s n e xs)

front_all : (a r t : List ℕ) (xs : List Listed) → All (λ (x : Listed). x.offset + x.used ≤ length a) xs → map (of_listed beside_item (a ++ r)) xs ≡ map (of_listed beside_item (a ++ t)) xs
front_all a r t [] none = refl
front_all a r t (x ∷ xs) (more h hs) = ap₂ (λ (b : Beside) (bs : List Beside). b ∷ bs) (front_listed beside_item a r t x h) (front_all a r t xs hs)

-- ---- the EIDR: a MID has none

mid_eidr : (u v : List ℕ) → eidr_of 13 u ≡ eidr_of 13 v
unfolding eidr_of
mid_eidr u v = refl

eidr_then : (upid_type_number : ℕ) (top : List ℕ) (part k : ℕ) (new u : List ℕ) (b : Beside) → upid_made upid_type_number top part k new ≡ made u → b.eidr ≡ eidr_of upid_type_number top
    → ◌≡◌ {A = Beside} (record { components = b.components; eidr = eidr_of (type_then part upid_type_number k) u }) (beside_then part k new b)
unfolding beside_then
eidr_then upid_type_number top zero k new u b e old = ap (λ (l : List ℕ). record { components = b.components; eidr = eidr_of k l }) (the_upid_itself upid_type_number top k new u e).0
eidr_then upid_type_number top (suc i) k new u b e old =
    let m : upid_type_number ≡ 13 = (every_other_identifier_stays upid_type_number top i k new u e).0 in
    ap (λ (l : List ℕ). record { components = b.components; eidr = l })
    (ap (λ (n : ℕ). eidr_of n u) m ∙ mid_eidr u top ∙ ap (λ (n : ℕ). eidr_of n top) (sym m) ∙ sym old)

-- ---- the section

module _ (s : List ℕ) (offset part k : ℕ) (new r : List ℕ) (bytes : (j : ℕ) → get_or s j 0 < 256) (byte : k < 256) (x : Result s offset part k new r) where
  abbrev loop : List ℕ
  loop = loop_bytes s

  abbrev pay : List ℕ
  pay = payload_in s offset

  abbrev K : ℕ
  K = type_then part (type_in pay) k

  abbrev d : List ℕ
  d = item_then (fore_in pay) (post_in pay) K x.upid

  abbrev it : Listed
  it = listed loop offset

  abbrev behind : List ℕ
  behind = behind_item loop it

  abbrev A : List ℕ
  A = take offset loop

  abbrev N : List ℕ
  N = A ++ (d ++ behind)

  abbrev old : Beside
  old = (reading_of loop offset).beside

  i : ActiveAt loop offset
  i = active_at_lem loop offset x.there

  loop_fits : length loop ≤ 4076
  loop_fits = i.stands.fits

  new_fits : length N ≤ 4076
  new_fits = new_loop_fits s N x.old x.accepted (fits s offset part k new r bytes byte x)

  A-long : length A ≡ offset
  A-long = length-take-le offset loop (omega (arith, i.stands.six))

  items_told : All (Told loop) (x.lead ++ (it ∷ x.tail))
  items_told = subst (All (Told loop)) x.items (all_told (walked loop loop_fits))

  lead_now : besides loop x.lead ≡ map (of_listed beside_item loop) x.lead
  lead_now = told_list loop x.lead (lead_told x.lead (it ∷ x.tail) items_told)

  tail_now : besides loop x.tail ≡ map (of_listed beside_item loop) x.tail
  tail_now = told_list loop x.tail (tail_told x.lead it x.tail items_told)

  -- ---- the item

  old_is : old ≡ beside_of pay
  old_is = told loop offset ∙ at_listed beside_item loop offset x.there ∙ ap (λ (y : Option (answer.Result Descriptor ItemRefusal)). beside_item y pay) i.item

  old_eidr : old.eidr ≡ eidr_of (type_in pay) (upid_in pay)
  old_eidr =
      ap (λ (b : Beside). b.eidr) (old_is ∙ ap beside_of x.cut ∙ (tabled_now s offset part k new r bytes byte x).beside)

  item_then_lem : of_listed beside_item N (moved_listed offset (listed d 0)) ≡ beside_then part k new old
  item_then_lem =
      moved_listed_lem beside_item same_beside A (d ++ behind) (listed d 0) offset (sym A-long)
      ∙ own_listed beside_item (payload_then s offset part k x.upid) x.short behind
      ∙ ap (λ (y : Option (answer.Result Descriptor ItemRefusal)). beside_item y (payload_then s offset part k x.upid)) x.kept.own
      ∙ (tabled_then s offset part k new r bytes byte x).beside
      ∙ ap (λ (b : Beside). record { components = b.components; eidr = eidr_of K x.upid }) (sym old_is)
      ∙ eidr_then (type_in pay) (upid_in pay) part k new x.upid old x.made_of old_eidr

  -- ---- the others

  lead_then : map (of_listed beside_item N) x.lead ≡ besides loop x.lead
  lead_then =
      front_all A (d ++ behind) (drop offset loop) x.lead
      (subst (λ (n : ℕ). All (λ (y : Listed). y.offset + y.used ≤ n) x.lead) (sym A-long) (lead_within x.lead it x.tail (walked loop loop_fits) x.items))
      ∙ ap (λ (l : List ℕ). map (of_listed beside_item l) x.lead) (take-append-drop offset loop) ∙ sym lead_now

  tail_then : map (of_listed beside_item N) (map (moved_listed (offset + length d)) (items_of behind)) ≡ besides loop x.tail
  tail_then =
      let n : offset + length d ≡ length (A ++ d) = omega (arith, length-append A d, A-long) in
      let m : ℕ = offset + ((step_of loop offset).next - offset) in
      let l : length (take m loop) ≡ m = length-take-le m loop (omega (arith, i.next, i.stands.there)) in
      ap (λ (l : List ℕ). map (of_listed beside_item l) (map (moved_listed (offset + length d)) (items_of behind))) (sym (append_assoc A d behind))
      ∙ moved_all (A ++ d) behind (offset + length d) n (items_of behind)
      ∙ sym (moved_all (take m loop) behind m (sym l) (items_of behind))
      ∙ ap₂ (λ (l : List ℕ) (xs : List Listed). map (of_listed beside_item l) xs) (take-append-drop m loop) (sym x.kept.others.old) ∙ sym tail_now

  -- ---- the lists

  loop_then_lem : loop_bytes r ≡ N
  loop_then_lem = ap loop_bytes x.is ∙ x.kept.loop

  pub old_besides : besides_in s ≡ besides loop x.lead ++ (old ∷ besides loop x.tail)
  unfolding besides_in
  old_besides = ap (besides loop) x.items ∙ map-append _ x.lead (it ∷ x.tail)

  pub new_besides : besides_in r ≡ besides loop x.lead ++ (beside_then part k new old ∷ besides loop x.tail)
  unfolding besides_in
  new_besides =
      ap (λ (l : List ℕ). besides l (items_of l)) loop_then_lem ∙ told_list N (items_of N) (all_told (walked N new_fits))
      ∙ ap (map (of_listed beside_item N)) x.kept.others.new
      ∙ map-append (of_listed beside_item N) x.lead (moved_listed offset (listed d 0) ∷ map (moved_listed (offset + length d)) (items_of behind))
      ∙ ap₂ (λ (a b : List Beside). a ++ b) lead_then (ap₂ (λ (a : Beside) (b : List Beside). a ∷ b) item_then_lem tail_then)

  -- the item is where it was
  pub new_beside : (reading_of (loop_bytes r) offset).beside ≡ beside_then part k new old
  new_beside =
      let ys : List Listed = map (moved_listed (offset + length d)) (items_of behind) in
      let h : All (Told N) (x.lead ++ (moved_listed offset (listed d 0) ∷ ys)) = subst (All (Told N)) x.kept.others.new (all_told (walked N new_fits)) in
      let z : offset ≡ offset + 0 = omega arith in
      ap (λ (l : List ℕ). (reading_of l offset).beside) loop_then_lem ∙ ap (λ (o : ℕ). (reading_of N o).beside) z
      ∙ here_told x.lead (moved_listed offset (listed d 0)) ys h ∙ item_then_lem
