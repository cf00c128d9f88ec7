-- The list of a section's identifiers is the old list with one replaced.
use Prim.Native.Nat.{ℕ, zero, suc, ◌+◌, ◌-◌, ◌≤◌}
use mathlib.Core.Bool.{Bool, true}
use mathlib.Core.List.{List, [], ◌∷◌, ◌++◌, map, append_assoc}
use mathlib.Core.Path.{◌≡◌, ap, ap₂, sym, subst, ◌∙◌}
use native.Mathlib.Omega.{arith}
use borrow.Author.Tests.{ne_eqb, eq-eqb}
use lib.ListN.{length, take, drop, get_or, length-append, take-append-drop}
use lib.Seq.{length-take-le}
use Rattle.descriptor_loop.proofs.Lists.{walked}
use Rattle.descriptor_loop.specs.Items.{step_of, Listed, listed, items_of}
use Rattle.relabel.proofs.Ats.{some_made}
use Rattle.relabel.specs.Relabel.{payload_in, payload_then}
use Rattle.relabel_found.proofs.Actives.{ActiveAt, active_at_lem}
use Rattle.relabel_found.specs.Found.{begins, is_active, found, fore_in, type_in, upid_in, post_in}
use Rattle.relabel_joined.specs.Relabel.{type_then, item_then}
use Rattle.relabel_loop.specs.Loop.{moved_listed, behind_item}
use Rattle.relabel_upid.proofs.Theorems.{every_other_identifier_stays, the_upid_itself}
use Rattle.relabel_upid.specs.Kept.{Identifier}
use Rattle.relabel_upid.specs.Relabel.{upid_made}
use Rattle.section.specs.Section.{loop_bytes}
use Rattle.table.proofs.Lists.{and_true}
use Rattle.table.specs.Bits.{pick}
use Rattle.table.specs.Writing.{made}
use Rattle.upid.specs.Cover.{All}
use Rattle.relabel_laws.specs.Identifiers.{of_upid, of_payload, of_item, each, identifiers_in, upid_then}
use Rattle.relabel_laws.specs.Result.{Result}
use Rattle.relabel_laws.proofs.Items.{at_listed}
use Rattle.relabel_laws.proofs.Lists.{each_append, tells, moved_item_lem, moved_each, front_each, lead_within, payload_then_lem, own_item_lem}

-- ---- the UPID

pub upid_then_lem : (upid_type_number : ℕ) (top : List ℕ) (part k : ℕ) (new b : List ℕ) → upid_made upid_type_number top part k new ≡ made b → of_upid (type_then part upid_type_number k) b ≡ upid_then upid_type_number top part k new
unfolding upid_then of_upid
upid_then_lem upid_type_number top zero k new b e = ap (of_upid k) (the_upid_itself upid_type_number top k new b e).0
upid_then_lem upid_type_number top (suc i) k new b e =
    let x = every_other_identifier_stays upid_type_number top i k new b e in
    let some : 1 ≤ length b = some_made upid_type_number top (suc i) k new b e in
    rw (ne_eqb (length b) 0 (λ z. omega (arith, z, some)), eq-eqb upid_type_number 13 x.0) x.1.identifiers

module _ (s : List ℕ) (offset part k : ℕ) (new r : List ℕ) (x : Result s offset part k new r) where
  abbrev loop : List ℕ
  loop = loop_bytes s

  abbrev pay : List ℕ
  pay = payload_in s offset

  abbrev K : ℕ
  K = type_then part (type_in pay) k

  abbrev d : List ℕ
  d = item_then (fore_in pay) (post_in pay) K x.upid

  abbrev it : Listed
  it = listed loop offset

  abbrev behind : List ℕ
  behind = behind_item loop it

  abbrev A : List ℕ
  A = take offset loop

  i : ActiveAt loop offset
  i = active_at_lem loop offset x.there

  yes : is_active (step_of loop offset).item ≡ true
  unfolding found
  yes = (and_true (begins (items_of loop) offset) (is_active (step_of loop offset).item) x.there).1

  A-long : length A ≡ offset
  A-long = length-take-le offset loop (omega (arith, i.stands.six))

  end_is : offset + ((step_of loop offset).next - offset) ≡ offset + (get_or loop (offset + 1) 0 + 2)
  end_is = omega (arith, i.next)

  lead_in : each loop x.lead ≡ each (A ++ (d ++ behind)) x.lead
  lead_in =
      ap (λ (l : List ℕ). each l x.lead) (sym (take-append-drop offset loop))
      ∙ front_each A (drop offset loop) (d ++ behind) x.lead
      (subst (λ (n : ℕ). All (λ (y : Listed). y.offset + y.used ≤ n) x.lead) (sym A-long) (lead_within x.lead it x.tail (walked loop i.stands.fits) x.items))

  old_item : of_item loop it ≡ of_payload pay
  unfolding of_item
  old_item = at_listed tells loop offset x.there ∙ ap (λ (b : Bool). pick b (of_payload pay) []) yes

  old_tail : each loop x.tail ≡ each behind (items_of behind)
  old_tail =
      let n : ℕ = offset + ((step_of loop offset).next - offset) in
      let l : length (take n loop) ≡ n = length-take-le n loop (omega (arith, end_is, i.stands.there)) in
      ap₂ each (sym (take-append-drop n loop)) x.kept.others.old ∙ moved_each (take n loop) (drop n loop) n (sym l) (items_of behind)

  pub old_list : identifiers_in s ≡ each loop x.lead ++ (of_payload pay ++ each loop x.tail)
  unfolding identifiers_in
  old_list =
      ap (each loop) x.items ∙ each_append loop x.lead (it ∷ x.tail)
      ∙ ap (λ (l : List Identifier). each loop x.lead ++ (l ++ each loop x.tail)) old_item

  new_item : of_item (A ++ (d ++ behind)) (moved_listed offset (listed d 0)) ≡ upid_then (type_in pay) (upid_in pay) part k new
  new_item =
      moved_item_lem A (d ++ behind) (listed d 0) offset (sym A-long)
      ∙ own_item_lem (payload_then s offset part k x.upid) x.short (ap is_active x.kept.own) behind
      ∙ payload_then_lem pay K x.upid x.complete
      ∙ upid_then_lem (type_in pay) (upid_in pay) part k new x.upid x.made_of

  new_tail : each (A ++ (d ++ behind)) (map (moved_listed (offset + length d)) (items_of behind)) ≡ each loop x.tail
  new_tail =
      let n : offset + length d ≡ length (A ++ d) = omega (arith, length-append A d, A-long) in
      ap (λ (l : List ℕ). each l (map (moved_listed (offset + length d)) (items_of behind))) (sym (append_assoc A d behind))
      ∙ moved_each (A ++ d) behind (offset + length d) n (items_of behind) ∙ sym old_tail

  loop_then_lem : loop_bytes r ≡ A ++ (d ++ behind)
  loop_then_lem = ap loop_bytes x.is ∙ x.kept.loop

  pub new_list : identifiers_in r ≡ each loop x.lead ++ (upid_then (type_in pay) (upid_in pay) part k new ++ each loop x.tail)
  unfolding identifiers_in
  new_list =
      ap (λ (l : List ℕ). each l (items_of l)) loop_then_lem ∙ ap (each (A ++ (d ++ behind))) x.kept.others.new
      ∙ each_append (A ++ (d ++ behind)) x.lead (moved_listed offset (listed d 0) ∷ map (moved_listed (offset + length d)) (items_of behind))
      ∙ ap₂ (λ (a b : List Identifier). a ++ b) (sym lead_in) (ap₂ (λ (a b : List Identifier). a ++ b) new_item new_tail)
