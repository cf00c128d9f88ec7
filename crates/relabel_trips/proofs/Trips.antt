-- There and back: the identifier that is there changes nothing, and what was there, put back, gives the old section.
use Prim.Native.Nat.{ℕ, ◌+◌, ◌≤◌, ◌<◌}
use mathlib.Core.Bool.{true}
use mathlib.Core.List.{List}
use mathlib.Core.Path.{◌≡◌, refl, ap, ap₂, sym, subst, ◌∙◌}
use native.Mathlib.Omega.{arith}
use borrow.Author.Tests.{le-leb}
use lib.ListN.{length, get_or}
use Rattle.descriptor_loop.specs.Items.{listed}
use Rattle.relabel.proofs.Cuts.{loop_there}
use Rattle.relabel.proofs.Mades.{framing, section_accepted}
use Rattle.relabel.specs.Relabel.{payload_in, payload_then, section_then, fitting, loop_made, relabel_made}
use Rattle.relabel_found.proofs.Actives.{ActiveAt, active_at_lem, hole_at, byte_in, fore_in_lem, type_in_lem, upid_in_lem, post_in_lem, size_all}
use Rattle.relabel_found.specs.Found.{is_active, found, payload_at, fore_in, type_in, size_in, upid_in, post_in}
use Rattle.relabel_joined.specs.Relabel.{type_then, item_then}
use Rattle.relabel_laws.proofs.Results.{result}
use Rattle.relabel_laws.specs.Result.{Result}
use Rattle.relabel_loop.specs.Item.{segmentation_item}
use Rattle.relabel_loop.specs.Loop.{moved_item, with_item}
use Rattle.relabel_payload.specs.Payload.{payload, upid_head, Holed}
use Rattle.relabel_section.specs.Frame.{section_with}
use Rattle.relabel_upid.specs.Relabel.{upid_made}
use Rattle.section.specs.Section.{command_length, loop_length, loop_bytes, section_of}
use Rattle.section.specs.declared.Section.{Section}
use Rattle.table.specs.Writing.{made}
use Rattle.transport_packet.specs.Sections.{Right}
use Rattle.upid.specs.Private.{Accepted}
use Rattle.upid.specs.Upid.{check_of}
use Rattle.relabel_trips.specs.Named.{Named, type_at, identifier_at}
use Rattle.relabel_trips.proofs.Frames.{twice, set_right, own_size, own, new_loop_short}
use Rattle.relabel_trips.proofs.Loops.{pay_short, own_item_lem, pay_then_lem, found_then, again, fore_then, type_then_lem, upid_then_lem, post_then}
use Rattle.relabel_trips.proofs.Upids.{was_there, same_upid, back_upid, type_back, type_same}
use Rattle.std.proofs.Common.{Ok}

-- ---- what is made, where all tests are met

made_when : (s : List ℕ) (offset part k : ℕ) (new : List ℕ) (x : Section) (b : List ℕ) → section_of s ≡ Ok x → found (loop_bytes s) offset ≡ true
    → upid_made (type_in (payload_in s offset)) (upid_in (payload_in s offset)) part k new ≡ made b
    → length (payload_then s offset part k b) ≤ 250 → length (section_then s offset part k b) ≤ 4096
    → relabel_made s offset part k new ≡ made (section_then s offset part k b)
unfolding loop_made fitting
made_when s offset part k new x b e f u short fits =
    section_accepted s offset part k new x e
    ∙ rw (f, u, le-leb (length (payload_then s offset part k b)) 250 short, le-leb (length (section_then s offset part k b)) 4096 fits)

-- ---- the item that is there

module _ (s : List ℕ) (offset : ℕ) (x : Section) (is : section_of s ≡ Ok x) (there : found (loop_bytes s) offset ≡ true) (bytes : (j : ℕ) → get_or s j 0 < 256) where
  abbrev pay : List ℕ
  pay = payload_in s offset

  loop_byte : (j : ℕ) → get_or (loop_bytes s) j 0 < 256
  loop_byte j = subst (λ (l : List ℕ). get_or l j 0 < 256) (sym (loop_there s (framing s x is).fits)) (byte_in s (16 + command_length s) (loop_length s) bytes j)

  i : ActiveAt (loop_bytes s) offset
  i = active_at_lem (loop_bytes s) offset there

  h : Holed pay i.x.segmentation_event_id i.i
  h = hole_at (loop_bytes s) offset loop_byte i

  -- its payload, cut
  pub cut : payload (fore_in pay) (post_in pay) (type_in pay) (upid_in pay) ≡ pay
  cut = sym (h.is ∙ cc (fore_in_lem pay _ _ h, post_in_lem pay _ _ h, type_in_lem pay _ _ h, upid_in_lem pay _ _ h))

  pub complete : upid_head pay + 2 + size_in pay ≤ length pay
  complete = omega (arith, size_all pay _ _ h)

  -- its UPID is accepted
  pub fine : Accepted (check_of (type_in pay) (upid_in pay))
  fine =
      let e : check_of (type_in pay) (upid_in pay) ≡ _ = ap₂ check_of (sym (type_in_lem pay _ _ h)) (sym (upid_in_lem pay _ _ h)) ∙ h.fine in
      rw e tt

  -- the section with it
  pub own_then : (k : ℕ) → k ≡ type_in pay → section_with s (with_item (loop_bytes s) (listed (loop_bytes s) offset) (item_then (fore_in pay) (post_in pay) k (upid_in pay))) ≡ section_with s (loop_bytes s)
  own_then k e =
      ap (section_with s)
      (ap (λ (t : ℕ). with_item (loop_bytes s) (listed (loop_bytes s) offset) (item_then (fore_in pay) (post_in pay) t (upid_in pay))) e
      ∙ ap (λ (l : List ℕ). with_item (loop_bytes s) (listed (loop_bytes s) offset) (segmentation_item l)) cut ∙ own_item_lem (loop_bytes s) offset there)

-- ---- the same identifier

module _ (s : List ℕ) (offset part : ℕ) (bytes : (j : ℕ) → get_or s j 0 < 256) (n : Named s offset part) where
  abbrev its : List ℕ
  its = payload_in s offset

  -- whatever its section_length was
  pub mends : relabel_made s offset part (type_at s offset part) (identifier_at s offset part) ≡ made (section_with s (loop_bytes s))
  mends =
      let x : Section = n.old in
      let same : type_then part (type_in its) (type_at s offset part) ≡ type_in its = type_same (type_in its) (upid_in its) part in
      let e : section_then s offset part (type_at s offset part) (upid_in its) ≡ section_with s (loop_bytes s) = own_then s offset x n.accepted n.item bytes _ same in
      let p : payload_then s offset part (type_at s offset part) (upid_in its) ≡ its =
      ap (λ (t : ℕ). payload (fore_in its) (post_in its) t (upid_in its)) same ∙ cut s offset x n.accepted n.item bytes in
      let short : length (payload_then s offset part (type_at s offset part) (upid_in its)) ≤ 250 = subst (λ (l : List ℕ). length l ≤ 250) (sym p) (pay_short (loop_bytes s) offset n.item) in
      let fits : length (section_then s offset part (type_at s offset part) (upid_in its)) ≤ 4096 =
      subst (λ (l : List ℕ). length l ≤ 4096) (sym e) (omega (arith, own_size s x n.accepted bytes, (framing s x n.accepted).short)) in
      made_when s offset part (type_at s offset part) (identifier_at s offset part) x (upid_in its) n.accepted n.item
      (same_upid (type_in its) (upid_in its) part (fine s offset x n.accepted n.item bytes) n.has) short fits
      ∙ ap made e

  pub nothing_changes : Right s → relabel_made s offset part (type_at s offset part) (identifier_at s offset part) ≡ made s
  nothing_changes right = mends ∙ ap made (own s n.old n.accepted bytes right)

  pub only_then : relabel_made s offset part (type_at s offset part) (identifier_at s offset part) ≡ made s → Right s
  only_then e =
      let same : made (section_with s (loop_bytes s)) ≡ made s = sym mends ∙ e in
      let is : section_with s (loop_bytes s) ≡ s = cc in
      subst Right is
      (set_right s (loop_bytes s) n.old n.accepted (omega (arith, own_size s n.old n.accepted bytes, (framing s n.old n.accepted).short)))

-- ---- what is made

module _ (s : List ℕ) (offset part k : ℕ) (new r : List ℕ) (bytes : (j : ℕ) → get_or s j 0 < 256) (byte : k < 256) (e : relabel_made s offset part k new ≡ made r) where
  pub t : Result s offset part k new r
  t = result s offset part k new r bytes byte e

  abbrev old : List ℕ
  old = payload_in s offset

  abbrev K : ℕ
  K = type_then part (type_in old) k

  abbrev b : List ℕ
  b = t.upid

  abbrev loop : List ℕ
  loop = loop_bytes s

  abbrev pay_then : List ℕ
  pay_then = payload (fore_in old) (post_in old) K b

  abbrev loop_then : List ℕ
  loop_then = with_item loop (listed loop offset) (segmentation_item pay_then)

  pub fits : length (section_with s loop_then) ≤ 4096
  fits = subst (λ (l : List ℕ). length l ≤ 4096) t.is (framing r _ (ap section_of t.is ∙ t.kept.section)).short

  pub was_named : Named s offset part
  was_named = record { old = t.old; accepted = t.accepted; item = t.there; has = was_there (type_in old) (upid_in old) part k new b t.made_of }

  pub is_right : Right r
  is_right = subst Right (sym t.is) (set_right s loop_then t.old t.accepted fits)

  loop_is_lem : loop_bytes r ≡ loop_then
  loop_is_lem = ap loop_bytes t.is ∙ t.kept.loop

  found_there : found loop_then offset ≡ true
  found_there =
      let z : offset + 0 ≡ offset = omega arith in
      found_then loop offset t.there pay_then t.short (new_loop_short s loop_then t.old t.accepted fits) t.lead _ _ t.kept.others.new z
      (ap (λ (y : _). is_active (moved_item offset y)) t.kept.own)

  pay_is : payload_in r offset ≡ pay_then
  pay_is = ap (λ (l : List ℕ). payload_at l offset) loop_is_lem ∙ pay_then_lem loop offset t.there pay_then

  abbrev then : List ℕ
  then = payload_in r offset

  upid_is_lem : upid_made (type_in then) (upid_in then) part (type_at s offset part) (identifier_at s offset part) ≡ made (upid_in old)
  upid_is_lem =
      ap₂ (λ (j : ℕ) (u : List ℕ). upid_made j u part (type_at s offset part) (identifier_at s offset part))
      (ap type_in pay_is ∙ type_then_lem old K b t.complete) (ap upid_in pay_is ∙ upid_then_lem old K b t.complete)
      ∙ back_upid (type_in old) (upid_in old) part k new b t.made_of

  -- the payload and the section then
  type_again : type_then part (type_in then) (type_at s offset part) ≡ type_in old
  type_again = ap (λ (j : ℕ). type_then part j (type_at s offset part)) (ap type_in pay_is ∙ type_then_lem old K b t.complete) ∙ type_back (type_in old) (upid_in old) part k

  pay_again : payload_then r offset part (type_at s offset part) (upid_in old) ≡ payload (fore_in old) (post_in old) (type_in old) (upid_in old)
  pay_again =
      ap₂ (λ (f p : List ℕ). payload f p (type_then part (type_in then) (type_at s offset part)) (upid_in old)) (ap fore_in pay_is ∙ fore_then old K b t.complete) (ap post_in pay_is ∙ post_then old K b t.complete)
      ∙ ap (λ (j : ℕ). payload (fore_in old) (post_in old) j (upid_in old)) type_again

  section_again : section_then r offset part (type_at s offset part) (upid_in old) ≡ section_with s loop
  section_again =
      let own₁ : List ℕ = payload (fore_in old) (post_in old) (type_in old) (upid_in old) in
      ap (λ (l : List ℕ). section_with r (with_item (loop_bytes r) (listed (loop_bytes r) offset) (segmentation_item l))) pay_again
      ∙ ap₂ (λ (a l : List ℕ). section_with a (with_item l (listed l offset) (segmentation_item own₁))) t.is loop_is_lem
      ∙ ap (section_with (section_with s loop_then)) (again loop offset t.there pay_then found_there (segmentation_item own₁))
      ∙ twice s loop_then t.old t.accepted fits (with_item loop (listed loop offset) (segmentation_item own₁))
      ∙ own_then s offset t.old t.accepted t.there bytes (type_in old) refl

  -- whatever its section_length was
  pub mends_back : relabel_made r offset part (type_at s offset part) (identifier_at s offset part) ≡ made (section_with s loop)
  mends_back =
      let p : payload_then r offset part (type_at s offset part) (upid_in old) ≡ old = pay_again ∙ cut s offset t.old t.accepted t.there bytes in
      let short : length (payload_then r offset part (type_at s offset part) (upid_in old)) ≤ 250 = subst (λ (l : List ℕ). length l ≤ 250) (sym p) (pay_short loop offset t.there) in
      let size : length (section_then r offset part (type_at s offset part) (upid_in old)) ≤ 4096 =
      subst (λ (l : List ℕ). length l ≤ 4096) (sym section_again) (omega (arith, own_size s t.old t.accepted bytes, (framing s t.old t.accepted).short)) in
      made_when r offset part (type_at s offset part) (identifier_at s offset part) _ (upid_in old) (ap section_of t.is ∙ t.kept.section)
      (ap (λ (l : List ℕ). found l offset) loop_is_lem ∙ found_there) upid_is_lem short size
      ∙ ap made section_again

  pub back_again : Right s → relabel_made r offset part (type_at s offset part) (identifier_at s offset part) ≡ made s
  back_again right = mends_back ∙ ap made (own s t.old t.accepted bytes right)
