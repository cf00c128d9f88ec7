-- The item that is relabelled, and the whole section.
use Prim.Native.Nat.{ℕ, ◌+◌, ◌-◌, ◌≤◌, ◌<◌}
use mathlib.Core.Bool.{true, ◌&&◌}
use mathlib.Core.List.{List, ◌∷◌, ◌++◌}
use mathlib.Core.Path.{◌≡◌, refl, ap, sym, subst, ◌∙◌}
use native.Mathlib.Omega.{arith}
use borrow.Author.Tests.{ltb-false, ne_eqb}
use lib.ListN.{length, get_or, take, drop, length-drop, take-append-drop, get_or-append}
use lib.Seq.{drop-drop, drop-append-le, take-append-le, get_or-drop}
use Rattle.canonical_form.specs.Command.{canonical_command}
use Rattle.descriptor.specs.Descriptor.{cuei, is_cuei}
use Rattle.descriptor.specs.Segmentation.{segmentation}
use Rattle.descriptor_loop.specs.Items.{listed}
use Rattle.canonical_form.specs.Descriptor.{canonical_upid, upid_canonical, canonical_segmentation, canonical_payload, canonical_loop}
use Rattle.descriptor_measure.specs.Writing.{enveloped}
use Rattle.descriptor_round_trips.proofs.Canon.{enveloped_canonical, canonical_enveloped}
use Rattle.loop_round_trips.proofs.Pieces.{Canonical, At, said}
use Rattle.relabel.proofs.Ats.{some_made}
use Rattle.relabel.proofs.Cuts.{loop_there}
use Rattle.relabel.proofs.Mades.{framing}
use Rattle.relabel.specs.Relabel.{payload_in, payload_then}
use Rattle.relabel_found.proofs.Actives.{ActiveAt, active_at_lem, hole_at, byte_in, fore_in_lem, type_in_lem, upid_in_lem, post_in_lem}
use Rattle.relabel_found.specs.Found.{fore_in, type_in, upid_in, post_in}
use Rattle.relabel_joined.proofs.Theorems.{made_fine, made_byte}
use Rattle.relabel_joined.specs.Relabel.{type_then, item_then}
use Rattle.relabel_laws.specs.Result.{Result}
use Rattle.relabel_loop.specs.Loop.{with_item}
use Rattle.relabel_payload.specs.Payload.{payload, upid_head, Tabled}
use Rattle.relabel_section.specs.Frame.{section_with}
use Rattle.section.proofs.Acceptance.{none_if_accepted}
use Rattle.section.specs.Section.{command_length, command_type, command_bytes, loop_length, loop_bytes}
use Rattle.section_writer.proofs.Theorems as written
use Rattle.canonical_form.specs.Section.{canonical_frame, canonical_section}
use Rattle.table.proofs.Lists.{and_true}
use Rattle.table.specs.Bits.{bits_of}
use Rattle.table.specs.Table.{parse, canonical_by}
use Rattle.upid.specs.Upid.{check_of}
use Rattle.relabel_canonical.proofs.Frames.{frame_kept, command_kept}
use Rattle.relabel_canonical.proofs.Loops.{next_at_lem, piece_at, with_canonical}
use Rattle.std.proofs.Common.{Ok}

-- ---- a payload with another UPID, which is not empty

pub segmentation_kept : (s fore post : List ℕ) (k : ℕ) (u : List ℕ) (q : ℕ) → Tabled s fore post k u → check_of k u ≡ Ok q → 1 ≤ length u → canonical_segmentation s ≡ true
    → canonical_segmentation (payload fore post k u) ≡ true
unfolding canonical_segmentation canonical_upid
segmentation_kept s fore post k u q t e some c =
    let old = and_true (canonical_by segmentation s) (upid_canonical s (parse segmentation (bits_of s) 0)) c in
    rw (t.form, old.0, t.reads, t.upid, t.bytes, e, ne_eqb (length u) 0 (λ z. omega (arith, z)))

-- ---- its item

cuei_payload : (p : List ℕ) → canonical_payload 2 cuei p ≡ canonical_segmentation p
unfolding canonical_payload is_cuei
cuei_payload p = refl

item_canonical : (p : List ℕ) → length p ≤ 250 → canonical_segmentation p ≡ true → Canonical (2 ∷ (length (cuei ++ p) ∷ (cuei ++ p)))
unfolding enveloped
item_canonical p short c =
    let n : length p + 4 ≡ length (cuei ++ p) = omega arith in
    subst (λ (m : ℕ). Canonical (2 ∷ (m ∷ (cuei ++ p)))) n (enveloped_canonical 2 cuei p refl (omega arith) (cuei_payload p ∙ c))

-- ---- the section

module _ (s : List ℕ) (offset part k : ℕ) (new r : List ℕ) (bytes : (j : ℕ) → get_or s j 0 < 256) (byte : k < 256) (x : Result s offset part k new r) where
  abbrev loop : List ℕ
  loop = loop_bytes s

  abbrev pay : List ℕ
  pay = payload_in s offset

  abbrev K : ℕ
  K = type_then part (type_in pay) k

  abbrev d : List ℕ
  d = item_then (fore_in pay) (post_in pay) K x.upid

  i : ActiveAt loop offset
  i = active_at_lem loop offset x.there

  loop_byte : (j : ℕ) → get_or loop j 0 < 256
  loop_byte j = subst (λ (l : List ℕ). get_or l j 0 < 256) (sym (loop_there s (framing s x.old x.accepted).fits)) (byte_in s (16 + command_length s) (loop_length s) bytes j)

  -- what the table reads of the item's payload then
  pub tabled_then : Tabled pay (fore_in pay) (post_in pay) K x.upid
  tabled_then =
      let h = hole_at loop offset loop_byte i in
      let f = made_fine (type_in pay) (upid_in pay) part k new x.upid x.made_of in
      let t = h.tabled K x.upid f.0 (made_byte (type_in pay) (upid_in pay) part k new x.upid byte x.made_of) f.1 in
      rw (← fore_in_lem pay _ _ h, ← post_in_lem pay _ _ h) t

  -- and what it reads now
  pub tabled_now : Tabled pay (fore_in pay) (post_in pay) (type_in pay) (upid_in pay)
  tabled_now =
      let h = hole_at loop offset loop_byte i in
      let upid_type_number : h.upid_type < 256 = omega (arith, type_in_lem pay _ _ h, byte_in loop (offset + 6) (get_or loop (offset + 1) 0 - 4) loop_byte (upid_head pay)) in
      four (fore_in_lem pay _ _ h) (post_in_lem pay _ _ h) (type_in_lem pay _ _ h) (upid_in_lem pay _ _ h) (h.tabled h.upid_type h.bytes h.reported upid_type_number h.fine)
    where
      four : {a b c d u v : List ℕ} {m n : ℕ} → a ≡ b → c ≡ d → m ≡ n → u ≡ v → Tabled pay a c m u → Tabled pay b d n v
      four e f g h t = rw (← e, ← f, ← g, ← h) t

  pub fits : length (section_with s (with_item loop (listed loop offset) d)) ≤ 4096
  fits = ltb-false 4096 _ (none_if_accepted _ _ x.kept.section).1.0

  module _ (c : canonical_section s ≡ true) where
    parts : written.Canonical s
    parts = written.canonical_parts s c

    old_payload : canonical_segmentation pay ≡ true
    old_payload =
        let p = piece_at loop i.stands.fits offset x.lead x.tail x.items parts.loop in
        let t : List ℕ = p.0 in
        let a : At loop offset t = p.1 in
        let six : 6 ≤ length t = (said t a.canon).0 in
        let post : List ℕ = drop (length t) (drop offset loop) in
        let is : drop offset loop ≡ t ++ post = sym (take-append-drop (length t) (drop offset loop)) ∙ ap (λ (l : List ℕ). l ++ post) a.run in
        let two : drop (offset + 2) loop ≡ drop 2 t ++ post = sym (drop-drop 2 offset loop) ∙ ap (drop 2) is ∙ drop-append-le 2 t post (omega arith) in
        let id : take 4 (drop 2 t) ≡ cuei = sym (take-append-le 4 (drop 2 t) post (omega (arith, length-drop 2 t))) ∙ ap (take 4) (sym two) ∙ i.id in
        let o : offset + 0 ≡ offset = omega arith in
        let tag : get_or t 0 0 ≡ 2 =
        sym (get_or-append t post 0 0 (omega arith)) ∙ ap (λ (l : List ℕ). get_or l 0 0) (sym is) ∙ get_or-drop offset loop 0 0 ∙ ap (λ (n : ℕ). get_or loop n 0) o ∙ i.tag in
        let size : get_or loop (offset + 1) 0 - 4 ≡ length t - 6 = omega (arith, i.next, next_at_lem loop i.stands.fits offset t a) in
        let body : drop 6 t ≡ pay = sym (ap (λ (n : ℕ). take n (drop (offset + 6) loop)) size ∙ a.payload) in
        sym (cuei_payload pay) ∙ sym (three tag id body) ∙ (canonical_enveloped t a.canon).2
      where
        three : {a b : ℕ} {l m p q : List ℕ} → a ≡ b → l ≡ m → p ≡ q → canonical_payload a l p ≡ canonical_payload b m q
        three e f g = rw (e, f, g)

    new_payload : canonical_segmentation (payload_then s offset part k x.upid) ≡ true
    new_payload =
        let f = made_fine (type_in pay) (upid_in pay) part k new x.upid x.made_of in
        segmentation_kept pay (fore_in pay) (post_in pay) K x.upid f.0 tabled_then f.1 (some_made (type_in pay) (upid_in pay) part k new x.upid x.made_of) old_payload

    new_loop : canonical_loop (with_item loop (listed loop offset) d) ≡ true
    new_loop = with_canonical loop i.stands.fits offset x.lead x.tail x.items parts.loop d (item_canonical (payload_then s offset part k x.upid) x.short new_payload)

    pub section_kept : canonical_section r ≡ true
    unfolding canonical_section
    section_kept =
        let l : List ℕ = with_item loop (listed loop offset) d in
        let lo : canonical_loop (loop_bytes (section_with s l)) ≡ true = ap canonical_loop x.kept.loop ∙ new_loop in
        let all : canonical_frame (section_with s l) && (canonical_command (command_type (section_with s l)) (command_bytes (section_with s l)) && canonical_loop (loop_bytes (section_with s l))) ≡ true =
        rw (frame_kept s l x.old x.accepted fits (bytes 1) parts.around, command_kept s l x.old x.accepted fits (bytes 1) parts.command, lo) in
        ap canonical_section x.is ∙ all
