-- What is made, case by case.
--     limit_is                     how long the UPID may get
--     none_spotted, made_spotted   in a section that is accepted
--     section_refused_lem, ..          what the section's reading says, or its frame and its command
use Prim.Native.Nat.{ℕ, zero, suc, ◌+◌, ◌-◌, ◌<◌, ◌≤◌}
use mathlib.Core.Bool.{Bool, true, false, ◌&&◌}
use mathlib.Core.List.{List}
use mathlib.Core.Path.{◌≡◌, refl, ap, ap₂, sym, subst, ◌∙◌}
use native.Mathlib.Omega.{arith}
use borrow.Author.Tests.{le-leb, lt-leb, leb-true, leb-false, ne_eqb}
use lib.Dec.{leb}
use lib.ListN.{length, get_or, take, drop, length-drop}
use Rattle.command.specs.Command.{command_of}
use Rattle.command.specs.declared.SpliceCommand.{SpliceCommand}
use Rattle.header.proofs.Headers.{header_there}
use Rattle.header.specs.Header.{header_of}
use Rattle.header.specs.declared.header.SpliceInfoHeader.{SpliceInfoHeader}
use Rattle.relabel_found.proofs.Actives.{ActiveAt, active_at_lem}
use Rattle.relabel_found.proofs.Spots.{found_spots, spots_found}
use Rattle.relabel_found.specs.Found.{found, type_in, size_in, upid_in, spots}
use Rattle.relabel_joined.specs.Relabel.{type_then}
use Rattle.relabel_payload.specs.Payload.{upid_head}
use Rattle.relabel_upid.proofs.Stores.{refused_upid}
use Rattle.relabel_upid.specs.Relabel.{taken, upid_made, up_to}
use Rattle.section.proofs.Acceptance.{number_some}
use Rattle.section.proofs.Framing.{framed, command_read, is_refused, is_accepted, is_unknown, is_malformed, is_section}
use Rattle.section.specs.Section.{command_length, command_type, command_bytes, loop_length, loop_bytes, loop_place, frame_in, frame_of, moved, moved_read, accepted, through, section_of, number_of}
use Rattle.section.specs.declared.Frame.{Frame}
use Rattle.section.specs.declared.Refusal.{Refusal}
use Rattle.section.specs.declared.Section.{Section}
use Rattle.table.proofs.Lists.{zero_one}
use Rattle.table.specs.Bits.{pick}
use Rattle.table.specs.Writing.{Made, made, refused}
use Rattle.upid.proofs.Laws.{by_cases}
use Rattle.upid.specs.Upid.{check_of}
use Rattle.relabel.specs.Relabel.{payload_in, payload_then, section_then, fitting, loop_made, relabel_made}
use Rattle.relabel.specs.Private.{old_size, Lies, Takes, Limit, Spotted, place_in, wrapped, placed_made}
use Rattle.relabel.specs.declared.Place.{Place}
use Rattle.relabel.proofs.Cuts.{own_is, size_is, pay_is, old_is, type_is, upid_is_lem, pay_size, section_size, cut_is, loop_there, loop_byte}
use Rattle.std.proofs.Common.{Ok, Err, Some, None, Option, Result}
use Rattle.command.specs.declared.CommandRefusal.{CommandRefusal}
use Rattle.upid.specs.declared.Refusal as upid_refusal

-- ---- how long the UPID may get

pub limit_is : (s : List ℕ) (p : Place) (L old a b r : ℕ) → Lies s p → L ≡ get_or s (p.item + 1) 0 → old ≡ old_size p → a ≡ 254 - (L - old) → b ≡ 4096 - (length s - old)
    → r ≤ a → r ≤ b → (a ≤ b → r ≡ a) → (b ≤ a → r ≡ b) → Limit s p r
limit_is s p L old a b r l eL eo ea eb ra rb fa fb n =
    let own : old + 12 ≤ L = subst (λ (m : ℕ). m + 12 ≤ L) (sym eo) (subst (λ (m : ℕ). old_size p + 12 ≤ m) (sym eL) l.own) in
    let right : L ≤ 254 = subst (λ (m : ℕ). m ≤ 254) (sym eL) l.right in
    let x = item_fits_lem L old a n own right ea in
    let y = section_fits_lem (length s) old b n l.short eb in (
      λ h. record {
        item = subst (λ (m : ℕ). m - old_size p + n ≤ 254) eL (subst (λ (m : ℕ). L - m + n ≤ 254) eo (x.0 (le_le n r a h ra)));
        section = subst (λ (m : ℕ). length s - m + n ≤ 4096) eo (y.0 (le_le n r b h rb));
      },
      λ t.
          let u : n ≤ a = x.1 (subst (λ (m : ℕ). L - m + n ≤ 254) (sym eo) (subst (λ (m : ℕ). m - old_size p + n ≤ 254) (sym eL) t.item)) in
          let v : n ≤ b = y.1 (subst (λ (m : ℕ). length s - m + n ≤ 4096) (sym eo) t.section) in
          by_cases a b
          (λ h. subst (λ (m : ℕ). n ≤ m) (sym (fa (lt_le a b h))) u)
          (λ h. subst (λ (m : ℕ). n ≤ m) (sym (fb h)) v),
    )
  where
    item_fits_lem : (L old a n : ℕ) → old + 12 ≤ L → L ≤ 254 → a ≡ 254 - (L - old) → (n ≤ a → L - old + n ≤ 254) × (L - old + n ≤ 254 → n ≤ a)
    item_fits_lem L old a n h g e = (λ x. omega arith, λ x. omega arith)

    section_fits_lem : (S old b n : ℕ) → S ≤ 4096 → b ≡ 4096 - (S - old) → (n ≤ b → S - old + n ≤ 4096) × (S - old + n ≤ 4096 → n ≤ b)
    section_fits_lem S old b n h e = (λ x. omega arith, λ x. omega arith)

    le_le : (a b c : ℕ) → a ≤ b → b ≤ c → a ≤ c
    le_le a b c h g = omega arith

    lt_le : (a b : ℕ) → a < b → a ≤ b
    lt_le a b h = omega arith

-- ---- where the item and its UPID are

module _ (s : List ℕ) (offset : ℕ) (at : Spotted s offset) (list x : ℕ) (el : list ≡ 16 + command_length s) (ex : x ≡ get_or s (list + offset + 1) 0) where
  own : x ≡ get_or (loop_bytes s) (offset + 1) 0
  own = ex ∙ ap (λ (c : ℕ). get_or s (c + offset + 1) 0) el ∙ own_is s offset at

  pub stop_fits : (list + offset + 6 ≤ list + offset + 2 + x) × (list + offset + 2 + x ≤ length s)
  stop_fits = (omega (arith, own, at.upid), omega (arith, own, el, at.room, at.there))

module _ (s : List ℕ) (offset : ℕ) (at : Spotted s offset) (list x h : ℕ) (el : list ≡ 16 + command_length s) (ex : x ≡ get_or s (list + offset + 1) 0)
    (eh : h ≡ upid_head (take (list + offset + 2 + x - (list + offset + 6)) (drop (list + offset + 6) s))) where
  own₂ : x ≡ get_or (loop_bytes s) (offset + 1) 0
  own₂ = ex ∙ ap (λ (c : ℕ). get_or s (c + offset + 1) 0) el ∙ own_is s offset at

  head_in_lem : h ≡ upid_head (payload_in s offset)
  head_in_lem =
      let z : list + offset + 2 + x - (list + offset + 6) ≡ x - 4 = omega arith in
      eh ∙ ap (λ (m : ℕ). upid_head (take m (drop (list + offset + 6) s))) (z ∙ ap (λ (m : ℕ). m - 4) own₂)
      ∙ ap (λ (c : ℕ). upid_head (take (get_or (loop_bytes s) (offset + 1) 0 - 4) (drop (c + offset + 6) s))) el ∙ ap upid_head (sym (pay_is s offset at))

  pub head_fits : (h ≡ upid_head (payload_in s offset)) × (list + offset + 6 + h + 2 ≤ length s) × (length s ≤ 4096)
  head_fits = (head_in_lem, omega (arith, head_in_lem, el, at.room, at.there, at.upid), at.short)

pub place_is : (s : List ℕ) (offset : ℕ) → Spotted s offset → (list len h y : ℕ) → list ≡ 16 + command_length s → len ≡ loop_length s → h ≡ upid_head (payload_in s offset)
    → y ≡ get_or s (list + offset + 6 + h + 1) 0
    → ◌≡◌ {A = Place} (record { list = list; len = len; item = list + offset; head = list + offset + 6 + h; end = list + offset + 6 + h + 2 + y }) (place_in s offset)
place_is s offset at list len h y el en eh ey =
    let z : y ≡ size_in (payload_in s offset) = ey ∙ ap₂ (λ (c q : ℕ). get_or s (c + offset + 6 + q + 1) 0) el eh ∙ size_is s offset at in
    rw (z, el, en, eh)

pub spots_there : (s : List ℕ) (list len offset : ℕ) (r : Bool) → list ≡ 16 + command_length s → len ≡ loop_length s → 20 + command_length s + loop_length s ≤ length s
    → r ≡ spots (take (list + len - list) (drop list s)) offset → r ≡ spots (loop_bytes s) offset
spots_there s list len offset r el en room e =
    let z : list + len - list ≡ len = omega arith in
    e ∙ ap (λ (m : ℕ). spots (take m (drop list s)) offset) z ∙ ap₂ (λ (c n : ℕ). spots (take n (drop c s)) offset) el en ∙ ap (λ (l : List ℕ). spots l offset) (sym (loop_there s room))

-- ---- in a section that is accepted

module _ (s : List ℕ) (offset part k : ℕ) (new : List ℕ) where
  none_found : found (loop_bytes s) offset ≡ false → loop_made s offset part k new ≡ refused 41
  unfolding loop_made
  none_found e = rw e

  pub none_spotted : ((k : ℕ) → get_or (loop_bytes s) k 0 < 256) → spots (loop_bytes s) offset ≡ false → loop_made s offset part k new ≡ refused 41
  none_spotted bytes e = go (found (loop_bytes s) offset) refl
    where
      go : (t : Bool) → found (loop_bytes s) offset ≡ t → loop_made s offset part k new ≡ refused 41
      go true f = let z : false ≡ true = sym e ∙ spots_found (loop_bytes s) offset bytes f in zero_one cc
      go false f = none_found f

  -- 41 is that of the UPID too
  no_upid : upid_made (type_in (payload_in s offset)) (upid_in (payload_in s offset)) part k new ≡ refused 41 → loop_made s offset part k new ≡ refused 41
  unfolding loop_made fitting
  no_upid e = rw e (go (found (loop_bytes s) offset))
    where
      go : (t : Bool) → pick t (refused 41) (refused 41) ≡ refused 41
      go true = refl
      go false = refl

  module _ (e : found (loop_bytes s) offset ≡ true) (at : Spotted s offset) (bytes : (j : ℕ) → get_or s j 0 < 256) (byte : k < 256) (limit : ℕ) (lim : Limit s (place_in s offset) limit) where
    abbrev K : ℕ
    K = type_then part (type_in (payload_in s offset)) k

    x : ActiveAt (loop_bytes s) offset
    x = active_at_lem (loop_bytes s) offset e

    type_is_byte : (part : ℕ) → type_then part (type_in (payload_in s offset)) k < 256
    type_is_byte zero = byte
    type_is_byte (suc i) = subst (λ (m : ℕ). m < 256) (type_is s offset at) (bytes (place_in s offset).head)

    abbrev L : ℕ
    L = get_or (loop_bytes s) (offset + 1) 0

    abbrev n : ℕ
    n = size_in (payload_in s offset)

    module _ (b : List ℕ) where
      abbrev len_pay : ℕ
      len_pay = length (payload_then s offset part k b)

      abbrev len_section : ℕ
      len_section = length (section_then s offset part k b)

      takes_when : len_pay ≤ 250 → len_section ≤ 4096 → Takes s (place_in s offset) (length b)
      takes_when h g =
          record {
            item = subst (λ (m : ℕ). m - old_size (place_in s offset) + length b ≤ 254) (sym (own_is s offset at)) (subst (λ (m : ℕ). L - m + length b ≤ 254) (sym (old_is s offset at)) (item_when (upid_head (payload_in s offset)) L n len_pay (length b) at.upid (pay_size s offset at x.next part k b) h));
            section = subst (λ (m : ℕ). length s - m + length b ≤ 4096) (sym (old_is s offset at)) (subst (λ (m : ℕ). m ≤ 4096) (section_size s offset at x.next part k b) g);
          }
        where
          item_when : (q L n l b : ℕ) → q + 6 + n ≤ L → l ≡ L - 4 - n + b → l ≤ 250 → L - n + b ≤ 254
          item_when q L n l b h e g = omega arith

      when_takes : Takes s (place_in s offset) (length b) → (len_pay ≤ 250) × (len_section ≤ 4096)
      when_takes t = (
        when_item (upid_head (payload_in s offset)) L n len_pay (length b) at.upid (pay_size s offset at x.next part k b)
            (subst (λ (m : ℕ). L - m + length b ≤ 254) (old_is s offset at) (subst (λ (m : ℕ). m - old_size (place_in s offset) + length b ≤ 254) (own_is s offset at) t.item)),
        subst (λ (m : ℕ). m ≤ 4096) (sym (section_size s offset at x.next part k b)) (subst (λ (m : ℕ). length s - m + length b ≤ 4096) (old_is s offset at) t.section),
      )
        where
          when_item : (q L n l b : ℕ) → q + 6 + n ≤ L → l ≡ L - 4 - n + b → L - n + b ≤ 254 → l ≤ 250
          when_item q L n l b h e g = omega arith

      fits_same : (t : Bool) → leb (length b) limit ≡ t
          → pick (leb len_pay 250 && leb len_section 4096) (made (section_then s offset part k b)) (refused 34) ≡ wrapped s (place_in s offset) K (pick t (made b) (refused 34))
      fits_same true h =
          let t = (lim (length b)).0 (leb-true (length b) limit h) in
          let f = when_takes t in
          rw (le-leb len_pay 250 f.0, le-leb len_section 4096 f.1) (ap made (cut_is s offset at x.next part k b x.tag x.id bytes (type_is_byte part) t))
      fits_same false h =
          by_cases 250 len_pay
          (λ g. rw (lt-leb len_pay 250 g))
          (λ g. by_cases 4096 len_section
          (λ f. rw (le-leb len_pay 250 g, lt-leb len_section 4096 f))
          (λ f. absurd (omega (arith, leb-false (length b) limit h, (lim (length b)).1 (takes_when g f)))))

    made_by : (m : Made) → fitting s offset part k m ≡ wrapped s (place_in s offset) K (up_to limit m)
    unfolding fitting
    made_by (refused q) = refl
    made_by (made b) = fits_same b (leb (length b) limit) refl

    made_same : loop_made s offset part k new ≡ placed_made s (place_in s offset) limit part k new
    unfolding loop_made placed_made
    made_same =
        rw e (made_by (upid_made (type_in (payload_in s offset)) (upid_in (payload_in s offset)) part k new)
        ∙ ap₂ (λ (j : ℕ) (u : List ℕ). wrapped s (place_in s offset) (type_then part j k) (up_to limit (upid_made j u part k new))) (sym (type_is s offset at)) (sym (upid_is_lem s offset at)))

  -- an item that is spotted: its UPID is tested where it is replaced
  module _ (e : spots (loop_bytes s) offset ≡ true) (at : Spotted s offset) (bytes : (j : ℕ) → get_or s j 0 < 256) (byte : k < 256) (limit : ℕ) (lim : Limit s (place_in s offset) limit) where
    placed_none : upid_made (type_in (payload_in s offset)) (upid_in (payload_in s offset)) part k new ≡ refused 41 → placed_made s (place_in s offset) limit part k new ≡ refused 41
    unfolding placed_made
    placed_none f =
        ap₂ (λ (j : ℕ) (u : List ℕ). wrapped s (place_in s offset) (type_then part j k) (up_to limit (upid_made j u part k new))) (type_is s offset at) (upid_is_lem s offset at)
        ∙ ap (λ (m : Made). wrapped s (place_in s offset) (type_then part (type_in (payload_in s offset)) k) (up_to limit m)) f

    pub made_spotted : loop_made s offset part k new ≡ placed_made s (place_in s offset) limit part k new
    unfolding taken
    made_spotted = go (check_of (type_in (payload_in s offset)) (upid_in (payload_in s offset))) refl
      where
        go : (r : Result ℕ upid_refusal.Refusal) → check_of (type_in (payload_in s offset)) (upid_in (payload_in s offset)) ≡ r → loop_made s offset part k new ≡ placed_made s (place_in s offset) limit part k new
        go (Ok q) f = made_same (found_spots (loop_bytes s) offset (loop_byte s offset bytes at.room at.short) e q f) at bytes byte limit lim
        go (Err r) f =
            let z = refused_upid (type_in (payload_in s offset)) (upid_in (payload_in s offset)) part k new (ap taken f) in
            no_upid z ∙ sym (placed_none z)

-- ---- by the section's reading

module _ (s : List ℕ) (offset part k : ℕ) (new : List ℕ) where
  pub section_refused_lem : (r : Refusal) (q : ℕ) → section_of s ≡ Err r → q ≡ number_of (section_of s) → relabel_made s offset part k new ≡ refused q
  unfolding relabel_made
  section_refused_lem r q e f = rw (← f, ne_eqb q 0 (λ z. number_some r (ap number_of (sym e) ∙ sym f ∙ z)))

  pub section_accepted : (x : Section) → section_of s ≡ Ok x → relabel_made s offset part k new ≡ loop_made s offset part k new
  unfolding relabel_made number_of
  section_accepted x e = rw e

-- what the frame and the command say
module _ (s : List ℕ) (offset part k : ℕ) (new : List ℕ) where
  pub frame_refused : (r : Refusal) (q : ℕ) → Err r ≡ frame_of s → q ≡ number_of (Err r) → relabel_made s offset part k new ≡ refused q
  frame_refused r q e f = let z = is_refused s r e in section_refused_lem s offset part k new r q (sym z) (f ∙ ap number_of z)

  module _ (v : Frame) (e : Ok v ≡ frame_of s) where
    headed : (x : SpliceInfoHeader) × (header_of (drop 3 s) ≡ Some x)
    headed = header_there (drop 3 s) (omega (arith, length-drop 3 s, (framed s v e).long))

    pub command_unknown : (q : ℕ) → q ≡ 10 → command_read s ≡ Err CommandRefusal.UnknownType → relabel_made s offset part k new ≡ refused q
    unfolding number_of
    command_unknown q g f =
        let z = is_accepted s v _ e (is_unknown _ headed.0 headed.1 (command_read s) v f) in
        section_refused_lem s offset part k new Refusal.UnknownCommand q (sym z) (g ∙ ap number_of z)

    pub command_malformed : (q : ℕ) → q ≡ 11 → command_read s ≡ Err CommandRefusal.Malformed → relabel_made s offset part k new ≡ refused q
    unfolding number_of
    command_malformed q g f =
        let z = is_accepted s v _ e (is_malformed _ headed.0 headed.1 (command_read s) v f) in
        section_refused_lem s offset part k new Refusal.MalformedCommand q (sym z) (g ∙ ap number_of z)

    pub command_is_lem : (c : SpliceCommand) → command_read s ≡ Ok c → relabel_made s offset part k new ≡ loop_made s offset part k new
    command_is_lem c f =
        let z = is_accepted s v _ e (is_section _ headed.0 headed.1 (command_read s) v c (moved 14 c) v f refl refl) in
        section_accepted s offset part k new _ (sym z)

pub frame_len : (s : List ℕ) (v : Frame) → Ok v ≡ frame_of s → v.descriptors.len ≡ loop_length s
unfolding frame_in loop_place
frame_len s v e = ap (λ (u : Frame). u.descriptors.len) (framed s v e).place

pub record Framing (s : List ℕ) (x : Section) : Type 0 where
  pub at : x.descriptors.at ≡ 16 + command_length s
  pub len : x.descriptors.len ≡ loop_length s
  pub fits : 20 + command_length s + loop_length s ≤ length s
  pub short : length s ≤ 4096

descriptors_of : (h : Option SpliceInfoHeader) (r : Result SpliceCommand CommandRefusal) (f : Frame) (x : Section) → accepted h r f ≡ Ok x → x.descriptors ≡ f.descriptors
unfolding accepted
descriptors_of (Some h) (Ok c) f x e =
    let z : ◌≡◌ {A = Section} (record { header = h; command = c; descriptors = f.descriptors; payload = f.command }) x = cc in
    sym (ap (λ (y : Section). y.descriptors) z)
descriptors_of (Some h) (Err CommandRefusal.UnknownType) f x e = zero_one cc
descriptors_of (Some h) (Err CommandRefusal.Malformed) f x e = zero_one cc
descriptors_of None r f x e = zero_one cc

pub framing : (s : List ℕ) (x : Section) → section_of s ≡ Ok x → Framing s x
unfolding section_of frame_in loop_place
framing s x e = go (frame_of s) refl e
  where
    go : (f : Result Frame Refusal) → frame_of s ≡ f → through f (header_of (drop 3 s)) (moved_read (command_of (command_type s) (command_bytes s))) ≡ Ok x → Framing s x
    go (Ok f) ef h =
        let d = descriptors_of _ _ f x h in
        let w = framed s f (sym ef) in
        let g : x.descriptors ≡ (frame_in s).descriptors = d ∙ ap (λ (u : Frame). u.descriptors) w.place in
        record { at = ap (λ (v : _). v.at) g; len = ap (λ (v : _). v.len) g; fits = w.fits; short = w.short }
    go (Err r) ef h = zero_one cc
