-- The identifiers of an accepted section are whole.
--     whole_at         of the item that is read at any offset of its loop
--     whole_items      of each item of the loop
--     whole_command    of its command
use Prim.Native.Nat.{ℕ, ◌+◌, ◌*◌, ◌-◌, ◌/◌, ◌%◌, ◌≤◌, ◌<◌}
use mathlib.Core.Bool.{Bool, true, false}
use mathlib.Core.List.{List, [], ◌∷◌}
use mathlib.Core.Path.{◌≡◌, refl, ap, ap₂, sym, ◌∙◌}
use native.Mathlib.Omega.{arith}
use lib.Dec.{eqb}
use lib.ListN.{length, take, drop, get_or, length-take, length-drop}
use borrow.Author.Tests.{eqb-true, eqb-false, ne_eqb}
use Rattle.command.specs.Command.{private, read, command_of}
use Rattle.command.specs.Insert.{insert}
use Rattle.command.specs.declared.Private.{Private}
use Rattle.command.specs.declared.SpliceCommand.{SpliceCommand}
use Rattle.splice_time.specs.Time.{splice_time}
use Rattle.table.proofs.Steps.{reads_number, reads_part, takes_remaining}
use Rattle.table.proofs.Lists.{zero_one}
use Rattle.table.specs.Bits.{pick, bits_of, AllBytes}
use Rattle.table.specs.Lent.{viewed, shifted, no_view}
use Rattle.table.specs.Table.{Answer, got, short, parse}
use Rattle.table.specs.declared.View.{View}
use Rattle.table.proofs.Structure.{bytes_take, bytes_drop}
use Rattle.upid.proofs.Theorems.{every_byte_lies_in_one_part}
use Rattle.upid.specs.Cover.{All, top_part, Once}
use Rattle.upid.specs.Upid as upid
use Rattle.upid.specs.Upid.{upid_of, check_of, reported_of}
use Rattle.upid.specs.declared.Refusal.{Refusal}
use Rattle.descriptor.proofs.Heads.{upid_in}
use Rattle.descriptor.specs.Segmentation.{fields_before}
use Rattle.descriptor.specs.Descriptor.{moved_refusal}
use Rattle.descriptor.specs.Views.{without_view}
use Rattle.descriptor.specs.Full.{beside_of, identifier_read}
use Rattle.descriptor.specs.declared.Descriptor.{Descriptor}
use Rattle.descriptor.specs.declared.segmentation.SegmentationDescriptor.{SegmentationDescriptor}
use Rattle.descriptor.specs.declared.segmentation.DescriptorDetail.{DescriptorDetail}
use Rattle.descriptor.specs.declared.segmentation.SegmentationDetail.{SegmentationDetail}
use Rattle.descriptor.specs.declared.segmentation.SegmentationUpid.{SegmentationUpid}
use Rattle.upid.proofs.Reported.{check_none, reports, mid_is_written, eidr_is_written}
use Rattle.descriptor_loop.proofs.Lists.{walked}
use Rattle.descriptor_loop.proofs.Places.{all_first, type_stays}
use Rattle.descriptor_loop.proofs.Steps.{Stands, Clause, long, ended, last, small, entire, clause}
use Rattle.descriptor_loop.specs.Items.{item_at, read_at, complete_at, step_of, beside_item, reading_of, Listed, items_of}
use Rattle.descriptor_loop.specs.Place.{views_of, moved_upid}
use Rattle.descriptor_loop.specs.Private.{moved_detail}
use Rattle.descriptor_loop.specs.declared.ItemRefusal.{ItemRefusal}
use Rattle.descriptor_loop.specs.declared.Step.{Step}
use Rattle.descriptor_loop.specs.declared.reading.Reading.{Reading}
use Rattle.section.specs.Section.{command_length, command_bytes, moved, section_of, loop_in}
use Rattle.section.specs.declared.Section.{Section}
use Rattle.table.proofs.Bits.{byte_in}
use Rattle.theorems_reader.specs.Identifiers.{Identifier, OneRun, in_section, in_lent, parts_read, upids_of, Unsplit}
use Rattle.theorems_reader.specs.Whole.{Exactly, WholeUpid, upid_at, WholeText, WholeAt}
use Rattle.theorems_reader.proofs.WholeCases.{DetailCase, RefusalCase, ItemCase, CommandCase}
use Rattle.theorems_reader.proofs.WholeCases as cases
use Rattle.theorems_reader.proofs.Framed.{laid}
use Rattle.theorems_reader.proofs.Items.{Found, found, unsplit, mid_of}
use Rattle.theorems_reader.proofs.Runs.{viewed_is, length_viewed, length_run, section_run, lent_run, get_d_run}
use Rattle.theorems_reader.proofs.Sections.{each_item, loop_run, loop_short}
use Rattle.theorems_reader.proofs.WholeTexts.{Headed}
use Rattle.theorems_reader.proofs.WholePayloads.{upid_place, Told, SaysDetail, SaysRefusal, Says, payload_says_lem}
use Rattle.std.proofs.Common.{Ok, Err, Some, Option, Result}
use Rattle.command.specs.declared.CommandRefusal.{CommandRefusal}

-- ---- a run of the section is exactly the bytes at its start

exactly : (s : List ℕ) (i : Identifier) → OneRun s i → (at n : ℕ) → i.start ≡ at → i.len ≡ n → Exactly s at n i
exactly s i r at n ea en =
    record {
      there = omega (arith, r.inside);
      is =
          ap (λ (b : List ℕ). record { start = i.start; len = i.len; bytes = b }) r.run
          ∙ ap₂ (λ (a l : ℕ). record { start = a; len = l; bytes = take l (drop a s) }) ea en;
    }

-- ---- an item that stands in a loop which is one run of the section

module _ (s : List ℕ) (i : Identifier) (r : OneRun s i) (offset L : ℕ) (st : Stands i.bytes offset L) (four : 4 ≤ L) where
  abbrev payload : List ℕ
  payload = take (L - 4) (drop (offset + 6) i.bytes)

  abbrev held : Identifier
  held = record { start = i.start + (offset + 6); len = L - 4; bytes = payload }

  size : length payload ≡ L - 4
  size = omega (arith, length-take (L - 4) (drop (offset + 6) i.bytes), length-drop (offset + 6) i.bytes, st.there)

  payload_run : OneRun s held
  payload_run =
      let v : View = record { at = offset + 6; len = L - 4 } in
      let h : offset + 6 + (L - 4) ≤ length i.bytes = omega (arith, st.there) in
      let run : OneRun s (in_lent i.start i.bytes v) = lent_run s i r v (omega (arith, h, length_run s i r)) in
      record { inside = run.inside; run = sym (viewed_is i.bytes v h) ∙ run.run }

  -- a byte of the payload
  byte : (j : ℕ) → j < L - 4 → (k : ℕ) → k ≡ i.start + offset + 6 + j → get_or payload j 0 ≡ get_or s k 0
  byte j h k e = get_d_run s held payload_run j h ∙ ap (λ (n : ℕ). get_or s n 0) (let z : i.start + (offset + 6) + j ≡ k = omega arith in z)

  module _ (v : View) (inside : v.at + v.len ≤ length payload) where
    moved_run : OneRun s (in_lent i.start i.bytes (shifted (offset + 6) v))
    moved_run = lent_run s i r (shifted (offset + 6) v) (omega (arith, inside, size, st.there, length_run s i r))

    -- what the loop hands back for it is what the payload has
    same_bytes : viewed i.bytes (shifted (offset + 6) v) ≡ viewed payload v
    same_bytes =
        let own : OneRun s (in_lent (i.start + (offset + 6)) payload v) = lent_run s held payload_run v (omega (arith, inside, size)) in
        moved_run.run
        ∙ ap (λ (n : ℕ). take v.len (drop n s)) (let z : i.start + (offset + 6 + v.at) ≡ i.start + (offset + 6) + v.at = omega arith in z)
        ∙ sym own.run

  -- ---- its UPID

  module _ (d : SegmentationDetail) (t : Told payload d) where
    abbrev u : SegmentationUpid
    u = d.segmentation_upid

    abbrev q : ℕ
    q = upid_place d

    abbrev h : ℕ
    h = i.start + offset + 6 + q

    abbrev written : View
    written = (upid_in payload q).bytes

    abbrev its : List ℕ
    its = viewed payload written

    its_length : length its ≡ get_or payload (q + 1) 0
    its_length = length_viewed payload written t.there

    type_byte : get_or payload q 0 ≡ get_or s h 0
    type_byte = byte q (omega (arith, t.there, size)) h refl

    length_byte : get_or payload (q + 1) 0 ≡ get_or s (h + 1) 0
    length_byte = byte (q + 1) (omega (arith, t.there, size)) (h + 1) (omega arith)

    -- its place, by the section's bytes
    by_bytes : h ≡ upid_at s (i.start + offset + 6)
    by_bytes =
        let n : length payload ≡ L - 4 = size in
        let five : get_or payload 5 0 ≡ get_or s (i.start + offset + 6 + 5) 0 = byte 5 (omega (arith, t.there)) _ refl in
        let six : get_or payload 6 0 ≡ get_or s (i.start + offset + 6 + 6) 0 = byte 6 (omega (arith, t.there)) _ refl in
        ap (λ (k : ℕ). i.start + offset + 6 + k) (t.before ∙ ap₂ (λ (a b : ℕ). 6 + fields_before a b) five six)

    stays : (moved_upid (offset + 6) u).upid_type ≡ u.upid_type
    stays = type_stays (offset + 6) u

    -- the type that is reported
    upid_type_is : u.upid_type ≡ pick (eqb (get_or payload (q + 1) 0) 0) 0 (reported_of (get_or payload q 0))
    upid_type_is = go (eqb (get_or payload (q + 1) 0) 0) refl
      where
        go : (b : Bool) → eqb (get_or payload (q + 1) 0) 0 ≡ b → u.upid_type ≡ pick b 0 (reported_of (get_or payload q 0))
        go true e =
            let z : get_or payload (q + 1) 0 ≡ 0 = eqb-true _ _ e in
            let c : check_of (get_or payload q 0) its ≡ Ok 0 = check_none (get_or payload q 0) its (its_length ∙ z) in
            cc (t.checked, c)
        go false e =
            let z : get_or payload (q + 1) 0 ≡ 0 → ⊥ = eqb-false _ _ e in
            sym (reports (get_or payload q 0) its u.upid_type t.checked (go_some z)).0
          where
            go_some : (get_or payload (q + 1) 0 ≡ 0 → ⊥) → 1 ≤ length its
            go_some z = omega (arith, its_length)

    -- the view of a UPID that has one
    view_is : without_view u.upid_type ≡ false → (moved_upid (offset + 6) u).bytes ≡ shifted (offset + 6) written
    view_is w =
        let z : u.bytes ≡ written = ap (λ (x : SegmentationUpid). x.bytes) t.is ∙ ap (λ (b : Bool). pick b no_view written) w in
        ap (λ (b : Bool). (let there : SegmentationUpid = pick b u (record { upid_type = u.upid_type; bytes = shifted (offset + 6) u.bytes }) in there.bytes)) w
        ∙ ap (shifted (offset + 6)) z

    view_run : without_view u.upid_type ≡ false → OneRun s (in_lent i.start i.bytes (moved_upid (offset + 6) u).bytes)
    view_run w = rw (view_is w) (moved_run written t.there)

    module _ (eidr : List ℕ) (beside : eidr ≡ (beside_of payload).eidr) where
      in_eidr : u.upid_type ≡ 10 → (get_or s h 0 ≡ 10) × (get_or s (h + 1) 0 ≡ 12) × Exactly s (h + 2) 12 (record { start = h + 2; len = 12; bytes = eidr })
      unfolding upid.eidr_of
      in_eidr k =
          let e = eidr_is_written (get_or payload q 0) its (t.checked ∙ ap Ok k) in
          let n : get_or payload (q + 1) 0 ≡ 12 = sym its_length ∙ e.1 in
          let run : OneRun s (in_lent i.start i.bytes (shifted (offset + 6) written)) = moved_run written t.there in
          let own : upid.eidr_of (get_or payload q 0) its ≡ its = rw (e.0, e.1) in
          let start : i.start + (offset + 6 + (q + 2)) ≡ h + 2 = omega arith in
          let b : eidr ≡ take 12 (drop (h + 2) s) =
          beside ∙ t.beside ∙ own ∙ sym (same_bytes written t.there) ∙ run.run ∙ ap₂ (λ (l a : ℕ). take l (drop a s)) n start in (
            sym type_byte ∙ e.0,
            sym length_byte ∙ n,
            record { there = omega (arith, run.inside, n); is = ap (λ (l : List ℕ). record { start = h + 2; len = 12; bytes = l }) b },
          )

      mid_whole : u.upid_type ≡ 13 → Unsplit s (in_lent i.start i.bytes (moved_upid (offset + 6) u).bytes)
      mid_whole k =
          let w : without_view u.upid_type ≡ false = rw k in
          let c : check_of (get_or payload q 0) its ≡ Ok 13 = t.checked ∙ ap Ok k in
          let z : get_or payload q 0 ≡ 13 = mid_is_written (get_or payload q 0) its c in
          let b : viewed i.bytes (moved_upid (offset + 6) u).bytes ≡ its = ap (viewed i.bytes) (view_is w) ∙ same_bytes written t.there in
          unsplit s (in_lent i.start i.bytes (moved_upid (offset + 6) u).bytes) (view_run w)
          (ap₂ check_of (sym z) b ∙ c)

      upid_whole : WholeUpid s h i.start i.bytes eidr (moved_upid (offset + 6) u)
      unfolding reported_of
      upid_whole =
          record {
            upid_type = stays ∙ upid_type_is ∙ ap₂ (λ (l k : ℕ). pick (eqb l 0) 0 (reported_of k)) length_byte type_byte;
            bytes = λ none ten.
                let v : without_view u.upid_type ≡ false = rw (ne_eqb u.upid_type 0 (λ z. none (stays ∙ z)), ne_eqb u.upid_type 10 (λ z. ten (stays ∙ z))) in
                exactly s (in_lent i.start i.bytes (moved_upid (offset + 6) u).bytes) (view_run v) (h + 2) (get_or s (h + 1) 0)
                (ap (λ (x : View). i.start + x.at) (view_is v) ∙ (let z : i.start + (offset + 6 + (q + 2)) ≡ h + 2 = omega arith in z))
                (ap (λ (x : View). x.len) (view_is v) ∙ length_byte);
            eidr = λ k. in_eidr (sym stays ∙ k);
            mid = λ k. mid_whole (sym stays ∙ k);
          }

  -- ---- the text of refusal 24

  text_whole : (k : ℕ) (v : View) → Headed payload 0 k v → WholeText s (i.start + offset + 6) k (in_lent i.start i.bytes (shifted (offset + 6) v))
  text_whole k v g =
      let n : length payload ≡ L - 4 = size in
      record {
        behind = omega (arith, g.behind);
        upid_type = g.upid_type ∙ byte (v.at - 0 - 2) (omega (arith, g.behind, g.inside)) (i.start + (offset + 6 + v.at) - 2) (omega (arith, g.behind));
        whole =
            exactly s (in_lent i.start i.bytes (shifted (offset + 6) v)) (moved_run v (omega (arith, g.inside))) _ _ refl
            (g.len ∙ byte (v.at - 0 - 1) (omega (arith, g.behind, g.inside)) (i.start + (offset + 6 + v.at) - 1) (omega (arith, g.behind)));
      }

  refusal_whole : (q : Refusal) → SaysRefusal payload q → RefusalCase s (i.start + offset + 6) i.start i.bytes (ItemRefusal.Other (moved_refusal (offset + 6) q))
  refusal_whole Refusal.InputTooLong t = tt
  refusal_whole (Refusal.NotEnoughData expected actual) t = tt
  refusal_whole Refusal.UpidLengthTypeMismatch t = tt
  refusal_whole (Refusal.InvalidUpidContent k v) t = text_whole k v t
  refusal_whole (Refusal.InvalidUpidLength k expected actual) t = tt

  -- ---- whatever is read of it

  -- the payload, as the reading of what stands beside an item has it
  abbrev payload_again : List ℕ
  payload_again = take (offset + (L + 2) - (offset + 6)) (drop (offset + 6) i.bytes)

  abbrev reading_is : Result Descriptor Refusal → Reading
  reading_is d = record {
    step = record { item = item_at (offset + 6) d; identifier = identifier_read d (take 4 (drop (offset + 2) i.bytes)); next = offset + (L + 2) };
    beside = beside_item (item_at (offset + 6) d) payload_again;
  }

  again : payload_again ≡ payload
  again = ap (λ (n : ℕ). take n (drop (offset + 6) i.bytes)) (let z : offset + (L + 2) - (offset + 6) ≡ L - 4 = omega arith in z)

  detail_whole : (d : DescriptorDetail) → SaysDetail payload d
      → DetailCase s (i.start + offset + 6) i.start i.bytes (beside_of payload_again).eidr (moved_detail (offset + 6) d)
  detail_whole DescriptorDetail.Cancel t = ap (λ (n : ℕ). n / 128 % 2) (sym (byte 4 (omega (arith, t.0, size)) (i.start + offset + 6 + 4) refl)) ∙ t.1
  detail_whole (DescriptorDetail.Active d) t = rw (← by_bytes d t) (upid_whole d t (beside_of payload_again).eidr (ap (λ (l : List ℕ). (beside_of l).eidr) again))

  -- the item's own length
  length_written : L ≡ get_or s (i.start + offset + 1) 0
  length_written =
      st.is ∙ get_d_run s i r (offset + 1) (omega (arith, st.six, length_run s i r))
      ∙ ap (λ (n : ℕ). get_or s n 0) (let z : i.start + (offset + 1) ≡ i.start + offset + 1 = omega arith in z)

  identifier_run : Exactly s (i.start + offset + 2) 4 (record { start = i.start + offset + 2; len = 4; bytes = take 4 (drop (offset + 2) i.bytes) })
  identifier_run =
      let v : View = record { at = offset + 2; len = 4 } in
      let g : offset + 2 + 4 ≤ length i.bytes = omega (arith, st.six) in
      let run : OneRun s (in_lent i.start i.bytes v) = lent_run s i r v (omega (arith, g, length_run s i r)) in
      let b : take 4 (drop (offset + 2) i.bytes) ≡ take 4 (drop (i.start + offset + 2) s) =
      sym (viewed_is i.bytes v g) ∙ run.run ∙ ap (λ (n : ℕ). take 4 (drop n s)) (let z : i.start + (offset + 2) ≡ i.start + offset + 2 = omega arith in z) in
      record { there = omega (arith, run.inside); is = ap (λ (l : List ℕ). record { start = i.start + offset + 2; len = 4; bytes = l }) b }

  view_exactly : (v w : View) → v ≡ w → w.at + w.len ≤ length payload → (at n : ℕ) → i.start + (offset + 6 + w.at) ≡ at → w.len ≡ n
      → Exactly s at n (in_lent i.start i.bytes (shifted (offset + 6) v))
  view_exactly v w e g at n ea en = rw e (exactly s (in_lent i.start i.bytes (shifted (offset + 6) w)) (moved_run w g) at n ea en)

  item_whole : (d : Result Descriptor Refusal) → Says payload d → ItemCase s i.start i.bytes offset (reading_is d) (item_at (offset + 6) d)
  item_whole (Ok (Descriptor.Avail x)) t = tt
  item_whole (Ok (Descriptor.Dtmf x)) t =
      let n : get_or payload 1 0 ≡ get_or s (i.start + offset + 6 + 1) 0 = byte 1 (omega (arith, t.1, size)) (i.start + offset + 6 + 1) refl in
      view_exactly x.dtmf_chars _ t.0 t.1 _ _ (omega arith) (ap (λ (l : ℕ). l / 32) n)
  item_whole (Ok (Descriptor.Segmentation x)) t = detail_whole x.descriptor_detail t
  item_whole (Ok (Descriptor.Time x)) t = tt
  item_whole (Ok (Descriptor.Reserved tag v)) t = (
    view_exactly v (record { at = 0; len = length payload }) t (omega arith) _ _ (omega arith) (omega (arith, size, length_written)),
    identifier_run,
  )
  item_whole (Err q) t = refusal_whole q t

-- ---- at any offset

-- a refusal without a view
no_text : (s : List ℕ) (p base : ℕ) (loop : List ℕ) (q : ItemRefusal) → views_of (Some (Err q)) ≡ [] → RefusalCase s p base loop q
no_text s p base loop ItemRefusal.InvalidDescriptorLength e = tt
no_text s p base loop (ItemRefusal.Other Refusal.InputTooLong) e = tt
no_text s p base loop (ItemRefusal.Other (Refusal.NotEnoughData expected actual)) e = tt
no_text s p base loop (ItemRefusal.Other Refusal.UpidLengthTypeMismatch) e = tt
no_text s p base loop (ItemRefusal.Other (Refusal.InvalidUpidContent upid_type_number v)) e = zero_one cc
no_text s p base loop (ItemRefusal.Other (Refusal.InvalidUpidLength upid_type_number expected actual)) e = tt

module _ (s : List ℕ) (a : AllBytes s) (i : Identifier) (r : OneRun s i) where
  loop_bytes_lem : AllBytes i.bytes
  loop_bytes_lem = rw r.run (bytes_take i.len (drop i.start s) (bytes_drop i.start s a))

  abbrev reading_by : ℕ → Step → Reading
  reading_by offset st = record { step = st; beside = beside_item st.item (take (st.next - (offset + 6)) (drop (offset + 6) i.bytes)) }

  says : (offset L : ℕ) → Says (take (L - 4) (drop (offset + 6) i.bytes)) (read_at i.bytes offset L)
  unfolding read_at
  says offset L =
      let l : List ℕ = take (L - 4) (drop (offset + 6) i.bytes) in
      payload_says_lem l (byte_in l (bytes_take (L - 4) (drop (offset + 6) i.bytes) (bytes_drop (offset + 6) i.bytes loop_bytes_lem))) _ _

  whole_by : (offset : ℕ) {st : Step} → Clause i.bytes offset st → ItemCase s i.start i.bytes offset (reading_by offset st) st.item
  unfolding complete_at
  whole_by offset (long h) = tt
  whole_by offset (ended h) = tt
  whole_by offset (last q v e) = no_text s _ _ _ q v
  whole_by offset (small L t) = tt
  whole_by offset (entire L t h) = item_whole s i r offset L t h (read_at i.bytes offset L) (says offset L)

  whole_reading : (offset : ℕ) → ItemCase s i.start i.bytes offset (reading_of i.bytes offset) (step_of i.bytes offset).item
  unfolding reading_of
  whole_reading offset = whole_by offset (clause i.bytes offset)

-- ---- the private bytes of a command

abbrev Ends : List ℕ → Result SpliceCommand CommandRefusal → Type 0
Ends s (Ok (SpliceCommand.PrivateCommand p)) = (p.private_bytes ≡ record { at = 4; len = length s - 4 }) × (4 ≤ length s)
Ends s (Ok SpliceCommand.SpliceNull) = Unit {0}
Ends s (Ok (SpliceCommand.SpliceInsert i)) = Unit {0}
Ends s (Ok (SpliceCommand.TimeSignal t)) = Unit {0}
Ends s (Ok SpliceCommand.BandwidthReservation) = Unit {0}
Ends s (Err CommandRefusal.UnknownType) = Unit {0}
Ends s (Err CommandRefusal.Malformed) = Unit {0}

module _ (s : List ℕ) where
  picked : (b : Bool) (x y : Result SpliceCommand CommandRefusal) → Ends s x → Ends s y → Ends s (pick b x y)
  picked true x y h k = h
  picked false x y h k = k

  reading : {X : Type 0} (f : X → SpliceCommand) (r : Answer X) → ((x : X) (m : ℕ) → r ≡ got x m → Ends s (Ok (f x))) → Ends s (read f r)
  reading f (got x m) h = h x m refl
  reading f (short e a) h = tt

  private_ends : (p : Private) (m : ℕ) → parse private (bits_of s) 0 ≡ got p m → (p.private_bytes ≡ record { at = 4; len = length s - 4 }) × (4 ≤ length s)
  unfolding private
  private_ends p m e =
      let e₁ = reads_number s 0 32 _ _ p m e in
      let e₂ = sym (takes_remaining s 32 _ _) ∙ e₁.1 in
      let i = reads_part s 32 _ _ _ p m e₂ in
      let z : p.private_bytes ≡ record { at = 4; len = (length s * 8 - 32) / 8 } = cc i.1 in
      let n : (length s * 8 - 32) / 8 ≡ length s - 4 = omega arith in
      (z ∙ ap (λ (l : ℕ). record { at = 4; len = l }) n, omega (arith, e₁.0))

  all_end : (k : ℕ) → Ends s (command_of k s)
  unfolding command_of
  all_end k =
      picked (eqb k 0x00) _ _ (picked (eqb (length s) 0) _ _ tt tt)
      (picked (eqb k 0x05) _ _ (reading (λ x. SpliceCommand.SpliceInsert x.value) (parse insert (bits_of s) 0) (λ x m e. tt))
      (picked (eqb k 0x06) _ _ (reading SpliceCommand.TimeSignal (parse splice_time (bits_of s) 0) (λ x m e. tt))
      (picked (eqb k 0x07) _ _ (picked (eqb (length s) 0) _ _ tt tt)
      (picked (eqb k 0xff) _ _ (reading SpliceCommand.PrivateCommand (parse private (bits_of s) 0) private_ends) tt))))

-- ---- of a section

-- what is said of an item says it of its UPID
upid_from : (s : List ℕ) (base : ℕ) (loop : List ℕ) (offset : ℕ) (r : Reading) (it : Option (Result Descriptor ItemRefusal)) (d : SegmentationDescriptor) (i : SegmentationDetail) → it ≡ Some (Ok (Descriptor.Segmentation d))
    → d.descriptor_detail ≡ DescriptorDetail.Active i → ItemCase s base loop offset r it → WholeUpid s (upid_at s (base + offset + 6)) base loop r.beside.eidr i.segmentation_upid
upid_from s base loop offset r it d i e f w =
    let g : DetailCase s (base + offset + 6) base loop r.beside.eidr d.descriptor_detail = rw e at w in
    rw f at g

module _ (s : List ℕ) (x : Section) (e : section_of s ≡ Ok x) where
  pub whole_case : AllBytes s → (offset : ℕ) → ItemCase s x.descriptors.at (loop_in s x) offset (reading_of (loop_in s x) offset) (reading_of (loop_in s x) offset).step.item
  unfolding reading_of
  whole_case a offset = whole_reading s a (in_section s x.descriptors) (loop_run s x e) offset

  pub whole_at : AllBytes s → (offset : ℕ) → WholeAt s x offset (reading_of (loop_in s x) offset)
  whole_at a offset = cases.item_whole s x.descriptors.at (loop_in s x) offset (reading_of (loop_in s x) offset) (whole_case a offset)

  -- of the items of the loop, which are what is read at their offsets
  pub whole_items : AllBytes s → All (λ (y : Listed). (y.step ≡ (reading_of (loop_in s x) y.offset).step) × WholeAt s x y.offset (reading_of (loop_in s x) y.offset)) (items_of (loop_in s x))
  unfolding reading_of
  whole_items a = each_item (λ o inside. (refl, whole_at a o)) (walked (loop_in s x) (loop_short s x e))

  command_whole : (k : ℕ) (c : SpliceCommand) → 14 + command_length s ≤ length s → command_of k (command_bytes s) ≡ Ok c → CommandCase s (moved 14 c)
  unfolding moved command_bytes
  command_whole k (SpliceCommand.PrivateCommand p) h f =
      let g : Ends (command_bytes s) (Ok (SpliceCommand.PrivateCommand p)) = rw f at (all_end (command_bytes s) k) in
      let n : length (take (command_length s) (drop 14 s)) ≡ command_length s = omega (arith, length-take (command_length s) (drop 14 s), length-drop 14 s) in
      let at : 14 + p.private_bytes.at ≡ 18 = ap (λ (v : View). 14 + v.at) g.0 in
      let l : p.private_bytes.len ≡ command_length s - 4 = ap (λ (v : View). v.len) g.0 ∙ ap (λ (m : ℕ). m - 4) n in
      let v : View = record { at = 14 + p.private_bytes.at; len = p.private_bytes.len } in
      record {
        end = omega (arith, l, g.1, n);
        whole = exactly s (in_section s v) (section_run s v (omega (arith, at, l, g.1, n))) 18 (command_length s - 4) at l;
      }
  command_whole k SpliceCommand.SpliceNull h f = tt
  command_whole k (SpliceCommand.SpliceInsert i) h f = tt
  command_whole k (SpliceCommand.TimeSignal t) h f = tt
  command_whole k SpliceCommand.BandwidthReservation h f = tt

  pub whole_command : CommandCase s x.command
  whole_command =
      let l = laid s x e in
      rw l.command (command_whole _ l.read (omega (arith, l.fits)) l.from)

  -- ---- the UPID of a segmentation descriptor that is read at any offset

  module _ (offset : ℕ) (d : SegmentationDescriptor) (i : SegmentationDetail) (is : (step_of (loop_in s x) offset).item ≡ Some (Ok (Descriptor.Segmentation d)))
      (detail : d.descriptor_detail ≡ DescriptorDetail.Active i) where
    pub whole_upid : AllBytes s
        → WholeUpid s (upid_at s (x.descriptors.at + offset + 6)) x.descriptors.at (loop_in s x) (reading_of (loop_in s x) offset).beside.eidr i.segmentation_upid
    unfolding reading_of
    whole_upid a = upid_from s x.descriptors.at (loop_in s x) offset (reading_of (loop_in s x) offset) (step_of (loop_in s x) offset).item d i is detail (whole_case a offset)

    pub whole_mid : i.segmentation_upid.upid_type ≡ 13 → Unsplit s (in_lent x.descriptors.at (loop_in s x) i.segmentation_upid.bytes)
    whole_mid k =
        let f : All (Found (loop_in s x) offset (step_of (loop_in s x) offset).next) (upids_of (Some (Ok (Descriptor.Segmentation d)))) = rw is at (found (clause (loop_in s x) offset)) in
        let g : All (Found (loop_in s x) offset (step_of (loop_in s x) offset).next) (i.segmentation_upid ∷ []) = rw detail at f in
        mid_of s (in_section s x.descriptors) (loop_run s x e) offset (step_of (loop_in s x) offset).next i.segmentation_upid (all_first g) k

    -- byte by byte
    pub whole_mid_bytes : i.segmentation_upid.upid_type ≡ 13 → let b : List ℕ = viewed (loop_in s x) i.segmentation_upid.bytes in
        All (λ m. m.upid_type ≡ 13 → Once (parts_read 13 b) m) (top_part b ∷ parts_read 13 b)
    unfolding upid_of
    whole_mid_bytes k = every_byte_lies_in_one_part (viewed (loop_in s x) i.segmentation_upid.bytes) (rw (whole_mid k).accepted tt)

-- ---- what this rules out: a UPID that is cut. One that has a view and is whole has as many bytes as the section announces.

pub as_long_as_announced : (s : List ℕ) (h base : ℕ) (loop beside : List ℕ) (u : SegmentationUpid) → WholeUpid s h base loop beside u → (u.upid_type ≡ 0 → ⊥) → (u.upid_type ≡ 10 → ⊥)
    → u.bytes.len ≡ get_or s (h + 1) 0
as_long_as_announced s h base loop beside u w none ten = ap (λ (i : Identifier). i.len) (w.bytes none ten).is

pub a_cut_upid_is_not_whole : (s : List ℕ) (h base : ℕ) (loop beside : List ℕ) (u : SegmentationUpid) → u.upid_type ≡ 15 → u.bytes.len ≡ 12 → get_or s (h + 1) 0 ≡ 20
    → WholeUpid s h base loop beside u → ⊥
a_cut_upid_is_not_whole s h base loop beside u k l n w =
    let z : u.bytes.len ≡ get_or s (h + 1) 0 = as_long_as_announced s h base loop beside u w (λ z. omega arith) (λ z. omega arith) in
    omega arith
