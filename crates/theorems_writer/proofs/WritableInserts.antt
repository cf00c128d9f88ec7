-- What is read of an insert can be written, if its reserved bits are 127.
--     insert_kept       what was read of an insert: its numbers are within their fields, its components are all immediate or all timed
--     insert-written    so it is written
use Prim.Native.Nat.{ℕ, zero, suc, ◌+◌, ◌-◌, ◌^◌, ◌≤◌, ◌<◌}
use mathlib.Core.Bool.{Bool, true, false, not, ◌&&◌}
use mathlib.Core.List.{List, [], ◌∷◌}
use mathlib.Core.Path.{◌≡◌, refl, ap, sym, subst, ◌∙◌}
use native.Mathlib.Omega.{arith}
use lib.Dec.{eqb}
use lib.ListN.{length, take, replicate, length-append, length-replicate}
use borrow.Author.Tests.{lt-ltb, le-leb, eq-eqb, eqb-false, not-true}
use Rattle.command.proofs.Filling.{blank_length}
use Rattle.command.proofs.InsertLeads.{Counted}
use Rattle.command.specs.Command.{type_of, command_of, array, components_of, components_in, count_in, private, read}
use Rattle.command.specs.Writable.{alike, unmixed, writable_insert}
use Rattle.command.specs.Insert.{WithComponents, time_unless, component, blank, moded, program_time, count, ending, active, active_of, insert}
use Rattle.splice_time.specs.Break.{break_ticks, break_duration}
use Rattle.command.specs.declared.SpliceCommand.{SpliceCommand}
use Rattle.command.specs.declared.components.InsertComponent.{InsertComponent}
use Rattle.command.specs.declared.insert.InsertDetail.{InsertDetail}
use Rattle.command.specs.declared.insert.SpliceInsert.{SpliceInsert}
use Rattle.command.specs.declared.insert.SpliceDetail.{SpliceDetail}
use Rattle.command.specs.declared.insert.SpliceMode.{SpliceMode}
use Rattle.command_measure.specs.Made.{counted, command_made}
use Rattle.descriptor_round_trips.specs.Making.{fit}
use Rattle.splice_time.specs.Time.{splice_time, ticks, immediate}
use Rattle.splice_time.specs.declared.SpliceTime.{SpliceTime}
use Rattle.splice_time.specs.declared.SpliceTime.TheVariants.{Immediate}
use Rattle.section.specs.Section.{command_type, command_bytes, moved, section_of}
use Rattle.section.specs.declared.Section.{Section}
use Rattle.table.proofs.Lists.{and_true}
use Rattle.table.proofs.Reading.{field_lt}
use Rattle.table.proofs.Steps.{reads_in, reads_number, reads_flag, reads_ones}
use Rattle.table.specs.Bits.{pick, bits_of, field, AllBytes}
use Rattle.table.specs.Table.{done, inside, list, Answer, got, short, parse}
use Rattle.table.specs.Writing.{made}
use Rattle.theorems_writer.specs.Making.{component_numbers, command_numbers, CommandPayload}
use Rattle.theorems_writer.proofs.CommandsMade.{writable_made, payload_made_lem}
use Rattle.theorems_reader.proofs.Framed.{laid}
use Rattle.theorems_writer.proofs.InsertsRead.{unless_fits, insert_has, got_same}
use Rattle.theorems_writer.proofs.WritableCommands.{not_immediate_lem, command_written}
use Rattle.theorems_writer.proofs.WrittenBack.{components_are, counted_is}
use Rattle.std.proofs.Common.{Ok, Err, None, Option, Result}
use Rattle.command.specs.declared.CommandRefusal.{CommandRefusal}
use Rattle.splice_time.specs.declared.break_duration.SpliceDuration.{SpliceDuration}

-- ---- booleans

and_both : (a b : Bool) → a ≡ true → b ≡ true → (a && b) ≡ true
and_both a b e f = rw (e, f)

agrees : (b i : Bool) → i ≡ b → pick b i (not i) ≡ true
agrees true i e = e
agrees false i e = rw e

agreed : (b i : Bool) → pick b i (not i) ≡ true → i ≡ b
agreed true i e = e
agreed false i e = not-true i e

-- those that are alike one bit are alike the first
unmixed_of : (b : Bool) (cs : List InsertComponent) → alike b cs ≡ true → unmixed cs ≡ true
unmixed_of b [] e = refl
unmixed_of b (c ∷ cs) e =
    let i = and_true (pick b (immediate c.splice_time) (not (immediate c.splice_time))) (alike b cs) e in
    subst (λ (x : Bool). alike x (c ∷ cs) ≡ true) (sym (agreed b (immediate c.splice_time) i.0)) e

-- ---- what was read

record ModeKept (x : WithComponents SpliceMode) : Type 0 where
  time : ticks (program_time x.value) < 2 ^ 33
  counts : count x.value < 2 ^ 8
  numbers : fit (component_numbers x.components) ≡ true
  like : unmixed x.components ≡ true

record ActiveKept (y : WithComponents InsertDetail) : Type 0 where
  time : ticks (program_time y.value.splice_mode) < 2 ^ 33
  counts : count y.value.splice_mode < 2 ^ 8
  lasts : break_ticks y.value.duration < 2 ^ 33
  id : y.value.unique_program_id < 2 ^ 16
  num : y.value.avail_num < 2 ^ 8
  expected : y.value.avails_expected < 2 ^ 8
  numbers : fit (component_numbers y.components) ≡ true
  like : unmixed y.components ≡ true

module _ (s : List ℕ) where
  unless_immediate : (b : Bool) (at : ℕ) (t : SpliceTime) (m : ℕ) → parse (time_unless b) (bits_of s) at ≡ got t m → immediate t ≡ b
  unfolding time_unless
  unless_immediate true at t m e = let z : t ≡ Immediate = cc in rw z refl
  unless_immediate false at t m e = not-true (immediate t) (not_immediate_lem s at t m e)

  component_kept : (b : Bool) (at : ℕ) (c : InsertComponent) (m : ℕ) → parse (component b) (bits_of s) at ≡ got c m
      → (c.component_tag < 2 ^ 8) × (ticks c.splice_time < 2 ^ 33) × (immediate c.splice_time ≡ b)
  unfolding component
  component_kept b at c m e =
      let n = reads_number s at 8 _ _ c m e in
      let r = reads_in (time_unless b) _ _ (bits_of s) (at + 8) c m n.1 in
      let back = r.back in
      let z : c ≡ record { component_tag = field (bits_of s) at 8; splice_time = r.inner } = cc in
      rw z (field_lt s at 8, unless_fits s b (at + 8) r.inner r.seam r.front, unless_immediate b (at + 8) r.inner r.seam r.front)

  list_kept : (b : Bool) (n at : ℕ) (cs : List InsertComponent) (m : ℕ) → parse (list n blank (component b)) (bits_of s) at ≡ got cs m → (fit (component_numbers cs) ≡ true) × (alike b cs ≡ true)
  unfolding list
  list_kept b zero at cs m e = let z : cs ≡ [] = cc in rw z (refl, refl)
  list_kept b (suc n) at cs m e =
      let r = reads_in (component b) _ _ (bits_of s) at cs m e in
      let q = reads_in (list n blank (component b)) _ _ (bits_of s) r.seam cs m r.back in
      let back = q.back in
      let z : cs ≡ r.inner ∷ q.inner = cc in
      let i = list_kept b n r.seam q.inner q.seam q.front in
      let k = component_kept b at r.inner r.seam r.front in
      rw z (and_both _ _ (lt-ltb _ _ k.0) (and_both _ _ (lt-ltb _ _ k.1) i.0), and_both _ _ (agrees b _ k.2) i.1)

  moded_kept : (p b : Bool) (at : ℕ) (x : WithComponents SpliceMode) (m : ℕ) → parse (moded p b) (bits_of s) at ≡ got x m → ModeKept x
  unfolding moded
  moded_kept true b at x m e =
      let r = reads_in (time_unless b) _ _ (bits_of s) at x m e in
      let back = r.back in
      let z : x ≡ record { value = SpliceMode.Program r.inner; components = [] } = cc in
      rw z (record { time = unless_fits s b at r.inner r.seam r.front; counts = omega arith; numbers = refl; like = refl })
  moded_kept false b at x m e =
      let n = field (bits_of s) at 8 in
      let r = reads_in (list n blank (component b)) _ _ (bits_of s) (at + 8) x m (reads_number s at 8 _ _ x m e).1 in
      let back = r.back in
      let z : x ≡ record { value = SpliceMode.Components n; components = r.inner } = cc in
      let l = list_kept b n (at + 8) r.inner r.seam r.front in
      rw z (record { time = omega arith; counts = field_lt s at 8; numbers = l.0; like = unmixed_of b r.inner l.1 })

  break_fits : (d : Bool) (at : ℕ) (y : Option SpliceDuration) (m : ℕ) → parse (break_duration d) (bits_of s) at ≡ got y m → break_ticks y < 2 ^ 33
  unfolding break_duration
  break_fits true at y m e =
      let a = (reads_ones s (at + 1) 6 _ y m (reads_flag s at _ _ y m e).1).1 in
      let c = got_same (reads_number s (at + 1 + 6) 33 _ _ y m a).1 in
      rw (← c) (field_lt s (at + 1 + 6) 33)
  break_fits false at y m e = let z : y ≡ None = cc in rw z (omega arith)

  ending_kept : (out : Bool) (x : WithComponents SpliceMode) (d : Bool) (at : ℕ) (y : WithComponents InsertDetail) (m : ℕ) → ModeKept x → parse (ending out x d) (bits_of s) at ≡ got y m → ActiveKept y
  unfolding ending
  ending_kept out x d at y m k e =
      let r = reads_in (break_duration d) _ _ (bits_of s) at y m e in
      let a = (reads_number s r.seam 16 _ _ y m r.back).1 in
      let b = (reads_number s (r.seam + 16) 8 _ _ y m a).1 in
      let c = got_same (reads_number s (r.seam + 16 + 8) 8 _ _ y m b).1 in
      rw (← c) (record {
        time = k.time;
        counts = k.counts;
        lasts = break_fits d at r.inner r.seam r.front;
        id = field_lt s r.seam 16;
        num = field_lt s (r.seam + 16) 8;
        expected = field_lt s (r.seam + 16 + 8) 8;
        numbers = k.numbers;
        like = k.like;
      })

  active_kept : (at : ℕ) (y : WithComponents InsertDetail) (m : ℕ) → parse active (bits_of s) at ≡ got y m → ActiveKept y
  unfolding active
  active_kept at y m e =
      let a = (reads_flag s at _ _ y m e).1 in
      let b = (reads_flag s (at + 1) _ _ y m a).1 in
      let c = (reads_flag s (at + 1 + 1) _ _ y m b).1 in
      let d = (reads_flag s (at + 1 + 1 + 1) _ _ y m c).1 in
      let f = (reads_ones s (at + 1 + 1 + 1 + 1) 4 _ y m d).1 in
      let r = reads_in (moded (eqb (field (bits_of s) (at + 1) 1) 1) (eqb (field (bits_of s) (at + 1 + 1 + 1) 1) 1)) _ _ (bits_of s) (at + 1 + 1 + 1 + 1 + 4) y m f in
      ending_kept _ r.inner _ r.seam y m (moded_kept _ _ (at + 1 + 1 + 1 + 1 + 4) r.inner r.seam r.front) r.back

  abbrev DetailKept : SpliceDetail → List InsertComponent → Type 0
  DetailKept SpliceDetail.Cancel cs = cs ≡ []
  DetailKept (SpliceDetail.Insert i) cs = ActiveKept (record { value = i; components = cs })

  record InsertKept (x : WithComponents SpliceInsert) : Type 0 where
    event : x.value.splice_event_id < 2 ^ 32
    kept : x.value.reserved < 2 ^ 7
    detail : DetailKept x.value.splice_detail x.components

  insert_kept : (x : WithComponents SpliceInsert) (m : ℕ) → parse insert (bits_of s) 0 ≡ got x m → InsertKept x
  unfolding insert
  insert_kept x m e =
      let a = (reads_number s 0 32 _ _ x m e).1 in
      let b = (reads_flag s 32 _ _ x m a).1 in
      let c = (reads_number s 33 7 _ _ x m b).1 in
      go (eqb (field (bits_of s) 32 1) 1) (field (bits_of s) 0 32) (field (bits_of s) 33 7) (field_lt s 0 32) (field_lt s 33 7) c
    where
      go : (cancel : Bool) (id kept : ℕ) → id < 2 ^ 32 → kept < 2 ^ 7 → parse (pick cancel
          (done (record { value = record { splice_event_id = id; reserved = kept; splice_detail = SpliceDetail.Cancel }; components = [] }))
          (inside active active_of λ a. done (record { value = record { splice_event_id = id; reserved = kept; splice_detail = SpliceDetail.Insert a.value }; components = a.components }))) (bits_of s) 40 ≡ got x m
          → InsertKept x
      go true id kept i k f =
          let z : x ≡ record { value = record { splice_event_id = id; reserved = kept; splice_detail = SpliceDetail.Cancel }; components = [] } = cc in
          rw z (record { event = i; kept = k; detail = refl })
      go false id kept i k f =
          let r = reads_in active active_of _ (bits_of s) 40 x m f in
          let back = r.back in
          let z : x ≡ record { value = record { splice_event_id = id; reserved = kept; splice_detail = SpliceDetail.Insert r.inner.value }; components = r.inner.components } = cc in
          rw z (record { event = i; kept = k; detail = active_kept 40 r.inner r.seam r.front })

-- ---- so it is written

numbers_fit_lem : (s : List ℕ) (event kept : ℕ) (d : SpliceDetail) (cs places : List InsertComponent) → event < 2 ^ 32 → kept < 2 ^ 7 → DetailKept s d cs
    → take (count_in (SpliceCommand.SpliceInsert (record { splice_event_id = event; reserved = kept; splice_detail = d }))) places ≡ cs
    → fit (command_numbers (SpliceCommand.SpliceInsert (record { splice_event_id = event; reserved = kept; splice_detail = d })) places) ≡ true
numbers_fit_lem s event kept SpliceDetail.Cancel cs places i k d t = and_both _ _ (lt-ltb _ _ i) (and_both _ _ (lt-ltb _ _ k) refl)
numbers_fit_lem s event kept (SpliceDetail.Insert j) cs places i k d t =
    let n : fit (component_numbers (take (count j.splice_mode) places)) ≡ true = ap (λ (l : List InsertComponent). fit (component_numbers l)) t ∙ d.numbers in
    and_both _ _ (lt-ltb _ _ i) (and_both _ _ (lt-ltb _ _ k) (and_both _ _ (lt-ltb _ _ d.time) (and_both _ _ (lt-ltb _ _ d.counts) (and_both _ _ (lt-ltb _ _ d.lasts)
    (and_both _ _ (lt-ltb _ _ d.id) (and_both _ _ (lt-ltb _ _ d.num) (and_both _ _ (lt-ltb _ _ d.expected) n)))))))

all_like : (s : List ℕ) (d : SpliceDetail) (cs : List InsertComponent) → DetailKept s d cs → unmixed cs ≡ true
all_like s SpliceDetail.Cancel cs e = rw e refl
all_like s (SpliceDetail.Insert j) cs k = k.like

few : (s : List ℕ) (event kept : ℕ) (d : SpliceDetail) (cs : List InsertComponent) → DetailKept s d cs
    → Counted (record { value = record { splice_event_id = event; reserved = kept; splice_detail = d }; components = cs }) → length cs ≤ 255
few s event kept SpliceDetail.Cancel cs e c = rw e (omega arith)
few s event kept (SpliceDetail.Insert j) cs k c = let n = k.counts in omega (arith, c, n)

array_255 : (cs : List InsertComponent) → length cs ≤ 255 → length (array cs) ≡ 255
unfolding array
array_255 cs h = length-append cs (replicate (255 - length cs) blank) ∙ omega (arith, length-replicate (255 - length cs) blank)

module _ (s : List ℕ) where
  -- the array that stands beside an insert has its places, whatever was read
  pub places_255 : length (components_of s) ≡ 255
  unfolding components_of
  places_255 = go (parse insert (bits_of s) 0) refl
    where
      go : (r : Answer (WithComponents SpliceInsert)) → parse insert (bits_of s) 0 ≡ r → length (array (components_in (parse insert (bits_of s) 0))) ≡ 255
      go (got x m) e =
          rw e (array_255 x.components (few s x.value.splice_event_id x.value.reserved x.value.splice_detail x.components (insert_kept s x m e).detail (insert_has s x m e).0))
      go (short n a) e = rw e blank_length

  -- its count is a byte
  pub counts_few : (x : WithComponents SpliceInsert) (m : ℕ) → parse insert (bits_of s) 0 ≡ got x m → count_in (SpliceCommand.SpliceInsert x.value) ≤ 255
  counts_few x m e = subst (λ (n : ℕ). n ≤ 255) (insert_has s x m e).0 (few s x.value.splice_event_id x.value.reserved x.value.splice_detail x.components (insert_kept s x m e).detail (insert_has s x m e).0)

  pub insert_made_lem : (x : WithComponents SpliceInsert) (m : ℕ) (lent : List ℕ) → parse insert (bits_of s) 0 ≡ got x m → x.value.reserved ≡ 127
      → (p : List ℕ) × (command_made (SpliceCommand.SpliceInsert x.value) (components_of s) lent ≡ made p)
  unfolding writable_insert
  insert_made_lem x m lent e r =
      let k = insert_kept s x m e in
      let h = (insert_has s x m e).0 in
      let c : counted x.value (components_of s) ≡ x = ap (counted x.value) (components_are s x m e) ∙ counted_is x h in
      let t : take (count_in (SpliceCommand.SpliceInsert x.value)) (components_of s) ≡ x.components = ap (λ (y : WithComponents SpliceInsert). y.components) c in
      let held : Counted (counted x.value (components_of s)) = subst Counted (sym c) h in
      let writable : writable_insert (counted x.value (components_of s)) ≡ true =
      ap writable_insert c ∙ and_both _ _ (eq-eqb x.value.reserved 127 r) (all_like s x.value.splice_detail x.components k.detail) in
      writable_made (SpliceCommand.SpliceInsert x.value) (components_of s) lent held (le-leb 0 (length lent) (omega arith))
      (numbers_fit_lem s x.value.splice_event_id x.value.reserved x.value.splice_detail x.components (components_of s) k.event k.kept k.detail t) writable

-- ---- the command of a section

module _ (s : List ℕ) where
  -- an insert that was read, as its table reads it
  abbrev FromTable : Result SpliceCommand CommandRefusal → Type 0
  FromTable (Ok SpliceCommand.SpliceNull) = Unit {0}
  FromTable (Ok (SpliceCommand.SpliceInsert i)) = (x : WithComponents SpliceInsert) × (m : ℕ) × (parse insert (bits_of s) 0 ≡ got x m) × (x.value ≡ i)
  FromTable (Ok (SpliceCommand.TimeSignal t)) = Unit {0}
  FromTable (Ok SpliceCommand.BandwidthReservation) = Unit {0}
  FromTable (Ok (SpliceCommand.PrivateCommand p)) = Unit {0}
  FromTable (Err CommandRefusal.UnknownType) = Unit {0}
  FromTable (Err CommandRefusal.Malformed) = Unit {0}

  picked : (b : Bool) (x y : Result SpliceCommand CommandRefusal) → FromTable x → FromTable y → FromTable (pick b x y)
  picked true x y h k = h
  picked false x y h k = k

  reading : {X : Type 0} (f : X → SpliceCommand) (r : Answer X) → ((x : X) (m : ℕ) → r ≡ got x m → FromTable (Ok (f x))) → FromTable (read f r)
  reading f (got x m) h = h x m refl
  reading f (short e a) h = tt

  from_table : (k : ℕ) → FromTable (command_of k s)
  unfolding command_of
  from_table k =
      picked (eqb k 0x00) _ _ (picked (eqb (length s) 0) _ _ tt tt)
      (picked (eqb k 0x05) _ _ (reading (λ x. SpliceCommand.SpliceInsert x.value) (parse insert (bits_of s) 0) (λ x m e. (x, m, e, refl)))
      (picked (eqb k 0x06) _ _ (reading SpliceCommand.TimeSignal (parse splice_time (bits_of s) 0) (λ t m e. tt))
      (picked (eqb k 0x07) _ _ (picked (eqb (length s) 0) _ _ tt tt)
      (picked (eqb k 0xff) _ _ (reading SpliceCommand.PrivateCommand (parse private (bits_of s) 0) (λ p m e. tt)) tt))))

module _ (s : List ℕ) (x : Section) (a : AllBytes s) (e : section_of s ≡ Ok x) where
  abbrev places : List InsertComponent
  places = components_of (command_bytes s)

  abbrev Rewrites : SpliceCommand → Type 0
  Rewrites c = (p : List ℕ) × (command_made c places s ≡ made p) × CommandPayload c places s p

  others : (type_of x.command ≡ 0x05 → ⊥) → Rewrites x.command
  others n = command_written s x places a (places_255 (command_bytes s)) e n

  insert_case : (i : SpliceInsert) → x.command ≡ SpliceCommand.SpliceInsert i → i.reserved ≡ 127 → command_of (command_type s) (command_bytes s) ≡ Ok (SpliceCommand.SpliceInsert i)
      → Rewrites x.command
  insert_case i c r f =
      let t : FromTable (command_bytes s) (Ok (SpliceCommand.SpliceInsert i)) = rw f at (from_table (command_bytes s) (command_type s)) in
      let k : t.0.value.reserved ≡ 127 = ap (λ (j : SpliceInsert). j.reserved) t.3 ∙ r in
      let m = insert_made_lem (command_bytes s) t.0 t.1 s t.2 k in
      let same : SpliceCommand.SpliceInsert t.0.value ≡ x.command = ap SpliceCommand.SpliceInsert t.3 ∙ sym c in
      let w : command_made x.command places s ≡ made m.0 = ap (λ (d : SpliceCommand). command_made d places s) (sym same) ∙ m.1 in
      let n : count_in x.command ≤ 255 =
      subst (λ (d : SpliceCommand). count_in d ≤ 255) same (counts_few (command_bytes s) t.0 t.1 t.2) in
      (m.0, w, payload_made_lem x.command places s m.0 (places_255 (command_bytes s)) n a w)

  -- every command but an insert with other reserved bits
  pub every_command_written : ((i : SpliceInsert) → x.command ≡ SpliceCommand.SpliceInsert i → i.reserved ≡ 127) → Rewrites x.command
  unfolding moved
  every_command_written h = go (laid s x e).read (laid s x e).from (laid s x e).command
    where
      go : (c : SpliceCommand) → command_of (command_type s) (command_bytes s) ≡ Ok c → x.command ≡ moved 14 c → Rewrites x.command
      go SpliceCommand.SpliceNull f m = others (λ k. eqb-false 0 5 refl (ap type_of (sym m) ∙ k))
      go (SpliceCommand.SpliceInsert i) f m = insert_case i m (h i m) f
      go (SpliceCommand.TimeSignal t) f m = others (λ k. eqb-false 6 5 refl (ap type_of (sym m) ∙ k))
      go SpliceCommand.BandwidthReservation f m = others (λ k. eqb-false 7 5 refl (ap type_of (sym m) ∙ k))
      go (SpliceCommand.PrivateCommand p) f m = others (λ k. eqb-false 0xff 5 refl (ap type_of (sym m) ∙ k))

  -- it counts no more components than a byte says
  pub count_byte : count_in x.command ≤ 255
  unfolding moved
  count_byte = go (laid s x e).read (laid s x e).from (laid s x e).command
    where
      go : (c : SpliceCommand) → command_of (command_type s) (command_bytes s) ≡ Ok c → x.command ≡ moved 14 c → count_in x.command ≤ 255
      go SpliceCommand.SpliceNull f m = rw m (omega arith)
      go (SpliceCommand.SpliceInsert i) f m =
          let t : FromTable (command_bytes s) (Ok (SpliceCommand.SpliceInsert i)) = rw f at (from_table (command_bytes s) (command_type s)) in
          subst (λ (d : SpliceCommand). count_in d ≤ 255) (ap SpliceCommand.SpliceInsert t.3 ∙ sym m) (counts_few (command_bytes s) t.0 t.1 t.2)
      go (SpliceCommand.TimeSignal t) f m = rw m (omega arith)
      go SpliceCommand.BandwidthReservation f m = rw m (omega arith)
      go (SpliceCommand.PrivateCommand p) f m = rw m (omega arith)
