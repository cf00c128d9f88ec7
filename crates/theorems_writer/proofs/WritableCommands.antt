-- What is read of a command that is no insert can be written.
use Prim.Native.Nat.{ℕ, ◌+◌, ◌^◌, ◌≤◌, ◌<◌}
use mathlib.Core.Bool.{Bool, true, false}
use mathlib.Core.List.{List, []}
use mathlib.Core.Path.{◌≡◌, refl, ap, sym, ◌∙◌}
use native.Mathlib.Omega.{arith}
use lib.Dec.{eqb}
use lib.ListN.{length}
use borrow.Author.Tests.{lt-ltb, le-leb}
use Rattle.command.specs.Command.{private, read, type_of, command_of, count_in}
use Rattle.command.specs.Insert.{insert}
use Rattle.command.specs.declared.Private.{Private}
use Rattle.command.specs.declared.SpliceCommand.{SpliceCommand}
use Rattle.command.specs.declared.components.InsertComponent.{InsertComponent}
use Rattle.command_measure.specs.Made.{command_made}
use Rattle.splice_time.specs.Time.{splice_time, ticks, not_immediate}
use Rattle.splice_time.specs.declared.SpliceTime.{SpliceTime}
use Rattle.splice_time.specs.declared.SpliceTime.TheVariants.{Unspecified, At}
use Rattle.section.specs.Section.{command_type, command_bytes, moved, section_of}
use Rattle.section.specs.declared.Section.{Section}
use Rattle.table.proofs.Reading.{field_lt}
use Rattle.table.proofs.Steps.{reads_number, reads_flag, reads_ones, reads_part, takes_remaining}
use Rattle.table.specs.Bits.{pick, bits_of, field, AllBytes}
use Rattle.table.specs.Lent.{lies_in, no_view}
use Rattle.table.specs.Table.{Answer, got, short, parse, done, ones, uimsbf}
use Rattle.table.specs.Writing.{made}
use Rattle.theorems_reader.specs.Identifiers.{Identifier}
use Rattle.theorems_writer.specs.Making.{CommandPayload}
use Rattle.theorems_writer.proofs.CommandsMade.{writable_made, payload_made_lem}
use Rattle.theorems_reader.proofs.Framed.{laid}
use Rattle.theorems_writer.proofs.InsertsRead.{time_fits}
use Rattle.theorems_reader.proofs.Whole.{whole_command}
use Rattle.theorems_reader.proofs.WholeCases.{CommandCase}
use Rattle.std.proofs.Common.{Ok, Err, Result}
use Rattle.command.specs.declared.CommandRefusal.{CommandRefusal}

abbrev NoInsert : SpliceCommand → Type 0
NoInsert SpliceCommand.SpliceNull = Unit {0}
NoInsert (SpliceCommand.SpliceInsert i) = ⊥
NoInsert (SpliceCommand.TimeSignal t) = Unit {0}
NoInsert SpliceCommand.BandwidthReservation = Unit {0}
NoInsert (SpliceCommand.PrivateCommand p) = Unit {0}

of_another_type : (c : SpliceCommand) → (type_of c ≡ 0x05 → ⊥) → NoInsert c
of_another_type SpliceCommand.SpliceNull n = tt
of_another_type (SpliceCommand.SpliceInsert i) n = n refl
of_another_type (SpliceCommand.TimeSignal t) n = tt
of_another_type SpliceCommand.BandwidthReservation n = tt
of_another_type (SpliceCommand.PrivateCommand p) n = tt

module _ (s : List ℕ) where
  pub not_immediate_lem : (at : ℕ) (t : SpliceTime) (m : ℕ) → parse splice_time (bits_of s) at ≡ got t m → not_immediate t ≡ true
  unfolding splice_time
  not_immediate_lem at t m e = go (eqb (field (bits_of s) at 1) 1) (reads_flag s at _ _ t m e).1
    where
      go : (b : Bool) → parse (pick b (ones 6 (uimsbf 33 ticks λ v. done (At v))) (ones 7 (done Unspecified))) (bits_of s) (at + 1) ≡ got t m → not_immediate t ≡ true
      go true f =
          let r = (reads_number s (at + 1 + 6) 33 ticks (λ v. done (At v)) t m (reads_ones s (at + 1) 6 _ t m f).1).1 in
          let z : t ≡ At (field (bits_of s) (at + 1 + 6) 33) = cc in
          rw z refl
      go false f =
          let r = (reads_ones s (at + 1) 7 (done Unspecified) t m f).1 in
          let z : t ≡ Unspecified = cc in
          rw z refl

  -- what was read of a command: its numbers are within their fields, and its time is none that says immediate
  abbrev Keeps : Result SpliceCommand CommandRefusal → Type 0
  Keeps (Ok SpliceCommand.SpliceNull) = Unit {0}
  Keeps (Ok (SpliceCommand.SpliceInsert i)) = Unit {0}
  Keeps (Ok (SpliceCommand.TimeSignal t)) = (ticks t < 2 ^ 33) × (not_immediate t ≡ true)
  Keeps (Ok SpliceCommand.BandwidthReservation) = Unit {0}
  Keeps (Ok (SpliceCommand.PrivateCommand p)) = p.identifier < 2 ^ 32
  Keeps (Err CommandRefusal.UnknownType) = Unit {0}
  Keeps (Err CommandRefusal.Malformed) = Unit {0}

  picked : (b : Bool) (x y : Result SpliceCommand CommandRefusal) → Keeps x → Keeps y → Keeps (pick b x y)
  picked true x y h k = h
  picked false x y h k = k

  reading : {X : Type 0} (f : X → SpliceCommand) (r : Answer X) → ((x : X) (m : ℕ) → r ≡ got x m → Keeps (Ok (f x))) → Keeps (read f r)
  reading f (got x m) h = h x m refl
  reading f (short e a) h = tt

  private_keeps : (p : Private) (m : ℕ) → parse private (bits_of s) 0 ≡ got p m → p.identifier < 2 ^ 32
  unfolding private
  private_keeps p m e =
      let r = reads_number s 0 32 _ _ p m e in
      let e₂ = sym (takes_remaining s 32 _ _) ∙ r.1 in
      let i = reads_part s 32 _ _ _ p m e₂ in
      let z : p.identifier ≡ field (bits_of s) 0 32 = cc i.1 in
      rw z (field_lt s 0 32)

  all_keep : (k : ℕ) → Keeps (command_of k s)
  unfolding command_of
  all_keep k =
      picked (eqb k 0x00) _ _ (picked (eqb (length s) 0) _ _ tt tt)
      (picked (eqb k 0x05) _ _ (reading (λ x. SpliceCommand.SpliceInsert x.value) (parse insert (bits_of s) 0) (λ x m e. tt))
      (picked (eqb k 0x06) _ _ (reading SpliceCommand.TimeSignal (parse splice_time (bits_of s) 0) (λ t m e. (time_fits s 0 t m e, not_immediate_lem 0 t m e)))
      (picked (eqb k 0x07) _ _ (picked (eqb (length s) 0) _ _ tt tt)
      (picked (eqb k 0xff) _ _ (reading SpliceCommand.PrivateCommand (parse private (bits_of s) 0) private_keeps) tt))))

-- ---- so it is written, in a section

module _ (s : List ℕ) (places : List InsertComponent) where
  nothing_seen : lies_in s no_view ≡ true
  nothing_seen = le-leb 0 (length s) (omega arith)

  written : (c : SpliceCommand) → NoInsert c → Keeps [] (Ok c) → CommandCase s (moved 14 c) → (p : List ℕ) × (command_made (moved 14 c) places s ≡ made p)
  unfolding moved
  written SpliceCommand.SpliceNull n k w = writable_made SpliceCommand.SpliceNull places s tt nothing_seen refl refl
  written (SpliceCommand.SpliceInsert i) n k w = absurd n
  written (SpliceCommand.TimeSignal t) n k w = writable_made (SpliceCommand.TimeSignal t) places s tt nothing_seen (rw (lt-ltb (ticks t) (2 ^ 33) k.0)) k.1
  written SpliceCommand.BandwidthReservation n k w = writable_made SpliceCommand.BandwidthReservation places s tt nothing_seen refl refl
  written (SpliceCommand.PrivateCommand p) n k w =
      let v = w.whole.is in
      writable_made (moved 14 (SpliceCommand.PrivateCommand p)) places s tt
      (le-leb _ (length s) (omega (arith, w.whole.there, ap (λ (i : Identifier). i.start) v, ap (λ (i : Identifier). i.len) v)))
      (rw (lt-ltb p.identifier (2 ^ 32) k)) refl

kept_in_lem : (s : List ℕ) (c : SpliceCommand) → NoInsert c → Keeps s (Ok c) → Keeps [] (Ok c)
kept_in_lem s SpliceCommand.SpliceNull n k = tt
kept_in_lem s (SpliceCommand.SpliceInsert i) n k = tt
kept_in_lem s (SpliceCommand.TimeSignal t) n k = k
kept_in_lem s SpliceCommand.BandwidthReservation n k = tt
kept_in_lem s (SpliceCommand.PrivateCommand p) n k = k

no_insert : (c : SpliceCommand) → NoInsert (moved 14 c) → NoInsert c
unfolding moved
no_insert SpliceCommand.SpliceNull n = tt
no_insert (SpliceCommand.SpliceInsert i) n = n
no_insert (SpliceCommand.TimeSignal t) n = tt
no_insert SpliceCommand.BandwidthReservation n = tt
no_insert (SpliceCommand.PrivateCommand p) n = tt

counts_none : (c : SpliceCommand) → NoInsert c → count_in c ≤ 255
counts_none SpliceCommand.SpliceNull n = omega arith
counts_none (SpliceCommand.SpliceInsert i) n = absurd n
counts_none (SpliceCommand.TimeSignal t) n = omega arith
counts_none SpliceCommand.BandwidthReservation n = omega arith
counts_none (SpliceCommand.PrivateCommand p) n = omega arith

pub command_written : (s : List ℕ) (x : Section) (places : List InsertComponent) → AllBytes s → length places ≡ 255 → section_of s ≡ Ok x → (type_of x.command ≡ 0x05 → ⊥)
    → (p : List ℕ) × (command_made x.command places s ≡ made p) × CommandPayload x.command places s p
command_written s x places a n e o =
    let i : NoInsert x.command = of_another_type x.command o in
    let l = laid s x e in
    let j : NoInsert (moved 14 l.read) = rw l.command at i in
    let c = no_insert l.read j in
    let k : Keeps (command_bytes s) (Ok l.read) = rw l.from at (all_keep (command_bytes s) (command_type s)) in
    let w : CommandCase s (moved 14 l.read) = rw l.command at (whole_command s x e) in
    let m = written s places l.read c (kept_in_lem (command_bytes s) l.read c k) w in
    let r : command_made x.command places s ≡ made m.0 = ap (λ (d : SpliceCommand). command_made d places s) l.command ∙ m.1 in
    (m.0, r, payload_made_lem x.command places s m.0 n (counts_none x.command i) a r)
