-- What is written of a command that is read has no more bytes than its payload.
--     insert_past        a reading of an insert ends where its own bytes say, canonical or not
--     command_shorter    so of every command of a section
use Prim.Native.Nat.{ℕ, zero, suc, ◌+◌, ◌*◌, ◌≤◌}
use mathlib.Core.Bool.{Bool, true, false}
use mathlib.Core.List.{List, [], ◌++◌}
use mathlib.Core.Path.{◌≡◌, refl, ap, sym, ◌∙◌}
use native.Mathlib.Omega.{arith}
use lib.Dec.{eqb}
use lib.ListN.{length, drop, length-take}
use Rattle.splice_time.proofs.Breaks.{break_bytes}
use Rattle.command.proofs.InsertLeads.{active_bytes, insert_bytes}
use Rattle.command.proofs.InsertTrips.{insert_write_read}
use Rattle.command.proofs.ModeLeads.{component_bytes, mode_bytes}
use Rattle.command.proofs.PrivateTrips.{private_write_read}
use Rattle.command.specs.Command.{private, read, command_of, components_of}
use Rattle.command.specs.Writable.{writable_insert}
use Rattle.command.specs.Insert.{WithComponents, time_unless, component, blank, moded, ending, active, active_of, insert}
use Rattle.splice_time.specs.Break.{break_duration}
use Rattle.command.specs.declared.Private.{Private}
use Rattle.command.specs.declared.SpliceCommand.{SpliceCommand}
use Rattle.command.specs.declared.components.InsertComponent.{InsertComponent}
use Rattle.command.specs.declared.insert.InsertDetail.{InsertDetail}
use Rattle.command.specs.declared.insert.SpliceInsert.{SpliceInsert}
use Rattle.command.specs.declared.insert.SpliceDetail.{SpliceDetail}
use Rattle.command.specs.declared.insert.SpliceMode.{SpliceMode}
use Rattle.command_measure.specs.Made.{counted, times_fit, insert_made, command_made}
use Rattle.section.specs.Section.{command_type, command_length, command_bytes, moved, section_of}
use Rattle.section.specs.declared.Section.{Section}
use Rattle.splice_time.proofs.Times.{time_size, time_write_read}
use Rattle.splice_time.specs.Time.{splice_time, ticks}
use Rattle.splice_time.specs.declared.SpliceTime.{SpliceTime}
use Rattle.splice_time.specs.declared.SpliceTime.TheVariants.{Immediate, Unspecified, At}
use Rattle.table.proofs.Bits.{length_bits}
use Rattle.table.proofs.Leading.{total}
use Rattle.table.proofs.Lists.{zero_one}
use Rattle.table.proofs.Steps.{reads_in, reads_number, reads_flag, reads_ones, reads_part, takes_remaining, parse_bound}
use Rattle.table.specs.Bits.{pick, bits_of, field}
use Rattle.table.specs.Table.{Table, done, inside, uimsbf, ones, list, Answer, got, short, parse}
use Rattle.table.specs.Writing.{made, refused, make}
use Rattle.theorems_reader.proofs.Framed.{laid}
use Rattle.theorems_writer.proofs.InsertsRead.{insert_has, got_same}
use Rattle.theorems_writer.proofs.WrittenBack.{components_are, counted_is}
use Rattle.std.proofs.Common.{Ok, Err, Option, Result}
use Rattle.command.specs.declared.CommandRefusal.{CommandRefusal}
use Rattle.splice_time.specs.declared.break_duration.SpliceDuration.{SpliceDuration}

got_end : {X : Type 0} {x y : X} {m n : ℕ} → got x m ≡ got y n → m ≡ n
got_end e = cc

-- ---- where a reading ends

module _ (s : List ℕ) where
  time_past : (at : ℕ) (t : SpliceTime) (m : ℕ) → parse splice_time (bits_of s) at ≡ got t m → m ≡ at + time_size t * 8
  unfolding splice_time
  time_past at t m e = go (eqb (field (bits_of s) at 1) 1) (reads_flag s at _ _ t m e).1
    where
      go : (b : Bool) → parse (pick b (ones 6 (uimsbf 33 ticks λ v. done (At v))) (ones 7 (done Unspecified))) (bits_of s) (at + 1) ≡ got t m → m ≡ at + time_size t * 8
      go true f =
          let r = (reads_number s (at + 1 + 6) 33 ticks (λ v. done (At v)) t m (reads_ones s (at + 1) 6 _ t m f).1).1 in
          let z : t ≡ At (field (bits_of s) (at + 1 + 6) 33) = sym (got_same r) in
          rw z (omega (arith, got_end r))
      go false f =
          let r = (reads_ones s (at + 1) 7 (done Unspecified) t m f).1 in
          let z : t ≡ Unspecified = sym (got_same r) in
          rw z (omega (arith, got_end r))

  unless_past : (b : Bool) (at : ℕ) (t : SpliceTime) (m : ℕ) → parse (time_unless b) (bits_of s) at ≡ got t m → m ≡ at + time_size t * 8
  unfolding time_unless
  unless_past true at t m e = let z : t ≡ Immediate = sym (got_same e) in rw z (omega (arith, got_end e))
  unless_past false at t m e = time_past at t m e

  component_past : (b : Bool) (at : ℕ) (c : InsertComponent) (m : ℕ) → parse (component b) (bits_of s) at ≡ got c m → m ≡ at + component_bytes c * 8
  unfolding component
  component_past b at c m e =
      let r = reads_in (time_unless b) _ _ (bits_of s) (at + 8) c m (reads_number s at 8 _ _ c m e).1 in
      rw (← got_same r.back) (omega (arith, got_end r.back, unless_past b (at + 8) r.inner r.seam r.front))

  list_past : (b : Bool) (n at : ℕ) (cs : List InsertComponent) (m : ℕ) → parse (list n blank (component b)) (bits_of s) at ≡ got cs m → m ≡ at + total component_bytes cs * 8
  unfolding list
  list_past b zero at cs m e = rw (← got_same e) (omega (arith, got_end e))
  list_past b (suc n) at cs m e =
      let r = reads_in (component b) _ _ (bits_of s) at cs m e in
      let q = reads_in (list n blank (component b)) _ _ (bits_of s) r.seam cs m r.back in
      rw (← got_same q.back)
      (omega (arith, got_end q.back, list_past b n r.seam q.inner q.seam q.front, component_past b at r.inner r.seam r.front))

  moded_past : (p b : Bool) (at : ℕ) (x : WithComponents SpliceMode) (m : ℕ) → parse (moded p b) (bits_of s) at ≡ got x m → m ≡ at + mode_bytes x.value x.components * 8
  unfolding moded
  moded_past true b at x m e =
      let r = reads_in (time_unless b) _ _ (bits_of s) at x m e in
      rw (← got_same r.back) (omega (arith, got_end r.back, unless_past b at r.inner r.seam r.front))
  moded_past false b at x m e =
      let n = field (bits_of s) at 8 in
      let r = reads_in (list n blank (component b)) _ _ (bits_of s) (at + 8) x m (reads_number s at 8 _ _ x m e).1 in
      rw (← got_same r.back) (omega (arith, got_end r.back, list_past b n (at + 8) r.inner r.seam r.front))

  break_past : (d : Bool) (at : ℕ) (y : Option SpliceDuration) (m : ℕ) → parse (break_duration d) (bits_of s) at ≡ got y m → m ≡ at + break_bytes y * 8
  unfolding break_duration
  break_past true at y m e =
      let a = (reads_ones s (at + 1) 6 _ y m (reads_flag s at _ _ y m e).1).1 in
      let r = (reads_number s (at + 1 + 6) 33 _ _ y m a).1 in
      rw (← got_same r) (omega (arith, got_end r))
  break_past false at y m e = rw (← got_same e) (omega (arith, got_end e))

  -- with the mode x before it
  ending_past : (out : Bool) (x : WithComponents SpliceMode) (d : Bool) (at : ℕ) (y : WithComponents InsertDetail) (m : ℕ) → parse (ending out x d) (bits_of s) at ≡ got y m
      → m + mode_bytes x.value x.components * 8 ≡ at + (mode_bytes y.value.splice_mode y.components + break_bytes y.value.duration + 4) * 8
  unfolding ending
  ending_past out x d at y m e =
      let r = reads_in (break_duration d) _ _ (bits_of s) at y m e in
      let a = (reads_number s r.seam 16 _ _ y m r.back).1 in
      let b = (reads_number s (r.seam + 16) 8 _ _ y m a).1 in
      let c = (reads_number s (r.seam + 16 + 8) 8 _ _ y m b).1 in
      rw (← got_same c) (omega (arith, got_end c, break_past d at r.inner r.seam r.front))

  active_past : (at : ℕ) (y : WithComponents InsertDetail) (m : ℕ) → parse active (bits_of s) at ≡ got y m → m ≡ at + active_bytes y.value y.components * 8
  unfolding active
  active_past at y m e =
      let a = (reads_flag s at _ _ y m e).1 in
      let b = (reads_flag s (at + 1) _ _ y m a).1 in
      let c = (reads_flag s (at + 1 + 1) _ _ y m b).1 in
      let d = (reads_flag s (at + 1 + 1 + 1) _ _ y m c).1 in
      let f = (reads_ones s (at + 1 + 1 + 1 + 1) 4 _ y m d).1 in
      let r = reads_in (moded (eqb (field (bits_of s) (at + 1) 1) 1) (eqb (field (bits_of s) (at + 1 + 1 + 1) 1) 1)) _ _ (bits_of s) (at + 1 + 1 + 1 + 1 + 4) y m f in
      omega (arith, moded_past _ _ (at + 1 + 1 + 1 + 1 + 4) r.inner r.seam r.front, ending_past _ r.inner _ r.seam y m r.back)

  insert_past : (x : WithComponents SpliceInsert) (m : ℕ) → parse insert (bits_of s) 0 ≡ got x m → m ≡ insert_bytes x * 8
  unfolding insert
  insert_past x m e =
      let a = (reads_number s 0 32 _ _ x m e).1 in
      let b = (reads_flag s 32 _ _ x m a).1 in
      let c = (reads_number s 33 7 _ _ x m b).1 in
      go (eqb (field (bits_of s) 32 1) 1) (field (bits_of s) 0 32) (field (bits_of s) 33 7) c
    where
      go : (cancel : Bool) (id kept : ℕ) → parse (pick cancel
          (done (record { value = record { splice_event_id = id; reserved = kept; splice_detail = SpliceDetail.Cancel }; components = [] }))
          (inside active active_of λ a. done (record { value = record { splice_event_id = id; reserved = kept; splice_detail = SpliceDetail.Insert a.value }; components = a.components }))) (bits_of s) 40 ≡ got x m
          → m ≡ insert_bytes x * 8
      go true id kept f = rw (← got_same f) (omega (arith, got_end f))
      go false id kept f =
          let r = reads_in active active_of _ (bits_of s) 40 x m f in
          rw (← got_same r.back) (omega (arith, got_end r.back, active_past 40 r.inner r.seam r.front))

  private_past : (p : Private) (m : ℕ) → parse private (bits_of s) 0 ≡ got p m → m ≡ (4 + p.private_bytes.len) * 8
  unfolding private
  private_past p m e =
      let e₂ = sym (takes_remaining s 32 _ _) ∙ (reads_number s 0 32 _ _ p m e).1 in
      let i = (reads_part s 32 _ _ _ p m e₂).1 in
      rw (← got_same i) (omega (arith, got_end i))

  within : {X : Type 0} (t : Table X) (x : X) (m : ℕ) → parse t (bits_of s) 0 ≡ got x m → m ≤ length s * 8
  within t x m e = omega (arith, parse_bound t (bits_of s) 0 x m (omega arith) e, length_bits s)

-- ---- what is written of a command that is read of the payload s

module _ (s : List ℕ) where
  abbrev Sized : Result SpliceCommand CommandRefusal → Type 0
  Sized (Ok c) = (lent p : List ℕ) → command_made (moved 14 c) (components_of s) lent ≡ made p → length p ≤ length s
  Sized (Err CommandRefusal.UnknownType) = Unit {0}
  Sized (Err CommandRefusal.Malformed) = Unit {0}

  none_written : (p : List ℕ) → made [] ≡ made p → length p ≤ length s
  none_written p e = let z : p ≡ [] = cc in rw z (omega arith)

  null_sized : Sized (Ok SpliceCommand.SpliceNull)
  unfolding command_made moved
  null_sized lent p e = none_written p e

  bandwidth_sized : Sized (Ok SpliceCommand.BandwidthReservation)
  unfolding command_made moved
  bandwidth_sized lent p e = none_written p e

  time_sized : (t : SpliceTime) (m : ℕ) → parse splice_time (bits_of s) 0 ≡ got t m → Sized (Ok (SpliceCommand.TimeSignal t))
  unfolding command_made moved
  time_sized t m e lent p w = omega (arith, time_past (p ++ []) 0 t (length p * 8) (time_write_read [] t p [] w).0, time_past s 0 t m e, within s splice_time t m e)

  private_sized : (x : Private) (m : ℕ) → parse private (bits_of s) 0 ≡ got x m → Sized (Ok (SpliceCommand.PrivateCommand x))
  unfolding command_made moved
  private_sized x m e lent p w = omega (arith, private_past (p ++ []) _ (length p * 8) (private_write_read lent _ p [] w refl).0, private_past s x m e, within s private x m e)

  insert_sized : (x : WithComponents SpliceInsert) (m : ℕ) → parse insert (bits_of s) 0 ≡ got x m → Sized (Ok (SpliceCommand.SpliceInsert x.value))
  unfolding command_made insert_made moved
  insert_sized x m e lent p w =
      let h = (insert_has s x m e).0 in
      let c : counted x.value (components_of s) ≡ x = ap (counted x.value) (components_are s x m e) ∙ counted_is x h in
      go (times_fit x.components) (sym (ap insert_made c) ∙ w)
    where
      go : (b : Bool) → pick b (make insert (writable_insert x) [] x) (refused 32) ≡ made p → length p ≤ length s
      go true f = omega (arith, insert_past (p ++ []) x (length p * 8) (insert_write_read [] x p [] (insert_has s x m e).0 f).0, insert_past s x m e, within s insert x m e)
      go false f = zero_one cc

  picked : (b : Bool) (x y : Result SpliceCommand CommandRefusal) → Sized x → Sized y → Sized (pick b x y)
  picked true x y h k = h
  picked false x y h k = k

  reading : {X : Type 0} (f : X → SpliceCommand) (r : Answer X) → ((x : X) (m : ℕ) → r ≡ got x m → Sized (Ok (f x))) → Sized (read f r)
  reading f (got x m) h = h x m refl
  reading f (short e a) h = tt

  all_sized : (k : ℕ) → Sized (command_of k s)
  unfolding command_of
  all_sized k =
      picked (eqb k 0x00) _ _ (picked (eqb (length s) 0) _ _ null_sized tt)
      (picked (eqb k 0x05) _ _ (reading (λ x. SpliceCommand.SpliceInsert x.value) (parse insert (bits_of s) 0) insert_sized)
      (picked (eqb k 0x06) _ _ (reading SpliceCommand.TimeSignal (parse splice_time (bits_of s) 0) time_sized)
      (picked (eqb k 0x07) _ _ (picked (eqb (length s) 0) _ _ bandwidth_sized tt)
      (picked (eqb k 0xff) _ _ (reading SpliceCommand.PrivateCommand (parse private (bits_of s) 0) private_sized) tt))))

-- ---- of a section

payload_length : (s : List ℕ) → length (command_bytes s) ≤ command_length s
unfolding command_bytes
payload_length s = omega (arith, length-take (command_length s) (drop 14 s))

pub command_shorter : (s : List ℕ) (x : Section) → section_of s ≡ Ok x → (p : List ℕ) → command_made x.command (components_of (command_bytes s)) s ≡ made p → length p ≤ command_length s
command_shorter s x e p w =
    let l = laid s x e in
    let z : Sized (command_bytes s) (Ok l.read) = rw l.from at (all_sized (command_bytes s) (command_type s)) in
    omega (arith, z s p (sym (ap (λ (c : SpliceCommand). command_made c (components_of (command_bytes s)) s) l.command) ∙ w), payload_length s)
