-- Round trips of the commands: what is written of a command is read again as an equal one, and what is written of the reading of canonical bytes is those bytes.
use Prim.Native.Nat.{ℕ, ◌*◌}
use mathlib.Core.Bool.{Bool, true, false}
use mathlib.Core.List.{List, []}
use mathlib.Core.Path.{◌≡◌, refl, ap, sym, ◌∙◌}
use lib.ListN.{length}
use Rattle.command.specs.Command.{private, read, command_of}
use Rattle.command.specs.Writable.{writable_insert}
use Rattle.command.specs.Insert.{WithComponents, insert}
use Rattle.command.specs.declared.Private.{Private}
use Rattle.command.specs.declared.SpliceCommand.{SpliceCommand}
use Rattle.command.specs.declared.components.InsertComponent.{InsertComponent}
use Rattle.command.specs.declared.insert.SpliceInsert.{SpliceInsert}
use Rattle.command.proofs.InsertLeads.{Counted}
use Rattle.command.proofs.InsertTrips.{insert_write_read, insert_read_write}
use Rattle.command.proofs.PrivateTrips.{moved, private_write_read, private_write_same, private_read_write}
use Rattle.splice_time.specs.Time.{splice_time}
use Rattle.splice_time.specs.declared.SpliceTime.{SpliceTime}
use Rattle.splice_time.proofs.Times.{time_write_read, time_read_write}
use Rattle.table.specs.Bits.{pick, bits_of, AllBytes}
use Rattle.table.specs.Table.{got, parse, canonical}
use Rattle.table.specs.Writing.{made, refused, Same, make}
use Rattle.table.proofs.Lists.{zero_one, append_nil}
use Rattle.command_measure.specs.Made.{counted, times_fit, insert_made, command_made}
use Rattle.command_measure.proofs.Making.{time_made, insert_made_of}
use Rattle.std.proofs.Common.{Ok}

-- ---- written, then read
-- null and bandwidth reservation are written as nothing, which reads as them
pub null_command_write_read : (places : List InsertComponent) (lent : List ℕ) → (command_made SpliceCommand.SpliceNull places lent ≡ made []) × (command_of 0x00 [] ≡ Ok SpliceCommand.SpliceNull)
unfolding command_made command_of
null_command_write_read places lent = (refl, refl)

pub bandwidth_command_write_read : (places : List InsertComponent) (lent : List ℕ)
    → (command_made SpliceCommand.BandwidthReservation places lent ≡ made []) × (command_of 0x07 [] ≡ Ok SpliceCommand.BandwidthReservation)
unfolding command_made command_of
bandwidth_command_write_read places lent = (refl, refl)

pub time_command_write_read : (t : SpliceTime) (places : List InsertComponent) (lent b : List ℕ) → command_made (SpliceCommand.TimeSignal t) places lent ≡ made b
    → command_of 0x06 b ≡ Ok (SpliceCommand.TimeSignal t)
unfolding command_made command_of
time_command_write_read t places lent b e =
    let i = time_write_read [] t b [] e in
    ap (read SpliceCommand.TimeSignal) (rw (append_nil b) at i.0)

-- its view is then of the payload, and holds the same bytes
pub private_command_write_read : (p : Private) (places : List InsertComponent) (lent b : List ℕ) → AllBytes lent → command_made (SpliceCommand.PrivateCommand p) places lent ≡ made b
    → (command_of 0xff b ≡ Ok (SpliceCommand.PrivateCommand (moved p))) × Same private b (moved p) lent p
unfolding command_made command_of
private_command_write_read p places lent b a e =
    let i = private_write_read lent p b [] e refl in
    (ap (read SpliceCommand.PrivateCommand) (rw (append_nil b) at i.0), private_write_same lent p b a e)

-- an insert that is written was written by its table
pub insert_made_lem : (x : WithComponents SpliceInsert) (b : List ℕ) → insert_made x ≡ made b → (times_fit x.components ≡ true) × (make insert (writable_insert x) [] x ≡ made b)
unfolding insert_made
insert_made_lem x b e = go (times_fit x.components) refl e
  where
    go : (f : Bool) → times_fit x.components ≡ f → pick f (make insert (writable_insert x) [] x) (refused 32) ≡ made b → (times_fit x.components ≡ true) × (make insert (writable_insert x) [] x ≡ made b)
    go true h e = (h, e)
    go false h e = zero_one cc

-- it reads as that insert, with its components, as many as there are places for
pub insert_command_write_read : (i : SpliceInsert) (places : List InsertComponent) (lent b : List ℕ) → Counted (counted i places) → command_made (SpliceCommand.SpliceInsert i) places lent ≡ made b
    → (command_of 0x05 b ≡ Ok (SpliceCommand.SpliceInsert i)) × (parse insert (bits_of b) 0 ≡ got (counted i places) (length b * 8))
unfolding command_made command_of
insert_command_write_read i places lent b h e =
    let w = insert_write_read [] (counted i places) b [] h (insert_made_lem (counted i places) b e).1 in
    let p : parse insert (bits_of b) 0 ≡ got (counted i places) (length b * 8) = rw (append_nil b) at w.0 in
    (ap (read (λ (x : WithComponents SpliceInsert). SpliceCommand.SpliceInsert x.value)) p, p)

-- ---- read, then written: what is written of the reading of canonical bytes without a spare one is those bytes
pub time_command_read_write : (t : SpliceTime) (places : List InsertComponent) (s : List ℕ) → AllBytes s → parse splice_time (bits_of s) 0 ≡ got t (length s * 8) → canonical splice_time (bits_of s) 0 ≡ true
    → command_made (SpliceCommand.TimeSignal t) places s ≡ made s
unfolding command_made
time_command_read_write t places s a e c = sym (time_made t s) ∙ time_read_write s t a e c

pub private_command_read_write : (p : Private) (places : List InsertComponent) (s : List ℕ) → AllBytes s → parse private (bits_of s) 0 ≡ got p (length s * 8) → canonical private (bits_of s) 0 ≡ true
    → command_made (SpliceCommand.PrivateCommand p) places s ≡ made s
unfolding command_made
private_command_read_write p places s a e c = private_read_write s p a e c

-- of an insert whose components are as many as its mode says, and have times of 33 bits
pub insert_command_read_write : (x : WithComponents SpliceInsert) (s : List ℕ) → AllBytes s → parse insert (bits_of s) 0 ≡ got x (length s * 8) → canonical insert (bits_of s) 0 ≡ true
    → Counted x → times_fit x.components ≡ true → insert_made x ≡ made s
unfolding insert_made
insert_command_read_write x s a e c h t =
    rw t (sym (insert_made_of x.value.splice_event_id x.value.reserved x.value.splice_detail x.components s h) ∙ insert_read_write s x a e c)
