-- A section with its command, written and read.
--     command_write_read          what is written of a command reads as it, and is canonical
--     full_section_write_read       what is written of a header, a command and a loop reads as them, and is canonical
use Prim.Native.Nat.{ℕ, ◌^◌, ◌<◌}
use mathlib.Core.Bool.{Bool, true, false}
use mathlib.Core.List.{List, []}
use mathlib.Core.Path.{◌≡◌, refl, ap}
use native.Mathlib.Omega.{arith}
use Rattle.canonical_form.specs.Command.{canonical_command}
use Rattle.command.specs.Command.{private, read, command_of}
use Rattle.command.specs.Writable.{writable_insert}
use Rattle.command.specs.Insert.{WithComponents, insert}
use Rattle.command.specs.declared.SpliceCommand.{SpliceCommand}
use Rattle.command.specs.declared.components.InsertComponent.{InsertComponent}
use Rattle.command.specs.declared.insert.SpliceInsert.{SpliceInsert}
use Rattle.command.proofs.InsertLeads.{Counted}
use Rattle.command.proofs.InsertTrips.{insert_write_read}
use Rattle.command.proofs.PrivateTrips.{private_write_read}
use Rattle.command_measure.specs.Made.{counted, times_fit, insert_made, command_made}
use Rattle.command_writer.proofs.Theorems.{insert_made_lem}
use Rattle.splice_time.specs.Time.{splice_time, not_immediate}
use Rattle.header.specs.declared.header.SpliceInfoHeader.{SpliceInfoHeader}
use Rattle.splice_time.proofs.Times.{time_write_read}
use Rattle.section_writer.specs.Trips.{own_of, ReadsBack}
use Rattle.table.specs.Bits.{pick, bytes_of}
use Rattle.table.specs.Writing.{Field, seen, within, contents, print, walk, Made, made, refused, make_of, make}
use Rattle.table.proofs.Lists.{append_nil, zero_one}
use Rattle.section_writer.specs.Writing.{type_of, section_made}
use Rattle.section_writer.proofs.Commands.{null_canonical, bandwidth_canonical, time_canonical, insert_canonical, private_canonical}
use Rattle.section_writer.proofs.Theorems.{section_write_read, section_is_canonical}
use Rattle.section_writer.proofs.Trips.{section_wrote}
use Rattle.std.proofs.Common.{Ok}

-- an insert's places hold as many components as its mode says
abbrev pub Held : SpliceCommand → List InsertComponent → Type 0
Held SpliceCommand.SpliceNull cs = Unit {0}
Held (SpliceCommand.SpliceInsert i) cs = Counted (counted i cs)
Held (SpliceCommand.TimeSignal t) cs = Unit {0}
Held SpliceCommand.BandwidthReservation cs = Unit {0}
Held (SpliceCommand.PrivateCommand p) cs = Unit {0}

pub command_write_read : (c : SpliceCommand) (cs : List InsertComponent) (lent b : List ℕ) → Held c cs → command_made c cs lent ≡ made b
    → (command_of (type_of c) b ≡ Ok (own_of c)) × (canonical_command (type_of c) b ≡ true)
unfolding command_made command_of
command_write_read SpliceCommand.SpliceNull cs lent b h e =
    let n : [] ≡ b = cc in
    rw (← n) (refl, null_canonical)
command_write_read (SpliceCommand.SpliceInsert i) cs lent b h e =
    let m = (insert_made_lem (counted i cs) b e).1 in
    let w = insert_write_read [] (counted i cs) b [] h m in
    (ap (read (λ (x : WithComponents SpliceInsert). SpliceCommand.SpliceInsert x.value)) (rw (append_nil b) at w.0), insert_canonical [] (counted i cs) b h m)
command_write_read (SpliceCommand.TimeSignal t) cs lent b h e =
    let w = time_write_read [] t b [] e in
    (ap (read SpliceCommand.TimeSignal) (rw (append_nil b) at w.0), time_canonical [] t b e)
command_write_read SpliceCommand.BandwidthReservation cs lent b h e =
    let n : [] ≡ b = cc in
    rw (← n) (refl, bandwidth_canonical)
command_write_read (SpliceCommand.PrivateCommand p) cs lent b h e =
    let w = private_write_read lent p b [] e refl in
    (ap (read SpliceCommand.PrivateCommand) (rw (append_nil b) at w.0), private_canonical lent p b e)

-- ---- a command is refused by 31, 32 or 33 only
abbrev Other : ℕ → Type 0
Other n = (n ≡ 31 → ⊥) × (n ≡ 32 → ⊥) × (n ≡ 33 → ⊥)

make_refuses : (writable : Bool) (lent : List ℕ) (fs : List Field) (n : ℕ) → make_of writable lent fs ≡ refused n → Other n → ⊥
make_refuses writable lent fs n e o = go (seen lent fs) (within fs) writable e
  where
    go : (u v w : Bool) → pick u (pick v (pick w (made (bytes_of (print (contents lent fs)))) (refused 33)) (refused 32)) (refused 31) ≡ refused n → ⊥
    go false v w e = o.0 (let z : n ≡ 31 = cc in z)
    go true false w e = o.1 (let z : n ≡ 32 = cc in z)
    go true true false e = o.2 (let z : n ≡ 33 = cc in z)
    go true true true e = zero_one cc

insert_refuses : (x : WithComponents SpliceInsert) (n : ℕ) → insert_made x ≡ refused n → Other n → ⊥
unfolding insert_made
insert_refuses x n e o = go (times_fit x.components) e
  where
    go : (f : Bool) → pick f (make insert (writable_insert x) [] x) (refused 32) ≡ refused n → ⊥
    go true e = make_refuses (writable_insert x) [] (walk insert x 0).fields n e o
    go false e = o.1 (let z : n ≡ 32 = cc in z)

command_refuses : (c : SpliceCommand) (cs : List InsertComponent) (lent : List ℕ) (n : ℕ) → command_made c cs lent ≡ refused n → Other n → ⊥
unfolding command_made
command_refuses SpliceCommand.SpliceNull cs lent n e o = zero_one cc
command_refuses (SpliceCommand.SpliceInsert i) cs lent n e o = insert_refuses (counted i cs) n e o
command_refuses (SpliceCommand.TimeSignal t) cs lent n e o = make_refuses (not_immediate t) [] (walk splice_time t 0).fields n e o
command_refuses SpliceCommand.BandwidthReservation cs lent n e o = zero_one cc
command_refuses (SpliceCommand.PrivateCommand p) cs lent n e o = make_refuses true lent (walk private p 0).fields n e o

-- and no section is made of one that is
not_refused : (h : SpliceInfoHeader) (command_type : ℕ) (loop b : List ℕ) (n : ℕ) → section_made h (refused n) command_type loop ≡ made b → Other n
not_refused h command_type loop b n e = let w = section_wrote h (refused n) command_type loop b e in (w.seen, w.within, w.kept)

-- ---- the whole
type_is_byte : (c : SpliceCommand) → type_of c < 2 ^ 8
type_is_byte SpliceCommand.SpliceNull = omega arith
type_is_byte (SpliceCommand.SpliceInsert i) = omega arith
type_is_byte (SpliceCommand.TimeSignal t) = omega arith
type_is_byte SpliceCommand.BandwidthReservation = omega arith
type_is_byte (SpliceCommand.PrivateCommand p) = omega arith

pub full_section_write_read : (h : SpliceInfoHeader) (c : SpliceCommand) (cs : List InsertComponent) (lent loop b : List ℕ) → Held c cs
    → section_made h (command_made c cs lent) (type_of c) loop ≡ made b → ReadsBack h c cs lent loop b
full_section_write_read h c cs lent loop b held e = go (command_made c cs lent) refl
  where
    go : (m : Made) → command_made c cs lent ≡ m → ReadsBack h c cs lent loop b
    go (made p) q =
        let f : section_made h (made p) (type_of c) loop ≡ made b = rw q at e in
        let k = command_write_read c cs lent p held q in
        let r = section_write_read h p (type_of c) loop b (own_of c) (type_is_byte c) f k.0 in
        record { payload = p; command = q; reads = r.0; loops = r.1; form = section_is_canonical h p (type_of c) loop b (own_of c) (type_is_byte c) f k.0 k.1 }
    go (refused n) q = absurd (command_refuses c cs lent n q (not_refused h (type_of c) loop b n (rw q at e)))
