-- A canonical command is what is written of its own reading, and so is a canonical section of its own.
use Prim.Native.Nat.{ℕ, ◌+◌, ◌*◌, ◌-◌, ◌≤◌}
use mathlib.Core.Bool.{Bool, true, false}
use mathlib.Core.List.{List, [], ◌∷◌}
use mathlib.Core.Path.{◌≡◌, refl, ap, sym, ◌∙◌}
use native.Mathlib.Omega.{arith}
use lib.Dec.{leb, eqb}
use lib.ListN.{length, replicate, take, drop, length-take, length-drop}
use lib.Seq.{take_at, length-take-le}
use borrow.Author.Tests.{eqb-true, le-leb, leb-true}
use Rattle.canonical_form.specs.Command.{canonical_command}
use Rattle.command.proofs.InsertLeads.{Counted}
use Rattle.command.specs.Command.{private, read, empty, command_of, count_in, array, components_of}
use Rattle.command.specs.Insert.{WithComponents, insert, blank, count, insert_of}
use Rattle.command.specs.declared.SpliceCommand.{SpliceCommand}
use Rattle.command.specs.declared.components.InsertComponent.{InsertComponent}
use Rattle.command.specs.declared.insert.SpliceInsert.{SpliceInsert}
use Rattle.command_measure.specs.Made.{counted, insert_made, command_made}
use Rattle.command_writer.proofs.Theorems.{insert_command_write_read, time_command_read_write, private_command_read_write, insert_command_read_write}
use Rattle.splice_time.specs.Time.{splice_time}
use Rattle.header.specs.declared.header.SpliceInfoHeader.{SpliceInfoHeader}
use Rattle.table.proofs.Lists.{run_of_run, zero_one, and_true}
use Rattle.section.specs.Section.{command_length, command_type, command_bytes, moved, section_of}
use Rattle.section.specs.declared.Section.{Section}
use Rattle.section_writer.proofs.Commands.{Read, read_by}
use Rattle.section.proofs.Parts.{parts_of_lem}
use Rattle.section_writer.proofs.Theorems.{canonical_parts, section_read_write}
use Rattle.section_writer.proofs.FullTrips.{Held, full_section_write_read}
use Rattle.canonical_form.specs.Section.{canonical_section}
use Rattle.section_writer.specs.Trips.{ReadsBack}
use Rattle.section_writer.specs.Writing.{type_of, section_made}
use Rattle.table.proofs.Structure.{wrote, bytes_take, bytes_drop}
use Rattle.table.specs.Bits.{pick, bits_of, AllBytes}
use Rattle.table.specs.Lent.{viewed}
use Rattle.table.specs.Table.{number, part, remaining, Answer, got, parse, canonical_by}
use Rattle.table.specs.Writing.{walk, Made, made, make}
use Rattle.theorems_writer.proofs.InsertsRead.{insert_has}
use Rattle.std.proofs.Common.{Ok, Err, Result}
use Rattle.command.specs.declared.CommandRefusal.{CommandRefusal}

none : (p : List ℕ) → eqb (length p) 0 ≡ true → p ≡ []
none [] e = refl
none (a ∷ p) e = absurd (omega (arith, eqb-true (length (a ∷ p)) 0 e))

-- ---- the reading of a payload
empty_is : (k c : SpliceCommand) (p : List ℕ) → eqb (length p) 0 ≡ true → empty k p ≡ Ok c → c ≡ k
empty_is k c p e f =
    let g : ◌≡◌ {A = Result SpliceCommand CommandRefusal} (Ok k) (Ok c) = rw e at f in
    cc

read_is : {X : Type 0} (f : X → SpliceCommand) (r : Answer X) (x : X) (m : ℕ) (c : SpliceCommand) → r ≡ got x m → read f r ≡ Ok c → c ≡ f x
read_is f r x m c e g =
    let h : Ok (f x) ≡ Ok c = rw e at g in
    cc

-- the components that stand in their array are those that were read
pub counted_is : (x : WithComponents SpliceInsert) → Counted x → counted x.value (array x.components) ≡ x
unfolding array
counted_is x h =
    ap (λ (cs : List InsertComponent). record { value = x.value; components = cs })
    (take_at x.components (replicate (255 - length x.components) blank) _ h)

pub components_are : (p : List ℕ) (x : WithComponents SpliceInsert) (m : ℕ) → parse insert (bits_of p) 0 ≡ got x m → components_of p ≡ array x.components
unfolding components_of
components_are p x m e = rw e

-- ---- written of its reading
module _ (command_type' : ℕ) (p : List ℕ) (a : AllBytes p) where
  abbrev pub Back : SpliceCommand → Type 0
  Back c = (type_of c ≡ command_type') × (command_made c (components_of p) p ≡ made p)

  null_back : eqb command_type' 0x00 ≡ true → eqb (length p) 0 ≡ true → Back SpliceCommand.SpliceNull
  unfolding command_made
  null_back k e = (sym (eqb-true command_type' 0x00 k), ap made (sym (none p e)))

  bandwidth_back : eqb command_type' 0x07 ≡ true → eqb (length p) 0 ≡ true → Back SpliceCommand.BandwidthReservation
  unfolding command_made
  bandwidth_back k e = (sym (eqb-true command_type' 0x07 k), ap made (sym (none p e)))

  signal_back : eqb command_type' 0x06 ≡ true → (r : Read splice_time p) → Back (SpliceCommand.TimeSignal r.value)
  signal_back k r = (sym (eqb-true command_type' 0x06 k), time_command_read_write r.value (components_of p) p a r.reads r.form)

  own_back : eqb command_type' 0xff ≡ true → (r : Read private p) → Back (SpliceCommand.PrivateCommand r.value)
  own_back k r = (sym (eqb-true command_type' 0xff k), private_command_read_write r.value (components_of p) p a r.reads r.form)

  inserted_back : eqb command_type' 0x05 ≡ true → (r : Read insert p) → Back (SpliceCommand.SpliceInsert r.value.value)
  unfolding command_made
  inserted_back k r =
      let x = r.value in
      let h = insert_has p x _ r.reads in (
        sym (eqb-true command_type' 0x05 k),
        ap insert_made (ap (counted x.value) (components_are p x _ r.reads) ∙ counted_is x h.0) ∙ insert_command_read_write x p a r.reads r.form h.0 h.1,
      )

  pub command_back : (c : SpliceCommand) → canonical_command command_type' p ≡ true → command_of command_type' p ≡ Ok c → Back c
  unfolding canonical_command command_of
  command_back c e f = go (eqb command_type' 0x00) refl (eqb command_type' 0x05) refl (eqb command_type' 0x06) refl (eqb command_type' 0x07) refl (eqb command_type' 0xff) refl e f
    where
      go : (b₀ : Bool) → eqb command_type' 0x00 ≡ b₀ → (b₅ : Bool) → eqb command_type' 0x05 ≡ b₅ → (b₆ : Bool) → eqb command_type' 0x06 ≡ b₆ → (b₇ : Bool) → eqb command_type' 0x07 ≡ b₇ → (b₈ : Bool) → eqb command_type' 0xff ≡ b₈
          → pick b₀ (eqb (length p) 0) (pick b₅ (canonical_by insert p) (pick b₆ (canonical_by splice_time p) (pick b₇ (eqb (length p) 0) (pick b₈ (canonical_by private p) false)))) ≡ true
          → pick b₀ (empty SpliceCommand.SpliceNull p) (pick b₅ (read (λ x. SpliceCommand.SpliceInsert x.value) (parse insert (bits_of p) 0)) (pick b₆ (read SpliceCommand.TimeSignal (parse splice_time (bits_of p) 0))
          (pick b₇ (empty SpliceCommand.BandwidthReservation p) (pick b₈ (read SpliceCommand.PrivateCommand (parse private (bits_of p) 0)) (Err CommandRefusal.UnknownType))))) ≡ Ok c
          → Back c
      go true k₀ b₅ k₅ b₆ k₆ b₇ k₇ b₈ k₈ e f = rw (empty_is SpliceCommand.SpliceNull c p e f) (null_back k₀ e)
      go false k₀ true k₅ b₆ k₆ b₇ k₇ b₈ k₈ e f =
          let r = read_by insert p e in
          rw (read_is (λ x. SpliceCommand.SpliceInsert x.value) _ r.value _ c r.reads f) (inserted_back k₅ r)
      go false k₀ false k₅ true k₆ b₇ k₇ b₈ k₈ e f =
          let r = read_by splice_time p e in
          rw (read_is SpliceCommand.TimeSignal _ r.value _ c r.reads f) (signal_back k₆ r)
      go false k₀ false k₅ false k₆ true k₇ b₈ k₈ e f = rw (empty_is SpliceCommand.BandwidthReservation c p e f) (bandwidth_back k₇ e)
      go false k₀ false k₅ false k₆ false k₇ true k₈ e f =
          let r = read_by private p e in
          rw (read_is SpliceCommand.PrivateCommand _ r.value _ c r.reads f) (own_back k₈ r)
      go false k₀ false k₅ false k₆ false k₇ false k₈ e f = zero_one cc

-- ---- in a section, where the payload starts at byte 14
type_stays : (c : SpliceCommand) → type_of (moved 14 c) ≡ type_of c
unfolding moved
type_stays SpliceCommand.SpliceNull = refl
type_stays (SpliceCommand.SpliceInsert i) = refl
type_stays (SpliceCommand.TimeSignal t) = refl
type_stays SpliceCommand.BandwidthReservation = refl
type_stays (SpliceCommand.PrivateCommand p) = refl

-- a private command's bytes are the same run, counted from the section's first byte
private_stays : (s : List ℕ) (n : ℕ) (id at len : ℕ) → 14 ≤ length s → make private true (take n (drop 14 s)) (record { identifier = id; private_bytes = record { at = at; len = len } }) ≡ made (take n (drop 14 s))
    → make private true s (record { identifier = id; private_bytes = record { at = 14 + at; len = len } }) ≡ made (take n (drop 14 s))
unfolding private number remaining part
private_stays s n id at len h e =
    let payload = take n (drop 14 s) in
    let w = wrote true payload (walk private (record { identifier = id; private_bytes = record { at = at; len = len } }) 0).fields payload e in
    let i : at + len ≤ length payload = leb-true (at + len) (length payload) (and_true (leb (at + len) (length payload)) _ w.views).0 in
    let l : length payload ≤ length s - 14 = omega (arith, length-take n (drop 14 s), length-drop 14 s) in
    let b : at + len ≤ n = omega (arith, length-take n (drop 14 s)) in
    let there : leb (14 + at + len) (length s) ≡ true = le-leb (14 + at + len) (length s) (omega arith) in
    let here : leb (at + len) (length payload) ≡ true = le-leb (at + len) (length payload) i in
    let same : take len (drop at payload) ≡ take len (drop (14 + at) s) = run_of_run s 14 n at len b in
    rw (there, ← same) (rw here at e)

made_stays : (c : SpliceCommand) (places : List InsertComponent) (s : List ℕ) (n : ℕ) → 14 ≤ length s → command_made c places (take n (drop 14 s)) ≡ made (take n (drop 14 s))
    → command_made (moved 14 c) places s ≡ made (take n (drop 14 s))
unfolding moved command_made
made_stays SpliceCommand.SpliceNull places s n h e = e
made_stays (SpliceCommand.SpliceInsert i) places s n h e = e
made_stays (SpliceCommand.TimeSignal t) places s n h e = e
made_stays SpliceCommand.BandwidthReservation places s n h e = e
made_stays (SpliceCommand.PrivateCommand p) places s n h e = private_stays s n p.identifier p.private_bytes.at p.private_bytes.len h e

made_there : (c : SpliceCommand) (places : List InsertComponent) (s : List ℕ) → 14 ≤ length s → command_made c places (command_bytes s) ≡ made (command_bytes s)
    → command_made (moved 14 c) places s ≡ made (command_bytes s)
unfolding command_bytes
made_there c places s h e = made_stays c places s (command_length s) h e

pub payload_bytes : (s : List ℕ) → AllBytes s → AllBytes (command_bytes s)
unfolding command_bytes
payload_bytes s a = bytes_take (command_length s) (drop 14 s) (bytes_drop 14 s a)

same_made : (h : SpliceInfoHeader) (b : List ℕ) {c d : Made} {k l : ℕ} {p q : List ℕ} → c ≡ d → k ≡ l → p ≡ q → section_made h d l q ≡ made b → section_made h c k p ≡ made b
same_made h b e f g i = rw (e, f, g) i

-- the command's type, and its payload written of the command as the section's reading has it
pub payload_read_write : (s : List ℕ) (x : Section) → AllBytes s → section_of s ≡ Ok x → canonical_section s ≡ true
    → (type_of x.command ≡ command_type s) × (command_made x.command (components_of (command_bytes s)) s ≡ made (command_bytes s))
payload_read_write s x a e c =
    let p = parts_of_lem s x e in
    let b = command_back (command_type s) (command_bytes s) (payload_bytes s a) p.own (canonical_parts s c).command p.command in
    let m : command_made (moved 14 p.own) (components_of (command_bytes s)) s ≡ made (command_bytes s) = made_there p.own (components_of (command_bytes s)) s (omega (arith, p.long)) b.1 in
    (ap type_of p.moves ∙ type_stays p.own ∙ b.0, ap (λ (c : SpliceCommand). command_made c (components_of (command_bytes s)) s) p.moves ∙ m)

pub section_back : (s : List ℕ) (x : Section) → AllBytes s → section_of s ≡ Ok x → canonical_section s ≡ true
    → section_made x.header (command_made x.command (components_of (command_bytes s)) s) (type_of x.command) (viewed s x.descriptors) ≡ made s
section_back s x a e c =
    let b = payload_read_write s x a e c in
    same_made x.header s b.1 b.0 (ap (viewed s) (parts_of_lem s x e).loop) (section_read_write s x a e c)

-- ---- written, then read: an array of 255 places holds as many components as a count of one byte says
pub held : (c : SpliceCommand) (places : List InsertComponent) → length places ≡ 255 → count_in c ≤ 255 → Held c places
held SpliceCommand.SpliceNull places n k = tt
held (SpliceCommand.SpliceInsert i) places n k = length-take-le (count (insert_of i.splice_detail).splice_mode) places (omega (arith, n, k))
held (SpliceCommand.TimeSignal t) places n k = tt
held SpliceCommand.BandwidthReservation places n k = tt
held (SpliceCommand.PrivateCommand p) places n k = tt

pub section_reads : (h : SpliceInfoHeader) (c : SpliceCommand) (places : List InsertComponent) (lent loop b : List ℕ) → length places ≡ 255 → count_in c ≤ 255
    → section_made h (command_made c places lent) (type_of c) loop ≡ made b → ReadsBack h c places lent loop b
section_reads h c places lent loop b n k e = full_section_write_read h c places lent loop b (held c places n k) e

-- an insert's components, in the array that is read of its payload
pub components_read : (i : SpliceInsert) (places : List InsertComponent) (lent b : List ℕ) → length places ≡ 255 → count_in (SpliceCommand.SpliceInsert i) ≤ 255
    → command_made (SpliceCommand.SpliceInsert i) places lent ≡ made b → components_of b ≡ array (counted i places).components
components_read i places lent b n k e =
    components_are b (counted i places) (length b * 8) (insert_command_write_read i places lent b (held (SpliceCommand.SpliceInsert i) places n k) e).1
