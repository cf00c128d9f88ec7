-- A canonical section is what is written over C of what is read over C.
use Prim.Native.Nat.{ℕ, ◌+◌, ◌-◌, ◌≤◌}
use mathlib.Core.Logic.{◌⊎◌, inl, inr, ⊎_elim}
use mathlib.Core.Bool.{Bool, true, false, ◌&&◌}
use mathlib.Core.List.{List, ◌++◌}
use mathlib.Core.Path.{◌≡◌, refl, ap, sym, ◌∙◌}
use native.Mathlib.Omega.{arith}
use lib.Dec.{eqb}
use lib.ListN.{length, take, drop, replicate, length-append}
use lib.Seq.{length-take-le, take-add, drop_at}
use borrow.Author.Tests.{eqb-true}
use Rattle.command.specs.Command.{private, read, empty, command_of, array, components_of, count_in}
use Rattle.command.specs.Insert.{WithComponents, blank, count, insert, insert_of}
use Rattle.command.specs.declared.SpliceCommand.{SpliceCommand}
use Rattle.command.specs.declared.components.InsertComponent.{InsertComponent}
use Rattle.command.specs.declared.insert.SpliceInsert.{SpliceInsert}
use Rattle.command_measure.specs.Made.{command_made}
use Rattle.c_section.specs.Flat.{flat_header}
use Rattle.c_section.specs.FlatCommand.{flat_command, flat_insert_components}
use Rattle.c_section.specs.FlatSection.{flat_section_read}
use Rattle.c_section_writer.proofs.Answers as section
use Rattle.c_section_writer.specs.SectionGiven.{section_words_made}
use Rattle.c_section_writer.specs.SectionWords.{header_words, header_widths, section_fits}
use Rattle.c_section.specs.declared.commands.FlatCommand.{FlatCommand}
use Rattle.c_command_writer.specs.CommandGiven.{components_from, insert_components_within, own_insert_components, words_refusal, command_refusal, command_given}
use Rattle.c_command_writer.specs.CommandWords.{command_words, command_widths, places_given, command_seen, command_fits}
use Rattle.c_command_writer.proofs.Fits.{own_count}
use Rattle.c_command_writer.proofs.Given.{given_count}
use Rattle.c_command_writer.specs.Words.{within, places_of, each_place}
use Rattle.splice_time.specs.Time.{splice_time}
use Rattle.header.specs.declared.header.SpliceInfoHeader.{SpliceInfoHeader}
use Rattle.section.specs.Section.{command_length, command_type, command_bytes, moved, section_of}
use Rattle.section.specs.declared.Section.{Section}
use Rattle.section_writer.proofs.Heads.{clear}
use Rattle.section.proofs.Parts.{parts_of_lem}
use Rattle.section_writer.proofs.Trips.{section_wrote}
use Rattle.canonical_form.specs.Section.{canonical_section}
use Rattle.section_writer.specs.Frame.{writable_head}
use Rattle.section_writer.specs.Writing.{type_of, section_made}
use Rattle.table.proofs.Lists.{zero_one}
use Rattle.table.specs.Bits.{pick, bits_of, AllBytes}
use Rattle.table.specs.Lent.{viewed}
use Rattle.table.specs.Table.{Answer, got, short, parse}
use Rattle.table.specs.Writing.{Made, made}
use Rattle.theorems_c.specs.OverC.{insert_components_words, components_answered}
use Rattle.theorems_writer.proofs.InsertsRead.{insert_has}
use Rattle.theorems_c.proofs.OverC.{same_self, section_taken}
use Rattle.theorems_writer.proofs.WrittenBack.{section_back}
use Rattle.std.proofs.Common.{Ok, Err, Result}
use Rattle.command.specs.declared.CommandRefusal.{CommandRefusal}

-- ---- of a payload that is read, the components that the command counts are there
insert_there : (p : List ℕ) (x : WithComponents SpliceInsert) (m : ℕ) → parse insert (bits_of p) 0 ≡ got x m → count (insert_of x.value.splice_detail).splice_mode ≤ length (components_of p)
unfolding components_of array
insert_there p x m e =
    let h = (insert_has p x m e).0 in
    let a : components_of p ≡ x.components ++ replicate (255 - length x.components) blank = rw e in
    omega (arith, h, ap length a, length-append x.components (replicate (255 - length x.components) blank))

empty_count : (k c : SpliceCommand) (p : List ℕ) → count_in k ≡ 0 → empty k p ≡ Ok c → count_in c ≡ 0
empty_count k c p z e = go (eqb (length p) 0) e
  where
    go : (b : Bool) → pick b (Ok k) (Err CommandRefusal.Malformed) ≡ Ok c → count_in c ≡ 0
    go true e = let i : c ≡ k = cc in ap count_in i ∙ z
    go false e = zero_one cc

read_count : {X : Type 0} (f : X → SpliceCommand) (r : Answer X) (c : SpliceCommand) → ((x : X) → count_in (f x) ≡ 0) → read f r ≡ Ok c → count_in c ≡ 0
read_count f (got x at) c z e = let i : c ≡ f x = cc in ap count_in i ∙ z x
read_count f (short expected actual) c z e = zero_one cc

insert_count_lem : (p : List ℕ) (c : SpliceCommand) → read (λ (x : WithComponents SpliceInsert). SpliceCommand.SpliceInsert x.value) (parse insert (bits_of p) 0) ≡ Ok c → count_in c ≤ length (components_of p)
insert_count_lem p c e = go (parse insert (bits_of p) 0) refl e
  where
    go : (r : Answer (WithComponents SpliceInsert)) → parse insert (bits_of p) 0 ≡ r → read (λ (x : WithComponents SpliceInsert). SpliceCommand.SpliceInsert x.value) r ≡ Ok c → count_in c ≤ length (components_of p)
    go (got x m) i e =
        let j : c ≡ SpliceCommand.SpliceInsert x.value = cc in
        omega (arith, insert_there p x m i, ap count_in j)
    go (short expected actual) i e = zero_one cc

count_there : (command_type' : ℕ) (p : List ℕ) (c : SpliceCommand) → command_of command_type' p ≡ Ok c → count_in c ≤ length (components_of p)
unfolding command_of
count_there command_type' p c f = go (eqb command_type' 0x00) (eqb command_type' 0x05) (eqb command_type' 0x06) (eqb command_type' 0x07) (eqb command_type' 0xff) f
  where
    go : (b₀ b₅ b₆ b₇ b₈ : Bool)
        → pick b₀ (empty SpliceCommand.SpliceNull p) (pick b₅ (read (λ x. SpliceCommand.SpliceInsert x.value) (parse insert (bits_of p) 0)) (pick b₆ (read SpliceCommand.TimeSignal (parse splice_time (bits_of p) 0))
        (pick b₇ (empty SpliceCommand.BandwidthReservation p) (pick b₈ (read SpliceCommand.PrivateCommand (parse private (bits_of p) 0)) (Err CommandRefusal.UnknownType))))) ≡ Ok c
        → count_in c ≤ length (components_of p)
    go true b₅ b₆ b₇ b₈ e = omega (arith, empty_count SpliceCommand.SpliceNull c p refl e)
    go false true b₆ b₇ b₈ e = insert_count_lem p c e
    go false false true b₇ b₈ e = omega (arith, read_count SpliceCommand.TimeSignal (parse splice_time (bits_of p) 0) c (λ x. refl) e)
    go false false false true b₈ e = omega (arith, empty_count SpliceCommand.BandwidthReservation c p refl e)
    go false false false false true e = omega (arith, read_count SpliceCommand.PrivateCommand (parse private (bits_of p) 0) c (λ x. refl) e)
    go false false false false false e = zero_one cc

-- ---- as in a section, where the payload starts at byte 14
moved_count : (c : SpliceCommand) → count_in (moved 14 c) ≡ count_in c
unfolding moved
moved_count SpliceCommand.SpliceNull = refl
moved_count (SpliceCommand.SpliceInsert x) = refl
moved_count (SpliceCommand.TimeSignal t) = refl
moved_count SpliceCommand.BandwidthReservation = refl
moved_count (SpliceCommand.PrivateCommand p) = refl

moved_insert_components : (c : SpliceCommand) (cs : List InsertComponent) → flat_insert_components (Ok c) cs ≡ flat_insert_components (Ok (moved 14 c)) cs
unfolding moved flat_insert_components flat_command
moved_insert_components SpliceCommand.SpliceNull cs = refl
moved_insert_components (SpliceCommand.SpliceInsert x) cs = refl
moved_insert_components (SpliceCommand.TimeSignal t) cs = refl
moved_insert_components SpliceCommand.BandwidthReservation cs = refl
moved_insert_components (SpliceCommand.PrivateCommand p) cs = refl

-- ---- the section
section_made_lem : (h : SpliceInfoHeader) (m : Made) (command_type' : ℕ) (loop b : List ℕ) → section_made h m command_type' loop ≡ made b → writable_head h ≡ true
section_made_lem h m command_type' loop b e = (section_wrote h m command_type' loop b e).writable

-- what is read over C of a section, and of its command's components
flat_header_lem : (s : List ℕ) (x : Section) → section_of s ≡ Ok x → (flat_section_read (section_of s)).header ≡ flat_header x.header
unfolding flat_section_read
flat_header_lem s x e = rw e

flat_command_lem : (s : List ℕ) (x : Section) → section_of s ≡ Ok x → (flat_section_read (section_of s)).command ≡ flat_command x.command
unfolding flat_section_read
flat_command_lem s x e = rw e

same_words : {h k c d v w : List ℕ} (lent loop : List ℕ) → h ≡ k → c ≡ d → v ≡ w → section_words_made h c v lent loop ≡ section_words_made k d w lent loop
same_words lent loop e f g = rw (e, f, g)

by_payload : (s : List ℕ) (x : Section) → AllBytes s → section_of s ≡ Ok x → canonical_section s ≡ true
    → section_words_made (header_words (flat_section_read (section_of s)).header) (command_words (flat_section_read (section_of s)).command)
    (insert_components_words (flat_insert_components (command_of (command_type s) (command_bytes s)) (components_of (command_bytes s)))) s (viewed s x.descriptors) ≡ made s
by_payload s x a e c =
    let p = parts_of_lem s x e in
    let own = p.own in
    let payload = command_bytes s in
    let places = components_of payload in
    let there : count_in own ≤ length places = count_there (command_type s) payload own p.command in
    let m = section_back s x a e c in
    let h = section_made_lem x.header (command_made x.command places s) (type_of x.command) (viewed s x.descriptors) s m in
    let k : count_in x.command ≡ count_in own = ap count_in p.moves ∙ moved_count own in
    let splices : flat_insert_components (command_of (command_type s) payload) places ≡ flat_insert_components (Ok x.command) places =
    ap (λ (r : Result SpliceCommand CommandRefusal). flat_insert_components r places) p.command ∙ moved_insert_components own places ∙ sym (ap (λ (d : SpliceCommand). flat_insert_components (Ok d) places) p.moves) in
    same_words s (viewed s x.descriptors) (ap header_words (flat_header_lem s x e)) (ap command_words (flat_command_lem s x e)) (ap insert_components_words splices)
    ∙ section_taken places s (omega (arith, p.short)) x.command (omega (arith, there, k)) x.header (clear x.header h).1 (viewed s x.descriptors) ∙ m

-- ---- words of components that a command does not count
and_false : (b : Bool) → b && false ≡ false
and_false true = refl
and_false false = refl

uncounted_given : (header command v w lent loop : List ℕ) → count_in (command_given command) ≡ 0 → section_words_made header command v lent loop ≡ section_words_made header command w lent loop
unfolding section_words_made command_refusal words_refusal insert_components_within own_insert_components components_from each_place places_of
uncounted_given header command v w lent loop e = rw e

pub uncounted : (header command v w lent loop : List ℕ) → places_given command ≡ 0 → section_words_made header command v lent loop ≡ section_words_made header command w lent loop
unfolding section_fits command_fits
uncounted header command v w lent loop e = go (within command_widths command) refl (command_seen command lent) refl
  where
    over : within command_widths command ≡ false → (v : List ℕ) → section_fits header command v ≡ false
    over f v = rw f (and_false (within header_widths header))

    go : (b : Bool) → within command_widths command ≡ b → (s : Bool) → command_seen command lent ≡ s → section_words_made header command v lent loop ≡ section_words_made header command w lent loop
    go true f s g = uncounted_given header command v w lent loop (given_count command f ∙ e)
    go false f false g = section.made_outside header command v lent loop g ∙ sym (section.made_outside header command w lent loop g)
    go false f true g = section.made_over header command v lent loop g (over f v) ∙ sym (section.made_over header command w lent loop g (over f w))

-- ---- over C the components are read of the section's bytes up to its command's end
payload_is : (s : List ℕ) → 14 ≤ length s → drop 14 (take (14 + command_length s) s) ≡ command_bytes s
unfolding command_bytes
payload_is s h = ap (drop 14) (take-add 14 (command_length s) s) ∙ drop_at (take 14 s) (take (command_length s) (drop 14 s)) 14 (length-take-le 14 s h)

-- only an insert counts components
counts_by_type : (command_type' : ℕ) (p : List ℕ) (c : SpliceCommand) → command_of command_type' p ≡ Ok c → (command_type' ≡ 0x05) ⊎ (count_in c ≡ 0)
unfolding command_of
counts_by_type command_type' p c f = go (eqb command_type' 0x00) (eqb command_type' 0x05) refl (eqb command_type' 0x06) (eqb command_type' 0x07) (eqb command_type' 0xff) f
  where
    go : (b₀ b₅ : Bool) → eqb command_type' 0x05 ≡ b₅ → (b₆ b₇ b₈ : Bool)
        → pick b₀ (empty SpliceCommand.SpliceNull p) (pick b₅ (read (λ x. SpliceCommand.SpliceInsert x.value) (parse insert (bits_of p) 0)) (pick b₆ (read SpliceCommand.TimeSignal (parse splice_time (bits_of p) 0))
        (pick b₇ (empty SpliceCommand.BandwidthReservation p) (pick b₈ (read SpliceCommand.PrivateCommand (parse private (bits_of p) 0)) (Err CommandRefusal.UnknownType))))) ≡ Ok c
        → (command_type' ≡ 0x05) ⊎ (count_in c ≡ 0)
    go true b₅ i b₆ b₇ b₈ e = inr (empty_count SpliceCommand.SpliceNull c p refl e)
    go false true i b₆ b₇ b₈ e = inl (eqb-true _ _ i)
    go false false i true b₇ b₈ e = inr (read_count SpliceCommand.TimeSignal (parse splice_time (bits_of p) 0) c (λ x. refl) e)
    go false false i false true b₈ e = inr (empty_count SpliceCommand.BandwidthReservation c p refl e)
    go false false i false false true e = inr (read_count SpliceCommand.PrivateCommand (parse private (bits_of p) 0) c (λ x. refl) e)
    go false false i false false false e = zero_one cc

pub section_again : (s : List ℕ) (x : Section) → AllBytes s → section_of s ≡ Ok x → canonical_section s ≡ true
    → section_words_made (header_words (flat_section_read (section_of s)).header) (command_words (flat_section_read (section_of s)).command) (insert_components_words (components_answered s)) s (viewed s x.descriptors) ≡ made s
section_again s x a e c =
    let p = parts_of_lem s x e in
    let payload = payload_is s (omega (arith, p.long)) in
    let answer : Result SpliceCommand CommandRefusal → List ℕ → List ℕ = λ r bytes. insert_components_words (flat_insert_components r (components_of bytes)) in
    let header = header_words (flat_section_read (section_of s)).header in
    let command = command_words (flat_section_read (section_of s)).command in
    let insert : command_type s ≡ 0x05 → section_words_made header command (insert_components_words (components_answered s)) s (viewed s x.descriptors) ≡ made s =
    λ k. ap (λ (w : List ℕ). section_words_made header command w s (viewed s x.descriptors))
    (ap (λ (q : List ℕ). answer (command_of 0x05 q) q) payload ∙ sym (ap (λ (n : ℕ). answer (command_of n (command_bytes s)) (command_bytes s)) k)) ∙ by_payload s x a e c in
    let other : count_in p.own ≡ 0 → section_words_made header command (insert_components_words (components_answered s)) s (viewed s x.descriptors) ≡ made s =
    λ z. uncounted header command _ _ s (viewed s x.descriptors)
    (ap (λ (f : FlatCommand). places_given (command_words f)) (flat_command_lem s x e) ∙ own_count x.command (command_words (flat_command x.command)) (same_self (command_words (flat_command x.command)))
    ∙ ap count_in p.moves ∙ moved_count p.own ∙ z)
    ∙ by_payload s x a e c in
    ⊎_elim insert other (counts_by_type (command_type s) (command_bytes s) p.own p.command)
