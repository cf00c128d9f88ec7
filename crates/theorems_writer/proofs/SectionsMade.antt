-- What is made of a section is fixed by the readers and the fields' widths.
--     written_back       a canonical section is what is made of its payload, its type and its loop, with any header that is its own but for the command's length and type
--     of_header          such a header passes the writer's tests of it
--     header_of          and one that passes them is that of a null with an empty loop
--     section_makes      so the answer is the relation's
--     one_section_made   and the relation leaves one
use Prim.Native.Nat.{ℕ, ◌-◌, ◌^◌, ◌≤◌, ◌<◌}
use mathlib.Core.Bool.{Bool, true, false, not, ◌&&◌}
use mathlib.Core.List.{List, [], ◌∷◌, ◌++◌}
use mathlib.Core.Logic.{◌⊎◌, inl, inr}
use mathlib.Core.Path.{◌≡◌, refl, ap, ap₂, sym, subst, ◌∙◌}
use native.Mathlib.Omega.{arith}
use lib.Dec.{ltb}
use lib.ListN.{length}
use borrow.Author.Tests.{ltb-true, ltb-false, lt-ltb, le-ltb}
use Rattle.command.specs.Command.{count_in}
use Rattle.command.specs.declared.SpliceCommand.{SpliceCommand}
use Rattle.command.specs.declared.components.InsertComponent.{InsertComponent}
use Rattle.command_measure.specs.Made.{command_made}
use Rattle.command_writer.proofs.Theorems.{null_command_write_read}
use Rattle.crc.specs.Crc.{crc_bytes_of}
use Rattle.canonical_form.specs.Descriptor.{canonical_from, canonical_loop}
use Rattle.descriptor_round_trips.specs.Making.{fit}
use Rattle.header.specs.Header.{splice_header}
use Rattle.header.specs.declared.header.SpliceInfoHeader.{SpliceInfoHeader}
use Rattle.bit_stores.proofs.Penned.{all_number}
use Rattle.bit_stores.specs.Written.{bytes_in}
use Rattle.section.specs.Section.{private_view, command_type, command_bytes, first, loop_bytes, section_length}
use Rattle.section_writer.proofs.Commands.{null_canonical}
use Rattle.section_writer.proofs.Frames.{frame_command_type, frame_command_bytes}
use Rattle.section_writer.proofs.Theorems.{section_read_write, section_write_read, section_is_canonical}
use Rattle.section_writer.proofs.Trips.{section_wrote}
use Rattle.section_writer.proofs.FullTrips.{Held}
use Rattle.section_writer.specs.Frame.{headed, header_bytes, opening, head, with_length, body, frame, numbers_fit, writable_head}
use Rattle.section_writer.specs.Writing.{type_of, unless, section_made}
use Rattle.table.proofs.Bits.{all_num, all_bytes_n}
use Rattle.names.specs.Algorithm.{algorithm_number, algorithm_of, writable_algorithm}
use Rattle.table.proofs.Lists.{zero_one, and_true}
use Rattle.theorems_reader.proofs.Theorems.{algorithms_go_by_their_table}
use Rattle.table.specs.Bits.{pick, bits_of_num, big_endian, AllBytes}
use Rattle.table.specs.Lent.{lies_in}
use Rattle.table.specs.Writing.{walk, contents, Made, made, refused}
use Rattle.theorems_writer.specs.Making.{header_numbers, command_numbers, HasHeader, SectionBytes, SectionMakes}
use Rattle.canonical_form.specs.Same.{SameHeader}
use Rattle.theorems_writer.proofs.Answers.{same_headed, own_header}
use Rattle.theorems_writer.proofs.CommandsMade.{made_bytes, is_outside, is_over, made_or_not, payload_made_lem, made_if_read}
use Rattle.theorems_writer.proofs.NumbersFit.{header_fits}
use Rattle.theorems_writer.proofs.WrittenBack.{held, section_reads}

-- ---- a section's bytes are bytes
joined : (a b : List ℕ) → AllBytes a → AllBytes b → AllBytes (a ++ b)
joined [] b h k = k
joined (x ∷ a) b h k = (h.0, joined a b h.1 k)

opening_bytes : (n : ℕ) → AllBytes (opening n)
unfolding opening
opening_bytes n =
    (omega arith, all_bytes_n 2 (0 ∷ 0 ∷ 1 ∷ 1 ∷ bits_of_num 12 (n - 3)) (omega arith, (omega arith, (omega arith, (omega arith, all_num 12 (n - 3))))))

frame_bytes : (h : SpliceInfoHeader) (command_type' : ℕ) (payload loop : List ℕ) → AllBytes payload → AllBytes loop → AllBytes (frame h command_type' payload loop)
unfolding frame body head header_bytes with_length
frame_bytes h command_type' payload loop a b =
    let n = length payload in
    let t = opening (section_length n (length loop)) ++ header_bytes (headed h n command_type') in
    let at : AllBytes t = joined (opening (section_length n (length loop))) (header_bytes (headed h n command_type')) (opening_bytes (section_length n (length loop))) (made_bytes (contents [] (walk splice_header (headed h n command_type') 0).fields)) in
    let l : AllBytes (with_length loop) = joined (big_endian 2 (length loop)) loop (all_number 2 (length loop)) b in
    joined (body h command_type' payload loop) (crc_bytes_of (body h command_type' payload loop)) (joined (t ++ payload) (with_length loop) (joined t payload at a) l) (all_number 4 _)

-- ---- the writer's tests
abbrev answer : Bool → Bool → Bool → Bool → List ℕ → Made
answer fits writable big form b =
    pick fits
    (pick writable
    (pick big (refused 34)
    (pick form (made b)
    (refused 35)))
    (refused 33))
    (refused 32)

tests : (fits writable big form : Bool) (b : List ℕ) → unless (first 31 (false ∷ not fits ∷ not writable ∷ big ∷ not form ∷ [])) b ≡ answer fits writable big form b
tests false writable big form b = refl
tests true false big form b = refl
tests true true true form b = refl
tests true true false false b = refl
tests true true false true b = refl

unwritable_tests : (fits big form : Bool) (b : List ℕ) → unless (first 31 (false ∷ not fits ∷ true ∷ big ∷ not form ∷ [])) b ≡ pick fits (refused 33) (refused 32)
unwritable_tests false big form b = refl
unwritable_tests true big form b = refl

module _ (h : SpliceInfoHeader) (command_type' : ℕ) (loop : List ℕ) where
  of_made : (p : List ℕ) → section_made h (made p) command_type' loop ≡ answer (fit (header_numbers h)) (writable_head h) (ltb 4096 (section_length (length p) (length loop))) (canonical_loop loop) (frame h command_type' p loop)
  unfolding section_made bytes_in
  of_made p =
      let big = ltb 4096 (section_length (length p) (length loop)) in
      tests (numbers_fit h) (writable_head h) big (canonical_loop loop) (frame h command_type' p loop)
      ∙ ap (λ (w : Bool). answer w (writable_head h) big (canonical_loop loop) (frame h command_type' p loop)) (header_fits h)

  of_31 : section_made h (refused 31) command_type' loop ≡ refused 31
  unfolding section_made
  of_31 = refl

  of_32 : section_made h (refused 32) command_type' loop ≡ refused 32
  unfolding section_made
  of_32 = refl

  of_33 : section_made h (refused 33) command_type' loop ≡ pick (fit (header_numbers h)) (refused 33) (refused 32)
  unfolding section_made bytes_in
  of_33 =
      unwritable_tests (numbers_fit h) (ltb 4096 (section_length 0 (length loop))) (canonical_loop loop) (frame h command_type' [] loop)
      ∙ ap (λ (w : Bool). pick w (refused 33) (refused 32)) (header_fits h)

-- ---- headers
-- the command's length and type are not looked at
headless : (h : SpliceInfoHeader) (m : Made) (command_type' : ℕ) (loop : List ℕ) → section_made h m command_type' loop ≡ section_made (headed h 0 0) m command_type' loop
unfolding section_made numbers_fit writable_head frame body head headed
headless h m command_type' loop = refl

by_header : (g h : SpliceInfoHeader) (m : Made) (command_type' : ℕ) (loop : List ℕ) → SameHeader g h → section_made g m command_type' loop ≡ section_made h m command_type' loop
by_header g h m command_type' loop e = headless g m command_type' loop ∙ ap (λ (x : SpliceInfoHeader). section_made x m command_type' loop) (same_headed g h e) ∙ sym (headless h m command_type' loop)

written_back : (h : SpliceInfoHeader) (s : List ℕ) → HasHeader h s → section_made h (made (command_bytes s)) (command_type s) (loop_bytes s) ≡ made s
written_back h s o =
    sym (by_header o.reading.header h (made (command_bytes s)) (command_type s) (loop_bytes s) o.same)
    ∙ section_read_write s o.reading o.bytes o.reads o.form

pub of_header : (h : SpliceInfoHeader) (s : List ℕ) → HasHeader h s → (fit (header_numbers h) ≡ true) × (writable_head h ≡ true)
of_header h s o =
    let w = section_wrote h (made (command_bytes s)) (command_type s) (loop_bytes s) s (written_back h s o) in
    (sym (header_fits h) ∙ w.fits, w.writable)

empty_loop : canonical_loop [] ≡ true
unfolding canonical_loop canonical_from
empty_loop = refl

pub header_of_lem : (h : SpliceInfoHeader) → fit (header_numbers h) ≡ true → writable_head h ≡ true → HasHeader h (frame h 0x00 [] [])
header_of_lem h fits writable =
    let b = frame h 0x00 [] [] in
    let e : section_made h (made []) 0x00 [] ≡ made b = of_made h 0x00 [] [] ∙ rw (fits, writable, empty_loop) in
    let n = (null_command_write_read [] []).1 in
    record {
      bytes = frame_bytes h 0x00 [] [] tt tt;
      form = section_is_canonical h [] 0x00 [] b SpliceCommand.SpliceNull (omega arith) e n null_canonical;
      reading = _;
      reads = (section_write_read h [] 0x00 [] b SpliceCommand.SpliceNull (omega arith) e n).0;
      same = own_header h 0 0x00;
    }

-- so a canonical section has exactly the headers that are not encrypted and whose algorithm is that of its own number
pub header_had : (h : SpliceInfoHeader) → fit (header_numbers h) ≡ true → h.encrypted_packet ≡ false → algorithm_of (algorithm_number h.encryption_algorithm) ≡ h.encryption_algorithm
    → (b : List ℕ) × HasHeader h b
unfolding writable_head
header_had h fits clear own = (frame h 0x00 [] [], header_of_lem h fits (rw (clear, algorithms_go_by_their_table.writably h.encryption_algorithm own)))

pub header_only : (h : SpliceInfoHeader) (b : List ℕ) → HasHeader h b
    → (fit (header_numbers h) ≡ true) × (h.encrypted_packet ≡ false) × (algorithm_of (algorithm_number h.encryption_algorithm) ≡ h.encryption_algorithm)
unfolding writable_head
header_only h b o =
    let w = of_header h b o in
    let a = and_true (not h.encrypted_packet) (writable_algorithm h.encryption_algorithm) w.1 in
    (w.0, clear h.encrypted_packet a.0, algorithms_go_by_their_table.own h.encryption_algorithm a.1)
  where
    clear : (e : Bool) → not e ≡ true → e ≡ false
    clear true z = zero_one cc
    clear false z = refl

-- ---- the relation
type_is_byte : (c : SpliceCommand) → type_of c < 2 ^ 8
type_is_byte SpliceCommand.SpliceNull = omega arith
type_is_byte (SpliceCommand.SpliceInsert i) = omega arith
type_is_byte (SpliceCommand.TimeSignal t) = omega arith
type_is_byte SpliceCommand.BandwidthReservation = omega arith
type_is_byte (SpliceCommand.PrivateCommand p) = omega arith

module _ (h : SpliceInfoHeader) (c : SpliceCommand) (places : List InsertComponent) (lent loop : List ℕ) (n : length places ≡ 255) (k : count_in c ≤ 255) where
  abbrev command : Made
  command = command_made c places lent

  abbrev overall : Made
  overall = section_made h command (type_of c) loop

  abbrev lies : Bool
  lies = lies_in lent (private_view c)

  abbrev fits : Bool
  fits = fit (header_numbers h) && fit (command_numbers c places)

  abbrev size : List ℕ → ℕ
  size p = section_length (length p) (length loop)

  places_held : Held c places
  places_held = held c places n k

  of_command : (m : Made) → command ≡ m → overall ≡ section_made h m (type_of c) loop
  of_command m e = ap (λ (x : Made). section_made h x (type_of c) loop) e

  as_31 : lies ≡ false → overall ≡ refused 31
  as_31 l = of_command (refused 31) (is_outside c places lent places_held l) ∙ of_31 h (type_of c) loop

  -- the header's numbers, where the command's fit
  head_over : fit (header_numbers h) ≡ false → (command ≡ refused 33) ⊎ ((p : List ℕ) × (command ≡ made p)) → overall ≡ refused 32
  head_over w (inl e) = of_command (refused 33) e ∙ of_33 h (type_of c) loop ∙ rw w
  head_over w (inr r) = of_command (made r.0) r.1 ∙ of_made h (type_of c) loop r.0 ∙ rw w

  as_32 : lies ≡ true → fits ≡ false → overall ≡ refused 32
  as_32 l w = go (fit (header_numbers h)) refl (fit (command_numbers c places)) refl w
    where
      go : (u : Bool) → fit (header_numbers h) ≡ u → (v : Bool) → fit (command_numbers c places) ≡ v → u && v ≡ false → overall ≡ refused 32
      go u f false g w = of_command (refused 32) (is_over c places lent places_held l g) ∙ of_32 h (type_of c) loop
      go false f true g w = head_over f (made_or_not c places lent places_held l g)
      go true f true g w = zero_one cc

  as_33 : fit (header_numbers h) ≡ true → command ≡ refused 33 → overall ≡ refused 33
  as_33 f e = of_command (refused 33) e ∙ of_33 h (type_of c) loop ∙ rw f

  module _ (p : List ℕ) (e : command ≡ made p) (f : fit (header_numbers h) ≡ true) where
    tested : overall ≡ answer (fit (header_numbers h)) (writable_head h) (ltb 4096 (size p)) (canonical_loop loop) (frame h (type_of c) p loop)
    tested = of_command (made p) e ∙ of_made h (type_of c) loop p

    head_unwritable : writable_head h ≡ false → overall ≡ refused 33
    head_unwritable g = tested ∙ rw (f, g)

    module _ (g : writable_head h ≡ true) where
      as_34 : 4096 < size p → overall ≡ refused 34
      as_34 s = tested ∙ rw (f, g, lt-ltb 4096 (size p) s)

      module _ (s : size p ≤ 4096) where
        as_35 : canonical_loop loop ≡ false → overall ≡ refused 35
        as_35 o = tested ∙ rw (f, g, le-ltb 4096 (size p) s, o)

        as_made : canonical_loop loop ≡ true → overall ≡ made (frame h (type_of c) p loop)
        as_made o = tested ∙ rw (f, g, le-ltb 4096 (size p) s, o)

        bytes_made : AllBytes lent → AllBytes loop → canonical_loop loop ≡ true → SectionBytes h c places lent loop (frame h (type_of c) p loop)
        bytes_made a b o =
            let q = payload_made_lem c places lent p n k a e in
            let r = section_reads h c places lent loop (frame h (type_of c) p loop) n k (as_made o) in
            record {
              header = record { bytes = frame_bytes h (type_of c) p loop q.bytes b; form = r.form; reading = _; reads = r.reads; same = own_header h (length r.payload) (type_of c) };
              type = frame_command_type h (type_of c) p loop (header_fits h ∙ f) g (type_is_byte c) s;
              command = rw (frame_command_bytes h (type_of c) p loop (header_fits h ∙ f) g (type_is_byte c) s) q;
              loops = r.loops;
            }

  module _ (a : AllBytes lent) (b : AllBytes loop) where
    pub section_makes : SectionMakes h c places lent loop overall
    section_makes = go lies refl fits refl
      where
        formed : lies ≡ true → fit (header_numbers h) ≡ true → writable_head h ≡ true → (p : List ℕ) → command ≡ made p → size p ≤ 4096 → (form : Bool) → canonical_loop loop ≡ form → SectionMakes h c places lent loop overall
        formed l f g p e s false o = rw (as_35 p e f g s o) (SectionMakes.other l _ p (header_of_lem h f g) (payload_made_lem c places lent p n k a e) s o)
        formed l f g p e s true o = rw (as_made p e f g s o) (SectionMakes.its l (frame h (type_of c) p loop) (bytes_made p e f g s a b o))

        sized : lies ≡ true → fit (header_numbers h) ≡ true → writable_head h ≡ true → (p : List ℕ) → command ≡ made p → (big : Bool) → ltb 4096 (size p) ≡ big → SectionMakes h c places lent loop overall
        sized l f g p e true s = rw (as_34 p e f g (ltb-true _ _ s)) (SectionMakes.long l _ p (header_of_lem h f g) (payload_made_lem c places lent p n k a e) (ltb-true _ _ s))
        sized l f g p e false s = formed l f g p e (ltb-false _ _ s) (canonical_loop loop) refl

        judged : lies ≡ true → fits ≡ true → (p : List ℕ) → command ≡ made p → (writable : Bool) → writable_head h ≡ writable → SectionMakes h c places lent loop overall
        judged l w p e false g =
            rw (head_unwritable p e (and_true (fit (header_numbers h)) (fit (command_numbers c places)) w).0 g)
            (SectionMakes.nobodys l w λ x y o q. zero_one (let z = (of_header h x o).1 in cc))
        judged l w p e true g = sized l (and_true (fit (header_numbers h)) (fit (command_numbers c places)) w).0 g p e (ltb 4096 (size p)) refl

        fitting : lies ≡ true → fits ≡ true → (command ≡ refused 33) ⊎ ((p : List ℕ) × (command ≡ made p)) → SectionMakes h c places lent loop overall
        fitting l w (inl e) =
            rw (as_33 (and_true (fit (header_numbers h)) (fit (command_numbers c places)) w).0 e)
            (SectionMakes.nobodys l w λ x p o q. zero_one (let z : refused 33 ≡ made p = sym e ∙ made_if_read c places lent p l q in cc))
        fitting l w (inr r) = judged l w r.0 r.1 (writable_head h) refl

        go : (u : Bool) → lies ≡ u → (v : Bool) → fits ≡ v → SectionMakes h c places lent loop overall
        go false l v w = rw (as_31 l) (SectionMakes.outside l)
        go true l false w = rw (as_32 l w) (SectionMakes.over l w)
        go true l true w = fitting l w (made_or_not c places lent places_held l (and_true (fit (header_numbers h)) (fit (command_numbers c places)) w).1)

    made_reads : (m : Made) (t : List ℕ) → SectionMakes h c places lent loop m → m ≡ made t → SectionBytes h c places lent loop t
    made_reads _ t (SectionMakes.outside l) e = zero_one cc
    made_reads _ t (SectionMakes.over l w) e = zero_one cc
    made_reads _ t (SectionMakes.nobodys l w none) e = zero_one cc
    made_reads _ t (SectionMakes.long l b p o q s) e = zero_one cc
    made_reads _ t (SectionMakes.other l b p o q s f) e = zero_one cc
    made_reads _ t (SectionMakes.its l u q) e =
        let z : u ≡ t = cc in
        subst (SectionBytes h c places lent loop) z q

    -- what is written reads as what was handed in
    pub section_reads_as : (t : List ℕ) → overall ≡ made t → SectionBytes h c places lent loop t
    section_reads_as t e = made_reads overall t section_makes e

    -- no other answer is in the relation
    only_made : (m : Made) → SectionMakes h c places lent loop m → m ≡ overall
    only_made _ (SectionMakes.outside l) = sym (as_31 l)
    only_made _ (SectionMakes.over l w) = sym (as_32 l w)
    only_made _ (SectionMakes.nobodys l w none) = go (made_or_not c places lent places_held l v.1) (writable_head h) refl
      where
        v : (fit (header_numbers h) ≡ true) × (fit (command_numbers c places) ≡ true)
        v = and_true (fit (header_numbers h)) (fit (command_numbers c places)) w

        go : (command ≡ refused 33) ⊎ ((p : List ℕ) × (command ≡ made p)) → (writable : Bool) → writable_head h ≡ writable → refused 33 ≡ overall
        go (inl e) writable g = sym (as_33 v.0 e)
        go (inr r) false g = sym (head_unwritable r.0 r.1 v.0 g)
        go (inr r) true g = absurd (none _ r.0 (header_of_lem h v.0 g) (payload_made_lem c places lent r.0 n k a r.1))
    only_made _ (SectionMakes.long l x p o q s) = let t = of_header h x o in sym (as_34 p (made_if_read c places lent p l q) t.0 t.1 s)
    only_made _ (SectionMakes.other l x p o q s f) = let t = of_header h x o in sym (as_35 p (made_if_read c places lent p l q) t.0 t.1 s f)
    only_made _ (SectionMakes.its l x q) =
        sym (of_command (made (command_bytes x)) (made_if_read c places lent (command_bytes x) l q.command)
        ∙ ap₂ (section_made h (made (command_bytes x))) (sym q.type) (sym q.loops)
        ∙ written_back h x q.header)

    pub one_section_made : (m o : Made) → SectionMakes h c places lent loop m → SectionMakes h c places lent loop o → m ≡ o
    one_section_made m o q r = only_made m q ∙ sym (only_made o r)
