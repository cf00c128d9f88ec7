-- What readers do not look at: section_length, and bytes behind a command's last field. And the range of a section's refusals.
use Prim.Native.Nat.{ℕ, ◌+◌, ◌*◌, ◌-◌, ◌≤◌}
use mathlib.Core.Bool.{Bool}
use mathlib.Core.List.{List, ◌∷◌, ◌++◌}
use mathlib.Core.Path.{◌≡◌, refl, ap, sym, ◌∙◌}
use native.Mathlib.Omega.{arith}
use lib.Dec.{eqb}
use lib.ListN.{length, take, drop, get_or, length-append, length-drop, get_or-append}
use lib.Seq.{drop-append-add, drop-append-le, take-append-le}
use borrow.Author.Tests.{lt-ltb}
use Rattle.command.specs.Command.{read, command_of}
use Rattle.command.specs.Insert.{WithComponents, blank, time_unless, component, moded, ending, active, insert}
use Rattle.splice_time.specs.Break.{break_duration}
use Rattle.command.specs.declared.SpliceCommand.{SpliceCommand}
use Rattle.command.specs.declared.insert.SpliceMode.{SpliceMode}
use Rattle.crc.specs.Crc.{crc_of}
use Rattle.header.proofs.Headers.{header_got}
use Rattle.header.specs.Header.{splice_header, header_read, header_of}
use Rattle.splice_time.specs.Time.{splice_time}
use Rattle.section.proofs.Framing.{framed}
use Rattle.section.specs.Section.{command_length, command_type, command_bytes, room_after, loop_length, loop_place, frame_in, frame_of, moved_read, through, section_of, number_of}
use Rattle.section.specs.declared.Refusal.{Refusal}
use Rattle.table.proofs.Bits.{length_bits, bits_append}
use Rattle.table.proofs.Lists.{zero_one}
use Rattle.table.proofs.Longer.{Blind, tolerates, blind_inside, blind_pick, blind_list}
use Rattle.table.specs.Bits.{bits_of_num, bits_of, num, field}
use Rattle.table.specs.Table.{Table, number, bit, reserved, list, Answer, got, short, parse}
use Rattle.upid.proofs.Laws.{by_cases}
use Rattle.theorems_reader.specs.Around.{Around}
use Rattle.std.proofs.Common.{Ok, Err, Result}
use Rattle.section.specs.declared.Frame.{Frame}
use Rattle.section.specs.declared.Section.{Section}

-- ---- section_length: the last bits of byte 1, and byte 2

-- Two sections with the same table, length and right CRC are read alike if they agree in what each test and each part looks at, as far as it is there
module _ (s t : List ℕ) (size : length s ≡ length t) (table : get_or s 0 0 ≡ get_or t 0 0) (s_right : crc_of s ≡ 0) (t_right : crc_of t ≡ 0)
    (clear : 18 ≤ length s → field (bits_of s) 32 1 ≡ field (bits_of t) 32 1) (command : 18 ≤ length s → command_length s ≡ command_length t)
    (loop : 20 + command_length s ≤ length s → loop_length s ≡ loop_length t) (header : 18 ≤ length s → header_of (drop 3 s) ≡ header_of (drop 3 t))
    (type : 18 ≤ length s → command_type s ≡ command_type t) (payload : 18 + command_length s ≤ length s → command_bytes s ≡ command_bytes t) where
  same_frame : frame_of s ≡ frame_of t
  unfolding frame_of frame_in room_after loop_place
  same_frame =
      by_cases (length s) 18
      (λ h. rw (size, table, s_right, t_right, lt-ltb (length t) 18 (omega (arith, size))))
      (λ h.
      let k : command_length s ≡ command_length t = command h in
      by_cases (length s - 18) (command_length s)
      (λ over. rw (size, table, s_right, t_right, clear h, k, lt-ltb (length t - 18) (command_length t) (omega (arith, size, k))))
      (λ fits.
      by_cases (length s - 18 - command_length s) 2
      (λ few. rw (size, table, s_right, t_right, clear h, k, lt-ltb (length t - 18 - command_length t) 2 (omega (arith, size, k))))
      (λ some. rw (loop (omega arith), size, table, s_right, t_right, clear h, k))))

  read_alike : section_of s ≡ section_of t
  unfolding section_of
  read_alike = go (frame_of s) refl ∙ ap (λ (f : Result Frame Refusal). through f (header_of (drop 3 t)) (moved_read (command_of (command_type t) (command_bytes t)))) same_frame
    where
      go : (f : Result Frame Refusal) → frame_of s ≡ f
          → through f (header_of (drop 3 s)) (moved_read (command_of (command_type s) (command_bytes s))) ≡ through f (header_of (drop 3 t)) (moved_read (command_of (command_type t) (command_bytes t)))
      go (Ok v) e =
          let w = framed s v (sym e) in
          rw (header w.long, type w.long, payload (omega (arith, w.fits)))
      go (Err x) e = refl

beyond : (c a b : ℕ) (rest : List ℕ) (n w : ℕ) → field (bits_of (c ∷ a ∷ b ∷ rest)) (24 + n) w ≡ field (bits_of rest) n w
beyond c a b rest n w = ap (λ (l : List ℕ). num 0 (take w l)) (drop-append-add (bits_of_num 8 c ++ bits_of_num 8 a ++ bits_of_num 8 b) (bits_of rest) n)

-- bytes behind a field do not matter to it
before : (rest more : List ℕ) (n w : ℕ) → n + w ≤ length rest * 8 → field (bits_of (rest ++ more)) n w ≡ field (bits_of rest) n w
before rest more n w h =
    let l : length (bits_of rest) ≡ length rest * 8 = length_bits rest in
    ap (λ (x : List ℕ). num 0 (take w (drop n x))) (bits_append rest more)
    ∙ ap (λ (x : List ℕ). num 0 (take w x)) (drop-append-le n (bits_of rest) (bits_of more) (omega arith))
    ∙ ap (num 0) (take-append-le w (drop n (bits_of rest)) (bits_of more) (omega (arith, length-drop n (bits_of rest))))

blind_header : Blind splice_header
unfolding splice_header bit number
blind_header = λ version encrypted algorithm adjustment index tier length type. tt

header_before : (rest more : List ℕ) → 11 ≤ length rest → header_of (rest ++ more) ≡ header_of rest
unfolding header_of
header_before rest more h = ap header_read (tolerates splice_header blind_header rest more 0 _ _ (header_got rest h) ∙ sym (header_got rest h))

-- what stands between section_length and the CRC says all that is looked at
module _ (c a b : ℕ) (rest last : List ℕ) where
  abbrev whole : List ℕ
  whole = c ∷ a ∷ b ∷ (rest ++ last)

  in_between : (n w : ℕ) → n + w ≤ length rest * 8 → field (bits_of whole) (24 + n) w ≡ field (bits_of rest) n w
  in_between n w h = beyond c a b (rest ++ last) n w ∙ before rest last n w h

  its_command : 11 ≤ length rest → command_length whole ≡ field (bits_of rest) 68 12
  unfolding command_length
  its_command h = in_between 68 12 (omega arith)

  its_loop : (n : ℕ) → command_length whole ≡ n → 13 + n ≤ length rest → loop_length whole ≡ field (bits_of rest) ((11 + n) * 8) 16
  unfolding loop_length
  its_loop n e h =
      let k : (14 + n) * 8 ≡ 24 + (11 + n) * 8 = omega arith in
      ap (λ (m : ℕ). field (bits_of whole) ((14 + m) * 8) 16) e
      ∙ ap (λ (m : ℕ). field (bits_of whole) m 16) k
      ∙ in_between ((11 + n) * 8) 16 (omega arith)

  its_type : 11 ≤ length rest → command_type whole ≡ get_or rest 10 0
  unfolding command_type
  its_type h = get_or-append rest last 0 10 (omega arith)

  its_payload : (n : ℕ) → command_length whole ≡ n → 11 + n ≤ length rest → command_bytes whole ≡ take n (drop 11 rest)
  unfolding command_bytes
  its_payload n e h =
      ap (λ (m : ℕ). take m (drop 14 whole)) e
      ∙ ap (take n) (drop-append-le 11 rest last (omega arith))
      ∙ take-append-le n (drop 11 rest) last (omega (arith, length-drop 11 rest))

module _ (c a b d e : ℕ) (rest last other : List ℕ) (last_four : length last ≡ 4) (other_four : length other ≡ 4) where
  abbrev one : List ℕ
  one = c ∷ a ∷ b ∷ (rest ++ last)

  abbrev two : List ℕ
  two = c ∷ d ∷ e ∷ (rest ++ other)

  long : length one ≡ 7 + length rest
  long = omega (arith, length-append rest last)

  lengths_untested : crc_of one ≡ 0 → crc_of two ≡ 0 → section_of one ≡ section_of two
  lengths_untested p q =
      read_alike one two (omega (arith, length-append rest last, length-append rest other)) refl p q
      (λ h. in_between c a b rest last 8 1 (omega (arith, long)) ∙ sym (in_between c d e rest other 8 1 (omega (arith, long))))
      commands
      (λ h.
      let k : command_length one ≡ command_length two = commands (omega arith) in
      its_loop c a b rest last (command_length one) refl (omega (arith, long)) ∙ sym (its_loop c d e rest other (command_length one) (sym k) (omega (arith, long))))
      (λ h. header_before rest last (omega (arith, long)) ∙ sym (header_before rest other (omega (arith, long))))
      (λ h. its_type c a b rest last (omega (arith, long)) ∙ sym (its_type c d e rest other (omega (arith, long))))
      (λ h.
      let k : command_length one ≡ command_length two = commands (omega arith) in
      its_payload c a b rest last (command_length one) refl (omega (arith, long)) ∙ sym (its_payload c d e rest other (command_length one) (sym k) (omega (arith, long))))
    where
      commands : 18 ≤ length one → command_length one ≡ command_length two
      commands h = its_command c a b rest last (omega (arith, long)) ∙ sym (its_command c d e rest other (omega (arith, long)))

pub length_untested : (table : ℕ) (others s t : List ℕ) → Around table others s → Around table others t → section_of s ≡ section_of t
length_untested table others s t o p =
    let same = lengths_untested table o.byte_1 o.byte_2 p.byte_1 p.byte_2 others o.crc p.crc o.four p.four (ap crc_of (sym o.is) ∙ o.right) (ap crc_of (sym p.is) ∙ p.right) in
    ap section_of o.is ∙ same ∙ ap section_of (sym p.is)

-- ---- the numbers of a section's refusals
pub eleven : (r : Result Section Refusal) → number_of r ≤ 11
unfolding number_of
eleven (Ok x) = omega arith
eleven (Err Refusal.SectionTooShort) = omega arith
eleven (Err Refusal.InputTooLong) = omega arith
eleven (Err Refusal.OtherTable) = omega arith
eleven (Err Refusal.WrongCrc) = omega arith
eleven (Err Refusal.NoHeader) = omega arith
eleven (Err Refusal.Encrypted) = omega arith
eleven (Err Refusal.CommandTooLong) = omega arith
eleven (Err Refusal.NoLoopLength) = omega arith
eleven (Err Refusal.LoopTooLong) = omega arith
eleven (Err Refusal.UnknownCommand) = omega arith
eleven (Err Refusal.MalformedCommand) = omega arith

-- ---- bytes behind the last field of a command
blind_time : Blind splice_time
unfolding splice_time bit reserved number
blind_time v = blind_pick (eqb v 1) _ _ (λ u t. tt) (λ u. tt)

blind_unless : (now : Bool) → Blind (time_unless now)
unfolding time_unless
blind_unless now = blind_pick now _ splice_time tt blind_time

blind_component : (now : Bool) → Blind (component now)
unfolding component number
blind_component now = λ v. blind_inside (time_unless now) _ _ (blind_unless now) λ t. tt

blind_moded : (program now : Bool) → Blind (moded program now)
unfolding moded number
blind_moded program now =
    blind_pick program _ _ (blind_inside (time_unless now) _ _ (blind_unless now) λ t. tt)
    λ n. blind_inside (list n blank (component now)) _ _ (blind_list n blank (component now) (blind_component now)) λ cs. tt

blind_break : (flagged : Bool) → Blind (break_duration flagged)
unfolding break_duration bit reserved number
blind_break flagged = blind_pick flagged _ _ (λ v r d. tt) tt

blind_ending : (out : Bool) (mode : WithComponents SpliceMode) (flagged : Bool) → Blind (ending out mode flagged)
unfolding ending number
blind_ending out mode flagged = blind_inside (break_duration flagged) _ _ (blind_break flagged) λ d i a x. tt

blind_active : Blind active
unfolding active bit reserved
blind_active = λ out program flagged now r. blind_inside (moded (eqb program 1) (eqb now 1)) _ _ (blind_moded (eqb program 1) (eqb now 1)) λ m. blind_ending (eqb out 1) m (eqb flagged 1)

blind_insert : Blind insert
unfolding insert number bit
blind_insert = λ id cancel kept. blind_pick (eqb cancel 1) _ _ tt (blind_inside active _ _ blind_active λ a. tt)

-- ---- commands
read_on : {X : Type 0} (f : X → SpliceCommand) (t : Table X) → Blind t → (s more : List ℕ) (c : SpliceCommand) → read f (parse t (bits_of s) 0) ≡ Ok c → read f (parse t (bits_of (s ++ more)) 0) ≡ Ok c
read_on {X} f t h s more c e = go (parse t (bits_of s) 0) refl e
  where
    go : (r : Answer X) → parse t (bits_of s) 0 ≡ r → read f r ≡ Ok c → read f (parse t (bits_of (s ++ more)) 0) ≡ Ok c
    go (got x m) i e = rw (tolerates t h s more 0 x m i) e
    go (short expected actual) i e = zero_one cc

pub insert_on : (s more : List ℕ) (c : SpliceCommand) → command_of 0x05 s ≡ Ok c → command_of 0x05 (s ++ more) ≡ Ok c
unfolding command_of
insert_on s more c e = read_on (λ x. SpliceCommand.SpliceInsert x.value) insert blind_insert s more c e

pub time_signal_on : (s more : List ℕ) (c : SpliceCommand) → command_of 0x06 s ≡ Ok c → command_of 0x06 (s ++ more) ≡ Ok c
unfolding command_of
time_signal_on s more c e = read_on SpliceCommand.TimeSignal splice_time blind_time s more c e
