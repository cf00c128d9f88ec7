-- A section, by positions. 01, "Section": three bytes of common header; 11 of splice header; command; 2 of loop length; loop; anything; 4 of CRC.
use Rattle.std.specs.Prelude.{ℕ, suc, ◌+◌, ◌*◌, ◌-◌, Bool, true, false, not, List, [], ◌∷◌, ◌++◌, map, ◌≡◌, ltb, eqb, length, get_or, take, drop, Ok, Err, Some, Option, Result}
use Rattle.std.specs.declared.option.Option.TheVariants as option
use Rattle.command.specs.Command as command
use Rattle.command.specs.Command.{command_of, of_private, with_view}
use Rattle.command.specs.declared.SpliceCommand.{SpliceCommand}
use Rattle.crc.specs.Crc.{crc_of}
use Rattle.header.specs.Header.{header_of}
use Rattle.table.specs.Bits.{pick, bits_of, field}
use Rattle.table.specs.Lent.{no_view, shifted, viewed}
use Rattle.table.specs.declared.View.{View}
use Rattle.section.specs.declared.Frame.{Frame}
use Rattle.section.specs.declared.Refusal.{Refusal}
use Rattle.section.specs.declared.Section.{Section}
use Rattle.command.specs.declared.CommandRefusal.{CommandRefusal}
use Rattle.header.specs.declared.header.SpliceInfoHeader.{SpliceInfoHeader}

-- ---- the layout: the splice header begins at byte 3, the command at byte 14, and the last four bytes are the CRC
-- splice_command_length: 12 bits from the middle of byte 11 on
unfoldable pub command_length : List ℕ → ℕ
command_length s = field (bits_of s) 92 12

unfoldable pub command_type : List ℕ → ℕ
command_type s = get_or s 13 0

unfoldable pub command_bytes : List ℕ → List ℕ
command_bytes s = take (command_length s) (drop 14 s)

-- the bytes after the command, CRC excluded
unfoldable pub room_after : List ℕ → ℕ
room_after s = length s - 18 - command_length s

-- descriptor_loop_length: the two bytes after the command
unfoldable pub loop_length : List ℕ → ℕ
loop_length s = field (bits_of s) ((14 + command_length s) * 8) 16

unfoldable pub loop_place : List ℕ → View
loop_place s = record { at = 16 + command_length s; len = loop_length s }

-- where its two parts lie: the command's payload, and the loop
unfoldable pub frame_in : List ℕ → Frame
frame_in s = record { command = record { at = 14; len = command_length s }; descriptors = loop_place s }

-- the bytes of the loop
abbrev pub loop_bytes : List ℕ → List ℕ
loop_bytes s = viewed s (loop_place s)

-- ---- the conditions of refusals 1 to 11, the last first
-- 10: "command type is none of 0x00, 0x05, 0x06, 0x07, 0xFF"
abbrev pub unknown_command : List ℕ → Bool
unknown_command s = eqb (command.number_of (command_of (command_type s) (command_bytes s))) 10

-- 11: "command payload malformed"
abbrev pub malformed_command : List ℕ → Bool
malformed_command s = eqb (command.number_of (command_of (command_type s) (command_bytes s))) 11

-- 6 to 9, in order, with the refusal of each
abbrev pub layout_tests : List ℕ → List (Bool × Refusal)
layout_tests s =
    -- 6: "encrypted bit set", the first of byte 4
    (eqb (field (bits_of s) 32 1) 1, Refusal.Encrypted)
    -- 7: "command length exceeds the bytes after the header, CRC excluded"
    ∷ (ltb (length s - 18) (command_length s), Refusal.CommandTooLong)
    -- 8: "fewer than 2 bytes follow the command"
    ∷ (ltb (room_after s) 2, Refusal.NoLoopLength)
    -- 9: "loop length + 2 exceeds those bytes"
    ∷ (ltb (room_after s) (loop_length s + 2), Refusal.LoopTooLong)
    ∷ []

-- 1 to 9, those that come before the command: 1 to 5, and then `layout_tests`
abbrev pub frame_tests : List ℕ → List (Bool × Refusal)
frame_tests s =
    -- 1: "section under 3 bytes"
    (ltb (length s) 3, Refusal.SectionTooShort)
    -- 2: "section over 4,096 .. bytes"
    ∷ (ltb 4096 (length s), Refusal.InputTooLong)
    -- 3: "first byte is not 0xFC"
    ∷ (not (eqb (get_or s 0 0) 0xfc), Refusal.OtherTable)
    -- 4: "CRC over all bytes is not 0"
    ∷ (not (eqb (crc_of s) 0), Refusal.WrongCrc)
    -- 5: "section under 18 bytes"
    ∷ (ltb (length s) 18, Refusal.NoHeader)
    ∷ layout_tests s

-- 1 to 11, in order
abbrev pub conditions : List ℕ → List Bool
conditions s = map (λ (t : Bool × Refusal). t.0) (frame_tests s) ++ (unknown_command s ∷ malformed_command s ∷ [])

-- the number of the first condition that holds, where they are numbered from n on; 0 if none does (31 to 35 of a writer, too)
abbrev pub first : ℕ → List Bool → ℕ
first n [] = 0
first n (true ∷ bs) = n
first n (false ∷ bs) = first (suc n) bs

-- none holds
abbrev pub None : List Bool → Type 0
None [] = Unit {0}
None (b ∷ bs) = (b ≡ false) × None bs

-- ---- the frame: where the parts lie; or the refusal of the first test that holds: they "are checked in order of number"
abbrev pub unless_first : List (Bool × Refusal) → Result Frame Refusal → Result Frame Refusal
unless_first [] r = r
unless_first (t ∷ ts) r = pick t.0 (Err t.1) (unless_first ts r)

unfoldable pub frame_of : List ℕ → Result Frame Refusal
frame_of s = unless_first (frame_tests s) (Ok (frame_in s))

-- ---- the reading
-- a command whose views count from `base` bytes before its payload
unfoldable pub moved : ℕ → SpliceCommand → SpliceCommand
moved base c = with_view (shifted base) c

-- a command as a section has it: its views count from the section's first byte (`read_command_part` answers this)
unfoldable pub moved_read : Result SpliceCommand CommandRefusal → Result SpliceCommand CommandRefusal
moved_read (Ok c) = Ok (moved 14 c)
moved_read (Err CommandRefusal.UnknownType) = Err CommandRefusal.UnknownType
moved_read (Err CommandRefusal.Malformed) = Err CommandRefusal.Malformed

-- the header, the command and where the parts lie; 10 and 11. (A section of 18 bytes has a header.)
unfoldable pub accepted : Option SpliceInfoHeader → Result SpliceCommand CommandRefusal → Frame → Result Section Refusal
accepted (Some h) (Ok c) f = Ok (record { header = h; command = c; descriptors = f.descriptors; payload = f.command })
accepted (Some h) (Err CommandRefusal.UnknownType) f = Err Refusal.UnknownCommand
accepted (Some h) (Err CommandRefusal.Malformed) f = Err Refusal.MalformedCommand
accepted option.None r f = Err Refusal.NoHeader

-- a frame that is refused refuses the section
abbrev pub through : Result Frame Refusal → Option SpliceInfoHeader → Result SpliceCommand CommandRefusal → Result Section Refusal
through (Ok f) h r = accepted h r f
through (Err x) h r = Err x

-- 1 to 9, and then 10 and 11
unfoldable pub section_of : List ℕ → Result Section Refusal
section_of s = through (frame_of s) (header_of (drop 3 s)) (moved_read (command_of (command_type s) (command_bytes s)))

-- 01's number of each refusal; none has values
unfoldable pub number_of : Result Section Refusal → ℕ
number_of (Ok s) = 0
number_of (Err Refusal.SectionTooShort) = 1
number_of (Err Refusal.InputTooLong) = 2
number_of (Err Refusal.OtherTable) = 3
number_of (Err Refusal.WrongCrc) = 4
number_of (Err Refusal.NoHeader) = 5
number_of (Err Refusal.Encrypted) = 6
number_of (Err Refusal.CommandTooLong) = 7
number_of (Err Refusal.NoLoopLength) = 8
number_of (Err Refusal.LoopTooLong) = 9
number_of (Err Refusal.UnknownCommand) = 10
number_of (Err Refusal.MalformedCommand) = 11

-- where a private command's bytes lie; any other command has none
abbrev pub private_view : SpliceCommand → View
private_view c = of_private (λ p. p.private_bytes) no_view c

-- the loop of a reading, as it stands in the section
abbrev pub loop_in : List ℕ → Section → List ℕ
loop_in s x = viewed s x.descriptors

-- how many bytes a section has whose command has `size` and whose loop has `extent`
abbrev pub section_length : ℕ → ℕ → ℕ
section_length size extent = 20 + size + extent
