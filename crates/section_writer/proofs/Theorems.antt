-- A whole section, written and read.
--     section_is_canonical       what is written has the canonical form
--     section_write_read         and reads as what was handed in
--     section_read_write    a canonical section is what is written of its reading
--     section_one           canonical sections of equal readings are equal, where their loops have equal bytes
use Prim.Native.Nat.{ℕ, ◌+◌, ◌^◌, ◌<◌}
use mathlib.Core.Bool.{true}
use mathlib.Core.List.{List}
use mathlib.Core.Path.{◌≡◌, ap, ◌∙◌}
use lib.ListN.{length, drop}
use Rattle.canonical_form.specs.Command.{canonical_command}
use Rattle.command.specs.Command as command
use Rattle.command.specs.declared.SpliceCommand.{SpliceCommand}
use Rattle.canonical_form.specs.Descriptor.{canonical_loop}
use Rattle.header.specs.declared.header.SpliceInfoHeader.{SpliceInfoHeader}
use Rattle.bit_stores.specs.Written.{bytes_in}
use Rattle.section.specs.Section.{command_length, command_type, command_bytes, loop_bytes, moved, section_of}
use Rattle.section.specs.declared.Section.{Section}
use Rattle.section_writer.specs.Private.{SameAround}
use Rattle.table.specs.Bits.{AllBytes}
use Rattle.table.specs.Writing.{made}
use Rattle.table.proofs.Lists.{and_true}
use Rattle.table.proofs.Structure.{bytes_take, bytes_drop}
use Rattle.canonical_form.specs.Section.{canonical_frame, canonical_section}
use Rattle.section_writer.specs.Frame.{headed}
use Rattle.section_writer.specs.Writing.{section_made}
use Rattle.section_writer.proofs.Commands.{command_one}
use Rattle.section_writer.proofs.Frames.{frame_command_type, frame_command_bytes}
use Rattle.section.proofs.Parts.{parts_of_lem}
use Rattle.section_writer.proofs.Trips.{section_wrote, frame_write_read, frame_read_write, frame_one}
use Rattle.std.proofs.Common.{Ok}

module _ (h : SpliceInfoHeader) (payload : List ℕ) (command_type' : ℕ) (loop b : List ℕ) (c : SpliceCommand) (byte : command_type' < 2 ^ 8)
    (e : section_made h (made payload) command_type' loop ≡ made b) (k : command.command_of command_type' payload ≡ Ok c) where
  -- the header with the command's length and type, the command with its views in the section, and the loop's place, where the lent bytes stand
  pub section_write_read : (section_of b ≡ Ok (record { header = headed h (length payload) command_type'; command = moved 14 c; descriptors = record { at = 16 + length payload; len = length loop }; payload = record { at = 14; len = length payload } }))
      × (loop_bytes b ≡ loop)
  section_write_read = let w = frame_write_read h payload command_type' loop b c byte e k in (w.0, w.1)

  pub section_is_canonical : canonical_command command_type' payload ≡ true → canonical_section b ≡ true
  unfolding canonical_section bytes_in
  section_is_canonical f =
      let w = section_wrote h (made payload) command_type' loop b e in
      let t = frame_write_read h payload command_type' loop b c byte e k in
      let l : canonical_loop (loop_bytes b) ≡ true = ap canonical_loop t.1 ∙ w.form in
      let n : command_type b ≡ command_type' = rw w.bytes (frame_command_type h command_type' payload loop w.fits w.writable byte w.short) in
      let p : command_bytes b ≡ payload = rw w.bytes (frame_command_bytes h command_type' payload loop w.fits w.writable byte w.short) in
      rw (t.2, n, p, f, l)

-- ---- a canonical section
pub record Canonical (s : List ℕ) : Type 0 where
  pub around : canonical_frame s ≡ true
  pub command : canonical_command (command_type s) (command_bytes s) ≡ true
  pub loop : canonical_loop (loop_bytes s) ≡ true

pub canonical_parts : (s : List ℕ) → canonical_section s ≡ true → Canonical s
unfolding canonical_section
canonical_parts s e =
    let a = and_true (canonical_frame s) _ e in
    let b = and_true (canonical_command (command_type s) (command_bytes s)) _ a.1 in
    record { around = a.0; command = b.0; loop = b.1 }

pub section_read_write : (s : List ℕ) (x : Section) → AllBytes s → section_of s ≡ Ok x → canonical_section s ≡ true
    → section_made x.header (made (command_bytes s)) (command_type s) (loop_bytes s) ≡ made s
section_read_write s x a e c = let p = canonical_parts s c in frame_read_write s x a e p.around p.loop

-- ---- equal readings
command_bytes_lem : (s : List ℕ) → AllBytes s → AllBytes (command_bytes s)
unfolding command_bytes
command_bytes_lem s a = bytes_take (command_length s) (drop 14 s) (bytes_drop 14 s a)

pub section_one : (s r : List ℕ) (x y : Section) → AllBytes s → AllBytes r → section_of s ≡ Ok x → section_of r ≡ Ok y
    → canonical_section s ≡ true → canonical_section r ≡ true → SameAround s r → loop_bytes s ≡ loop_bytes r → s ≡ r
section_one s r x y a b e f c d same l =
    let p = canonical_parts s c in
    let q = canonical_parts r d in
    let h : headed x.header 0 0 ≡ headed y.header 0 0 = rw ((parts_of_lem s x e).header, (parts_of_lem r y f).header) at same.headers in
    let k : canonical_command (command_type s) (command_bytes r) ≡ true = rw same.types q.command in
    let t : command_bytes s ≡ command_bytes r = command_one (command_type s) (command_bytes s) (command_bytes r) (command_bytes_lem s a) (command_bytes_lem r b) p.command k same.commands in
    frame_one s r x y a b e f p.around q.around h same.types t l
