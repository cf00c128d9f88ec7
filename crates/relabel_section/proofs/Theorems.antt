-- What is proved of a section whose loop is replaced, in the words of specs/Frame.antt. The proof stands in Frames.antt.
use Prim.Native.Nat.{ℕ, ◌+◌, ◌≤◌}
use mathlib.Core.List.{List}
use mathlib.Core.Path.{◌≡◌}
use lib.ListN.{length}
use Rattle.section.specs.Section.{command_length, loop_bytes, section_of}
use Rattle.section.specs.declared.Section.{Section}
use Rattle.relabel_section.specs.Frame.{section_with}
use Rattle.relabel_section.proofs.Frames as frames
use Rattle.std.proofs.Common.{Ok}

-- An accepted section with another loop in place of its own, of at most 4,096 bytes, is accepted; its header and its command read the same, and its loop is that one.
-- Nothing is asked of section_length, reserved bits or spare bytes.
pub header_and_command_stay : (s loop : List ℕ) (x : Section) → section_of s ≡ Ok x → length (section_with s loop) ≤ 4096
    → (section_of (section_with s loop) ≡ Ok (record { header = x.header; command = x.command; descriptors = record { at = 16 + command_length s; len = length loop }; payload = x.payload }))
    × (loop_bytes (section_with s loop) ≡ loop)
header_and_command_stay s loop x is fits = frames.with_loop s loop x is fits
