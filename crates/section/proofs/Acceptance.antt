-- A section is accepted exactly when none of 1 to 11 applies, and a refusal is the first that does.
use Prim.Native.Nat.{ℕ, suc, ◌+◌, ◌-◌}
use mathlib.Core.Bool.{Bool, true, false, not}
use mathlib.Core.List.{List, [], ◌∷◌}
use mathlib.Core.Path.{◌≡◌, refl, ap, sym, ◌∙◌}
use native.Mathlib.Omega.{arith}
use lib.Dec.{eqb, ltb}
use lib.ListN.{length, get_or, drop, length-drop}
use borrow.Author.Tests.{ltb-false}
use Rattle.command.specs.Command as command
use Rattle.command.specs.Command.{command_of}
use Rattle.header.specs.Header.{header_of}
use Rattle.header.specs.declared.header.SpliceInfoHeader.{SpliceInfoHeader}
use Rattle.header.proofs.Headers.{header_there}
use Rattle.crc.specs.Crc.{crc_of}
use Rattle.table.specs.Bits.{pick, bits_of, field}
use Rattle.table.proofs.Lists.{zero_one}
use Rattle.section.specs.Section.{unknown_command, malformed_command, conditions, first, None, command_length, room_after, loop_length, command_type, command_bytes, frame_in, frame_of, moved_read, accepted, through, section_of, number_of}
use Rattle.section.specs.declared.Frame.{Frame}
use Rattle.section.specs.declared.Refusal.{Refusal}
use Rattle.section.specs.declared.Section.{Section}
use Rattle.std.proofs.Common.{Ok, Err, Some, Option, Result}
use Rattle.command.specs.declared.SpliceCommand.{SpliceCommand}
use Rattle.command.specs.declared.CommandRefusal.{CommandRefusal}

-- ---- the first refusal that applies
last : (r : Result SpliceCommand CommandRefusal) (h : SpliceInfoHeader) (v : Frame) → number_of (accepted (Some h) (moved_read r) v) ≡ first 10 (eqb (command.number_of r) 10 ∷ eqb (command.number_of r) 11 ∷ [])
unfolding number_of accepted moved_read
last (Ok c) h v = refl
last (Err CommandRefusal.UnknownType) h v = refl
last (Err CommandRefusal.Malformed) h v = refl

chain : (b₁ b₂ b₃ b₄ b₅ b₆ b₇ b₈ b₉ : Bool) (h : Option SpliceInfoHeader) (r : Result SpliceCommand CommandRefusal) (v : Frame) (bs : List Bool) → (b₅ ≡ false → number_of (accepted h r v) ≡ first 10 bs)
    → number_of
    (through
    (pick b₁ (Err Refusal.SectionTooShort)
    (pick b₂ (Err Refusal.InputTooLong)
    (pick b₃ (Err Refusal.OtherTable)
    (pick b₄ (Err Refusal.WrongCrc)
    (pick b₅ (Err Refusal.NoHeader)
    (pick b₆ (Err Refusal.Encrypted)
    (pick b₇ (Err Refusal.CommandTooLong)
    (pick b₈ (Err Refusal.NoLoopLength)
    (pick b₉ (Err Refusal.LoopTooLong) (Ok v)))))))))) h r)
    ≡ first 1 (b₁ ∷ b₂ ∷ b₃ ∷ b₄ ∷ b₅ ∷ b₆ ∷ b₇ ∷ b₈ ∷ b₉ ∷ bs)
unfolding number_of
chain true b₂ b₃ b₄ b₅ b₆ b₇ b₈ b₉ h r v bs k = refl
chain false true b₃ b₄ b₅ b₆ b₇ b₈ b₉ h r v bs k = refl
chain false false true b₄ b₅ b₆ b₇ b₈ b₉ h r v bs k = refl
chain false false false true b₅ b₆ b₇ b₈ b₉ h r v bs k = refl
chain false false false false true b₆ b₇ b₈ b₉ h r v bs k = refl
chain false false false false false true b₇ b₈ b₉ h r v bs k = refl
chain false false false false false false true b₈ b₉ h r v bs k = refl
chain false false false false false false false true b₉ h r v bs k = refl
chain false false false false false false false false true h r v bs k = refl
chain false false false false false false false false false h r v bs k = k refl

-- refusals 1 to 11 are given in order of number, each under its condition and no other
pub refusals_in_order : (s : List ℕ) → number_of (section_of s) ≡ first 1 (conditions s)
unfolding section_of frame_of
refusals_in_order s =
    chain (ltb (length s) 3) (ltb 4096 (length s)) (not (eqb (get_or s 0 0) 0xfc)) (not (eqb (crc_of s) 0)) (ltb (length s) 18)
    (eqb (field (bits_of s) 32 1) 1) (ltb (length s - 18) (command_length s)) (ltb (room_after s) 2) (ltb (room_after s) (loop_length s + 2))
    (header_of (drop 3 s)) (moved_read (command_of (command_type s) (command_bytes s))) (frame_in s) (unknown_command s ∷ malformed_command s ∷ [])
    (λ e. let h = header_there (drop 3 s) (omega (arith, length-drop 3 s, ltb-false (length s) 18 e)) in
    rw h.1 (last (command_of (command_type s) (command_bytes s)) h.0 (frame_in s)))

-- ---- accepted exactly when none applies
none_first : (n : ℕ) (bs : List Bool) → None bs → first n bs ≡ 0
none_first n [] h = refl
none_first n (true ∷ bs) h = zero_one cc
none_first n (false ∷ bs) h = none_first (suc n) bs h.1

first_none : (n : ℕ) (bs : List Bool) → first (suc n) bs ≡ 0 → None bs
first_none n [] e = tt
first_none n (true ∷ bs) e = absurd (omega arith)
first_none n (false ∷ bs) e = (refl, first_none (suc n) bs e)

pub is_read : (r : Result Section Refusal) → number_of r ≡ 0 → (x : Section) × (r ≡ Ok x)
unfolding number_of
is_read (Ok x) e = (x, refl)
is_read (Err Refusal.SectionTooShort) e = absurd (omega arith)
is_read (Err Refusal.InputTooLong) e = absurd (omega arith)
is_read (Err Refusal.OtherTable) e = absurd (omega arith)
is_read (Err Refusal.WrongCrc) e = absurd (omega arith)
is_read (Err Refusal.NoHeader) e = absurd (omega arith)
is_read (Err Refusal.Encrypted) e = absurd (omega arith)
is_read (Err Refusal.CommandTooLong) e = absurd (omega arith)
is_read (Err Refusal.NoLoopLength) e = absurd (omega arith)
is_read (Err Refusal.LoopTooLong) e = absurd (omega arith)
is_read (Err Refusal.UnknownCommand) e = absurd (omega arith)
is_read (Err Refusal.MalformedCommand) e = absurd (omega arith)

pub number_some : (r : Refusal) → number_of (Err r) ≡ 0 → ⊥
number_some r e = let i = is_read (Err r) e in zero_one (cc i.1)

pub none_holds : (s : List ℕ) → number_of (section_of s) ≡ 0 → None (conditions s)
none_holds s e = first_none 0 (conditions s) (sym (refusals_in_order s) ∙ e)

-- 01: "A section is accepted exactly when none of 1 to 11 applies"
pub accepted_if_none : (s : List ℕ) → None (conditions s) → (x : Section) × (section_of s ≡ Ok x)
accepted_if_none s h = is_read (section_of s) (refusals_in_order s ∙ none_first 1 (conditions s) h)

pub none_if_accepted : (s : List ℕ) (x : Section) → section_of s ≡ Ok x → None (conditions s)
unfolding number_of
none_if_accepted s x e = none_holds s (ap number_of e)
