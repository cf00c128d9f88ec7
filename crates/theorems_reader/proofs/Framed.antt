-- What an accepted section is made of.
--     laid          its parts: where its loop lies, its command, and its length
--     private_in    the bytes of a private command lie in its payload
use Prim.Native.Nat.{ℕ, ◌+◌, ◌*◌, ◌-◌, ◌/◌, ◌≤◌}
use mathlib.Core.Bool.{Bool, true, false}
use mathlib.Core.List.{List}
use mathlib.Core.Path.{◌≡◌, refl, ap, sym, ◌∙◌}
use native.Mathlib.Omega.{arith}
use lib.Dec.{eqb}
use lib.ListN.{length, drop}
use Rattle.command.specs.Command.{private, read, command_of}
use Rattle.command.specs.Insert.{insert}
use Rattle.command.specs.declared.Private.{Private}
use Rattle.command.specs.declared.SpliceCommand.{SpliceCommand}
use Rattle.header.specs.Header.{header_of}
use Rattle.splice_time.specs.Time.{splice_time}
use Rattle.section.proofs.Parts.{parts_of_lem}
use Rattle.section.specs.Section.{command_length, command_type, command_bytes, loop_length, loop_place, moved, moved_read, section_of}
use Rattle.section.specs.declared.Section.{Section}
use Rattle.table.proofs.Steps.{reads_number, reads_part, takes_remaining}
use Rattle.table.specs.Bits.{pick, bits_of, field}
use Rattle.table.specs.Table.{Answer, got, short, parse}
use Rattle.std.proofs.Common.{Ok, Err, Some, Result}
use Rattle.command.specs.declared.CommandRefusal.{CommandRefusal}

pub record Laid (s : List ℕ) (x : Section) : Type 0 where
  pub short : length s ≤ 4096
  pub fits : 14 + command_length s + 2 + loop_length s + 4 ≤ length s
  pub place : x.descriptors ≡ loop_place s
  pub read : SpliceCommand
  pub from : command_of (command_type s) (command_bytes s) ≡ Ok read
  pub command : x.command ≡ moved 14 read

pub laid : (s : List ℕ) (x : Section) → section_of s ≡ Ok x → Laid s x
laid s x e =
    let p = parts_of_lem s x e in
    record { short = p.short; fits = omega (arith, p.fits); place = p.loop; read = p.own; from = p.command; command = p.moves }

-- what it says: its header, its command as a section has it, and where the loop and the command lie
pub says : (s : List ℕ) (x : Section) → section_of s ≡ Ok x
    → (header_of (drop 3 s) ≡ Some x.header) × (moved_read (command_of (command_type s) (command_bytes s)) ≡ Ok x.command) × (x.descriptors ≡ loop_place s) × (x.payload ≡ record { at = 14; len = command_length s })
unfolding moved_read
says s x e =
    let p = parts_of_lem s x e in
    (p.header, ap moved_read p.command ∙ ap Ok (sym p.moves), p.loop, p.payload)

-- ---- the bytes of a private command

abbrev Inside : List ℕ → Result SpliceCommand CommandRefusal → Type 0
Inside s (Ok (SpliceCommand.PrivateCommand p)) = p.private_bytes.at + p.private_bytes.len ≤ length s
Inside s (Ok SpliceCommand.SpliceNull) = Unit {0}
Inside s (Ok (SpliceCommand.SpliceInsert i)) = Unit {0}
Inside s (Ok (SpliceCommand.TimeSignal t)) = Unit {0}
Inside s (Ok SpliceCommand.BandwidthReservation) = Unit {0}
Inside s (Err CommandRefusal.UnknownType) = Unit {0}
Inside s (Err CommandRefusal.Malformed) = Unit {0}

module _ (s : List ℕ) where
  picked : (b : Bool) (x y : Result SpliceCommand CommandRefusal) → Inside s x → Inside s y → Inside s (pick b x y)
  picked true x y h k = h
  picked false x y h k = k

  reading : {X : Type 0} (f : X → SpliceCommand) (r : Answer X) → ((x : X) (m : ℕ) → r ≡ got x m → Inside s (Ok (f x))) → Inside s (read f r)
  reading f (got x m) h = h x m refl
  reading f (short e a) h = tt

  there : (p : Private) (m : ℕ) → parse private (bits_of s) 0 ≡ got p m → p.private_bytes.at + p.private_bytes.len ≤ length s
  unfolding private
  there p m e =
      let e₁ = (reads_number s 0 32 _ _ p m e).1 in
      let e₂ = sym (takes_remaining s 32 _ _) ∙ e₁ in
      let i = reads_part s 32 _ _ _ p m e₂ in
      let z : p ≡ record { identifier = field (bits_of s) 0 32; private_bytes = record { at = 4; len = (length s * 8 - 32) / 8 } } = cc i.1 in
      rw z (omega (arith, i.0))

  all_inside : (k : ℕ) → Inside s (command_of k s)
  unfolding command_of
  all_inside k =
      picked (eqb k 0x00) _ _ (picked (eqb (length s) 0) _ _ tt tt)
      (picked (eqb k 0x05) _ _ (reading (λ x. SpliceCommand.SpliceInsert x.value) (parse insert (bits_of s) 0) (λ x m e. tt))
      (picked (eqb k 0x06) _ _ (reading SpliceCommand.TimeSignal (parse splice_time (bits_of s) 0) (λ x m e. tt))
      (picked (eqb k 0x07) _ _ (picked (eqb (length s) 0) _ _ tt tt)
      (picked (eqb k 0xff) _ _ (reading SpliceCommand.PrivateCommand (parse private (bits_of s) 0) there) tt))))

  pub private_in : (k : ℕ) (p : Private) → command_of k s ≡ Ok (SpliceCommand.PrivateCommand p) → p.private_bytes.at + p.private_bytes.len ≤ length s
  private_in k p e = rw e at (all_inside k)
