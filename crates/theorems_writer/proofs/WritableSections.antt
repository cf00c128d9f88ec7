-- What is read of a section can be written around any canonical loop that fits.
use Prim.Native.Nat.{ℕ, ◌^◌, ◌≤◌, ◌<◌}
use mathlib.Core.Bool.{Bool, true, false, not, ◌&&◌}
use mathlib.Core.List.{List}
use mathlib.Core.Path.{◌≡◌, ap, sym, subst, ◌∙◌}
use native.Mathlib.Omega.{arith}
use lib.Dec.{eqb}
use lib.ListN.{length, drop}
use borrow.Author.Tests.{le-ltb, ne_eqb}
use Rattle.command.specs.Command.{components_of}
use Rattle.command.specs.declared.SpliceCommand.{SpliceCommand}
use Rattle.command.specs.declared.insert.SpliceInsert.{SpliceInsert}
use Rattle.command_measure.specs.Made.{command_made}
use Rattle.canonical_form.specs.Descriptor.{canonical_loop}
use Rattle.header.specs.declared.header.SpliceInfoHeader.{SpliceInfoHeader}
use Rattle.names.proofs.Algorithms.{algorithm_laws}
use Rattle.names.specs.Algorithm.{algorithm_number, algorithm_of, writable_algorithm}
use Rattle.bit_stores.specs.Written.{bytes_in}
use Rattle.section.specs.Section.{command_bytes, section_of, section_length}
use Rattle.section.specs.declared.Section.{Section}
use Rattle.section_writer.proofs.Backs.{own, own_is}
use Rattle.section_writer.proofs.Heads.{Fitting, fits_within}
use Rattle.section_writer.proofs.Numbers.{field_behind}
use Rattle.section.proofs.Parts.{parts_of_lem}
use Rattle.section_writer.specs.Frame.{numbers_fit, writable_head, frame}
use Rattle.section_writer.specs.Writing.{type_of, section_made}
use Rattle.table.proofs.Reading.{field_lt}
use Rattle.table.specs.Bits.{bits_of, field, AllBytes}
use Rattle.table.specs.Writing.{Made, made}
use Rattle.theorems_writer.specs.Making.{SectionBytes}
use Rattle.theorems_writer.proofs.SectionsMade.{section_reads_as}
use Rattle.theorems_writer.proofs.WritableInserts.{places_255, every_command_written, count_byte}
use Rattle.std.proofs.Common.{Ok}

and_both : (a b : Bool) → a ≡ true → b ≡ true → (a && b) ≡ true
and_both a b e f = rw (e, f)

-- where the header's numbers fit and it is writable, the loop canonical, and all fits, a section is made of a payload
pub made_around : (h : SpliceInfoHeader) (p : List ℕ) (command_type : ℕ) (loop : List ℕ) → numbers_fit h ≡ true → writable_head h ≡ true → canonical_loop loop ≡ true
    → section_length (length p) (length loop) ≤ 4096 → section_made h (made p) command_type loop ≡ made (frame h command_type p loop)
unfolding section_made bytes_in
made_around h p command_type loop n f c l = rw (n, f, le-ltb 4096 (section_length (length p) (length loop)) l, c)

module _ (s : List ℕ) (x : Section) (a : AllBytes s) (e : section_of s ≡ Ok x) where
  abbrev tail : List ℕ
  tail = drop 3 s

  is_own : own s a (parts_of_lem s x e).long x.header (parts_of_lem s x e).header ≡ x.header
  is_own = own_is s a (parts_of_lem s x e).long x.header (parts_of_lem s x e).header

  algorithm_fits : algorithm_number (algorithm_of (field (bits_of tail) 9 6)) < 2 ^ 6
  algorithm_fits = rw (algorithm_laws.there (field (bits_of tail) 9 6)) (field_lt tail 9 6)

  own_fits : Fitting (own s a (parts_of_lem s x e).long x.header (parts_of_lem s x e).header)
  own_fits = record { version = field_lt tail 0 8; algorithm = algorithm_fits; adjustment = field_lt tail 15 33; index = field_lt tail 48 8; tiers = field_lt tail 56 12 }

  pub header_fits : numbers_fit x.header ≡ true
  unfolding numbers_fit
  header_fits = fits_within x.header 0 0 (subst Fitting is_own own_fits) (omega arith) (omega arith)

  pub header_writable : writable_head x.header ≡ true
  unfolding writable_head
  header_writable =
      let c : eqb (field (bits_of tail) 8 1) 1 ≡ false = ne_eqb _ 1 (λ z. (parts_of_lem s x e).clear (field_behind s 3 8 1 ∙ z)) in
      let f : (not (eqb (field (bits_of tail) 8 1) 1) && writable_algorithm (algorithm_of (field (bits_of tail) 9 6))) ≡ true = and_both _ _ (ap not c) (algorithm_laws.is_writable (field (bits_of tail) 9 6)) in
      ap (λ (h : SpliceInfoHeader). not h.encrypted_packet && writable_algorithm h.encryption_algorithm) (sym is_own) ∙ f

  -- the header and the command around a canonical loop
  pub section_written : ((i : SpliceInsert) → x.command ≡ SpliceCommand.SpliceInsert i → i.reserved ≡ 127) → (loop : List ℕ) → AllBytes loop → canonical_loop loop ≡ true
      → ((p : List ℕ) → command_made x.command (components_of (command_bytes s)) s ≡ made p → section_length (length p) (length loop) ≤ 4096)
      → (b : List ℕ) × (section_made x.header (command_made x.command (components_of (command_bytes s)) s) (type_of x.command) loop ≡ made b)
      × SectionBytes x.header x.command (components_of (command_bytes s)) s loop b
  section_written h loop all canonical fits =
      let c = every_command_written s x a e h in
      let m : section_made x.header (command_made x.command (components_of (command_bytes s)) s) (type_of x.command) loop ≡ made (frame x.header (type_of x.command) c.0 loop) =
      ap (λ (n : Made). section_made x.header n (type_of x.command) loop) c.1
      ∙ made_around x.header c.0 (type_of x.command) loop header_fits header_writable canonical (fits c.0 c.1) in (
        frame x.header (type_of x.command) c.0 loop,
        m,
        section_reads_as x.header x.command (components_of (command_bytes s)) s loop (places_255 (command_bytes s)) (count_byte s x a e) a all _ m,
      )
