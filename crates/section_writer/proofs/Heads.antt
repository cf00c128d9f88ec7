-- The bytes before a section's command: what they are as numbers, and that they are read again.
--     header_is_made     the header's bytes are what its table writes
--     length_header, length_opening, length_head
--     fits_within        what refusal 32 asks, number by number
use Prim.Native.Nat.{ℕ, ◌^◌, ◌<◌}
use mathlib.Core.Bool.{Bool, true, false, not}
use mathlib.Core.List.{[]}
use mathlib.Core.Path.{◌≡◌, refl, ◌∙◌}
use native.Mathlib.Omega.{arith}
use lib.Dec.{ltb}
use lib.ListN.{length, length-append}
use borrow.Author.Tests.{ltb-true, lt-ltb, not-true}
use Rattle.header.specs.Header.{splice_header}
use Rattle.header.specs.declared.header.SpliceInfoHeader.{SpliceInfoHeader}
use Rattle.header.proofs.Headers.{writable_header}
use Rattle.names.specs.Algorithm.{algorithm_number, writable_algorithm}
use Rattle.names.proofs.Commands.{command_laws}
use Rattle.table.specs.Table.{flag_number, number, bit}
use Rattle.table.specs.Writing.{walk, seen, within, made, make}
use Rattle.table.proofs.Lists.{and_true}
use Rattle.section_writer.specs.Frame.{headed, header_bytes, opening, head, numbers_fit, writable_head}
use Rattle.section.specs.Section.{section_length}

-- ---- what refusal 32 asks of a header
pub record Fitting (h : SpliceInfoHeader) : Type 0 where
  pub version : h.protocol_version < 2 ^ 8
  pub algorithm : algorithm_number h.encryption_algorithm < 2 ^ 6
  pub adjustment : h.pts_adjustment < 2 ^ 33
  pub index : h.cw_index < 2 ^ 8
  pub tiers : h.tier < 2 ^ 12

pub fitting : (h : SpliceInfoHeader) → numbers_fit h ≡ true → Fitting h
unfolding numbers_fit headed splice_header number bit
fitting h e =
    let a₁ = and_true (ltb h.protocol_version (2 ^ 8)) _ e in
    let a₂ = and_true (ltb (flag_number h.encrypted_packet) (2 ^ 1)) _ a₁.1 in
    let a₃ = and_true (ltb (algorithm_number h.encryption_algorithm) (2 ^ 6)) _ a₂.1 in
    let a₄ = and_true (ltb h.pts_adjustment (2 ^ 33)) _ a₃.1 in
    let a₅ = and_true (ltb h.cw_index (2 ^ 8)) _ a₄.1 in
    let a₆ = and_true (ltb h.tier (2 ^ 12)) _ a₅.1 in
    record {
      version = ltb-true _ _ a₁.0;
      algorithm = ltb-true _ _ a₃.0;
      adjustment = ltb-true _ _ a₄.0;
      index = ltb-true _ _ a₅.0;
      tiers = ltb-true _ _ a₆.0;
    }

flag_fits : (b : Bool) → ltb (flag_number b) (2 ^ 1) ≡ true
flag_fits true = refl
flag_fits false = refl

-- the header with its command's length and type fits its fields
pub fits_within : (h : SpliceInfoHeader) (size command_type : ℕ) → Fitting h → size < 2 ^ 12 → command_type < 2 ^ 8 → within (walk splice_header (headed h size command_type) 0).fields ≡ true
unfolding headed splice_header number bit
fits_within h size command_type f n k =
    rw (
      lt-ltb _ _ f.version,
      flag_fits h.encrypted_packet,
      lt-ltb _ _ f.algorithm,
      lt-ltb _ _ f.adjustment,
      lt-ltb _ _ f.index,
      lt-ltb _ _ f.tiers,
      lt-ltb _ _ n,
      command_laws.there command_type,
      lt-ltb _ _ k,
    )

no_views : (x : SpliceInfoHeader) → seen [] (walk splice_header x 0).fields ≡ true
unfolding splice_header number bit
no_views x = refl

-- ---- the header's bytes
module _ (h : SpliceInfoHeader) (size command_type : ℕ) where
  writable_headed : writable_algorithm h.encryption_algorithm ≡ true → writable_header (headed h size command_type) ≡ true
  unfolding writable_header headed
  writable_headed a = rw (a, command_laws.is_writable command_type)

  pub header_is_made : Fitting h → writable_algorithm h.encryption_algorithm ≡ true → size < 2 ^ 12 → command_type < 2 ^ 8
      → make splice_header (writable_header (headed h size command_type)) [] (headed h size command_type) ≡ made (header_bytes (headed h size command_type))
  unfolding header_bytes
  header_is_made f a n k = rw (no_views (headed h size command_type), fits_within h size command_type f n k, writable_headed a)

pub length_header : (x : SpliceInfoHeader) → length (header_bytes x) ≡ 11
unfolding header_bytes splice_header number bit
length_header x = refl

pub length_opening : (n : ℕ) → length (opening n) ≡ 3
unfolding opening
length_opening n = refl

pub length_head : (h : SpliceInfoHeader) (command_type size extent : ℕ) → length (head h command_type size extent) ≡ 14
unfolding head
length_head h command_type size extent =
    length-append (opening (section_length size extent)) (header_bytes (headed h size command_type)) ∙ omega (arith, length_opening (section_length size extent), length_header (headed h size command_type))

pub clear : (h : SpliceInfoHeader) → writable_head h ≡ true → (h.encrypted_packet ≡ false) × (writable_algorithm h.encryption_algorithm ≡ true)
unfolding writable_head
clear h e =
    let a = and_true (not h.encrypted_packet) _ e in
    (not-true _ a.0, a.1)
