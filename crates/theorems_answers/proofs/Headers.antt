-- The words of a header are the fields of its bytes.
use Prim.Native.Nat.{ℕ, zero, suc, ◌<◌, ◌≤◌}
use mathlib.Core.List.{List}
use mathlib.Core.Path.{◌≡◌, refl, sym, ◌∙◌}
use native.Mathlib.Omega.{arith}
use lib.Dec.{eqb}
use lib.ListN.{length, drop, length-drop}
use lib.Seq.{get_or-drop}
use borrow.Author.Tests.{lt-ltb, le-ltb}
use Rattle.c_section.proofs.Numbers.{flat_too_short, flat_numbers}
use Rattle.c_section.specs.Flat.{no_header, flat_header_read}
use Rattle.header.specs.Header.{header_of}
use Rattle.header_numbers.proofs.Places.{too_short}
use Rattle.header_numbers.specs.Numbers.{numbers_in, numbers_read}
use Rattle.section.specs.Section.{command_type}
use Rattle.table.proofs.Bits.{all_bits, length_bits, byte_in}
use Rattle.table.proofs.Fields.{field_below, byte_field}
use Rattle.table.specs.Bits.{bits_of, field, AllBytes}
use Rattle.table.specs.Table.{flag_number}
use Rattle.upid.proofs.Laws.{by_cases}
use Rattle.theorems_answers.specs.Words.{header_at}
use Rattle.std.proofs.Common.{Some}

-- a bit is its flag's number
flag_of : (n : ℕ) → n < 2 → n ≡ flag_number (eqb n 1)
flag_of zero h = refl
flag_of (suc zero) h = refl
flag_of (suc (suc n)) h = absurd (omega arith)

there : (b : List ℕ) → 11 ≤ length b → Some (numbers_in b) ≡ numbers_read b
unfolding numbers_read
there b long = rw (le-ltb (length b) 11 long)

pub flat_header_lem : (b : List ℕ) → flat_header_read (header_of b) ≡ header_at b
unfolding no_header numbers_in
flat_header_lem b =
    by_cases (length b) 11
    (λ less. sym (flat_too_short b _ (too_short b less) refl) ∙ rw (lt-ltb (length b) 11 less))
    (λ long.
    let bit : field (bits_of b) 8 1 < 2 = field_below (bits_of b) 8 1 (all_bits b) (omega (arith, length_bits b)) in
    sym (flat_numbers b (numbers_in b) (field (bits_of b) 8 1) (there b long) (flag_of (field (bits_of b) 8 1) bit)) ∙ rw (le-ltb (length b) 11 long))

-- the command type of a section is that of its header, which begins at byte 3
pub type_there : (s : List ℕ) → AllBytes s → 18 ≤ length s → (header_at (drop 3 s)).splice_command_type ≡ command_type s
unfolding command_type
type_there s a long =
    rw (le-ltb (length (drop 3 s)) 11 (omega (arith, length-drop 3 s)))
    (byte_field (drop 3 s) 10 (omega (arith, length-drop 3 s)) (rw (get_or-drop 3 s 10 0) (byte_in s a 13)) ∙ get_or-drop 3 s 10 0)
