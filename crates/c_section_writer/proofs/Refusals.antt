-- The words of a header, and of header and command together, are refused with no number over 33.
use Prim.Native.Nat.{ℕ, ◌≤◌}
use mathlib.Core.Bool.{Bool, true, false}
use mathlib.Core.List.{List}
use lib.Dec.{eqb, ltb}
use Rattle.c_section.specs.Flat.{flat_header}
use Rattle.c_section_writer.specs.SectionGiven.{header_from, header_refusal, either}
use Rattle.c_section_writer.specs.SectionWords.{header_words, header_widths}
use Rattle.c_command_writer.specs.Words.{within, same}
use Rattle.c_command_writer.proofs.Words.{refusal_small}
use Rattle.table.specs.Bits.{pick}

pub header_small : (words : List ℕ) → header_refusal words ≤ 33
unfolding header_refusal
header_small words = refusal_small (within header_widths words) (same (header_words (flat_header (header_from words))) words)

pub either_small : (m n : ℕ) → m ≤ 33 → n ≤ 33 → either m n ≤ 33
either_small m n h g = go (eqb m 0) (eqb n 0) (ltb n m)
  where
    go : (a b c : Bool) → pick a n (pick b m (pick c n m)) ≤ 33
    go true true true = g
    go true true false = g
    go true false true = g
    go true false false = g
    go false true true = h
    go false true false = h
    go false false true = g
    go false false false = h
