-- 02, Q-12: the single box and the canonical form.
use Prim.Native.Nat.{ℕ, ◌+◌, ◌%◌, ◌^◌, ◌<◌}
use mathlib.Core.List.{List}
use mathlib.Core.Path.{◌≡◌, sym, ◌∙◌}
use native.Mathlib.Nat.{mod-lt}
use native.Mathlib.Omega.{arith}
use Rattle.adjust_section.specs.Adjusted.{adjustment_in, section_with, adjusted_section}
use Rattle.adjust_section.specs.Readings.{reading_with}
use Rattle.adjust_section.proofs.Parts.{length_section, front_same}
use Rattle.adjust_section.proofs.Stays.{long, reads_again, loop_stays, command_stays, lengths_stay}
use Rattle.adjust_section.proofs.Theorems.{accepted_number, made_is}
use Rattle.section.specs.Section.{section_of, number_of}
use Rattle.section.specs.declared.Section.{Section}
use Rattle.section.proofs.Acceptance.{is_read}
use Rattle.canonical_form.specs.Section.{canonical_frame, canonical_section}
use Rattle.table.specs.Writing.{made}
use Rattle.std.proofs.Common.{Ok}

same : (p : ℕ) (s : List ℕ) (x : Section) → section_of s ≡ Ok x → p < 2 ^ 33 → canonical_section (section_with p s) ≡ canonical_section s
unfolding canonical_section canonical_frame
same p s x is k =
    let l = long p s x is k in
    let n : number_of (section_of (section_with p s)) ≡ number_of (section_of s) = accepted_number (section_with p s) (reading_with p x) (reads_again p s x is k) ∙ sym (accepted_number s x is) in
    let c = command_stays p s x is k in
    let z = lengths_stay p s x is k in
    rw (
      n,
      front_same s l p k 8 4 (omega arith),
      front_same s l p k 12 12 (omega arith),
      length_section p s l,
      z.0,
      z.1,
      c.0,
      c.1,
      loop_stays p s x is k,
    )

-- "canonical in, canonical out"; and the other way round
pub an_adjusted_section_is_canonical_where_it_was : (s : List ℕ) (a : ℕ) (new : List ℕ) → adjusted_section s a ≡ made new → canonical_section new ≡ canonical_section s
an_adjusted_section_is_canonical_where_it_was s a new e =
    let m = made_is s a new e in
    let x = is_read (section_of s) m.0 in
    rw (← m.2) (same ((adjustment_in s + a) % 8589934592) s x.0 x.1 (mod-lt (adjustment_in s + a) (omega arith)))
