-- Sections that come from transport packets: "Framing now fixes section_length before demand 2's reader is called" (02, Q-9).
--     length_bits_right    the 12 bits that the canonical form looks at are the section's length less 3
--     taken_framed         so it is with every section that `take` hands out, from any state
--     given_canonical      of the canonical form the test of the length falls away; refusals 1 and 2 never apply
--     canonical_laid       a canonical section can be laid into packets, and comes back (`code_multiplexed`)
use Prim.Native.Nat.{ℕ, suc, ◌+◌, ◌*◌, ◌-◌, ◌/◌, ◌%◌, ◌≤◌, ◌<◌}
use mathlib.Core.Bool.{Bool, true, false, ◌&&◌}
use mathlib.Core.List.{List, [], ◌∷◌}
use mathlib.Core.Path.{◌≡◌, refl, ap, sym, ◌∙◌}
use native.Mathlib.Omega.{arith}
use lib.Dec.{eqb, ltb}
use lib.ListN.{length, take, drop, get_or}
use borrow.Author.Tests.{le-ltb, eq-eqb}
use Rattle.std.specs.Prelude.{Some}
use Rattle.section.specs.Section.{command_length, loop_length, first, conditions, section_of, number_of}
use Rattle.section.specs.declared.Section.{Section}
use Rattle.section.proofs.Acceptance.{refusals_in_order}
use Rattle.canonical_form.specs.Section.{canonical_frame, canonical_section}
use Rattle.section.specs.Section as of_section
use Rattle.section_writer.proofs.Forms.{framed}
use Rattle.table.proofs.Bits.{byte_in}
use Rattle.section.proofs.Parts.{parts_of_lem}
use Rattle.section_writer.proofs.Theorems.{canonical_parts}
use Rattle.table.specs.Bits.{bits_of, field, AllBytes}
use Rattle.table.proofs.Fields.{field_in, field_byte}
use Rattle.table.proofs.Structure.{bytes_take}
use Rattle.transport_packet.specs.Sections.{section_length, Right}
use Rattle.transport.specs.declared.Assembler.{Assembler}
use Rattle.transport.specs.Assembler.{taken_of}
use Rattle.transport_laws.specs.Concatenation.{Laid}
use Rattle.transport_laws.proofs.Right.{taken_right}
use Rattle.std.proofs.Common.{Ok}

-- the two definitions of section_length, by bytes and by bits, are one
pub same_length_bits : (s : List ℕ) → AllBytes s → 3 ≤ length s → field (bits_of s) 12 12 ≡ section_length s
same_length_bits s a long =
    let b : (k : ℕ) → get_or s k 0 < 256 = byte_in s a in
    let high : field (bits_of s) 12 4 ≡ get_or s 1 0 % 16 = field_in s 1 (omega arith) (b 1) 4 4 0 refl ∙ (let z : get_or s 1 0 / 1 % 16 ≡ get_or s 1 0 % 16 = omega arith in z) in
    field_byte s 2 (omega arith) (b 2) 12 4 refl ∙ ap (λ (x : ℕ). x * 256 + get_or s 2 0) high

module _ (s : List ℕ) (a : AllBytes s) (r : Right s) where
  pub length_bits_right : field (bits_of s) 12 12 ≡ length s - 3
  length_bits_right = same_length_bits s a (omega (arith, r.size)) ∙ omega (arith, r.size)

  pub given_canonical : canonical_frame s
      ≡ eqb (number_of (section_of s)) 0 && (eqb (field (bits_of s) 8 4) 0b0011 && eqb (length s) (of_section.section_length (command_length s) (loop_length s)))
  unfolding canonical_frame
  given_canonical = rw (eq-eqb _ _ length_bits_right)

-- the first of conditions that are numbered from n on is none below n
not_below : (k n : ℕ) (bs : List Bool) → 0 < k → k < n → first n bs ≡ k → ⊥
not_below k n [] some less e = omega arith
not_below k n (true ∷ bs) some less e = omega arith
not_below k n (false ∷ bs) some less e = not_below k (suc n) bs some (omega arith) e

pub neither_short_nor_long : (s : List ℕ) → Right s → (k : ℕ) → 0 < k → k < 3 → number_of (section_of s) ≡ k → ⊥
neither_short_nor_long s r k some less e =
    let f : first 1 (ltb (length s) 3 ∷ ltb 4096 (length s) ∷ drop 2 (conditions s)) ≡ k = sym (refusals_in_order s) ∙ e in
    not_below k 3 (drop 2 (conditions s)) some less (rw (le-ltb (length s) 3 (omega (arith, r.size)), le-ltb 4096 (length s) (omega (arith, r.size, r.short))) at f)

pub record Framed (s : List ℕ) : Type 0 where
  pub low : field (bits_of s) 12 12 ≡ length s - 3
  pub neither : (k : ℕ) → 0 < k → k < 3 → number_of (section_of s) ≡ k → ⊥

pub taken_framed : (a later : Assembler) (p b : List ℕ) (size : ℕ) → 4096 ≤ length b → AllBytes (taken_of a p b).buffer → (taken_of a p b).answer ≡ (Some size, later)
    → Framed (take size (taken_of a p b).buffer)
taken_framed a later p b size room bytes e =
    let r : Right (take size (taken_of a p b).buffer) = taken_right a later p b size room e in
    record { low = length_bits_right _ (bytes_take size (taken_of a p b).buffer bytes) r; neither = neither_short_nor_long _ r }

pub canonical_laid : (s : List ℕ) (x : Section) → AllBytes s → section_of s ≡ Ok x → canonical_section s ≡ true → Laid s
canonical_laid s x a e c =
    let p = parts_of_lem s x e in
    let l : field (bits_of s) 12 12 ≡ length s - 3 = (framed s (canonical_parts s c).around).low in
    let m : section_length s ≡ length s - 3 = sym (same_length_bits s a (omega (arith, p.long))) ∙ l in
    record { right = record { size = omega (arith, m, p.long); short = omega (arith, m, p.short) }; begun = λ z. omega (arith, p.first) }
