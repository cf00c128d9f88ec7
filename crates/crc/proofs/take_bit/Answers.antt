-- `crc::take_bit` meets its contract: by cases on the feedback.
use mathlib.Core.Path.{◌≡◌, refl, sym, ap}
use Prim.Native.Nat.{ℕ, zero, suc}
use lib.Bits.{bit_xor}
use Rattle.crc.specs.Crc.{polynomial, fed, crc_bit}
use Rattle.crc.proofs.take_bit.Goals as goal

fed_none : (f z : ℕ) → f ≡ 0 → fed f z ≡ z
fed_none f z e = ap (λ (n : ℕ). fed n z) e

fed_some : (f z : ℕ) → (f ≡ 0 → ⊥) → fed f z ≡ bit_xor z polynomial
fed_some zero z h = absurd (h refl)
fed_some (suc f) z h = refl

pub returns-then-z-bit-eq0 : goal.returns-then-z-bit-eq0
unfolding crc_bit
returns-then-z-bit-eq0 c = sym (fed_none _ _ c.if-z-bit-eq0.true)

pub returns-else-z-bit-eq0 : goal.returns-else-z-bit-eq0
unfolding crc_bit
returns-else-z-bit-eq0 c = sym (fed_some _ _ c.if-z-bit-eq0.false)
