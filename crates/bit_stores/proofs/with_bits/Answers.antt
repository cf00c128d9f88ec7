-- `bit_stores::with_bits`: the byte's bits before and behind, and the number's between them.
use Prim.Native.Nat.{ℕ, ◌+◌, ◌-◌, ◌*◌, ◌/◌, ◌%◌, ◌^◌, ◌<◌}
use mathlib.Core.Path.{◌≡◌, ap, ◌∙◌}
use native.Mathlib.Omega.{arith}
use lib.Pow.{pow_pos}
use Rattle.bit_stores.specs.Private.{with_bits}
use Rattle.table.proofs.Reading.{mask}
use Rattle.bit_stores.proofs.Turns.{mixed, mixed_byte}
use Rattle.bit_stores.proofs.with_bits.Goals as goal

pub nonzero_rem-low : goal.nonzero_rem-low
nonzero_rem-low c = let a = c.args in let k = 8 - a.j - a.n in rw (mask k (omega arith)) (pow_pos k)

-- the sum that the code works out, and that it is a byte
sums : (c : goal.After-wide-byte) →
    let a = c.args in
    let b = c.wide-byte.result in
    (b / 2 ^ (8 - a.j) * 2 ^ (8 - a.j) % 2 ^ 64 + (a.x * 2 ^ (8 - a.j - a.n) % 2 ^ 64 + b % (1 * 2 ^ (8 - a.j - a.n) % 2 ^ 64)) ≡ with_bits b a.j a.n a.x) × (with_bits b a.j a.n a.x < 256)
sums c =
    let a = c.args in
    let b = c.wide-byte.result in
    (mixed b a.j a.n a.x c.wide-byte.ensures.1 c.requires.0 c.requires.1, mixed_byte b a.j a.n a.x c.wide-byte.ensures.1 c.requires.0 c.requires.1)

pub overflow_add-result : goal.overflow_add-result
overflow_add-result c = omega (arith, (sums c).0, (sums c).1)

pub overflow_add-result-2 : goal.overflow_add-result-2
overflow_add-result-2 c = omega (arith, (sums c).0, (sums c).1)

pub overflow_cast-result : goal.overflow_cast-result
overflow_cast-result c = omega (arith, (sums c).0, (sums c).1)

pub returns : goal.returns
returns c = let a = c.args in (sums c).0 ∙ ap (λ (b : ℕ). with_bits b a.j a.n a.x) c.wide-byte.ensures.0
