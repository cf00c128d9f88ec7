-- `table::numbers::bits`: the bits of the field that are behind stand in v, and the byte goes on where they end.
use Prim.Native.Nat.{ℕ, ◌+◌, ◌-◌, ◌*◌, ◌/◌, ◌%◌, ◌^◌}
use mathlib.Core.Path.{◌≡◌, ap}
use native.Mathlib.Nat.{mod-lt}
use native.Mathlib.Omega.{arith}
use lib.Pow.{pow_pos}
use Rattle.table.specs.Bits.{bits_of, field}
use Rattle.table.proofs.Reading.{field_none, mask, turn_bits, turn_none}
use Rattle.table.proofs.numbers.bits.Goals as goal

-- the turn
read : (c : goal.After-wide) →
    let a = c.args in
    let n = c.min-n.result in
    c.loop-ahead.v * 2 ^ n % 2 ^ 64 + c.wide.result / 2 ^ (8 - c.loop-ahead.behind - n) % (1 * 2 ^ n % 2 ^ 64) ≡ field (bits_of a.s.now) (a.i * 8 + a.j) (a.w - c.loop-ahead.ahead + n) % 2 ^ 64
read c =
    let a = c.args in
    turn_bits a.s.now (a.i * 8 + a.j) (a.w - c.loop-ahead.ahead) c.loop-ahead.at c.loop-ahead.v c.wide.result (omega arith)
    (c.type_inv.s c.loop-ahead.at).fits c.wide.ensures.0 c.loop-ahead.invariant.3 c.loop-ahead.behind c.min-n.result (omega arith) c.loop-ahead.invariant.2

pub returns-then-s-i : goal.returns-then-s-i
returns-then-s-i c =
    let a = c.args in
    ap (λ (x : ℕ). x % 2 ^ 64) (field_none a.s.now (a.i * 8 + a.j) a.w (omega arith))

pub returns-then-s-i-2 : goal.returns-then-s-i-2
returns-then-s-i-2 c =
    let a = c.args in
    ap (λ (x : ℕ). x % 2 ^ 64) (field_none a.s.now (a.i * 8 + a.j) a.w (omega arith))

pub loop-ahead-init : goal.loop-ahead-init
loop-ahead-init c =
    let a = c.args in
    let z : a.w - a.w ≡ 0 = omega arith in
    (omega arith, omega arith, omega arith, rw z)

pub returns-then-s-at : goal.returns-then-s-at
returns-then-s-at c =
    let a = c.args in
    turn_none a.s.now (a.i * 8 + a.j) a.w c.loop-ahead.ahead c.loop-ahead.at c.loop-ahead.v c.loop-ahead.invariant.0 c.if-s-at.true (omega arith) c.loop-ahead.invariant.3

pub nonzero_rem-v : goal.nonzero_rem-v
nonzero_rem-v c = let n = c.min-n.result in rw (mask n (omega arith)) (pow_pos n)

pub overflow_add-v : goal.overflow_add-v
overflow_add-v c = record { fits = rw (read c) (mod-lt _ (pow_pos 64)) }

pub loop-ahead-preserved : goal.loop-ahead-preserved
loop-ahead-preserved c =
    let a = c.args in
    let n = c.min-n.result in
    let z : a.w - (c.loop-ahead.ahead - n) ≡ a.w - c.loop-ahead.ahead + n = omega arith in
    (omega arith, omega arith, omega arith, rw z (read c))

pub returns : goal.returns
returns c =
    let w = c.args.w in
    let z : w - c.loop-ahead.ahead ≡ w = omega arith in
    rw z at c.loop-ahead.invariant.3
