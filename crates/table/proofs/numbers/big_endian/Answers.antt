-- `table::numbers::big_endian`: the bytes that are behind stand in v.
use Prim.Native.Nat.{◌+◌, ◌-◌, ◌*◌, ◌%◌, ◌^◌}
use mathlib.Core.Path.{◌≡◌}
use native.Mathlib.Omega.{arith}
use Rattle.table.specs.Bits.{bits_of, field}
use Rattle.table.proofs.Reading.{turn_byte, turn_none}
use Rattle.table.proofs.numbers.big_endian.Goals as goal

-- the turn
read : (c : goal.After-wide) →
    let a = c.args in
    c.loop-ahead.v * 2 ^ 8 % 2 ^ 64 + c.wide.result ≡ field (bits_of a.s.now) (a.at * 8) (a.n * 8 - c.loop-ahead.ahead * 8 + 8) % 2 ^ 64
read c =
    let a = c.args in
    turn_byte a.s.now (a.at * 8) (a.n * 8 - c.loop-ahead.ahead * 8) c.loop-ahead.i c.loop-ahead.v c.wide.result (omega arith)
    (c.type_inv.s c.loop-ahead.i).fits c.wide.ensures.0 c.loop-ahead.invariant.2 (omega arith)

pub loop-ahead-init : goal.loop-ahead-init
loop-ahead-init c = let z : c.args.n * 8 - c.args.n * 8 ≡ 0 = omega arith in (omega arith, omega arith, rw z)

pub returns-then-s-i : goal.returns-then-s-i
returns-then-s-i c =
    let a = c.args in
    turn_none a.s.now (a.at * 8) (a.n * 8) (c.loop-ahead.ahead * 8) c.loop-ahead.i c.loop-ahead.v (omega arith) c.if-s-i.true (omega arith) c.loop-ahead.invariant.2

pub loop-ahead-preserved : goal.loop-ahead-preserved
loop-ahead-preserved c =
    let n = c.args.n in
    let z : n * 8 - (c.loop-ahead.ahead - 1) * 8 ≡ n * 8 - c.loop-ahead.ahead * 8 + 8 = omega arith in
    (omega arith, omega arith, rw z (read c))

pub returns : goal.returns
returns c =
    let n = c.args.n in
    let z : n * 8 - c.loop-ahead.ahead * 8 ≡ n * 8 = omega arith in
    rw z at c.loop-ahead.invariant.2
