-- `table::store::put_number`: the low bytes stand in the target from at + i on, and `high` is what is left of the number.
use Rattle.std.proofs.Common.{◌≡◌, suc, ◌+◌, ◌-◌, ◌*◌, ◌/◌, ◌%◌, ◌^◌, sym, ◌∙◌, div-one, arith}
use lib.Pow.{shr-shr}
use Rattle.table.specs.Bits.{big_endian}
use Rattle.table.proofs.Bits.{length_big_endian}
use Rattle.table.proofs.Stores.{stored_none, stored_nil, stored_front}
use Rattle.table.proofs.store.put_number.Goals as goal

pub returns-then-out-at : goal.returns-then-out-at
returns-then-out-at c =
    let a = c.args in
    sym (stored_none a.out.now a.at (big_endian a.n a.v) (omega (arith, length_big_endian a.n a.v)))

pub returns-then-out-at-2 : goal.returns-then-out-at-2
returns-then-out-at-2 c =
    let a = c.args in
    sym (stored_none a.out.now a.at (big_endian a.n a.v) (omega (arith, length_big_endian a.n a.v)))

pub loop-i-init : goal.loop-i-init
loop-i-init c =
    let a = c.args in
    let z : a.n - a.n ≡ 0 = omega arith in
    (rw z (sym (div-one a.v)), rw z (sym (stored_nil a.out.now (a.at + a.n))))

pub loop-i-preserved : goal.loop-i-preserved
loop-i-preserved c =
    let a = c.args in
    let i = c.loop-i.i in
    let j = a.n - i in
    let t : a.n - (i - 1) ≡ suc j = omega arith in
    let e : suc j * 8 ≡ j * 8 + 8 = omega arith in
    let o : a.at + (i - 1) + 1 ≡ a.at + i = omega arith in
    let h = c.loop-i.invariant.0 in
    let f = stored_front a.out.now (a.at + (i - 1)) (a.v / 2 ^ (j * 8) % 256) (big_endian j a.v) (omega (arith, length_big_endian j a.v)) in
    (rw (t, e, h) (shr-shr a.v (j * 8) 8), rw (t, c.loop-i.invariant.1, h) (rw o at f))

pub returns : goal.returns
returns c =
    let a = c.args in
    let z : c.loop-i.i ≡ 0 = omega arith in
    let n : a.n - 0 ≡ a.n = omega arith in
    let o : a.at + 0 ≡ a.at = omega arith in
    c.loop-i.invariant.1 ∙ rw (z, n, o)
