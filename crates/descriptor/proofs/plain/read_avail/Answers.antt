-- `descriptor::plain::read_avail`: four bytes are the number.
use native.Mathlib.Omega.{arith}
use Rattle.table.proofs.Reading.{bits_are}
use Rattle.descriptor.proofs.Plains.{avail_short, avail_is}
use Rattle.descriptor.proofs.plain.read_avail.Goals as goal

pub returns-then-payload-lt4 : goal.returns-then-payload-lt4
returns-then-payload-lt4 c =
    let a = c.args in
    avail_short a.payload.now c.if-payload-lt4.true

pub overflow_cast-result : goal.overflow_cast-result
overflow_cast-result c =
    let a = c.args in
    omega (arith, bits_are a.payload.now 0 32 _ (omega arith) c.big_endian.ensures)

pub returns : goal.returns
returns c =
    let a = c.args in
    avail_is a.payload.now _ c.if-payload-lt4.false (bits_are a.payload.now 0 32 _ (omega arith) c.big_endian.ensures).0
