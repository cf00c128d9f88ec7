-- `descriptor::plain::read_time`: twelve bytes are the three numbers.
use native.Mathlib.Omega.{arith}
use Rattle.table.proofs.Reading.{bits_are}
use Rattle.descriptor.proofs.Plains.{time_short, time_is}
use Rattle.descriptor.proofs.plain.read_time.Goals as goal

pub returns-then-payload-lt12 : goal.returns-then-payload-lt12
returns-then-payload-lt12 c =
    let a = c.args in
    time_short a.payload.now c.if-payload-lt12.true

pub overflow_cast-result : goal.overflow_cast-result
overflow_cast-result c =
    let a = c.args in
    omega (arith, bits_are a.payload.now 48 32 _ (omega arith) c.big_endian-2.ensures)

pub overflow_cast-result-2 : goal.overflow_cast-result-2
overflow_cast-result-2 c =
    let a = c.args in
    omega (arith, bits_are a.payload.now 80 16 _ (omega arith) c.big_endian-3.ensures)

pub returns : goal.returns
returns c =
    let a = c.args in
    time_is a.payload.now _ _ _ c.if-payload-lt12.false (bits_are a.payload.now 0 48 _ (omega arith) c.big_endian.ensures).0 (bits_are a.payload.now 48 32 _ (omega arith) c.big_endian-2.ensures).0
    (bits_are a.payload.now 80 16 _ (omega arith) c.big_endian-3.ensures).0
