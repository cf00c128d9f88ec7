-- `descriptor_writer::plain::write_time`, answer by answer.
use native.Mathlib.Omega.{arith}
use Rattle.descriptor_writer.proofs.Plainly.{time_32, time_33, time_36, time_writes}
use Rattle.descriptor_writer.proofs.plain.write_time.Goals as goal

pub returns-then-x-gt281474976710655 : goal.returns-then-x-gt281474976710655
returns-then-x-gt281474976710655 c =
    let a = c.args in
    time_32 a.x _ _ a.target.now (omega (arith, c)) (omega (arith, c)) c.if-x-gt281474976710655.true

pub returns-then-not-is_alone : goal.returns-then-not-is_alone
returns-then-not-is_alone c =
    let a = c.args in
    time_33 a.x _ _ a.target.now (omega (arith, c)) (omega (arith, c)) c.if-x-gt281474976710655.false _ c.is_alone.ensures c.if-not-is_alone.true-raw

pub returns-then-target-lt18 : goal.returns-then-target-lt18
returns-then-target-lt18 c =
    let a = c.args in
    time_36 a.x _ _ a.target.now (omega (arith, c)) (omega (arith, c)) c.if-x-gt281474976710655.false _ c.is_alone.ensures c.if-not-is_alone.false-raw c.if-target-lt18.true

pub returns : goal.returns
returns c =
    let a = c.args in
    time_writes a.x _ _ a.target.now (omega (arith, c)) (omega (arith, c)) c.if-x-gt281474976710655.false _ c.is_alone.ensures c.if-not-is_alone.false-raw _ _ _ _ _ _ _ _ _ c.if-target-lt18.false c.cuei-id.ensures c.store_envelope-c.ensures c.put_bits-second.ensures c.put_bits-third.ensures c.put_bits-last.ensures
