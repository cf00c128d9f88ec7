-- `descriptor_writer::plain::write_avail`, answer by answer.
use mathlib.Core.Path.{refl}
use native.Mathlib.Omega.{arith}
use Rattle.descriptor_writer.proofs.Plainly.{avail_33, avail_36, avail_writes}
use Rattle.descriptor_writer.proofs.plain.write_avail.Goals as goal

pub returns-then-not-is_alone : goal.returns-then-not-is_alone
returns-then-not-is_alone c =
    let a = c.args in
    avail_33 a.x _ _ a.target.now _ c.is_alone.ensures (omega (arith, c)) c.if-not-is_alone.true-raw

pub returns-then-target-lt10 : goal.returns-then-target-lt10
returns-then-target-lt10 c =
    let a = c.args in
    avail_36 a.x _ _ a.target.now _ c.is_alone.ensures (omega (arith, c)) c.if-not-is_alone.false-raw c.if-target-lt10.true

pub returns : goal.returns
returns c =
    let a = c.args in
    avail_writes a.x _ _ a.target.now _ c.is_alone.ensures (omega (arith, c)) c.if-not-is_alone.false-raw _ _ _ _ _ _ c.if-target-lt10.false c.cuei-id.ensures c.store_envelope-c.ensures refl c.put_bits-last.ensures
