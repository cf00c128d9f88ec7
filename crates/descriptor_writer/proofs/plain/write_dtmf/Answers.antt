-- `descriptor_writer::plain::write_dtmf`, answer by answer.
use native.Mathlib.Omega.{arith}
use Rattle.descriptor_writer.proofs.Plainly.{dtmf_31, dtmf_32, dtmf_33, dtmf_36, dtmf_writes}
use Rattle.descriptor_writer.proofs.plain.write_dtmf.Goals as goal

pub returns-then-not-lies_in : goal.returns-then-not-lies_in
returns-then-not-lies_in c =
    let a = c.args in
    dtmf_31 a.x _ _ a.lent.now a.target.now _ c.lies_in.ensures (omega (arith, c)) c.if-not-lies_in.true-raw

pub returns-then-chars-gt7 : goal.returns-then-chars-gt7
returns-then-chars-gt7 c =
    let a = c.args in
    dtmf_32 a.x _ _ a.lent.now a.target.now _ c.lies_in.ensures (omega (arith, c)) c.if-not-lies_in.false-raw c.if-chars-gt7.true

pub returns-then-not-is_alone : goal.returns-then-not-is_alone
returns-then-not-is_alone c =
    let a = c.args in
    dtmf_33 a.x _ _ a.lent.now a.target.now _ c.lies_in.ensures (omega (arith, c)) c.if-not-lies_in.false-raw c.if-chars-gt7.false _ c.is_alone.ensures c.if-not-is_alone.true-raw

pub returns-then-target-chars : goal.returns-then-target-chars
returns-then-target-chars c =
    let a = c.args in
    dtmf_36 a.x _ _ a.lent.now a.target.now _ c.lies_in.ensures (omega (arith, c)) c.if-not-lies_in.false-raw c.if-chars-gt7.false _ c.is_alone.ensures c.if-not-is_alone.false-raw c.if-target-chars.true

pub overflow_add-result : goal.overflow_add-result
overflow_add-result c = omega (arith, c)

pub returns : goal.returns
returns c =
    let a = c.args in
    dtmf_writes a.x _ _ a.lent.now a.target.now _ c.lies_in.ensures (omega (arith, c)) c.if-not-lies_in.false-raw c.if-chars-gt7.false _ c.is_alone.ensures c.if-not-is_alone.false-raw _ _ _ _ _ _ _ _ _ _ _ _ _ c.if-target-chars.false c.cuei-id.ensures c.store_envelope-c.ensures c.wide.ensures.0 c.put_bits-second.ensures c.put_bits-third.ensures c.put_bits-fourth.ensures c.view-part.ensures c.put_run-last.ensures
