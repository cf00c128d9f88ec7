-- `descriptor_writer::plain::write_reserved`, answer by answer.
use native.Mathlib.Omega.{arith}
use Rattle.descriptor_writer.proofs.Plainly.{reserved_31, reserved_33, reserved_34, reserved_36, reserved_writes}
use Rattle.descriptor_writer.proofs.plain.write_reserved.Goals as goal

pub returns-then-not-lies_in : goal.returns-then-not-lies_in
returns-then-not-lies_in c =
    let a = c.args in
    reserved_31 a.tag a.private_bytes _ _ a.lent.now a.target.now _ c.lies_in.ensures (omega (arith, c)) c.if-not-lies_in.true-raw

pub returns-then-not-is_writable_reserved : goal.returns-then-not-is_writable_reserved
returns-then-not-is_writable_reserved c =
    let a = c.args in
    reserved_33 a.tag a.private_bytes _ _ a.lent.now a.target.now _ c.lies_in.ensures (omega (arith, c)) c.if-not-lies_in.false-raw _ c.is_writable_reserved.ensures c.if-not-is_writable_reserved.true-raw

pub returns-then-private_bytes-gt-MAX_PAYLOAD : goal.returns-then-private_bytes-gt-MAX_PAYLOAD
returns-then-private_bytes-gt-MAX_PAYLOAD c =
    let a = c.args in
    reserved_34 a.tag a.private_bytes _ _ a.lent.now a.target.now _ c.lies_in.ensures (omega (arith, c)) c.if-not-lies_in.false-raw _ c.is_writable_reserved.ensures c.if-not-is_writable_reserved.false-raw c.if-private_bytes-gt-MAX_PAYLOAD.true

pub returns-then-target-private_bytes : goal.returns-then-target-private_bytes
returns-then-target-private_bytes c =
    let a = c.args in
    reserved_36 a.tag a.private_bytes _ _ a.lent.now a.target.now _ c.lies_in.ensures (omega (arith, c)) c.if-not-lies_in.false-raw _ c.is_writable_reserved.ensures c.if-not-is_writable_reserved.false-raw c.if-private_bytes-gt-MAX_PAYLOAD.false c.if-target-private_bytes.true

pub returns : goal.returns
returns c =
    let a = c.args in
    reserved_writes a.tag a.private_bytes _ _ a.lent.now a.target.now _ c.lies_in.ensures (omega (arith, c)) c.if-not-lies_in.false-raw _ c.is_writable_reserved.ensures c.if-not-is_writable_reserved.false-raw c.if-private_bytes-gt-MAX_PAYLOAD.false _ _ _ _ _ c.if-target-private_bytes.false c.store_envelope-c.ensures c.view-part.ensures c.put_run-last.ensures
