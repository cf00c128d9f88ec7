-- `command::insert::read_insert`: five bytes, and what is not cancelled.
use Rattle.std.proofs.lemmas.Result.{err_from_is_err_and}
use mathlib.Core.Path.{sym, ◌∙◌}
use native.Mathlib.Omega.{arith}
use Rattle.table.proofs.Reading.{bits_are}
use Rattle.command.proofs.Walking.{no_event, no_cancel, a_cancel, an_insert, no_active_lem}
use Rattle.command.proofs.insert.read_insert.Goals as goal

pub returns-then-payload-lt4 : goal.returns-then-payload-lt4
returns-then-payload-lt4 c = no_event c.args.payload.now c.if-payload-lt4.true

pub returns-then-payload-lt5 : goal.returns-then-payload-lt5
returns-then-payload-lt5 c = no_cancel c.args.payload.now c.if-payload-lt4.false c.if-payload-lt5.true

pub overflow_cast-splice_event_id : goal.overflow_cast-splice_event_id
overflow_cast-splice_event_id c =
    omega (arith, (bits_are c.args.payload.now 0 32 _ (omega arith) c.big_endian-splice_event_id.ensures).1)

pub returns-then-flags-ge128 : goal.returns-then-flags-ge128
returns-then-flags-ge128 c =
    let a = c.args in
    a_cancel a.payload.now c.big_endian-splice_event_id.result c.if-payload-lt5.false (bits_are a.payload.now 0 32 _ (omega arith) c.big_endian-splice_event_id.ensures).0 (c.type_inv.payload 4).fits c.if-flags-ge128.true

pub returns : goal.returns
returns c =
    let a = c.args in
    an_insert a.payload.now c.big_endian-splice_event_id.result c.if-payload-lt5.false (bits_are a.payload.now 0 32 _ (omega arith) c.big_endian-splice_event_id.ensures).0 (c.type_inv.payload 4).fits c.if-flags-ge128.false _ (sym c.in_ok-detail.was ∙ c.read_active.ensures)

pub returns-in_err-detail : goal.returns-in_err-detail
returns-in_err-detail c =
    let p = err_from_is_err_and c.from_residual.result c.from_residual.ensures.1 in
    let a = c.args in
    rw (p.1, p.2) (no_active_lem a.payload.now c.big_endian-splice_event_id.result c.if-payload-lt5.false (bits_are a.payload.now 0 32 _ (omega arith) c.big_endian-splice_event_id.ensures).0 (c.type_inv.payload 4).fits c.if-flags-ge128.false _ (sym c.in_err-detail.was ∙ c.read_active.ensures))
