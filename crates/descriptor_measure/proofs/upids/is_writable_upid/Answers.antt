-- `descriptor_measure::upids::is_writable_upid`, test by test.
use mathlib.Core.Path.{ap, sym, ◌∙◌}
use Rattle.descriptor_measure.specs.Writing.{accepts}
use Rattle.descriptor_measure.proofs.Tests.{upid_eidr, upid_beside, upid_none, upid_empty, upid_five, upid_read_lem}
use Rattle.descriptor_measure.proofs.upids.is_writable_upid.Goals as goal

pub returns-then-u-eq-UPID_EIDR : goal.returns-then-u-eq-UPID_EIDR
returns-then-u-eq-UPID_EIDR c = upid_eidr c.args.u c.args.eidr c.args.lent.now c.if-u-eq-UPID_EIDR.true

pub returns-then-not-is_zero : goal.returns-then-not-is_zero
returns-then-not-is_zero c = upid_beside c.args.u c.args.eidr c.args.lent.now c.if-u-eq-UPID_EIDR.false _ c.is_zero.ensures c.if-not-is_zero.true-raw

pub returns-then-u-eq0 : goal.returns-then-u-eq0
returns-then-u-eq0 c = upid_none c.args.u c.args.eidr c.args.lent.now c.if-u-eq-UPID_EIDR.false _ c.is_zero.ensures c.if-not-is_zero.false-raw c.if-u-eq0.true

pub returns-then-bytes-eq0 : goal.returns-then-bytes-eq0
returns-then-bytes-eq0 c = upid_empty c.args.u c.args.eidr c.args.lent.now c.if-u-eq-UPID_EIDR.false _ c.is_zero.ensures c.if-not-is_zero.false-raw c.if-u-eq0.false c.if-bytes-eq0.true

pub returns-then-u-eq5 : goal.returns-then-u-eq5
returns-then-u-eq5 c = upid_five c.args.u c.args.eidr c.args.lent.now c.if-u-eq-UPID_EIDR.false _ c.is_zero.ensures c.if-not-is_zero.false-raw c.if-u-eq0.false c.if-bytes-eq0.false c.if-u-eq5.true

pub returns-in-Ok : goal.returns-in-Ok
returns-in-Ok c = sym (ap accepts c.in-Ok.is) ∙ upid_read_lem c.args.u c.args.eidr c.args.lent.now c.if-u-eq-UPID_EIDR.false _ c.is_zero.ensures c.if-not-is_zero.false-raw c.if-u-eq0.false c.if-bytes-eq0.false c.if-u-eq5.false _ _ _ c.view-part.ensures c.written_type.ensures c.check_upid.ensures

pub returns-in-Err : goal.returns-in-Err
returns-in-Err c = sym (ap accepts c.in-Err.is) ∙ upid_read_lem c.args.u c.args.eidr c.args.lent.now c.if-u-eq-UPID_EIDR.false _ c.is_zero.ensures c.if-not-is_zero.false-raw c.if-u-eq0.false c.if-bytes-eq0.false c.if-u-eq5.false _ _ _ c.view-part.ensures c.written_type.ensures c.check_upid.ensures
