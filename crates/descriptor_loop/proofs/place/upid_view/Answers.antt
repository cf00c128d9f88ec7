-- `descriptor_loop::place::upid_view` meets its contract: a UPID has a view by its reported type.
use borrow.Author.Tests.{eq-eqb, ne_eqb}
use Rattle.descriptor_loop.proofs.Places.{upid_view}
use Rattle.descriptor_loop.proofs.place.upid_view.Goals as goal

pub returns-then-u-eq0 : goal.returns-then-u-eq0
returns-then-u-eq0 c = rw (eq-eqb _ _ c.if-u-eq0.true)

pub returns-then-u-eq-UPID_EIDR : goal.returns-then-u-eq-UPID_EIDR
returns-then-u-eq-UPID_EIDR c = rw (ne_eqb _ _ c.if-u-eq0.false, eq-eqb _ _ c.if-u-eq-UPID_EIDR.true)

pub returns : goal.returns
returns c = rw (upid_view c.args.u c.if-u-eq0.false c.if-u-eq-UPID_EIDR.false)
