-- `upid::check_upid` meets its contract: each answer takes the definition's tests in turn.
use borrow.Author.Tests.{lt-ltb, le-ltb, eq-eqb, ne_eqb}
use Rattle.upid.specs.Upid.{check_of}
use Rattle.upid.proofs.check_upid.Goals as goal

pub returns-then-upid-gt-MAX_UPID : goal.returns-then-upid-gt-MAX_UPID
unfolding check_of
returns-then-upid-gt-MAX_UPID c = rw (lt-ltb _ _ c.if-upid-gt-MAX_UPID.true)

pub returns-then-upid-eq0 : goal.returns-then-upid-eq0
unfolding check_of
returns-then-upid-eq0 c = rw (le-ltb _ _ c.if-upid-gt-MAX_UPID.false, eq-eqb _ _ c.if-upid-eq0.true)

pub returns : goal.returns
unfolding check_of
returns c = rw (le-ltb _ _ c.if-upid-gt-MAX_UPID.false, ne_eqb _ _ c.if-upid-eq0.false) c.check_payload.ensures
