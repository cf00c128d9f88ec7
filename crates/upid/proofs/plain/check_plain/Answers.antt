-- `upid::plain::check_plain` meets its contract: each answer takes the definition's tests in turn.
use borrow.Author.Tests.{eq-eqb, ne_eqb}
use Rattle.upid.specs.Upid.{plain_of}
use Rattle.upid.proofs.plain.check_plain.Goals as goal

pub returns-then-upid_type-eq0 : goal.returns-then-upid_type-eq0
unfolding plain_of
returns-then-upid_type-eq0 c = simp (eq-eqb _ _ c.if-upid_type-eq0.true)

pub returns-then-expected-eq0 : goal.returns-then-expected-eq0
unfolding plain_of
returns-then-expected-eq0 c = simp (ne_eqb _ _ c.if-upid_type-eq0.false, ← c.fixed-expected.ensures, eq-eqb _ _ c.if-expected-eq0.true, c.reported.ensures)

pub returns-then-actual-expected : goal.returns-then-actual-expected
unfolding plain_of
returns-then-actual-expected c = simp (ne_eqb _ _ c.if-upid_type-eq0.false, ← c.fixed-expected.ensures, ne_eqb _ _ c.if-expected-eq0.false, ne_eqb _ _ c.if-actual-expected.true)

pub returns-then-is_text : goal.returns-then-is_text
unfolding plain_of
returns-then-is_text c = simp (ne_eqb _ _ c.if-upid_type-eq0.false, ← c.fixed-expected.ensures, ne_eqb _ _ c.if-expected-eq0.false, eq-eqb _ _ c.if-actual-expected.false, ← c.has_text.ensures, c.if-has_text.true, ← c.is_text.ensures, c.if-is_text.true, c.reported-then-is_text.ensures)

pub returns-then-has_text : goal.returns-then-has_text
unfolding plain_of
returns-then-has_text c = simp (ne_eqb _ _ c.if-upid_type-eq0.false, ← c.fixed-expected.ensures, ne_eqb _ _ c.if-expected-eq0.false, eq-eqb _ _ c.if-actual-expected.false, ← c.has_text.ensures, c.if-has_text.true, ← c.is_text.ensures, c.if-is_text.false)

pub returns : goal.returns
unfolding plain_of
returns c = simp (ne_eqb _ _ c.if-upid_type-eq0.false, ← c.fixed-expected.ensures, ne_eqb _ _ c.if-expected-eq0.false, eq-eqb _ _ c.if-actual-expected.false, ← c.has_text.ensures, c.if-has_text.false, c.reported-2.ensures)
