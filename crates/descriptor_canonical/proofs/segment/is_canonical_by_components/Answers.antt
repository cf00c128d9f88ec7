-- `descriptor_canonical::segment::is_canonical_by_components`, test by test.
use Rattle.descriptor_canonical.proofs.Tests.{count_short, count_over, count_spoilt, count_rest}
use Rattle.descriptor_canonical.proofs.segment.is_canonical_by_components.Goals as goal

pub returns-then-s-lt7 : goal.returns-then-s-lt7
returns-then-s-lt7 c = let a = c.args in count_short a.s.now a.lasting c.if-s-lt7.true

pub returns-then-s-next : goal.returns-then-s-next
returns-then-s-next c =
    let a = c.args in
    count_over a.s.now a.lasting c.if-s-lt7.false _ c.size-n.ensures.0 c.if-s-next.true

pub returns-then-not-components_ones : goal.returns-then-not-components_ones
returns-then-not-components_ones c =
    let a = c.args in
    count_spoilt a.s.now a.lasting c.if-s-lt7.false _ c.size-n.ensures.0 c.if-s-next.false _ c.components_ones.ensures c.if-not-components_ones.true-raw

pub returns : goal.returns
returns c =
    let a = c.args in
    count_rest a.s.now a.lasting c.if-s-lt7.false _ c.size-n.ensures.0 c.if-s-next.false _ c.components_ones.ensures c.if-not-components_ones.false-raw _ c.is_canonical_upid.ensures
