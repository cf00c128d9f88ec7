-- `relabel_upid::next_head`: by the type in the head.
use Rattle.relabel_upid.proofs.Heads.{next_mid, next_plain}
use Rattle.relabel_upid.proofs.next_head.Goals as goal

pub returns-then-upid-at-eq-UPID_MID : goal.returns-then-upid-at-eq-UPID_MID
returns-then-upid-at-eq-UPID_MID c = let a = c.args in next_mid a.upid.now a.at c.if-upid-at-eq-UPID_MID.true

pub returns : goal.returns
returns c = let a = c.args in next_plain a.upid.now a.at _ c.if-upid-at-eq-UPID_MID.false c.size-l.ensures.0
