-- `relabel_upid::relabel_upid` meets its contract.
use Rattle.relabel_upid.proofs.Stores.{relabel_zero, relabel_more}
use Rattle.relabel_upid.proofs.relabel_upid.Goals as goal

pub returns-then-part-eq0 : goal.returns-then-part-eq0
returns-then-part-eq0 c =
    let a = c.args in record { answer = rw (relabel_zero a.upid_type a.new_type a.part a.upid.now a.new.now c.if-part-eq0.true) (c.relabel_top.ensures).0; bytes = rw (relabel_zero a.upid_type a.new_type a.part a.upid.now a.new.now c.if-part-eq0.true) (c.relabel_top.ensures).1 }

pub returns : goal.returns
returns c =
    let a = c.args in record { answer = rw (relabel_more a.upid_type a.new_type a.part a.upid.now a.new.now c.if-part-eq0.false) (c.relabel_part.ensures).0; bytes = rw (relabel_more a.upid_type a.new_type a.part a.upid.now a.new.now c.if-part-eq0.false) (c.relabel_part.ensures).1 }
