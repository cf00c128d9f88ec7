-- `relabel_upid::head_of`: the loop's invariant says which parts are still to come from the place on.
use Rattle.std.proofs.Common.{drop}
use Rattle.relabel_upid.specs.Private.{heads}
use Rattle.relabel_upid.proofs.Heads.{Rest}
use Rattle.relabel_upid.proofs.head_of.Given as goal

abbrev pub invariant-loop : goal.invariant-loop
invariant-loop l = Rest l.at (drop l.at l.upid) (drop l.counter (heads l.upid))
