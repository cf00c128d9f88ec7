-- `relabel_upid::mend` meets its contract. The loop's invariant: the parts that are still to come from the place on, and what is left of them, mended in the
-- target as it is now, gives what all of them give in the target as it was.
use Rattle.std.proofs.Common.{◌≡◌, length, take, drop}
use Rattle.relabel_upid.specs.Private.{heads, nth}
use Rattle.relabel_upid.specs.Relabel.{mended}
use Rattle.relabel_upid.proofs.Heads.{Rest}
use Rattle.relabel_upid.proofs.mend.Given as goal

abbrev pub invariant-loop : goal.invariant-loop
invariant-loop l =
    (length l.target ≡ length l.initial.target)
    × Rest l.at (drop l.at l.upid) (drop l.counter (heads l.upid))
    × (mended (nth l.upid l.i) l.n (drop l.counter (take l.i (heads l.upid))) l.target ≡ mended (nth l.upid l.i) l.n (take l.i (heads l.upid)) l.initial.target)
