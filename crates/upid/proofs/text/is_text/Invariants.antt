-- `upid::text::is_text` meets its contract: what is left of the bytes, read on from `t`, gives what all of them give.
use Rattle.std.proofs.Common.{◌≡◌, [], drop}
use mathlib.Core.List.{foldl}
use Rattle.upid.specs.Text.{wants, step}
use Rattle.upid.specs.Private.{meaning}
use Rattle.upid.proofs.text.is_text.Given as goal

abbrev pub invariant-loop-b : goal.invariant-loop-b
invariant-loop-b l = foldl step (wants []) l.s ≡ foldl step (meaning l.t) (drop l.b-index l.b-items)
