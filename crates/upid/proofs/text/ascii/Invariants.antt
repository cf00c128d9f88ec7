-- `upid::text::ascii` meets its contract: what is left of the bytes, read on from between two characters, gives what all of them give.
use Rattle.std.proofs.Common.{◌≡◌, [], drop}
use mathlib.Core.List.{foldl}
use Rattle.upid.specs.Text.{wants, step}
use Rattle.upid.proofs.text.ascii.Given as goal

abbrev pub invariant-loop-i : goal.invariant-loop-i
invariant-loop-i l = foldl step (wants []) l.s ≡ foldl step (wants []) (drop l.i l.s)
