-- `attribute_list::bytes::past`: the run from `i` on ends where the whole run ends.
use Rattle.std.proofs.Common.{◌≡◌, ◌+◌, drop}
use Rattle.std.specs.List.{prefix_len}
use Rattle.attribute_list.proofs.bytes.past.Given as goal

abbrev pub invariant-loop-i : goal.invariant-loop-i
invariant-loop-i g l = l.at + prefix_len g.C.Class.test (drop l.at l.line) ≡ l.i + prefix_len g.C.Class.test (drop l.i l.line)
