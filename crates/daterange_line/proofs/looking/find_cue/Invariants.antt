-- `daterange_line::looking::find_cue`: the walk from `at` on answers what the line says.
use Rattle.std.proofs.Common.{◌≡◌, ◌-◌, length}
use Rattle.daterange_line.specs.Private.{walk, look_of}
use Rattle.daterange_line.proofs.looking.find_cue.Given as goal

abbrev pub invariant-loop : goal.invariant-loop
invariant-loop l = look_of l.line ≡ walk (length l.line - l.counter) l.line l.at l.f
