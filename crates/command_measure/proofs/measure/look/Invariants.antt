-- `command_measure::measure::look`: the survey of the components from i on.
use Rattle.std.proofs.Common.{◌≡◌, take, drop}
use Rattle.command.specs.Command.{Tags}
use Rattle.command_measure.specs.Survey.{surveyed}
use Rattle.command_measure.proofs.measure.look.Given as goal

abbrev pub invariant-loop-i : goal.invariant-loop-i
invariant-loop-i l = (l.s ≡ surveyed l.at_once (drop l.i (take l.count l.components))) × Tags (drop l.i (take l.count l.components))
