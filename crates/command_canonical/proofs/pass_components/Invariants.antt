-- `command_canonical::pass_components`: what is ahead says what the whole says.
use Rattle.std.proofs.Common.{◌-◌}
use Rattle.command_canonical.proofs.Inserts.{Ahead}
use Rattle.command_canonical.proofs.pass_components.Given as goal

abbrev pub invariant-loop : goal.invariant-loop
invariant-loop l = Ahead l.s l.immediate l.count l.at (l.count - l.counter) l.next
