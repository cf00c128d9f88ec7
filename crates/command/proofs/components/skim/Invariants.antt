-- `command::components::skim`: what is ahead gives what the whole gives.
use Rattle.std.proofs.Common.{◌≡◌, ◌*◌, ◌-◌}
use Rattle.table.specs.Bits.{bits_of}
use Rattle.table.specs.Table.{list, parse}
use Rattle.command.specs.Insert.{blank, component}
use Rattle.command.specs.Private.{skimmed_of}
use Rattle.command.proofs.components.skim.Given as goal

abbrev pub invariant-loop : goal.invariant-loop
invariant-loop l =
    skimmed_of (parse (list (l.count - l.counter) blank (component l.immediate)) (bits_of l.s) (l.at * 8)) ≡ skimmed_of (parse (list l.count blank (component l.immediate)) (bits_of l.s) (l.first * 8))
