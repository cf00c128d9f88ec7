-- `command::components::fill`: what is ahead, stored behind what is there, gives what the whole gives.
use Rattle.std.proofs.Common.{◌≡◌, ◌*◌, ◌-◌, [], length}
use Rattle.table.specs.Bits.{bits_of}
use Rattle.table.specs.Table.{list, parse}
use Rattle.command.specs.Command.{array}
use Rattle.command.specs.Insert.{blank, component}
use Rattle.command.specs.Private.{filled}
use Rattle.command.proofs.components.fill.Given as goal

abbrev pub invariant-loop-i : goal.invariant-loop-i
invariant-loop-i l =
    (length l.out ≡ 255) × (filled l.out l.i (parse (list (l.count - l.i) blank (component l.immediate)) (bits_of l.s) (l.at * 8)) ≡ filled (array []) 0 (parse (list l.count blank (component l.immediate)) (bits_of l.s) (l.first * 8)))
