-- `c_command_writer::insert_components::components_from`: the first places stand in the array.
use Rattle.std.proofs.Common.{◌≡◌, [], length}
use lib.Seq.{paste}
use Rattle.command.specs.Command.{array}
use Rattle.c_command_writer.specs.Words.{places_of}
use Rattle.c_command_writer.specs.CommandGiven.{component_from}
use Rattle.c_command_writer.specs.CommandWords.{insert_components_in}
use Rattle.c_command_writer.proofs.insert_components.components_from.Given as goal

abbrev pub invariant-loop-i : goal.invariant-loop-i
invariant-loop-i l = (length l.out ≡ 255) × (l.out ≡ paste (array []) 0 (places_of component_from 3 l.count (insert_components_in l.words)) l.i)
