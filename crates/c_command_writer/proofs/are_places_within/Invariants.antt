-- `c_command_writer::are_places_within`: what is left says what the whole says.
use Rattle.std.proofs.Common.{◌≡◌, ◌-◌, length}
use Rattle.c_command_writer.specs.Words.{within, each_place}
use Rattle.c_command_writer.proofs.are_places_within.Given as goal

abbrev pub invariant-loop : goal.invariant-loop
invariant-loop l = each_place (within l.widths) (length l.widths) (l.count - l.counter) l.rest ≡ each_place (within l.widths) (length l.widths) l.count l.words
