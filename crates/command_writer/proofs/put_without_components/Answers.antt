-- `command_writer::put_without_components`: where there is room.
use mathlib.Core.List.{[]}
use mathlib.Core.Path.{sym, ◌∙◌}
use lib.ListN.{length}
use Rattle.command.specs.Command.{array}
use Rattle.table.proofs.Bits.{bytes_all}
use Rattle.command_measure.specs.Made.{command_made}
use Rattle.command_writer.proofs.Payloads.{room_there, room_none}
use Rattle.command_writer.proofs.put_without_components.Goals as goal

pub store_without_components-requires : goal.store_without_components-requires
store_without_components-requires c =
    let a = c.args in
    let p = room_there (command_made a.command (array []) a.lent.now) c.measure_without_components.result c.measure_without_components.ensures.0 a.at (length a.out.now) (sym c.has_room.ensures ∙ c.if-has_room.true) in
    (bytes_all a.out.now (λ j. (c.slice_known-1.given j).fits), p.0, p.1, c.measure_without_components.ensures.1)

pub returns-then-has_room : goal.returns-then-has_room
returns-then-has_room c = c.store_without_components.ensures

pub returns-else-has_room : goal.returns-else-has_room
returns-else-has_room c =
    let a = c.args in
    room_none (command_made a.command (array []) a.lent.now) c.measure_without_components.result c.measure_without_components.ensures.0 a.out.now a.at (sym c.has_room.ensures ∙ c.if-has_room.false)
