-- Rows a to n hold, each by computation.
use mathlib.Core.Path.{refl}
use Rattle.canonical_form.specs.Command.{canonical_command}
use Rattle.command.specs.Command.{command_of, components_of, array}
use Rattle.command.specs.Insert.{time_unless, component, moded, ending, active, insert}
use Rattle.splice_time.specs.Break.{break_duration}
use Rattle.descriptor.specs.Descriptor.{descriptor_of, is_cuei, avail_of, dtmf_of, reserved_of, segmentation_of, active_of, active_with}
use Rattle.descriptor.specs.Plain.{avail, dtmf, private_table}
use Rattle.descriptor.specs.Segmentation.{delivery_restrictions, mode, duration, written_upid, parts, front, sub_segments, back, head}
use Rattle.splice_time.specs.Time.{splice_time}
use Rattle.descriptor_loop.specs.Items.{number_of, values_of, read_at, complete_at, step_of, items_from, items_of}
use Rattle.names.specs.Segmentation as names
use Rattle.table.specs.Lent.{viewed}
use Rattle.table.specs.Table.{number, bit, reserved, part, remaining, list, canonical_by}
use Rattle.upid.specs.Cover.{All, none, more}
use Rattle.upid.specs.Text.{text_of, done, step, within}
use Rattle.upid.specs.Upid as upid
use Rattle.upid.specs.Upid.{upid_of, check_of, read_of, walk_of, ◌then◌, plain_of, length_of, is_text, reported_of, list_of, parts_of, listed, unless_refused}
use Rattle.theorems_rows.specs.Rows.{inserts_are, Holds, rows}

pub every_row : All Holds rows
unfolding rows items_of items_from step_of complete_at read_at number_of values_of upid.number_of upid.values_of descriptor_of is_cuei avail_of dtmf_of reserved_of avail dtmf private_table number bit reserved part remaining list viewed upid_of check_of read_of walk_of ◌then◌ plain_of length_of is_text reported_of list_of parts_of listed unless_refused text_of done step within command_of canonical_command canonical_by components_of array insert active ending moded break_duration time_unless component splice_time segmentation_of active_of active_with head front parts delivery_restrictions mode duration written_upid back sub_segments names.segmentation_type_of
every_row =
    more refl (more refl (more refl (more refl (more refl (more refl (more refl
    (more refl (more refl (more refl
    (more refl (more refl
    (more {x = inserts_are _ _} (record { value = _; this = refl; that = refl; components = refl; first_is = refl; second_is_not = refl })
    (more refl (more refl (more refl none)))))))))))))))
