-- The incident's cue, by computation.
use Prim.Native.Nat.{ℕ, zero, suc, ◌<◌}
use mathlib.Core.Bool.{Bool, true, ◌&&◌}
use mathlib.Core.List.{List, [], ◌∷◌}
use mathlib.Core.Path.{◌≡◌, refl, ap₂, sym, ◌∙◌}
use native.Mathlib.Omega.{arith}
use borrow.Author.Tests.{ltb-true}
use lib.Dec.{ltb}
use lib.ListN.{take, drop, get_or}
use Rattle.command.specs.Command.{command_of}
use Rattle.crc.specs.Crc.{crc_of, crc_bits, crc_bit}
use Rattle.descriptor.specs.Descriptor.{descriptor_of, is_cuei, segmentation_of, active_of, active_with}
use Rattle.descriptor.specs.Segmentation.{delivery_restrictions, mode, duration, written_upid, parts, front, sub_segments, back, head, segmentation}
use Rattle.descriptor_loop.specs.Items.{read_at, complete_at, step_of, items_from, items_of}
use Rattle.header.specs.Header.{header_of, header_read, splice_header}
use Rattle.relabel.specs.Relabel.{fitting, loop_made, relabel_made}
use Rattle.relabel_found.specs.Found.{begins, found}
use Rattle.relabel_laws.specs.Identifiers.{of_upid, of_item, identifiers_in}
use Rattle.relabel_payload.specs.Payload.{upid_head}
use Rattle.relabel_section.specs.Frame.{body_with, section_with}
use Rattle.relabel_upid.specs.Kept as kept
use Rattle.relabel_upid.specs.Kept.{identifiers_at}
use Rattle.relabel_upid.specs.Relabel.{around, mended, spliced, taken, part_made, upid_made}
use Rattle.section.specs.Section.{command_length, command_type, command_bytes, room_after, loop_length, loop_place, frame_in, moved, moved_read, accepted, frame_of, section_of, number_of}
use Rattle.splice_time.specs.Time.{splice_time}
use Rattle.table.proofs.Lists.{and_true}
use Rattle.table.specs.Lent.{viewed}
use Rattle.table.specs.Table.{number, bit, reserved, part, remaining, list}
use Rattle.table.specs.Writing.{made}
use Rattle.transport_packet.specs.Sections.{Right}
use Rattle.upid.specs.Text.{text_of, done, step, within}
use Rattle.upid.specs.Upid.{upid_of, check_of, read_of, walk_of, ◌then◌, plain_of, length_of, is_text, reported_of, list_of, parts_of, listed, unless_refused}
use Rattle.relabel_trips.specs.Incident.{incident, incident_then, new_bytes, eight_bytes, other_bytes}
use Rattle.relabel_trips.specs.Named.{type_at, identifier_at}
use Rattle.relabel_trips.proofs.Trips.{back_again}

-- the eight-byte part becomes twelve bytes long
pub becomes : relabel_made incident 0 1 3 new_bytes ≡ made incident_then
unfolding incident incident_then relabel_made loop_made fitting found begins upid_head section_with body_with upid_made part_made spliced mended around taken number_of section_of frame_of frame_in accepted moved_read moved command_length command_type command_bytes room_after loop_length loop_place crc_of crc_bits crc_bit header_of header_read splice_header splice_time command_of items_of items_from step_of complete_at read_at descriptor_of is_cuei segmentation_of active_of active_with head front parts delivery_restrictions mode duration written_upid back sub_segments segmentation number bit reserved part remaining list viewed upid_of check_of read_of walk_of ◌then◌ plain_of length_of is_text reported_of list_of parts_of listed unless_refused text_of done step within
becomes = refl

-- every identifier of either
pub listed_before : identifiers_in incident ≡ record { level = 1; upid_type = 8; bytes = eight_bytes } ∷ (record { level = 1; upid_type = 3; bytes = other_bytes } ∷ [])
unfolding incident identifiers_in of_item of_upid identifiers_at kept.identifiers_in found upid_head command_length loop_length loop_place items_of items_from step_of complete_at read_at descriptor_of is_cuei segmentation_of active_of active_with head front parts delivery_restrictions mode duration written_upid back sub_segments segmentation number bit reserved part remaining list viewed upid_of check_of read_of walk_of ◌then◌ plain_of length_of is_text reported_of list_of parts_of listed unless_refused text_of done step within
listed_before = refl

pub listed_after : identifiers_in incident_then ≡ record { level = 1; upid_type = 3; bytes = new_bytes } ∷ (record { level = 1; upid_type = 3; bytes = other_bytes } ∷ [])
unfolding incident_then identifiers_in of_item of_upid identifiers_at kept.identifiers_in found upid_head command_length loop_length loop_place items_of items_from step_of complete_at read_at descriptor_of is_cuei segmentation_of active_of active_with head front parts delivery_restrictions mode duration written_upid back sub_segments segmentation number bit reserved part remaining list viewed upid_of check_of read_of walk_of ◌then◌ plain_of length_of is_text reported_of list_of parts_of listed unless_refused text_of done step within
listed_after = refl

-- the other's bytes, in either section
pub untouched : (take 12 (drop 47 incident) ≡ other_bytes) × (take 12 (drop 51 incident_then) ≡ other_bytes)
unfolding incident incident_then
untouched = (refl, refl)

-- the section's length is what its section_length says, and the identifier that is there is the one of eight bytes
pub incident_right : Right incident
unfolding incident
incident_right = record { size = refl; short = omega arith }

pub incident_named : (type_at incident 0 1 ≡ 8) × (identifier_at incident 0 1 ≡ eight_bytes)
unfolding incident command_length loop_length loop_place viewed upid_head upid_of check_of read_of walk_of ◌then◌ plain_of length_of is_text reported_of list_of parts_of listed unless_refused text_of done step within
incident_named = (refl, refl)

-- ---- so that it goes back, by the law

below : List ℕ → Bool
below [] = true
below (b ∷ bs) = ltb b 256 && below bs

below_all : (s : List ℕ) → below s ≡ true → (j : ℕ) → get_or s j 0 < 256
unfolding below
below_all [] e j = omega arith
below_all (b ∷ bs) e zero = ltb-true b 256 (and_true (ltb b 256) (below bs) e).0
below_all (b ∷ bs) e (suc j) = below_all bs (and_true (ltb b 256) (below bs) e).1 j

incident_bytes : below incident ≡ true
unfolding incident below
incident_bytes = refl

pub becomes_again : relabel_made incident_then 0 1 8 eight_bytes ≡ made incident
becomes_again =
    let e = back_again incident 0 1 3 new_bytes incident_then (below_all incident incident_bytes) (omega arith) becomes incident_right in
    ap₂ (λ (k : ℕ) (b : List ℕ). relabel_made incident_then 0 1 k b) (sym incident_named.0) (sym incident_named.1) ∙ e
