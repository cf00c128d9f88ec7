-- The payload of a segmentation descriptor. 01, "Loop items". The rules of its UPID are not the table's: here it has the type that is written.
use Rattle.std.specs.Prelude.{ℕ, ◌+◌, ◌*◌, ◌/◌, ◌%◌, Bool, true, false, not, ◌&&◌, List, [], eqb, Some, None, Option}
use Rattle.names.specs.Flags.{Answer, gives, refuses, restrictions_bits, restrictions_of}
use Rattle.names.specs.Segmentation.{segmentation_number, segmentation_type_of, writable_segmentation}
use Rattle.names.specs.declared.flags.DeviceRestrictions.{DeviceRestrictions}
use Rattle.table.specs.Bits.{pick}
use Rattle.table.specs.Lent.{no_view}
use Rattle.table.specs.Table.{Table, done, must, inside, part, remaining, list, uimsbf, flag, ones}
use Rattle.descriptor.specs.declared.back.Back.{Back}
use Rattle.descriptor.specs.declared.front.Front.{Front}
use Rattle.descriptor.specs.declared.segmentation.DeliveryRestrictions.{DeliveryRestrictions}
use Rattle.descriptor.specs.declared.segmentation.SegmentationComponent.{SegmentationComponent}
use Rattle.descriptor.specs.declared.segmentation.SegmentationDescriptor.{SegmentationDescriptor}
use Rattle.descriptor.specs.declared.segmentation.DescriptorDetail.{DescriptorDetail}
use Rattle.descriptor.specs.declared.segmentation.DescriptorDetail.TheVariants.{Cancel, Active}
use Rattle.descriptor.specs.declared.segmentation.SegmentationDetail.{SegmentationDetail}
use Rattle.descriptor.specs.declared.segmentation.SegmentationMode.{SegmentationMode}
use Rattle.descriptor.specs.declared.segmentation.SegmentationMode.TheVariants.{Program, Component}
use Rattle.descriptor.specs.declared.segmentation.SegmentationUpid.{SegmentationUpid}
use Rattle.descriptor.specs.declared.segmentation.SubSegment.{SubSegment}

-- ---- "web 1, blackout 1, archive 1, device 2 if restricted, else reserved 5"

-- each number of two bits has a name, so the second line is never met
abbrev pub named : Answer DeviceRestrictions → DeviceRestrictions
named (gives d) = d
named (refuses number values) = DeviceRestrictions.None

unfoldable pub device_of : ℕ → DeviceRestrictions
device_of n = named (restrictions_of n)

abbrev pub restricted : Option DeliveryRestrictions → DeliveryRestrictions
restricted None = record {
  web_delivery_allowed_flag = false;
  no_regional_blackout_flag = false;
  archive_allowed_flag = false;
  device_restrictions = DeviceRestrictions.None;
}
restricted (Some r) = r

abbrev pub unrestricted : Option DeliveryRestrictions → Bool
unrestricted None = true
unrestricted (Some r) = false

unfoldable pub delivery_restrictions : Bool → Table (Option DeliveryRestrictions)
delivery_restrictions not_restricted =
    pick not_restricted
    (ones 5 (
    done None))
    (flag (λ x. (restricted x).web_delivery_allowed_flag) λ web_delivery_allowed.
    flag (λ x. (restricted x).no_regional_blackout_flag) λ no_regional_blackout.
    flag (λ x. (restricted x).archive_allowed_flag) λ archive_allowed.
    uimsbf 2 (λ x. restrictions_bits (restricted x).device_restrictions) λ device_restrictions.
    done (Some (record {
      web_delivery_allowed_flag = web_delivery_allowed;
      no_regional_blackout_flag = no_regional_blackout;
      archive_allowed_flag = archive_allowed;
      device_restrictions = device_of device_restrictions;
    })))

-- ---- "if not program: count 8, each tag 8, reserved 7, offset 33"

unfoldable pub component : Table SegmentationComponent
component =
    uimsbf 8 (λ x. x.component_tag) λ component_tag.
    ones 7 (
    uimsbf 33 (λ x. x.pts_offset) λ pts_offset.
    done (record { component_tag = component_tag; pts_offset = pts_offset }))

abbrev pub blank_component : SegmentationComponent
blank_component = record { component_tag = 0; pts_offset = 0 }

abbrev pub by_program : SegmentationMode → Bool
by_program Program = true
by_program (Component n) = false

abbrev pub count_of : SegmentationMode → ℕ
count_of Program = 0
count_of (Component n) = n

-- the mode, and the components that stand beside it
pub record Moded : Type 0 where
  pub mode : SegmentationMode
  pub components : List SegmentationComponent

unfoldable pub mode : Bool → Table Moded
mode program_segmentation =
    pick program_segmentation
    (done (record { mode = Program; components = [] }))
    (uimsbf 8 (λ x. count_of x.mode) λ component_count'.
    inside (list component_count' blank_component component) (λ x. x.components) λ components.
    done (record { mode = Component component_count'; components = components }))

-- how many bytes the mode with its components takes
abbrev pub mode_size : SegmentationMode → ℕ
mode_size Program = 0
mode_size (Component n) = 1 + n * 6

-- ---- "duration 40 if flagged"

abbrev pub ticks : Option ℕ → ℕ
ticks None = 0
ticks (Some t) = t

abbrev pub lasting : Option ℕ → Bool
lasting None = false
lasting (Some t) = true

unfoldable pub duration : Bool → Table (Option ℕ)
duration flagged =
    pick flagged
    (uimsbf 40 ticks λ segmentation_duration.
    done (Some segmentation_duration))
    (done None)

abbrev pub duration_size : Option ℕ → ℕ
duration_size None = 0
duration_size (Some t) = 5

-- how many bytes both take, by the byte of flags and the byte after it
abbrev pub fields_before : ℕ → ℕ → ℕ
fields_before flags count = pick (eqb (flags / 128 % 2) 1) 0 (1 + count * 6) + pick (eqb (flags / 64 % 2) 1) 5 0

-- ---- "UPID type 8, length 8, bytes"

unfoldable pub written_upid : Table SegmentationUpid
written_upid =
    uimsbf 8 (λ x. x.upid_type) λ upid_type_number.
    uimsbf 8 (λ x. x.bytes.len) λ length.
    inside (part length) (λ x. x.bytes) λ bytes.
    done (record { upid_type = upid_type_number; bytes = bytes })

-- ---- "program 1, duration 1, not-restricted 1", and all up to the UPID

pub record ListedFront : Type 0 where
  pub front : Front
  pub components : List SegmentationComponent

unfoldable pub parts : Bool → Bool → Bool → Table ListedFront
parts program lasting free =
    inside (delivery_restrictions free) (λ x. x.front.delivery_restrictions) λ restrictions.
    inside (mode program) (λ x. record { mode = x.front.segmentation_mode; components = x.components }) λ moded.
    inside (duration lasting) (λ x. x.front.segmentation_duration) λ lasts.
    inside written_upid (λ x. x.front.segmentation_upid) λ upid.
    done (record {
      front = record {
        program_segmentation_flag = program;
        segmentation_duration_flag = lasting;
        delivery_not_restricted_flag = free;
        delivery_restrictions = restrictions;
        segmentation_mode = moded.mode;
        segmentation_duration = lasts;
        segmentation_upid = upid;
      };
      components = moded.components;
    })

-- Each flag is written as its part says, so that every number handed in is looked at. Where a flag says otherwise, that is refusal 33 (`writable_detail`).
unfoldable pub front : Table ListedFront
front =
    flag (λ x. by_program x.front.segmentation_mode) λ program_segmentation.
    flag (λ x. lasting x.front.segmentation_duration) λ segmentation_duration.
    flag (λ x. unrestricted x.front.delivery_restrictions) λ delivery_not_restricted.
    parts program_segmentation segmentation_duration delivery_not_restricted

-- ---- "Then 0 bytes left: no sub-segments; 1 left: 21 (1, 0); 2 or more: two bytes of sub-segments." In the canonical form there are no more.

abbrev pub sub_bytes : Option SubSegment → ℕ
sub_bytes None = 0
sub_bytes (Some x) = 2

abbrev pub sub_segment : Option SubSegment → SubSegment
sub_segment None = record { sub_segment_num = 0; sub_segments_expected = 0 }
sub_segment (Some x) = x

unfoldable pub sub_segments : Table (Option SubSegment)
sub_segments =
    inside remaining sub_bytes λ bytes_left.
    pick (eqb bytes_left 0)
    (done None)
    (must (eqb bytes_left 2) (
    uimsbf 8 (λ x. (sub_segment x).sub_segment_num) λ sub_segment_num.
    uimsbf 8 (λ x. (sub_segment x).sub_segments_expected) λ sub_segments_expected.
    done (Some (record { sub_segment_num = sub_segment_num; sub_segments_expected = sub_segments_expected }))))

-- ---- "type id 8, number 8, expected 8", and the sub-segments

unfoldable pub back : Table Back
back =
    uimsbf 8 (λ x. segmentation_number x.segmentation_type_id) λ segmentation_type_id.
    uimsbf 8 (λ x. x.segment_num) λ segment_num.
    uimsbf 8 (λ x. x.segments_expected) λ segments_expected.
    inside sub_segments (λ x. x.sub_segments) λ sub_segments'.
    done (record {
      segmentation_type_id = segmentation_type_of segmentation_type_id;
      segment_num = segment_num;
      segments_expected = segments_expected;
      sub_segments = sub_segments';
    })

-- ---- "event id 32, cancel 1, reserved 7"

pub record Head : Type 0 where
  pub event : ℕ
  pub cancel : Bool

unfoldable pub head : Table Head
head =
    uimsbf 32 (λ x. x.event) λ segmentation_event_id.
    flag (λ x. x.cancel) λ segmentation_event_cancel.
    ones 7 (
    done (record { event = segmentation_event_id; cancel = segmentation_event_cancel }))

-- ---- the whole, with its components; what a cancelled one leaves out is blank

pub record Segmentation : Type 0 where
  pub descriptor : SegmentationDescriptor
  pub components : List SegmentationComponent

abbrev pub active_from : Front → SegmentationUpid → Back → SegmentationDetail
active_from f upid b = record {
  program_segmentation_flag = f.program_segmentation_flag;
  segmentation_duration_flag = f.segmentation_duration_flag;
  delivery_not_restricted_flag = f.delivery_not_restricted_flag;
  delivery_restrictions = f.delivery_restrictions;
  segmentation_mode = f.segmentation_mode;
  segmentation_duration = f.segmentation_duration;
  segmentation_upid = upid;
  segmentation_type_id = b.segmentation_type_id;
  segment_num = b.segment_num;
  segments_expected = b.segments_expected;
  sub_segments = b.sub_segments;
}

abbrev pub blank_upid : SegmentationUpid
blank_upid = record { upid_type = 0; bytes = no_view }

abbrev pub blank_front : Front
blank_front = record {
  program_segmentation_flag = true;
  segmentation_duration_flag = false;
  delivery_not_restricted_flag = true;
  delivery_restrictions = None;
  segmentation_mode = Program;
  segmentation_duration = None;
  segmentation_upid = blank_upid;
}

abbrev pub blank_back : Back
blank_back = record {
  segmentation_type_id = segmentation_type_of 0;
  segment_num = 0;
  segments_expected = 0;
  sub_segments = None;
}

abbrev pub cancelled : DescriptorDetail → Bool
cancelled Cancel = true
cancelled (Active i) = false

abbrev pub front_of : DescriptorDetail → Front
front_of Cancel = blank_front
front_of (Active i) = record {
  program_segmentation_flag = i.program_segmentation_flag;
  segmentation_duration_flag = i.segmentation_duration_flag;
  delivery_not_restricted_flag = i.delivery_not_restricted_flag;
  delivery_restrictions = i.delivery_restrictions;
  segmentation_mode = i.segmentation_mode;
  segmentation_duration = i.segmentation_duration;
  segmentation_upid = i.segmentation_upid;
}

abbrev pub back_of : DescriptorDetail → Back
back_of Cancel = blank_back
back_of (Active i) = record {
  segmentation_type_id = i.segmentation_type_id;
  segment_num = i.segment_num;
  segments_expected = i.segments_expected;
  sub_segments = i.sub_segments;
}

-- the UPID of a detail, and how many components it has
abbrev pub detail_upid : DescriptorDetail → SegmentationUpid
detail_upid d = (front_of d).segmentation_upid

abbrev pub detail_count : DescriptorDetail → ℕ
detail_count d = count_of (front_of d).segmentation_mode

abbrev pub component_count : SegmentationDescriptor → ℕ
component_count x = detail_count x.descriptor_detail

-- a detail with another UPID
abbrev pub with_upid : SegmentationDetail → SegmentationUpid → SegmentationDetail
with_upid i upid = record {
  program_segmentation_flag = i.program_segmentation_flag;
  segmentation_duration_flag = i.segmentation_duration_flag;
  delivery_not_restricted_flag = i.delivery_not_restricted_flag;
  delivery_restrictions = i.delivery_restrictions;
  segmentation_mode = i.segmentation_mode;
  segmentation_duration = i.segmentation_duration;
  segmentation_upid = upid;
  segmentation_type_id = i.segmentation_type_id;
  segment_num = i.segment_num;
  segments_expected = i.segments_expected;
  sub_segments = i.sub_segments;
}

abbrev pub head_of : SegmentationDescriptor → Head
head_of d = record { event = d.segmentation_event_id; cancel = cancelled d.descriptor_detail }

unfoldable pub segmentation : Table Segmentation
segmentation =
    inside head (λ x. head_of x.descriptor) λ h.
    pick h.cancel
    (done (record { descriptor = record { segmentation_event_id = h.event; descriptor_detail = Cancel }; components = [] }))
    (inside front (λ x. record { front = front_of x.descriptor.descriptor_detail; components = x.components }) λ f.
    inside back (λ x. back_of x.descriptor.descriptor_detail) λ b.
    done (record {
      descriptor = record { segmentation_event_id = h.event; descriptor_detail = Active (active_from f.front f.front.segmentation_upid b) };
      components = f.components;
    }))

-- ---- refusal 33, as far as this table goes: "a flag that contradicts its optional part"; "a reserved number that has a name or lies
-- in another range" (there is one range)

abbrev pub agrees : Bool → Bool → Bool
agrees true b = b
agrees false b = not b

unfoldable pub writable_front : Front → Bool
writable_front f =
    agrees f.program_segmentation_flag (by_program f.segmentation_mode)
    && (agrees f.segmentation_duration_flag (lasting f.segmentation_duration)
    && agrees f.delivery_not_restricted_flag (unrestricted f.delivery_restrictions))

unfoldable pub writable_detail : DescriptorDetail → Bool
writable_detail Cancel = true
writable_detail (Active i) = writable_front (front_of (Active i)) && writable_segmentation i.segmentation_type_id
