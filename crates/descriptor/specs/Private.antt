-- What the contracts of private functions say: the readings of the tables as the functions answer them.
use Rattle.std.specs.Prelude.{ℕ, ◌*◌, ◌-◌, ◌/◌, ◌%◌, List, [], ◌≡◌, eqb, Ok, Err, Some, None, Option, Result}
use Rattle.std.proofs.lemmas.List.Edits.{sets}
use Rattle.table.specs.Bits.{pick}
use Rattle.table.specs.Cursor.{cursor_at}
use Rattle.table.specs.Lent.{viewed}
use Rattle.table.specs.Table.{Answer, got, short}
use Rattle.table.specs.declared.View.{View}
use Rattle.table.specs.declared.cursor.Short as lacks
use Rattle.upid.specs.Upid.{check_of}
use Rattle.upid.specs.declared.Refusal.TheVariants.{NotEnoughData}
use Rattle.descriptor.specs.Descriptor.{moved_refusal, reported_upid}
use Rattle.descriptor.specs.Segmentation.{device_of, Moded, ListedFront, Head}
use Rattle.descriptor.specs.Views.{descriptor_views, refusal_views}
use Rattle.descriptor.specs.Full.{filled}
use Rattle.descriptor.specs.declared.back.Back.{Back}
use Rattle.descriptor.specs.declared.front.Front.{Front}
use Rattle.descriptor.specs.declared.segmentation.SegmentationComponent.{SegmentationComponent}
use Rattle.descriptor.specs.declared.segmentation.SegmentationMode.{SegmentationMode}
use Rattle.descriptor.specs.declared.segmentation.SegmentationUpid.{SegmentationUpid}
use Rattle.upid.specs.declared.Refusal.{Refusal}
use Rattle.descriptor.specs.declared.Descriptor.{Descriptor}
use Rattle.table.specs.declared.cursor.Cursor.{Cursor}
use Rattle.table.specs.declared.cursor.Field.{Field}
use Rattle.table.specs.declared.cursor.Short.{Short}
use Rattle.descriptor.specs.declared.segmentation.SubSegment.{SubSegment}
use Rattle.descriptor.specs.declared.front.ModeAndUpid.{ModeAndUpid}
use Rattle.descriptor.specs.declared.segmentation.DeliveryRestrictions.{DeliveryRestrictions}
use Rattle.descriptor.specs.declared.segmentation.Headed.{Headed}

-- refusal 21
unfoldable pub lacking : lacks.Short → Result Descriptor Refusal
lacking e = Err (NotEnoughData e.expected e.actual)

unfoldable pub octet_of : Answer ℕ → Result (Field ℕ Cursor) Short
octet_of (got v at) = Ok (record { value = v; next = cursor_at at })
octet_of (short expected actual) = Err (record { expected = expected; actual = actual })

-- the restrictions in the byte that starts with the three flags
unfoldable pub restrictions_in : ℕ → Option DeliveryRestrictions
restrictions_in flags =
    pick (eqb (flags / 32 % 2) 1)
    None
    (Some (record {
      web_delivery_allowed_flag = eqb (flags / 16 % 2) 1;
      no_regional_blackout_flag = eqb (flags / 8 % 2) 1;
      archive_allowed_flag = eqb (flags / 4 % 2) 1;
      device_restrictions = device_of (flags % 4);
    }))

-- what a component lacks of which n bytes are there: "A bit field of w bits with m left, m < w, gives 21 (w/8, m/8), rounded down"
unfoldable pub lacked_of : ℕ → lacks.Short
lacked_of n =
    pick (eqb n 0) (record { expected = 1; actual = 0 })
    (pick (eqb n 1) (record { expected = 0; actual = 0 })
    (record { expected = 4; actual = n - 2 }))

-- ---- readers of parts that start and end with a byte: what each answer says of the table's reading

abbrev pub component_read : Result (Field SegmentationComponent ℕ) Short → Answer SegmentationComponent → Type 0
component_read (Ok x) r = r ≡ got x.value (x.next * 8)
component_read (Err e) r = r ≡ short e.expected e.actual

-- the components are not kept
abbrev pub components_passed : Result ℕ Short → Answer (List SegmentationComponent) → Type 0
components_passed (Ok next) r = (cs : List SegmentationComponent) × (r ≡ got cs (next * 8))
components_passed (Err e) r = r ≡ short e.expected e.actual

abbrev pub mode_read : Result (Field SegmentationMode ℕ) Short → Answer Moded → Type 0
mode_read (Ok x) r = (cs : List SegmentationComponent) × (r ≡ got (record { mode = x.value; components = cs }) (x.next * 8))
mode_read (Err e) r = r ≡ short e.expected e.actual

abbrev pub duration_read : Result (Field (Option ℕ) ℕ) Short → Answer (Option ℕ) → Type 0
duration_read (Ok x) r = r ≡ got x.value (x.next * 8)
duration_read (Err e) r = r ≡ short e.expected e.actual

abbrev pub upid_read : Result (Field SegmentationUpid ℕ) Short → Answer SegmentationUpid → Type 0
upid_read (Ok x) r = r ≡ got x.value (x.next * 8)
upid_read (Err e) r = r ≡ short e.expected e.actual

abbrev pub front_read : Result (Field Front ℕ) Short → Answer ListedFront → Type 0
front_read (Ok x) r = (cs : List SegmentationComponent) × (r ≡ got (record { front = x.value; components = cs }) (x.next * 8))
front_read (Err e) r = r ≡ short e.expected e.actual

-- of the same reading the mode and the UPID alone
abbrev pub mode_and_upid_read : Option ModeAndUpid → Answer ListedFront → Type 0
mode_and_upid_read (Some x) r =
    (f : Front) × (cs : List SegmentationComponent) × (r ≡ got (record { front = f; components = cs }) (x.next * 8)) × (f.segmentation_mode ≡ x.mode) × (f.segmentation_upid ≡ x.upid)
mode_and_upid_read None r = (expected : ℕ) × (actual : ℕ) × (r ≡ short expected actual)

abbrev pub head_read : Result Headed Short → Answer Head → Type 0
head_read (Ok x) r = r ≡ got (record { event = x.event; cancel = x.cancel }) 40
head_read (Err e) r = r ≡ short e.expected e.actual

-- and of those that end the payload
abbrev pub sub_segments_read : Result (Option SubSegment) Short → Answer (Option SubSegment) → Type 0
sub_segments_read (Ok x) r = (m : ℕ) × (r ≡ got x m)
sub_segments_read (Err e) r = r ≡ short e.expected e.actual

abbrev pub back_read : Result Back Short → Answer Back → Type 0
back_read (Ok x) r = (m : ℕ) × (r ≡ got x m)
back_read (Err e) r = r ≡ short e.expected e.actual

-- a UPID that is checked
abbrev pub upid_answer : Result ℕ Refusal → View → Result SegmentationUpid Refusal
upid_answer (Ok upid_type_number) bytes = Ok (reported_upid upid_type_number bytes)
upid_answer (Err r) bytes = Err (moved_refusal bytes.at r)

unfoldable pub upid_checked : List ℕ → SegmentationUpid → Result SegmentationUpid Refusal
upid_checked s u = upid_answer (check_of u.upid_type (viewed s u.bytes)) u.bytes

-- components stored in an array from place i on; the blank array where they are not all there
unfoldable pub filling : List SegmentationComponent → ℕ → Answer (List SegmentationComponent) → List SegmentationComponent
filling out i (got cs at) = sets out i cs
filling out i (short expected actual) = filled []

-- the views in what is read
abbrev pub read_views : Result Descriptor Refusal → List View
read_views (Ok d) = descriptor_views d
read_views (Err r) = refusal_views r
