-- Rows a to n of document 01, "Worked rows", in one table. That every row holds is `rows_a_to_n_hold` in proofs/Theorems.antt.
use Rattle.std.specs.Prelude.{ℕ, zero, suc, ◌+◌, true, false, List, [], ◌∷◌, ◌++◌, map, ◌≡◌, Ok, Err, Some, None, Option, Result}
use Rattle.canonical_form.specs.Command.{canonical_command}
use Rattle.command.specs.Command.{command_of, components_of}
use Rattle.command.specs.declared.SpliceCommand.{SpliceCommand}
use Rattle.command.specs.declared.insert.SpliceInsert.{SpliceInsert}
use Rattle.descriptor.specs.Descriptor.{cuei, segmentation_of}
use Rattle.descriptor.specs.Segmentation.{blank_upid}
use Rattle.descriptor.specs.declared.Descriptor.{Descriptor}
use Rattle.descriptor.specs.declared.plain.TimeDescriptor.{TimeDescriptor}
use Rattle.descriptor.specs.declared.segmentation.SegmentationDescriptor.{SegmentationDescriptor}
use Rattle.descriptor.specs.declared.segmentation.DescriptorDetail.{DescriptorDetail}
use Rattle.descriptor.specs.declared.segmentation.SegmentationMode.{SegmentationMode}
use Rattle.splice_time.specs.declared.SpliceTime.{SpliceTime}
use Rattle.descriptor_loop.specs.Items as items
use Rattle.descriptor_loop.specs.Items.{Listed, items_of}
use Rattle.names.specs.declared.segmentation.SegmentationTypeId.{SegmentationTypeId}
use Rattle.table.specs.Lent.{viewed}
use Rattle.upid.specs.Upid as upids
use Rattle.upid.specs.Upid.{upid_of, parts_in}
use Rattle.upid.specs.declared.Part.{Part}
use Rattle.command.specs.declared.CommandRefusal.{CommandRefusal}
use Rattle.upid.specs.declared.Refusal.{Refusal}
use Rattle.descriptor.specs.declared.segmentation.SubSegment.{SubSegment}
use Rattle.descriptor_loop.specs.declared.ItemRefusal.{ItemRefusal}

-- ---- what is read, in document 01's terms

pub data Says : Type 0 where
  -- a refusal: its number, and the values named with it
  refused : ℕ → List ℕ → Says
  -- an item of a loop: its numbers, and the bytes of its view
  avail : ℕ → Says
  dtmf : ℕ → List ℕ → Says
  segmentation : SegmentationDescriptor → Says
  time : TimeDescriptor → Says
  reserved : ℕ → List ℕ → List ℕ → Says
  ended : Says
  -- a UPID: its reported type, and its parts
  upid : ℕ → List Part → Says
  command : SpliceCommand → Says

-- a descriptor whose views are of the lent bytes, and the identifier beside it
abbrev pub descriptor_says : List ℕ → List ℕ → Descriptor → Says
descriptor_says lent id (Descriptor.Avail x) = avail x.provider_avail_id
descriptor_says lent id (Descriptor.Dtmf x) = dtmf x.preroll (viewed lent x.dtmf_chars)
descriptor_says lent id (Descriptor.Segmentation x) = segmentation x
descriptor_says lent id (Descriptor.Time x) = time x
descriptor_says lent id (Descriptor.Reserved tag bytes) = reserved tag id (viewed lent bytes)

abbrev pub item_says : List ℕ → List ℕ → Option (Result Descriptor ItemRefusal) → Says
item_says loop id None = ended
item_says loop id (Some (Err r)) = refused (items.number_of r) (items.values_of r)
item_says loop id (Some (Ok d)) = descriptor_says loop id d

abbrev pub listed_says : List ℕ → Listed → Says
listed_says loop x = item_says loop x.step.identifier x.step.item

abbrev pub payload_says : List ℕ → Result Descriptor Refusal → Says
payload_says payload (Ok d) = descriptor_says payload [] d
payload_says payload (Err r) = refused (upids.number_of r) (upids.values_of r)

abbrev pub upid_says : Result ℕ Refusal → List Part → Says
upid_says (Ok upid_type_number) parts = upid upid_type_number parts
upid_says (Err r) parts = refused (upids.number_of r) (upids.values_of r)

abbrev pub command_says : Result SpliceCommand CommandRefusal → Says
command_says (Ok c) = command c
command_says (Err CommandRefusal.UnknownType) = refused 10 []
command_says (Err CommandRefusal.Malformed) = refused 11 []

-- ---- what a row claims

pub data Row : Type 0 where
  -- a loop, and what its items say, in order
  loop_is : List ℕ → List Says → Row
  -- a UPID under its type
  upid_is : ℕ → List ℕ → Says → Row
  -- a command's payload under its type
  command_is : ℕ → List ℕ → Says → Row
  -- two payloads of inserts, with one reading: only the first is canonical
  inserts_are : List ℕ → List ℕ → Row
  -- a segmentation descriptor's payload
  segmentation_is : List ℕ → Says → Row

-- "equal readings, only the first canonical", which is what `is_canonical_command` answers
pub record Alike (first second : List ℕ) : Type 0 where
  pub value : SpliceInsert
  pub this : command_of 0x05 first ≡ Ok (SpliceCommand.SpliceInsert value)
  pub that : command_of 0x05 second ≡ Ok (SpliceCommand.SpliceInsert value)
  pub components : components_of first ≡ components_of second
  pub first_is : canonical_command 0x05 first ≡ true
  pub second_is_not : canonical_command 0x05 second ≡ false

abbrev pub Holds : Row → Type 0
Holds (loop_is loop says) = map (listed_says loop) (items_of loop) ≡ says
Holds (upid_is upid_type_number bytes says) = upid_says (upid_of upid_type_number bytes).read (parts_in (upid_of upid_type_number bytes)) ≡ says
Holds (command_is command_type payload says) = command_says (command_of command_type payload) ≡ says
Holds (inserts_are first second) = Alike first second
Holds (segmentation_is payload says) = payload_says payload (segmentation_of payload) ≡ says

-- ---- the rows

-- "C is 43 55 45 49"
abbrev pub C : List ℕ → List ℕ
C rest = cuei ++ rest

-- n bytes, each one more than the byte before it: no two are equal
abbrev pub counting : ℕ → ℕ → List ℕ
counting from zero = []
counting from (suc n) = from ∷ counting (from + 1) n

-- event 42: a program start, 1 of 1, without restrictions, duration or UPID
abbrev pub program_start : Option SubSegment → SegmentationDescriptor
program_start sub = record {
  segmentation_event_id = 42;
  descriptor_detail = DescriptorDetail.Active (record {
    program_segmentation_flag = true;
    segmentation_duration_flag = false;
    delivery_not_restricted_flag = true;
    delivery_restrictions = None;
    segmentation_mode = SegmentationMode.Program;
    segmentation_duration = None;
    segmentation_upid = blank_upid;
    segmentation_type_id = SegmentationTypeId.ProgramStart;
    segment_num = 1;
    segments_expected = 1;
    sub_segments = sub;
  });
}

unfoldable pub rows : List Row
rows =
    -- "a. empty: no item."
    loop_is [] []
    -- "b. 00 04 C: 21 (4, 0)."
    ∷ loop_is (0x00 ∷ 0x04 ∷ C []) (refused 21 (4 ∷ 0 ∷ []) ∷ [])
    -- "c. 00 03 C: 21 (6, 5), then 21 (2, 0)."
    ∷ loop_is (0x00 ∷ 0x03 ∷ C []) (refused 21 (6 ∷ 5 ∷ []) ∷ refused 21 (2 ∷ 0 ∷ []) ∷ [])
    -- "d. 256 bytes, L 254, tag 9: reserved, 250 bytes."
    ∷ loop_is (9 ∷ 254 ∷ C (counting 0 250)) (reserved 9 (C []) (counting 0 250) ∷ [])
    -- "e. 257 bytes, L 255: 22."
    ∷ loop_is (9 ∷ 255 ∷ C (counting 0 251)) (refused 22 [] ∷ [])
    -- "f. 256 bytes, L 255: 21 (257, 0)."
    ∷ loop_is (9 ∷ 255 ∷ C (counting 0 250)) (refused 21 (257 ∷ 0 ∷ []) ∷ [])
    -- "g. 01 07 C B1 3F 34: preroll 177, one character 34."
    ∷ loop_is (0x01 ∷ 0x07 ∷ C (0xB1 ∷ 0x3F ∷ 0x34 ∷ [])) (dtmf 177 (0x34 ∷ []) ∷ [])
    -- "h. MID 0D 02 0D 00: two parts." The second is inside the first, and is no None.
    ∷ upid_is 13 (0x0D ∷ 0x02 ∷ 0x0D ∷ 0x00 ∷ []) (upid 13 (record { upid_type = 13; level = 1; start = 2; len = 2 } ∷ record { upid_type = 13; level = 2; start = 4; len = 0 } ∷ []))
    -- "i. MID 00 00: 23."
    ∷ upid_is 13 (0x00 ∷ 0x00 ∷ []) (refused 23 [])
    -- "j. MID 08 03 01 02: 21 (3, 2)."
    ∷ upid_is 13 (0x08 ∷ 0x03 ∷ 0x01 ∷ 0x02 ∷ []) (refused 21 (3 ∷ 2 ∷ []))
    -- "k. time signal FF FF FF FF FF: 8,589,934,591."
    ∷ command_is 0x06 (0xFF ∷ 0xFF ∷ 0xFF ∷ 0xFF ∷ 0xFF ∷ []) (command (SpliceCommand.TimeSignal (SpliceTime.At 8589934591)))
    -- "l. time signal 7F: unspecified."
    ∷ command_is 0x06 (0x7F ∷ []) (command (SpliceCommand.TimeSignal SpliceTime.Unspecified))
    -- "m. insert 00 00 00 01 7F 0F 00 00 00 00 00 and the same with 1F: equal readings, only the first canonical."
    ∷ inserts_are (0x00 ∷ 0x00 ∷ 0x00 ∷ 0x01 ∷ 0x7F ∷ 0x0F ∷ 0x00 ∷ 0x00 ∷ 0x00 ∷ 0x00 ∷ 0x00 ∷ []) (0x00 ∷ 0x00 ∷ 0x00 ∷ 0x01 ∷ 0x7F ∷ 0x1F ∷ 0x00 ∷ 0x00 ∷ 0x00 ∷ 0x00 ∷ 0x00 ∷ [])
    -- "n. Segmentation payload 00 00 00 2A 7F BF 00 00 10 01 01: program start, no sub-segments; with 01: 21 (1, 0); with 01 02: sub-segment 1 of 2."
    ∷ segmentation_is (0x00 ∷ 0x00 ∷ 0x00 ∷ 0x2A ∷ 0x7F ∷ 0xBF ∷ 0x00 ∷ 0x00 ∷ 0x10 ∷ 0x01 ∷ 0x01 ∷ []) (segmentation (program_start None))
    ∷ segmentation_is (0x00 ∷ 0x00 ∷ 0x00 ∷ 0x2A ∷ 0x7F ∷ 0xBF ∷ 0x00 ∷ 0x00 ∷ 0x10 ∷ 0x01 ∷ 0x01 ∷ 0x01 ∷ []) (refused 21 (1 ∷ 0 ∷ []))
    ∷ segmentation_is (0x00 ∷ 0x00 ∷ 0x00 ∷ 0x2A ∷ 0x7F ∷ 0xBF ∷ 0x00 ∷ 0x00 ∷ 0x10 ∷ 0x01 ∷ 0x01 ∷ 0x01 ∷ 0x02 ∷ []) (segmentation (program_start (Some (record { sub_segment_num = 1; sub_segments_expected = 2 }))))
    ∷ []
