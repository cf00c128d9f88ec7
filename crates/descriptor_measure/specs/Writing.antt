-- What the descriptor writer makes of a readable item: its bytes, or the number of a refusal. 01, "Canonical form and writer".
-- An item is a descriptor with what stands beside it: the identifier of a reserved one, the components and the EIDR of a segmentation descriptor, and
-- the lent bytes that its views refer to.
use Rattle.std.specs.Prelude.{ℕ, ◌+◌, Bool, true, false, not, ◌&&◌, List, [], ◌∷◌, ◌++◌, leb, ltb, eqb, length, take, Ok, Err, None, Result}
use Rattle.table.specs.Bits.{pick}
use Rattle.table.specs.Lent.{lies_in, viewed}
use Rattle.table.specs.Writing.{Made, made, refused, make}
use Rattle.upid.specs.Upid.{check_of}
use Rattle.descriptor.specs.Descriptor.{is_cuei}
pub use Rattle.descriptor.specs.Descriptor.{cuei}
use Rattle.descriptor.specs.Plain.{avail, dtmf, time, private_table}
use Rattle.descriptor.specs.Segmentation as table
use Rattle.descriptor.specs.Segmentation.{component_count, agrees, detail_upid, writable_detail, segmentation}
use Rattle.descriptor.specs.Views.{with_upids}
use Rattle.descriptor.specs.Full.{of_reserved, of_segmentation}
use Rattle.descriptor.specs.declared.Descriptor.{Descriptor}
use Rattle.descriptor.specs.declared.Descriptor.TheVariants.{Avail, Dtmf, Segmentation, Time, Reserved}
use Rattle.descriptor.specs.declared.segmentation.SegmentationComponent.{SegmentationComponent}
use Rattle.descriptor.specs.declared.segmentation.SegmentationDescriptor.{SegmentationDescriptor}
use Rattle.descriptor.specs.declared.segmentation.DescriptorDetail.{DescriptorDetail}
use Rattle.descriptor.specs.declared.segmentation.SegmentationUpid.{SegmentationUpid}
use Rattle.descriptor.specs.declared.full.Beside.{Beside}
use Rattle.upid.specs.declared.Refusal.{Refusal}

-- ---- the envelope: "tag, L, identifier of 4", and the payload

unfoldable pub enveloped : ℕ → List ℕ → List ℕ → List ℕ
enveloped tag identifier payload = tag ∷ ((length payload + 4) ∷ (identifier ++ payload))

-- refusal 34: "descriptor length over 254"
unfoldable pub enveloped_made : ℕ → List ℕ → Made → Made
enveloped_made tag identifier (refused n) = refused n
enveloped_made tag identifier (made payload) = pick (leb (length payload + 4) 254) (made (enveloped tag identifier payload)) (refused 34)

-- ---- refusal 33: "a part that kind, cancel bit or mode leaves out, unless equal to the blank that readers leave there"

-- all zero: the blank of an identifier and of an EIDR
unfoldable pub all_zero : List ℕ → Bool
all_zero [] = true
all_zero (b ∷ bs) = eqb b 0 && all_zero bs

-- nothing stands beside an avail, DTMF or time descriptor
unfoldable pub alone : List ℕ → List ℕ → Bool
alone identifier eidr = all_zero identifier && all_zero eidr

-- "reserved descriptor "CUEI" with tag 0 to 3"; and no EIDR beside it
unfoldable pub writable_reserved : ℕ → List ℕ → List ℕ → Bool
writable_reserved tag identifier eidr = not (is_cuei identifier && ltb tag 4) && all_zero eidr

-- ---- a UPID

-- "Writing type 6 for an eight-byte ISAN: its type is 5"
unfoldable pub written_type : SegmentationUpid → ℕ
written_type u = pick (eqb u.upid_type 6 && eqb u.bytes.len 8) 5 u.upid_type

-- as it is written: of an EIDR the twelve bytes that stand beside the descriptor, of any other UPID those of its view
unfoldable pub written_upid : SegmentationUpid → SegmentationUpid
written_upid u = pick (eqb u.upid_type 10) (record { upid_type = 10; bytes = record { at = 0; len = 12 } }) (record { upid_type = written_type u; bytes = u.bytes })

unfoldable pub upid_source : SegmentationUpid → List ℕ → List ℕ → List ℕ
upid_source u eidr lent = pick (eqb u.upid_type 10) eidr lent

abbrev pub accepts : Result ℕ Refusal → Bool
accepts (Ok upid_type_number) = true
accepts (Err r) = false

-- refusal 33 of a UPID
unfoldable pub writable_upid : SegmentationUpid → List ℕ → List ℕ → Bool
writable_upid u eidr lent =
    pick (eqb u.upid_type 10)
    -- an EIDR has no view
    (eqb u.bytes.len 0)
    -- any other has no EIDR
    (all_zero eidr
    -- "empty UPID other than None", and None has no bytes
    && (agrees (eqb u.upid_type 0) (eqb u.bytes.len 0)
    -- "UPID type 5"
    && (not (eqb u.upid_type 5)
    -- "UPID bytes that its reader refuses (type 6 with 8 bytes goes by type 5's)"
    && accepts (check_of (written_type u) (viewed lent u.bytes)))))

-- ---- a segmentation descriptor

abbrev pub written_detail : DescriptorDetail → DescriptorDetail
written_detail d = with_upids written_upid d

-- the components up to the count; "array places past a count" are not looked at
abbrev pub written : SegmentationDescriptor → List SegmentationComponent → table.Segmentation
written x components = record {
  descriptor = record { segmentation_event_id = x.segmentation_event_id; descriptor_detail = written_detail x.descriptor_detail };
  components = take (component_count x) components;
}

-- the UPID handed in: a cancelled one has the blank
abbrev pub upid_in : SegmentationDescriptor → SegmentationUpid
upid_in x = detail_upid x.descriptor_detail

-- refusal 33: `writable_detail` has "a flag that contradicts its optional part" and "a reserved number that has a name"
unfoldable pub writable_segment : SegmentationDescriptor → List ℕ → List ℕ → List ℕ → Bool
writable_segment x identifier eidr lent = all_zero identifier && (writable_detail x.descriptor_detail && writable_upid (upid_in x) eidr lent)

-- 31 and 32 are also of a view that should be blank: "over .. 255 UPID bytes"
unfoldable pub segmentation_made : SegmentationDescriptor → List ℕ → Beside → List ℕ → Made
segmentation_made x identifier beside lent =
    pick (lies_in lent (upid_in x).bytes)
    (pick (leb (upid_in x).bytes.len 255)
    (make segmentation (writable_segment x identifier beside.eidr lent) (upid_source (upid_in x) beside.eidr lent) (written x beside.components))
    (refused 32))
    (refused 31)

-- ---- any descriptor: its payload's bytes, by its table, and refusals 31, 32 and 33 in that order

unfoldable pub payload_made : Descriptor → List ℕ → Beside → List ℕ → Made
payload_made (Avail x) identifier beside lent = make avail (alone identifier beside.eidr) lent x
payload_made (Dtmf x) identifier beside lent = make dtmf (alone identifier beside.eidr) lent x
payload_made (Segmentation x) identifier beside lent = segmentation_made x identifier beside lent
payload_made (Time x) identifier beside lent = make time (alone identifier beside.eidr) lent x
payload_made (Reserved tag bytes) identifier beside lent = make private_table (writable_reserved tag identifier beside.eidr) lent bytes

abbrev pub tag_of : Descriptor → ℕ
tag_of (Avail x) = 0
tag_of (Dtmf x) = 1
tag_of (Segmentation x) = 2
tag_of (Time x) = 3
tag_of (Reserved tag bytes) = tag

abbrev pub identifier_of : Descriptor → List ℕ → List ℕ
identifier_of d identifier = of_reserved identifier cuei d

-- Refusals 31 to 34. 36, a short target, is `answer_of`'s and `later_of`'s.
unfoldable pub descriptor_made : Descriptor → List ℕ → Beside → List ℕ → Made
descriptor_made d identifier beside lent = enveloped_made (tag_of d) (identifier_of d identifier) (payload_made d identifier beside lent)

-- how many components stand beside a descriptor
abbrev pub count_beside : Descriptor → ℕ
count_beside d = of_segmentation component_count 0 d
