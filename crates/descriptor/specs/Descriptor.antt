-- What a descriptor's payload is read as. 01, "Loop items".
use Rattle.std.specs.Prelude.{ℕ, Bool, ◌&&◌, List, [], ◌∷◌, ltb, eqb, length, get_or, Ok, Err, Result}
use Rattle.table.specs.Bits.{pick, bits_of}
use Rattle.table.specs.Lent.{no_view, shifted, viewed}
use Rattle.table.specs.Table.{Answer, got, short, parse}
use Rattle.table.specs.declared.View.{View}
use Rattle.upid.specs.Upid.{check_of}
use Rattle.upid.specs.declared.Refusal.{Refusal}
use Rattle.upid.specs.declared.Refusal.TheVariants.{InputTooLong, NotEnoughData, UpidLengthTypeMismatch, InvalidUpidContent, InvalidUpidLength}
use Rattle.descriptor.specs.Plain.{avail, dtmf, time, private_table}
use Rattle.descriptor.specs.Segmentation.{head, front, back, active_from}
use Rattle.descriptor.specs.Views.{without_view}
use Rattle.descriptor.specs.declared.Descriptor.TheVariants.{Avail, Dtmf, Segmentation, Time, Reserved}
use Rattle.descriptor.specs.declared.back.Back.{Back}
use Rattle.descriptor.specs.declared.front.Front.{Front}
use Rattle.descriptor.specs.declared.segmentation.DescriptorDetail.TheVariants.{Cancel, Active}
use Rattle.descriptor.specs.declared.segmentation.SegmentationUpid.{SegmentationUpid}
use Rattle.descriptor.specs.declared.Descriptor.{Descriptor}

-- what a table reads, and then what is made of it; "the first fault stands"
infixr 40 ◌and_then◌
abbrev pub ◌and_then◌ : {X : Type 0} → Answer X → (X → ℕ → Result Descriptor Refusal) → Result Descriptor Refusal
got x at and_then k = k x at
short expected actual and_then k = Err (NotEnoughData expected actual)

-- "Shorter: 21 (n, actual)"
abbrev pub at_least : ℕ → List ℕ → Result Descriptor Refusal → Result Descriptor Refusal
at_least n s r = pick (ltb (length s) n) (Err (NotEnoughData n (length s))) r

unfoldable pub avail_of : List ℕ → Result Descriptor Refusal
avail_of s = at_least 4 s (parse avail (bits_of s) 0 and_then λ x at. Ok (Avail x))

unfoldable pub dtmf_of : List ℕ → Result Descriptor Refusal
dtmf_of s = parse dtmf (bits_of s) 0 and_then λ x at. Ok (Dtmf x)

unfoldable pub time_of : List ℕ → Result Descriptor Refusal
time_of s = at_least 12 s (parse time (bits_of s) 0 and_then λ x at. Ok (Time x))

unfoldable pub reserved_of : ℕ → List ℕ → Result Descriptor Refusal
reserved_of tag s = parse private_table (bits_of s) 0 and_then λ v at. Ok (Reserved tag v)

-- ---- segmentation: the UPID's own rules stand between the fields up to it and those after it

-- a refusal found in bytes that begin at `at` (a UPID in a payload, a payload in a loop), its view counted from the start of what they lie in
abbrev pub moved_refusal : ℕ → Refusal → Refusal
moved_refusal at InputTooLong = InputTooLong
moved_refusal at (NotEnoughData expected actual) = NotEnoughData expected actual
moved_refusal at UpidLengthTypeMismatch = UpidLengthTypeMismatch
moved_refusal at (InvalidUpidContent upid_type_number text) = InvalidUpidContent upid_type_number (shifted at text)
moved_refusal at (InvalidUpidLength upid_type_number expected actual) = InvalidUpidLength upid_type_number expected actual

-- "Length 0 at top level is None"; "The EIDR identifier of 12 bytes is held by value. Else an item's UPID is its reported type and one view of its bytes"
abbrev pub reported_upid : ℕ → View → SegmentationUpid
reported_upid upid_type_number bytes = record { upid_type = upid_type_number; bytes = pick (without_view upid_type_number) no_view bytes }

abbrev pub if_fine : Result ℕ Refusal → View → (SegmentationUpid → Result Descriptor Refusal) → Result Descriptor Refusal
if_fine (Ok upid_type_number) bytes k = k (reported_upid upid_type_number bytes)
if_fine (Err r) bytes k = Err (moved_refusal bytes.at r)

unfoldable pub active_with : ℕ → Front → SegmentationUpid → Back → Result Descriptor Refusal
active_with event f upid b = Ok (Segmentation (record { segmentation_event_id = event; descriptor_detail = Active (active_from f upid b) }))

unfoldable pub active_of : List ℕ → ℕ → ℕ → Result Descriptor Refusal
active_of s event at =
    parse front (bits_of s) at and_then λ f at.
    let written = f.front.segmentation_upid in
    if_fine (check_of written.upid_type (viewed s written.bytes)) written.bytes λ upid.
    parse back (bits_of s) at and_then λ b at.
    active_with event f.front upid b

unfoldable pub segmentation_of : List ℕ → Result Descriptor Refusal
segmentation_of s =
    parse head (bits_of s) 0 and_then λ h at.
    pick h.cancel
    (Ok (Segmentation (record { segmentation_event_id = h.event; descriptor_detail = Cancel })))
    (active_of s h.event at)

-- ---- by identifier and tag

-- "CUEI"
abbrev pub cuei : List ℕ
cuei = 0x43 ∷ 0x55 ∷ 0x45 ∷ 0x49 ∷ []

unfoldable pub is_cuei : List ℕ → Bool
is_cuei id = eqb (get_or id 0 0) (get_or cuei 0 0) && (eqb (get_or id 1 0) (get_or cuei 1 0) && (eqb (get_or id 2 0) (get_or cuei 2 0) && eqb (get_or id 3 0) (get_or cuei 3 0)))

-- of "CUEI" 0 avail, 1 DTMF, 2 segmentation, 3 time; "Other tags or identifiers: reserved"
abbrev pub by_kind : {A : Type 0} → ℕ → List ℕ → A → A → A → A → A → A
by_kind tag identifier avail dtmf segmentation time reserved =
    pick (is_cuei identifier)
    (pick (eqb tag 0) avail
    (pick (eqb tag 1) dtmf
    (pick (eqb tag 2) segmentation
    (pick (eqb tag 3) time
    reserved))))
    reserved

unfoldable pub descriptor_of : ℕ → List ℕ → List ℕ → Result Descriptor Refusal
descriptor_of tag identifier s = by_kind tag identifier (avail_of s) (dtmf_of s) (segmentation_of s) (time_of s) (reserved_of tag s)
