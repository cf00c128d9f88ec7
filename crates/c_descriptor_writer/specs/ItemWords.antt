-- What `scte35_write_descriptor` makes of words: those of a step, and those of what stands beside its item. 01, "Refusal numbers", 31 to 33. These are
-- definitions.
use Rattle.std.specs.Prelude.{ℕ, ◌+◌, ◌*◌, ◌^◌, Bool, true, false, ◌&&◌, List, [], ◌∷◌, ◌≡◌, eqb, ltb, leb, length, drop, replicate}
use Rattle.descriptor.specs.Segmentation.{writable_detail}
use Rattle.descriptor.specs.Full.{filled, of_segmentation}
use Rattle.descriptor.specs.declared.Descriptor.{Descriptor}
use Rattle.descriptor.specs.declared.segmentation.SegmentationComponent.{SegmentationComponent}
use Rattle.descriptor.specs.declared.full.Beside.{Beside}
use Rattle.descriptor_measure.specs.Writing.{count_beside, descriptor_made}
use Rattle.c_items.specs.FlatItem.{flat_descriptor}
use Rattle.c_items.specs.declared.descriptors.FlatItem.{FlatItem}
use Rattle.c_command_writer.specs.Words.{word, within, same, each_place}
use Rattle.table.specs.Bits.{pick, big_endian}
use Rattle.table.specs.Lent.{lies_in}
use Rattle.table.specs.Writing.{Made, refused}

-- ---- struct scte35_step: after refusal, values and next, which are not looked at, the identifier is word 5, and the item begins with word 6
unfoldable pub item_words : FlatItem → List ℕ
item_words i =
    i.kind
    ∷ i.provider_avail_id
    ∷ i.preroll
    ∷ i.segmentation.segmentation_event_id
    ∷ i.segmentation.segmentation_event_cancel_indicator
    ∷ i.segmentation.program_segmentation_flag
    ∷ i.segmentation.segmentation_duration_flag
    ∷ i.segmentation.delivery_not_restricted_flag
    ∷ i.segmentation.delivery_restrictions.web_delivery_allowed_flag
    ∷ i.segmentation.delivery_restrictions.no_regional_blackout_flag
    ∷ i.segmentation.delivery_restrictions.archive_allowed_flag
    ∷ i.segmentation.delivery_restrictions.device_restrictions
    ∷ i.segmentation.component_count
    ∷ i.segmentation.segmentation_duration
    ∷ i.segmentation.segmentation_upid_type
    ∷ i.segmentation.segmentation_type_id
    ∷ i.segmentation.segment_num
    ∷ i.segmentation.segments_expected
    ∷ i.segmentation.sub_segments.present
    ∷ i.segmentation.sub_segments.sub_segment_num
    ∷ i.segmentation.sub_segments.sub_segments_expected
    ∷ i.time.tai_seconds
    ∷ i.time.tai_nanoseconds
    ∷ i.time.utc_offset
    ∷ i.splice_descriptor_tag
    ∷ i.bytes.at
    ∷ i.bytes.len
    ∷ []

-- of the identifier, and of the item in the same order: kind, provider_avail_id, preroll; segmentation_event_id, its four flags; the restrictions;
-- component_count, segmentation_duration, segmentation_upid_type, segmentation_type_id, segment_num, segments_expected; sub_segments; time;
-- splice_descriptor_tag; bytes. An item's kind is no field: any other number than 1 to 6 is refusal 33.
unfoldable pub item_widths : List ℕ
item_widths =
    32 ∷ 64 ∷ 32 ∷ 8 ∷ 32 ∷ 1 ∷ 1 ∷ 1 ∷ 1 ∷ 1 ∷ 1 ∷ 1 ∷ 2 ∷ 8 ∷ 40 ∷ 8 ∷ 8 ∷ 8 ∷ 8 ∷ 1 ∷ 8 ∷ 8 ∷ 48 ∷ 32 ∷ 16 ∷ 8 ∷ 64 ∷ 64 ∷ []

-- ---- struct scte35_segmentation_components: after refusal, values and count, which are not looked at, places of two words, as many as the item says; behind
-- all 255 of them the EIDR, a byte to a word
abbrev pub places_in : List ℕ → List ℕ
places_in words = drop 5 words

abbrev pub eidr_in : List ℕ → List ℕ
eidr_in words = drop 515 words

-- component_tag, pts_offset
unfoldable pub place_widths : List ℕ
place_widths = 8 ∷ 33 ∷ []

-- the words of components, one after the other
abbrev pub tags_and_offsets : List SegmentationComponent → List ℕ
tags_and_offsets [] = []
tags_and_offsets (c ∷ cs) = c.component_tag ∷ c.pts_offset ∷ tags_and_offsets cs

-- the first n places, and the EIDR's twelve bytes, within their widths
unfoldable pub places_within : ℕ → List ℕ → Bool
places_within n words = each_place (within place_widths) 2 n (places_in words)

unfoldable pub beside_within : ℕ → List ℕ → Bool
beside_within n words = places_within n words && within (replicate 12 8) (eidr_in words)

-- ---- refusal 31: "a view reaches outside the lent bytes". The item's last two words are a view, whatever its kind: of a kind that has none they are a part
-- left out, and 33 comes behind.
unfoldable pub item_seen : List ℕ → List ℕ → Bool
item_seen words lent = lies_in lent (record { at = word words 31; len = word words 32 })

-- ---- refusal 32: "a number or count handed in exceeds its field; so do over 7 DTMF or 255 UPID bytes"
abbrev pub view_fits : List ℕ → Bool
view_fits words = ltb (word words 32) (pick (eqb (word words 6) 2) 8 (pick (eqb (word words 6) 4) 256 (2 ^ 64)))

-- how many places are looked at: as many as a segmentation descriptor that is not by program counts
abbrev pub places_given : List ℕ → ℕ
places_given words = pick (eqb (word words 6) 4 && eqb (word words 11) 0) (word words 18) 0

unfoldable pub item_fits : List ℕ → List ℕ → Bool
item_fits words beside = within item_widths (drop 5 words) && (view_fits words && beside_within (places_given words) beside)

-- ---- refusal 33 of words that are not there, which would count as 0: beside an EIDR all 527, beside n components their places; else none
abbrev pub has_eidr : List ℕ → Bool
has_eidr words = eqb (word words 6) 4 && eqb (word words 20) 0x0a

unfoldable pub beside_there : ℕ → List ℕ → List ℕ → Bool
beside_there n words beside = leb (pick (has_eidr words) 527 (pick (eqb n 0) 0 (5 + n * 2))) (length beside)

-- ---- the words are those of d, its identifier and b beside it
pub record DescriptorIs (words beside : List ℕ) (d : Descriptor) (identifier : List ℕ) (b : Beside) : Type 0 where
  pub item : same (item_words (flat_descriptor d)) (drop 6 words) ≡ true
  -- of the values with these words, the one whose flags say what their parts say, and whose type number, if reserved, has no name
  pub writable : of_segmentation (λ x. writable_detail x.descriptor_detail) true d ≡ true
  pub identifies : identifier ≡ big_endian 4 (word words 5)
  -- "a descriptor put without its components or EIDR" is no descriptor's
  pub there : beside_there (count_beside d) words beside ≡ true
  -- as many components as d counts, and blanks past them
  pub listed : List SegmentationComponent
  pub count : length listed ≡ count_beside d
  pub places : same (tags_and_offsets listed) (places_in beside) ≡ true
  pub components : b.components ≡ filled listed
  pub twelve : length b.eidr ≡ 12
  pub eidr : same b.eidr (eidr_in beside) ≡ true

-- ---- what is made of words: "31 to 36 are checked in order of number". Words that fit and are those of a descriptor are written, or refused, as it is; 33 is also of
-- words that no descriptor has. (That they fit is asked here: an identifier is taken in 32 bits.) 36, a short target, is `answer_of`'s and `later_of`'s.
pub data DescriptorAnswer (words beside lent : List ℕ) : Made → Type 0 where
  outside : item_seen words lent ≡ false → DescriptorAnswer words beside lent (refused 31)
  over : item_seen words lent ≡ true → item_fits words beside ≡ false → DescriptorAnswer words beside lent (refused 32)
  nobodys : item_seen words lent ≡ true → item_fits words beside ≡ true
      → ((d : Descriptor) (identifier : List ℕ) (b : Beside) → DescriptorIs words beside d identifier b → ⊥) → DescriptorAnswer words beside lent (refused 33)
  its : (d : Descriptor) (identifier : List ℕ) (b : Beside) → item_fits words beside ≡ true → DescriptorIs words beside d identifier b
      → DescriptorAnswer words beside lent (descriptor_made d identifier b lent)
