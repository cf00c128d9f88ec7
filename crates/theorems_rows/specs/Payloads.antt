-- What is read of a descriptor's payload, by the table of its kind and the rules of its UPID: "Fields are taken in layout order and the first fault stands".
use Rattle.std.specs.Prelude.{ℕ, ◌+◌, ◌-◌, ◌≤◌, ◌<◌, false, List, [], ◌∷◌, map, ◌≡◌, length, take, drop, get_or, Ok, Err, Some, None, Option, Result}
use Rattle.descriptor.specs.Descriptor.{cuei, moved_refusal, reported_upid}
use Rattle.descriptor.specs.Plain.{dtmf}
use Rattle.descriptor.specs.Segmentation as table
use Rattle.descriptor.specs.Segmentation.{ListedFront, Head, head, front, segmentation, with_upid}
use Rattle.descriptor.specs.declared.Descriptor.{Descriptor}
use Rattle.descriptor.specs.declared.plain.DTMFDescriptor.{DTMFDescriptor}
use Rattle.descriptor.specs.declared.segmentation.DescriptorDetail.{DescriptorDetail}
use Rattle.descriptor.specs.declared.segmentation.SegmentationDetail.{SegmentationDetail}
use Rattle.descriptor.specs.declared.segmentation.SegmentationUpid.{SegmentationUpid}
use Rattle.descriptor_loop.specs.Items.{items_of}
use Rattle.section.specs.Section.{loop_bytes}
use Rattle.table.specs.Bits.{bits_of}
use Rattle.table.specs.Lent.{viewed}
use Rattle.table.specs.Table.{got, short, parse}
use Rattle.upid.specs.Upid.{check_of, read_of}
use Rattle.upid.specs.declared.Refusal.{Refusal}
use Rattle.theorems_rows.specs.Refusals.{kind_of}
use Rattle.descriptor_loop.specs.declared.ItemRefusal.{ItemRefusal}

-- ---- a segmentation descriptor's payload

-- it is not cancelled, and its UPID is there: the tables up to it lack nothing
pub record UpidIn (s : List ℕ) : Type 0 where
  pub first : Head
  pub seam : ℕ
  pub heads : parse head (bits_of s) 0 ≡ got first seam
  pub active : first.cancel ≡ false
  pub fore : ListedFront
  pub end : ℕ
  pub fronts : parse front (bits_of s) seam ≡ got fore end

-- as it is written, and as its own rules read it
abbrev pub written_in : {s : List ℕ} → UpidIn s → SegmentationUpid
written_in u = u.fore.front.segmentation_upid

abbrev pub checked_in : (s : List ℕ) → SegmentationUpid → Result ℕ Refusal
checked_in s u = check_of u.upid_type (viewed s u.bytes)

-- the four ways in which it is read or refused
pub data SegmentationReads (s : List ℕ) : Result Descriptor Refusal → Type 0 where
  -- 21: its table lacks bytes of a field, whose values these are, and no UPID that is refused stands before
  lacks : (expected actual : ℕ) → parse segmentation (bits_of s) 0 ≡ short expected actual → ((u : UpidIn s) → (k : ℕ) × (checked_in s (written_in u) ≡ Ok k))
      → SegmentationReads s (Err (Refusal.NotEnoughData expected actual))
  -- 21 and 23 to 25: its UPID is there, and is refused by its own rules, whatever is behind it
  upid : (u : UpidIn s) (r : Refusal) → checked_in s (written_in u) ≡ Err r → SegmentationReads s (Err (moved_refusal (written_in u).bytes.at r))
  -- it is cancelled
  cancelled : (x : table.Segmentation) (end : ℕ) → parse segmentation (bits_of s) 0 ≡ got x end → x.descriptor.descriptor_detail ≡ DescriptorDetail.Cancel
      → SegmentationReads s (Ok (Descriptor.Segmentation (record { segmentation_event_id = x.descriptor.segmentation_event_id; descriptor_detail = DescriptorDetail.Cancel })))
  -- else it is what the table reads, with its UPID as the UPID's rules report it
  complete : (x : table.Segmentation) (end : ℕ) (i : SegmentationDetail) (k : ℕ) → parse segmentation (bits_of s) 0 ≡ got x end → x.descriptor.descriptor_detail ≡ DescriptorDetail.Active i
      → checked_in s i.segmentation_upid ≡ Ok k
      → SegmentationReads s (Ok (Descriptor.Segmentation (record {
        segmentation_event_id = x.descriptor.segmentation_event_id;
        descriptor_detail = DescriptorDetail.Active (with_upid i (reported_upid k i.segmentation_upid.bytes));
      })))

-- ---- any payload p, under a tag and an identifier that say its kind (`kind_of`): nothing refuses it
pub data Unrefused (tag : ℕ) (id p : List ℕ) : ℕ → Type 0 where
  an_avail : tag ≡ 0 → id ≡ cuei → 4 ≤ length p → Unrefused tag id p 0
  a_dtmf : tag ≡ 1 → id ≡ cuei → (x : DTMFDescriptor) (end : ℕ) → parse dtmf (bits_of p) 0 ≡ got x end → Unrefused tag id p 1
  a_segmentation : tag ≡ 2 → id ≡ cuei → (x : table.Segmentation) (end : ℕ) → parse segmentation (bits_of p) 0 ≡ got x end
      → ((u : UpidIn p) → (k : ℕ) × (checked_in p (written_in u) ≡ Ok k)) → Unrefused tag id p 2
  a_time : tag ≡ 3 → id ≡ cuei → 12 ≤ length p → Unrefused tag id p 3
  another_tag : 3 < tag → Unrefused tag id p 4
  another_identifier : (a b c d : ℕ) → id ≡ a ∷ b ∷ c ∷ d ∷ [] → (a ≡ 0x43 → b ≡ 0x55 → c ≡ 0x45 → d ≡ 0x49 → ⊥) → Unrefused tag id p 4

-- an item at an offset of a loop: its payload lies behind tag, length and identifier
abbrev pub UnrefusedAt : List ℕ → ℕ → ℕ → Type 0
UnrefusedAt loop offset kind = Unrefused (get_or loop offset 0) (take 4 (drop (offset + 2) loop)) (take (get_or loop (offset + 1) 0 - 4) (drop (offset + 6) loop)) kind

-- ---- a MID "repeats type, length, payload": what is read of its bytes, from byte `start` of the top UPID on, part by part
pub record MidReads (start : ℕ) : Type 0 where
  pub done : read_of 13 start [] ≡ Ok 13
  -- "Fewer than 2 bytes: 21 (1, 0)"
  pub headless : (k : ℕ) → read_of 13 start (k ∷ []) ≡ Err (Refusal.NotEnoughData 1 0)
  -- "Payload short, tested first: 21 (length, present)"
  pub short : (k n : ℕ) (rest : List ℕ) → length rest < n → read_of 13 start (k ∷ n ∷ rest) ≡ Err (Refusal.NotEnoughData n (length rest))
  -- "the first faulty part ends the walk at once and its refusal stands"
  pub faulty : (k n : ℕ) (rest : List ℕ) (r : Refusal) → n ≤ length rest → read_of k (start + 2) (take n rest) ≡ Err r → read_of 13 start (k ∷ n ∷ rest) ≡ Err r
  -- and else the parts behind it decide
  pub next : (k n q : ℕ) (rest : List ℕ) → n ≤ length rest → read_of k (start + 2) (take n rest) ≡ Ok q → read_of 13 start (k ∷ n ∷ rest) ≡ read_of 13 (start + (2 + n)) (drop n rest)

-- a part that starts there: as the UPID alone, the text of 24 counted from the top
abbrev pub part_read : ℕ → Result ℕ Refusal → Result ℕ Refusal
part_read start (Ok k) = Ok k
part_read start (Err r) = Err (moved_refusal start r)

-- ---- the kinds of a section's items: 5 the end, 6 refused
abbrev pub kind_in : Option (Result Descriptor ItemRefusal) → ℕ
kind_in None = 5
kind_in (Some (Err r)) = 6
kind_in (Some (Ok d)) = kind_of d

abbrev pub kinds_of : List ℕ → List ℕ
kinds_of s = map (λ y. kind_in y.step.item) (items_of (loop_bytes s))
