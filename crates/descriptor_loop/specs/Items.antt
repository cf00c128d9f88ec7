-- One step over a descriptor loop, and the list of a loop's items (document 01, "Loop items").
use Rattle.std.specs.Prelude.{ℕ, zero, suc, ◌+◌, ◌-◌, List, [], ◌∷◌, ltb, leb, length, take, drop, get_or, replicate, Ok, Err, Some, None, Option, Result}
use Rattle.table.specs.Bits.{pick}
use Rattle.upid.specs.Upid as upid
use Rattle.upid.specs.declared.Refusal.TheVariants.{InputTooLong, NotEnoughData}
use Rattle.descriptor.specs.Descriptor.{moved_refusal, descriptor_of}
use Rattle.descriptor.specs.Full.{blank_beside, beside_read, identifier_read}
use Rattle.descriptor.specs.declared.full.Beside.{Beside}
use Rattle.descriptor_loop.specs.Place.{moved_descriptor}
use Rattle.descriptor_loop.specs.declared.ItemRefusal.{ItemRefusal}
use Rattle.descriptor_loop.specs.declared.ItemRefusal.TheVariants.{InvalidDescriptorLength, Other}
use Rattle.descriptor_loop.specs.declared.Step.{Step}
use Rattle.descriptor_loop.specs.declared.reading.Reading.{Reading}
use Rattle.descriptor.specs.declared.Descriptor.{Descriptor}
use Rattle.upid.specs.declared.Refusal.{Refusal}

-- ---- document 01's number and values of each refusal

unfoldable pub number_of : ItemRefusal → ℕ
number_of InvalidDescriptorLength = 22
number_of (Other r) = upid.number_of r

unfoldable pub values_of : ItemRefusal → List ℕ
values_of InvalidDescriptorLength = []
values_of (Other r) = upid.values_of r

-- ---- one step

abbrev pub short : ℕ → ℕ → Option (Result Descriptor ItemRefusal)
short expected actual = Some (Err (Other (NotEnoughData expected actual)))

-- an item without an identifier, and the next offset
abbrev pub without_identifier : Option (Result Descriptor ItemRefusal) → ℕ → Step
without_identifier item next = record { item = item; identifier = replicate 4 0; next = next }

-- what the payload was read as, at `base` of the loop
abbrev pub item_at : ℕ → Result Descriptor Refusal → Option (Result Descriptor ItemRefusal)
item_at base (Ok d) = Some (Ok (moved_descriptor base d))
item_at base (Err r) = Some (Err (Other (moved_refusal base r)))

-- "tag, L, identifier of 4; the descriptor's payload is handed to its reader as a part of L - 4 bytes"
unfoldable pub read_at : List ℕ → ℕ → ℕ → Result Descriptor Refusal
read_at loop offset L = descriptor_of (get_or loop offset 0) (take 4 (drop (offset + 2) loop)) (take (L - 4) (drop (offset + 6) loop))

unfoldable pub complete_at : List ℕ → ℕ → ℕ → Step
complete_at loop offset L =
    record {
      item = item_at (offset + 6) (read_at loop offset L);
      identifier = identifier_read (read_at loop offset L) (take 4 (drop (offset + 2) loop));
      next = offset + (L + 2);
    }

unfoldable pub step_of : List ℕ → ℕ → Step
step_of loop offset =
    let R : ℕ = length loop - offset in
    let L : ℕ = get_or loop (offset + 1) 0 in
    -- refusal 2: "loop over 4,076"
    pick (ltb 4076 (length loop)) (without_identifier (Some (Err (Other InputTooLong))) (length loop))
    -- "At or past the end it says so, next offset the length. With R bytes left:"
    (pick (leb (length loop) offset) (without_identifier None (length loop))
    -- "R from 1 to 5: refusal 21 (2, 0); the loop ends, next offset its length"
    (pick (ltb R 6) (without_identifier (short 2 0) (length loop))
    -- "R at least 6, length L, L + 2 > R: 21 (L + 2, 0); ends"
    (pick (ltb R (L + 2)) (without_identifier (short (L + 2) 0) (length loop))
    -- "L = 255 that fits: 22; ends" (no byte is over 255)
    (pick (ltb 254 L) (without_identifier (Some (Err InvalidDescriptorLength)) (length loop))
    -- "L from 0 to 3: 21 (6, L + 2); the next item follows after L + 2 bytes"
    (pick (ltb L 4) (without_identifier (short 6 (L + 2)) (offset + (L + 2)))
    -- "Else tag, L, identifier of 4", and the payload
    (complete_at loop offset L))))))

-- ---- the full reading of an item: "arrays stand beside enums, not in them"

-- beside an item with this payload
abbrev pub beside_item : Option (Result Descriptor ItemRefusal) → List ℕ → Beside
beside_item None payload = blank_beside
beside_item (Some (Err r)) payload = blank_beside
beside_item (Some (Ok d)) payload = beside_read (Ok d) payload

-- the payload lies behind the head and the identifier, and ends where the next item starts
unfoldable pub reading_of : List ℕ → ℕ → Reading
reading_of loop offset =
    let s : Step = step_of loop offset in
    record { step = s; beside = beside_item s.item (take (s.next - (offset + 6)) (drop (offset + 6) loop)) }

-- ---- the list of a loop's items

-- an item with its offset and the bytes that it uses
pub record Listed : Type 0 where
  pub offset : ℕ
  pub used : ℕ
  pub step : Step

abbrev pub listed : List ℕ → ℕ → Listed
listed loop offset = record { offset = offset; used = (step_of loop offset).next - offset; step = step_of loop offset }

abbrev pub unless_end : Option (Result Descriptor ItemRefusal) → List Listed → List Listed
unless_end None xs = []
unless_end (Some (Err r)) xs = xs
unless_end (Some (Ok d)) xs = xs

-- The items from an offset on, one step after the other until the step says that the loop has ended. n is any number from the count of the bytes
-- left on: it says that this ends (`from_any` in proofs/Lists.antt).
unfoldable pub items_from : ℕ → List ℕ → ℕ → List Listed
items_from zero loop offset = []
items_from (suc n) loop offset = unless_end (step_of loop offset).item (listed loop offset ∷ items_from n loop (step_of loop offset).next)

-- a loop over 4,076 bytes is refused, and has no items
unfoldable pub items_of : List ℕ → List Listed
items_of loop = pick (ltb 4076 (length loop)) [] (items_from (length loop) loop 0)

unfoldable pub count_of : List ℕ → Result ℕ ItemRefusal
count_of loop = pick (ltb 4076 (length loop)) (Err (Other InputTooLong)) (Ok (length (items_of loop)))
