-- The canonical form of a descriptor and of a loop. 01: "every reserved bit 1; no spare byte in .. descriptor ..; no refused item; a UPID empty at top
-- level has type 0".
use Rattle.std.specs.Prelude.{ℕ, zero, suc, ◌+◌, Bool, true, false, ◌&&◌, List, [], ◌∷◌, leb, eqb, length, take, drop, get_or}
use Rattle.table.specs.Bits.{pick, bits_of}
use Rattle.table.specs.Lent.{viewed}
use Rattle.table.specs.Table.{Answer, got, short, parse, canonical_by}
use Rattle.upid.specs.Upid.{check_of}
use Rattle.descriptor.specs.Descriptor.{by_kind}
use Rattle.descriptor.specs.Plain.{avail, dtmf, time, private_table}
use Rattle.descriptor.specs.Segmentation.{Segmentation, segmentation}
use Rattle.descriptor.specs.declared.segmentation.SegmentationUpid.{SegmentationUpid}
use Rattle.descriptor_measure.specs.Writing.{accepts, upid_in}

-- a UPID as written, of a payload s: one that its reader takes, of type 0 where it is empty
unfoldable pub canonical_upid : List ℕ → SegmentationUpid → Bool
canonical_upid s u = accepts (check_of u.upid_type (viewed s u.bytes)) && pick (eqb u.bytes.len 0) (eqb u.upid_type 0) true

abbrev pub upid_canonical : List ℕ → Answer Segmentation → Bool
upid_canonical s (got x at) = canonical_upid s (upid_in x.descriptor)
upid_canonical s (short expected actual) = false

unfoldable pub canonical_segmentation : List ℕ → Bool
canonical_segmentation s = canonical_by segmentation s && upid_canonical s (parse segmentation (bits_of s) 0)

-- a payload, by identifier and tag
unfoldable pub canonical_payload : ℕ → List ℕ → List ℕ → Bool
canonical_payload tag identifier s =
    by_kind tag identifier (canonical_by avail s) (canonical_by dtmf s) (canonical_segmentation s) (canonical_by time s) (canonical_by private_table s)

-- a whole descriptor: tag, length, identifier of 4, payload; the length is that of what follows it, and no more than 254
unfoldable pub canonical_descriptor : List ℕ → Bool
canonical_descriptor s =
    leb 6 (length s)
    && (eqb (get_or s 1 0 + 2) (length s)
    && (leb (get_or s 1 0) 254
    && canonical_payload (get_or s 0 0) (take 4 (drop 2 s)) (drop 6 s)))

-- Canonical descriptors, one after the other. n is any number from the count of the bytes on: it says that this ends.
unfoldable pub canonical_from : ℕ → List ℕ → Bool
canonical_from zero [] = true
canonical_from zero (b ∷ bs) = false
canonical_from (suc n) [] = true
canonical_from (suc n) (b ∷ bs) =
    let L : ℕ = get_or (b ∷ bs) 1 0 in
    canonical_descriptor (take (L + 2) (b ∷ bs)) && canonical_from n (drop (L + 2) (b ∷ bs))

-- How long a loop may be is the section's rule (34), not this one's.
unfoldable pub canonical_loop : List ℕ → Bool
canonical_loop loop = canonical_from (length loop) loop
