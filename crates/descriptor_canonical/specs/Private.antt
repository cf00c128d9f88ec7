-- What the contracts of private functions say: a segmentation descriptor's payload s by byte places, as the functions walk it.
use Rattle.std.specs.Prelude.{ℕ, zero, suc, ◌+◌, ◌*◌, ◌/◌, ◌%◌, Bool, true, ◌&&◌, ◌||◌, List, leb, eqb, length, take, drop, get_or}
use Rattle.table.specs.Bits.{pick}
use Rattle.upid.specs.Upid.{check_of}
use Rattle.descriptor_measure.specs.Writing.{accepts}

-- the byte with the three flags: "else reserved 5"
unfoldable pub flags_ones : ℕ → Bool
flags_ones b = pick (eqb (b / 32 % 2) 1) (eqb (b % 32) 31) true

-- "duration 40 if flagged"
unfoldable pub lasting_bytes : ℕ → ℕ
lasting_bytes b = pick (eqb (b / 64 % 2) 1) 5 0

-- "each tag 8, reserved 7, offset 33": the reserved bits of n components from byte `at` on
unfoldable pub components_ones : ℕ → List ℕ → ℕ → Bool
components_ones zero s at = true
components_ones (suc n) s at = eqb (get_or s (at + 1) 0 / 2) 127 && components_ones n s (at + 6)

-- "type id 8, number 8, expected 8", and no sub-segments or two bytes of them, end a payload of so many bytes
unfoldable pub ends_at : ℕ → ℕ → Bool
ends_at n at = eqb n (at + 3) || eqb n (at + 5)

-- "UPID type 8, length 8, bytes", and to the end
unfoldable pub upid_at : List ℕ → ℕ → Bool
upid_at s at =
    let n : ℕ = get_or s (at + 1) 0 in
    leb (at + 5) (length s)
    && (ends_at (length s) (at + 2 + n)
    && pick (eqb n 0) (eqb (get_or s at 0) 0) (accepts (check_of (get_or s at 0) (take n (drop (at + 2) s)))))

-- "count 8", the components, and to the end; the duration takes so many bytes
unfoldable pub components_at : List ℕ → ℕ → Bool
components_at s lasting =
    let n : ℕ = get_or s 6 0 in
    leb 7 (length s)
    && (leb (7 + n * 6) (length s)
    && (components_ones n s 7
    && upid_at s (7 + n * 6 + lasting)))

-- "program 1, duration 1, not-restricted 1", and to the end
unfoldable pub active_fits : List ℕ → Bool
active_fits s =
    let b : ℕ = get_or s 5 0 in
    leb 6 (length s)
    && (flags_ones b
    && pick (eqb (b / 128) 1) (upid_at s (6 + lasting_bytes b)) (components_at s (lasting_bytes b)))

-- "event id 32, cancel 1, reserved 7", and to the end
unfoldable pub segmentation_fits : List ℕ → Bool
segmentation_fits s =
    leb 5 (length s)
    && (eqb (get_or s 4 0 % 128) 127
    && pick (eqb (get_or s 4 0 / 128) 1) (eqb (length s) 5) (active_fits s))
