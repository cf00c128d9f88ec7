-- What a relabelling answers, in words of its own: the first of these refusals that applies, or how many bytes are written. Sizes are counted from the old ones.
use Rattle.std.specs.Prelude.{ℕ, zero, suc, ◌+◌, ◌-◌, Bool, true, not, ◌||◌, List, [], ◌∷◌, eqb, leb, ltb, length, get_or, Ok, Err, Result}
use Rattle.descriptor_loop.specs.Items.{Listed, items_of}
use Rattle.relabel_found.specs.Found.{is_active}
use Rattle.relabel_upid.specs.Relabel.{taken}
use Rattle.section.specs.Section.{conditions, first, loop_bytes}
use Rattle.table.specs.Bits.{pick}
use Rattle.upid.specs.Upid.{read_of, upid_of, parts_in}
use Rattle.theorems_relabel.specs.Replaced.{Request, run_of, upid_for, type_for}

-- 41: no item among these begins at the offset that is a segmentation descriptor and not cancelled
unfoldable pub no_active : ℕ → List Listed → Bool
no_active offset [] = true
no_active offset (y ∷ ys) = pick (eqb y.offset offset) (not (is_active y.step.item)) (no_active offset ys)

-- 41: "a UPID that is none, no such part"
unfoldable pub no_part : ℕ → List ℕ → ℕ → Bool
no_part upid_type_number top zero = eqb (length top) 0
no_part upid_type_number top (suc i) = leb (length (parts_in (upid_of upid_type_number top))) i

-- 33: "an identifier that its reader refuses there .. an empty top UPID"
unfoldable pub unfit : ℕ → ℕ → List ℕ → Bool
unfit zero upid_type_number new = eqb (length new) 0 || not (taken (read_of upid_type_number 0 new))
unfit (suc i) upid_type_number new = not (taken (read_of upid_type_number 0 new))

-- a number that counts the identifier's bytes, when it is replaced
abbrev pub size_then : Request → ℕ → ℕ
size_then q n = n - length (run_of (upid_for q) q.part) + length q.bytes

-- 41, 32, 33, 34, 36 in this order, or the whole section's size; the target has `room` bytes
unfoldable pub in_accepted : Request → ℕ → Result ℕ ℕ
in_accepted q room =
    pick (no_active q.offset (items_of (loop_bytes q.section))) (Err 41)
    (pick (no_part (type_for q) (upid_for q) q.part) (Err 41)
    -- 32: "more than 255 bytes of UPID"
    (pick (ltb 255 (size_then q (length (upid_for q)))) (Err 32)
    (pick (unfit q.part q.upid_type q.bytes) (Err 33)
    -- 34: "descriptor over 254 or section over 4,096"
    (pick (ltb 254 (size_then q (get_or (loop_bytes q.section) (q.offset + 1) 0)) || ltb 4096 (size_then q (length q.section))) (Err 34)
    -- 36: "target too short"
    (pick (ltb room (size_then q (length q.section))) (Err 36)
    (Ok (size_then q (length q.section))))))))

-- "1 to 11 for the section" come first
unfoldable pub answered : Request → ℕ → Result ℕ ℕ
answered q room = pick (eqb (first 1 (conditions q.section)) 0) (in_accepted q room) (Err (first 1 (conditions q.section)))
