-- One identifier of a section replaced: the UPID of a segmentation descriptor, or one part of its MID, at any level.
use Rattle.std.specs.Prelude.{ℕ, ◌&&◌, List, leb, eqb, length}
use Rattle.descriptor_loop.specs.Items.{listed}
use Rattle.relabel_found.specs.Found.{found, payload_at, fore_in, type_in, upid_in, post_in}
use Rattle.relabel_joined.specs.Relabel.{type_then, relabelled}
use Rattle.relabel_payload.specs.Payload.{payload}
use Rattle.relabel_upid.specs.Relabel.{upid_made}
use Rattle.section.specs.Section.{loop_bytes, section_of, number_of}
use Rattle.table.specs.Bits.{pick}
use Rattle.table.specs.Writing.{Made, made, refused}

-- the payload of the item at an offset of the section's loop
abbrev pub payload_in : List ℕ → ℕ → List ℕ
payload_in s offset = payload_at (loop_bytes s) offset

-- that payload with the UPID b, of the type that it then has
abbrev pub payload_then : List ℕ → ℕ → ℕ → ℕ → List ℕ → List ℕ
payload_then s offset part upid_type_number b =
    let pay : List ℕ = payload_in s offset in
    payload (fore_in pay) (post_in pay) (type_then part (type_in pay) upid_type_number) b

-- the section with it: each length on the way out is that of what it now counts, and the CRC is that of what it now follows
abbrev pub section_then : List ℕ → ℕ → ℕ → ℕ → List ℕ → List ℕ
section_then s offset part upid_type_number b =
    let pay : List ℕ = payload_in s offset in
    relabelled s (listed (loop_bytes s) offset) (fore_in pay) (post_in pay) (type_then part (type_in pay) upid_type_number) b

-- 34: "descriptor over 254 or section over 4,096"; four bytes of the descriptor's are its identifier
unfoldable pub fitting : List ℕ → ℕ → ℕ → ℕ → Made → Made
fitting s offset part upid_type_number (refused n) = refused n
fitting s offset part upid_type_number (made b) =
    pick (leb (length (payload_then s offset part upid_type_number b)) 250 && leb (length (section_then s offset part upid_type_number b)) 4096) (made (section_then s offset part upid_type_number b)) (refused 34)

-- where the section is accepted: 41 for an item that is none, refused, cancelled or no segmentation descriptor; 41 for a UPID that is none or has no such part,
-- 32, 33 (`upid_made`); 34
unfoldable pub loop_made : List ℕ → ℕ → ℕ → ℕ → List ℕ → Made
loop_made s offset part upid_type_number new =
    pick (found (loop_bytes s) offset)
    (fitting s offset part upid_type_number (upid_made (type_in (payload_in s offset)) (upid_in (payload_in s offset)) part upid_type_number new))
    (refused 41)

-- The section s in which part number `part` (0 for the UPID itself) of the item at `offset` becomes an identifier of type `upid_type_number` with the bytes `new`;
-- or a refusal: 1 to 11 for the section, then those of `loop_made`, and 36 by `answer_of`.
unfoldable pub relabel_made : List ℕ → ℕ → ℕ → ℕ → List ℕ → Made
relabel_made s offset part upid_type_number new = pick (eqb (number_of (section_of s)) 0) (loop_made s offset part upid_type_number new) (refused (number_of (section_of s)))
