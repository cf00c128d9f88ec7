-- What the contracts of private functions say: the same section by places, in the order in which it is stored. No public contract cites this.
use Rattle.std.specs.Prelude.{ℕ, ◌+◌, ◌*◌, ◌-◌, ◌/◌, ◌≤◌, List, ◌∷◌, ◌++◌, length, take, drop, get_or}
use Rattle.crc.specs.Crc.{crc_of, crc_bytes_of}
use Rattle.relabel_found.specs.Found.{size_in}
use Rattle.relabel_joined.specs.Relabel.{type_then}
use Rattle.relabel_payload.specs.Payload.{upid_head}
use Rattle.relabel_upid.specs.Relabel.{upid_made, up_to}
use Rattle.section.specs.Section.{command_length, loop_length, loop_bytes}
use Rattle.table.specs.Bits.{big_endian}
use Rattle.table.specs.Lent.{stored}
use Rattle.table.specs.Writing.{Made, made, refused}
use Rattle.relabel.specs.Relabel.{payload_in}
use Rattle.relabel.specs.declared.Place.{Place}

abbrev pub run : List ℕ → ℕ → ℕ → List ℕ
run s at n = take n (drop at s)

-- how many bytes the UPID has
abbrev pub old_size : Place → ℕ
old_size p = p.end - (p.head + 2)

-- the places lie in a section, in their order, and what is counted can be counted
pub record Lies (s : List ℕ) (p : Place) : Type 0 where
  pub list : 16 ≤ p.list
  pub item : p.list ≤ p.item
  pub head : p.item + 6 ≤ p.head
  pub upid : p.head + 2 ≤ p.end
  pub end : p.end + 4 ≤ length s
  pub short : length s ≤ 4096
  pub loop : old_size p ≤ p.len
  pub room : p.len ≤ 4096
  pub own : old_size p + 12 ≤ get_or s (p.item + 1) 0
  pub right : get_or s (p.item + 1) 0 ≤ 254

-- the item at an offset of a section's loop stands there whole, and so does its UPID; its length counts the identifier's four bytes and the payload
pub record Spotted (s : List ℕ) (offset : ℕ) : Type 0 where
  pub room : 20 + command_length s + loop_length s ≤ length s
  pub short : length s ≤ 4096
  pub there : offset + (get_or (loop_bytes s) (offset + 1) 0 + 2) ≤ loop_length s
  pub right : get_or (loop_bytes s) (offset + 1) 0 ≤ 254
  pub upid : upid_head (payload_in s offset) + 6 + size_in (payload_in s offset) ≤ get_or (loop_bytes s) (offset + 1) 0

-- its place
abbrev pub head_in : List ℕ → ℕ → ℕ
head_in s offset = 16 + command_length s + offset + 6 + upid_head (payload_in s offset)

abbrev pub place_in : List ℕ → ℕ → Place
place_in s offset =
    record {
      list = 16 + command_length s;
      len = loop_length s;
      item = 16 + command_length s + offset;
      head = head_in s offset;
      end = head_in s offset + 2 + size_in (payload_in s offset);
    }

-- n bytes of UPID can stand there
pub record Takes (s : List ℕ) (p : Place) (n : ℕ) : Type 0 where
  pub item : get_or s (p.item + 1) 0 - old_size p + n ≤ 254
  pub section : length s - old_size p + n ≤ 4096

-- all up to the loop, with section_length and the loop's length mended for n bytes
unfoldable pub head_of : List ℕ → Place → ℕ → List ℕ
head_of s p n =
    get_or s 0 0
    ∷ (big_endian 2 (get_or s 1 0 / 16 * 4096 + (length s - old_size p + n - 3))
    ++ (run s 3 (p.list - 2 - 3)
    ++ big_endian 2 (p.len - old_size p + n)))

-- from the loop on all up to the UPID's bytes, with the item's length mended, and the UPID's head
unfoldable pub item_of : List ℕ → Place → ℕ → ℕ → List ℕ
item_of s p upid_type_number n =
    run s p.list (p.item + 1 - p.list)
    ++ ((get_or s (p.item + 1) 0 - old_size p + n)
    ∷ (run s (p.item + 2) (p.head - (p.item + 2))
    ++ big_endian 2 (upid_type_number * 256 + n)))

abbrev pub up_to_upid : List ℕ → Place → ℕ → ℕ → List ℕ
up_to_upid s p upid_type_number n = head_of s p n ++ item_of s p upid_type_number n

-- all behind them, the CRC excluded
abbrev pub back_of : List ℕ → Place → List ℕ
back_of s p = run s p.end (length s - 4 - p.end)

unfoldable pub body_of : List ℕ → Place → ℕ → List ℕ → List ℕ
body_of s p upid_type_number b = up_to_upid s p upid_type_number (length b) ++ (b ++ back_of s p)

unfoldable pub cut_of : List ℕ → Place → ℕ → List ℕ → List ℕ
cut_of s p upid_type_number b = body_of s p upid_type_number b ++ crc_bytes_of (body_of s p upid_type_number b)

-- a target that has all up to the UPID's n bytes: what stands behind them, and the CRC of all before it
unfoldable pub sealed : List ℕ → Place → ℕ → List ℕ → List ℕ
sealed s p n t =
    let at : ℕ = p.head + 2 + n in
    let last : ℕ = at + (length s - 4 - p.end) in
    let u : List ℕ = stored t at (back_of s p) in
    stored u last (big_endian 4 (crc_of (take last u)))

-- ---- what is made of a place

abbrev pub wrapped : List ℕ → Place → ℕ → Made → Made
wrapped s p upid_type_number (made b) = made (cut_of s p upid_type_number b)
wrapped s p upid_type_number (refused n) = refused n

-- how long the UPID can get
abbrev pub Limit : List ℕ → Place → ℕ → Type 0
Limit s p limit = (n : ℕ) → (n ≤ limit → Takes s p n) × (Takes s p n → n ≤ limit)

unfoldable pub placed_made : List ℕ → Place → ℕ → ℕ → ℕ → List ℕ → Made
placed_made s p limit part upid_type_number new =
    wrapped s p (type_then part (get_or s p.head 0) upid_type_number) (up_to limit (upid_made (get_or s p.head 0) (run s (p.head + 2) (old_size p)) part upid_type_number new))
