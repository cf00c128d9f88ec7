-- What is proved of UPIDs, in the words of specs/Upid.antt and specs/Cover.antt. `upid_of k bytes` is the whole answer to the bytes under the
-- type k, which `read_upid` gives; `parts_in` are the parts in it. The proofs stand in Answers.antt.
use Prim.Native.Nat.{ℕ, zero, suc, ◌+◌, ◌-◌, ◌≤◌, ◌<◌}
use mathlib.Core.Path.{◌≡◌, refl}
use mathlib.Core.Bool.{true}
use mathlib.Core.List.{List, [], ◌∷◌, ◌++◌}
use lib.ListN.{length, get_or, replicate}
use Rattle.table.specs.declared.View.{View}
use Rattle.upid.specs.Private.{Accepted, Announced}
use Rattle.upid.specs.Upid.{upid_of, check_of, read_of, reported_of, blank_part, walk_of, plain_of, ◌then◌, list_of, parts_of, listed, unless_refused, parts_in}
use Rattle.upid.specs.Text.{characters, begun, Octets, text_of}
use Rattle.upid.specs.Cover.{All, Cut, joined, placed, top_part, bytes_of, direct_of, Covered, Ascending, Owned, Once}
use Rattle.upid.specs.declared.Part.{Part}
use Rattle.upid.specs.declared.Refusal.{Refusal}
use Rattle.upid.specs.declared.Refusal.TheVariants.{InvalidUpidContent}
use Rattle.upid.proofs.Cutting as cutting
use Rattle.upid.proofs.Answers as answers
use Rattle.upid.proofs.Utf8 as utf8
use Rattle.std.proofs.Common.{Ok, Err}

-- ---- no identifier is split

-- The top MID, and every part of it that is a MID, at whatever level: its direct parts, heads included, are the pieces of one cutting of its
-- bytes, and it can be cut in no other way.
pub every_mid_is_covered : (top : List ℕ) → Accepted (upid_of 13 top).read
    → All (λ (m : Part). m.upid_type ≡ 13 → Covered top (parts_in (upid_of 13 top)) m) (top_part top ∷ parts_in (upid_of 13 top))
unfolding upid_of
every_mid_is_covered = answers.covered

-- Every byte of such a MID lies in exactly one of its direct parts.
pub every_byte_lies_in_one_part : (top : List ℕ) → Accepted (upid_of 13 top).read → All (λ (m : Part). m.upid_type ≡ 13 → Once (parts_in (upid_of 13 top)) m) (top_part top ∷ parts_in (upid_of 13 top))
unfolding upid_of
every_byte_lies_in_one_part = answers.all_once

-- Every part, at whatever level, is one run of the top UPID: exactly the payload that the two bytes before it announce.
pub every_part_is_announced : (top : List ℕ) → Accepted (upid_of 13 top).read → All (Announced top) (parts_in (upid_of 13 top))
unfolding upid_of
every_part_is_announced = answers.announced_all

-- The list is in byte order, each part before those inside it.
pub parts_are_in_order : (top : List ℕ) → Accepted (upid_of 13 top).read → Ascending (parts_in (upid_of 13 top))
unfolding upid_of
parts_are_in_order = answers.in_byte_order

-- No part is invented: each is a direct part of the top MID or of a MID in the list.
pub every_part_has_its_mid : (top : List ℕ) → Accepted (upid_of 13 top).read → All (Owned (top_part top ∷ parts_in (upid_of 13 top))) (parts_in (upid_of 13 top))
unfolding upid_of
every_part_has_its_mid = answers.no_part_of_nothing

-- No bytes are the join of two cuttings.
pub no_other_cutting : (cs ds : List Cut) → joined cs ≡ joined ds → cs ≡ ds
no_other_cutting = cutting.one_cutting

-- Pieces that are accepted, joined to at most 255 bytes, are accepted as a MID whose direct parts are those pieces.
pub pieces_write_read : (cs : List Cut) → length (joined cs) ≤ 255 → All (λ (c : Cut). Accepted (read_of c.upid_type 0 c.payload)) cs
    → Accepted (upid_of 13 (joined cs)).read × (direct_of (top_part (joined cs)) (parts_in (upid_of 13 (joined cs))) ≡ placed 1 0 cs)
unfolding upid_of
pieces_write_read = answers.pieces_write_read

-- So a MID of an identifier of 8 bytes and one of 12 is read back as these two, whole.
pub eight_and_twelve_lem : (j k : ℕ) (a b : List ℕ) → length a ≡ 8 → length b ≡ 12
    → Accepted (read_of j 0 a) → Accepted (read_of k 0 b) → (j ≡ 13 → ⊥) → (k ≡ 13 → ⊥)
    → let top : List ℕ = j ∷ (8 ∷ (a ++ (k ∷ (12 ∷ b)))) in
    let first : Part = record { upid_type = reported_of j; level = 1; start = 2; len = 8 } in
    let second : Part = record { upid_type = reported_of k; level = 1; start = 12; len = 12 } in
    (parts_in (upid_of 13 top) ≡ first ∷ (second ∷ [])) × (bytes_of top first ≡ a) × (bytes_of top second ≡ b)
eight_and_twelve_lem = answers.eight_and_twelve_lem

-- ---- how many parts, and how deep

pub at_most_127_parts : (k : ℕ) (bytes : List ℕ) → (upid_of k bytes).list.count ≤ 127
at_most_127_parts = answers.at_most_127

-- the top UPID, at level 0, makes it 128 levels
pub levels_from_1_to_127 : (k : ℕ) (bytes : List ℕ) → All (λ (p : Part). (1 ≤ p.level) × (p.level ≤ 127)) (parts_in (upid_of k bytes))
levels_from_1_to_127 = answers.levels

pub all_zero_past_the_count : (k : ℕ) (bytes : List ℕ)
    → ((upid_of k bytes).list.parts ≡ parts_in (upid_of k bytes) ++ replicate (127 - (upid_of k bytes).list.count) blank_part) × (length (upid_of k bytes).list.parts ≡ 127)
all_zero_past_the_count k bytes = (answers.blank_past_count k bytes, answers.all_127 k bytes)

pub only_a_mid_has_parts : (k : ℕ) (bytes : List ℕ) → (k ≡ 13 → ⊥) → parts_in (upid_of k bytes) ≡ []
only_a_mid_has_parts = answers.no_mid_no_parts

pub a_refusal_has_no_parts : (k : ℕ) (bytes : List ℕ) (r : Refusal) → (upid_of k bytes).read ≡ Err r → parts_in (upid_of k bytes) ≡ []
unfolding upid_of
a_refusal_has_no_parts = answers.refused_no_parts

-- n MIDs, each inside the one before it
pub nested : ℕ → List ℕ
nested zero = []
nested (suc n) = 13 ∷ (length (nested n) ∷ nested n)

-- 127 parts and 128 levels are reached
pub deepest : ((upid_of 13 (nested 127)).read ≡ Ok 13) × ((upid_of 13 (nested 127)).list.count ≡ 127)
    × ((get_or (upid_of 13 (nested 127)).list.parts 126 (top_part [])).level ≡ 127)
unfolding nested upid_of check_of read_of walk_of plain_of ◌then◌ list_of parts_of listed unless_refused
deepest = (refl, refl, refl)

-- ---- the EIDR identifier

pub eidr_is_held_by_value : (bytes : List ℕ) → length bytes ≡ 12 → ((upid_of 10 bytes).read ≡ Ok 10) × ((upid_of 10 bytes).eidr ≡ bytes)
eidr_is_held_by_value = answers.eidr_held

-- ---- text

-- The test of text passes exactly the strings of RFC 3629's grammar, in which no byte begins two rows.
pub text_is_utf8 : (s : List ℕ) → text_of s ≡ true → Octets s
text_is_utf8 = utf8.text_is_utf8

pub utf8_is_text : (s : List ℕ) → Octets s → text_of s ≡ true
utf8_is_text = utf8.utf8_is_text

pub no_byte_begins_two_rows : (b : ℕ) → b < 256 → begun b characters ≤ 1
no_byte_begins_two_rows = utf8.one_row

-- ---- for readers of what holds a UPID

-- the view of a refusal 24 lies in the UPID
pub view_of_24_lies_inside : (k : ℕ) (bytes : List ℕ) (q : ℕ) (v : View) → check_of k bytes ≡ Err (InvalidUpidContent q v) → v.at + v.len ≤ length bytes
view_of_24_lies_inside = answers.view_inside
