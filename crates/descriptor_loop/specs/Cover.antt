-- What it means that the items of a loop cover it, and that it can be cut in no other way.
use Rattle.std.specs.Prelude.{ℕ, ◌+◌, ◌≤◌, ◌<◌, Bool, ◌&&◌, List, [], ◌∷◌, ◌++◌, map, ◌≡◌, leb, ltb, length, take, drop, get_or, Err, Some}
use Rattle.table.specs.Bits.{pick}
use Rattle.descriptor_loop.specs.Items.{without_identifier, Listed}
use Rattle.descriptor_loop.specs.declared.ItemRefusal.{ItemRefusal}
use Rattle.descriptor_loop.specs.declared.Step.{Step}

-- ---- the rules of a cutting, which know nothing of a reader

-- The loop ends with these bytes left: "R from 1 to 5", "R at least 6, length L, L + 2 > R", "L = 255 that fits"
-- (no byte is over 255).
pub data Ends : List ℕ → Type 0 where
  few : {rest : List ℕ} → 1 ≤ length rest → length rest ≤ 5 → Ends rest
  over : {rest : List ℕ} → 6 ≤ length rest → length rest < get_or rest 1 0 + 2 → Ends rest
  full : {rest : List ℕ} → get_or rest 1 0 + 2 ≤ length rest → 254 < get_or rest 1 0 → Ends rest

-- A piece that is a complete item, with so many bytes after it: a tag, a length L of at most 254, and L bytes; it starts where at least 6 bytes are left.
pub record Complete (piece : List ℕ) (after : ℕ) : Type 0 where
  pub tag : ℕ
  pub body : List ℕ
  pub is : piece ≡ tag ∷ (length body ∷ body)
  pub short : length body ≤ 254
  pub left : 6 ≤ length piece + after

unfoldable pub joined : List (List ℕ) → List ℕ
joined [] = []
joined (p ∷ ps) = p ++ joined ps

-- Every piece is a complete item, but a last one may be what an ending rule leaves.
pub data ByItems : List (List ℕ) → Type 0 where
  none : ByItems []
  rest : {r : List ℕ} → Ends r → ByItems (r ∷ [])
  item : {p : List ℕ} {ps : List (List ℕ)} → Complete p (length (joined ps)) → ByItems ps → ByItems (p ∷ ps)

-- A cutting of a loop: pieces by these rules whose join is the loop.
pub record Cutting (loop : List ℕ) (pieces : List (List ℕ)) : Type 0 where
  pub joins : joined pieces ≡ loop
  pub by_items : ByItems pieces

-- ---- a loop and its items

-- the bytes of an item are one run of the loop
abbrev pub run_of : List ℕ → Listed → List ℕ
run_of loop x = take x.used (drop x.offset loop)

-- each item starts where the one before it ended, and the last ends at `end`
pub data Follow : ℕ → ℕ → List Listed → Type 0 where
  done : {end : ℕ} → Follow end end []
  follows : {at end : ℕ} {x : Listed} {xs : List Listed} → x.offset ≡ at → Follow (at + x.used) end xs → Follow at end (x ∷ xs)

-- ---- the claims

-- the step refuses the item and takes the rest: the next offset is the loop's length
pub record TakesRest (loop : List ℕ) (s : Step) : Type 0 where
  pub refusal : ItemRefusal
  pub is : s ≡ without_identifier (Some (Err refusal)) (length loop)

-- The items' bytes are one cutting of the loop, in order from its start to its end; and no other cutting meets the rules.
pub record Covered (loop : List ℕ) (xs : List Listed) : Type 0 where
  pub cutting : Cutting loop (map (run_of loop) xs)
  pub only : (other : List (List ℕ)) → Cutting loop other → other ≡ map (run_of loop) xs
  pub follow : Follow 0 (length loop) xs

-- ---- the same, byte by byte: whether byte i of the loop lies in an item, and in how many
unfoldable pub lies : ℕ → Listed → Bool
lies i x = leb x.offset i && ltb i (x.offset + x.used)

unfoldable pub times : ℕ → List Listed → ℕ
times i [] = 0
times i (x ∷ xs) = pick (lies i x) 1 0 + times i xs
