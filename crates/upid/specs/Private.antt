-- What the contracts of private functions and the laws of this crate say. No public contract cites this.
use Rattle.std.specs.Prelude.{ℕ, zero, suc, ◌+◌, ◌-◌, ◌≤◌, List, [], ◌∷◌, ◌++◌, ◌≡◌, length, take, drop, get_or, replicate, Ok, Err, Result}
use Rattle.std.proofs.lemmas.List.Edits.{sets}
use Rattle.upid.specs.Text.{State, wants, broken, ◌to◌, tail}
use Rattle.upid.specs.Upid.{read_of, list_of, reported_of}
use Rattle.upid.specs.declared.Part.{Part}
use Rattle.upid.specs.declared.PartList.{PartList}
use Rattle.upid.specs.declared.text.Stand.{Stand}
use Rattle.upid.specs.declared.text.Stand.TheVariants.{Between, Want, Broken}
use Rattle.upid.specs.declared.Refusal.{Refusal}

-- what a `Stand` stands for
abbrev pub meaning : Stand → State
meaning Between = wants []
meaning (Want more low high) = wants (low to high ∷ replicate (more - 1) tail)
meaning Broken = broken

-- a list with more parts after its own
unfoldable pub grown : PartList → List Part → PartList
grown w ps = record { parts = sets w.parts w.count ps; count = w.count + length ps }

abbrev pub Accepted : Result ℕ Refusal → Type 0
Accepted (Ok k) = Unit {0}
Accepted (Err r) = ⊥

-- The part p is the payload that its own head announces, two bytes before it in the top UPID, and lies in that UPID whole.
pub record Announced (top : List ℕ) (p : Part) : Type 0 where
  pub upid_type : p.upid_type ≡ reported_of (get_or top (p.start - 2) 0)
  pub len : p.len ≡ get_or top (p.start - 1) 0
  pub behind : 2 ≤ p.start
  pub inside : p.start + p.len ≤ length top

-- The MIDs that are open at the place `at` of s, the innermost of which ends at `ends`' place level - 1 and is followed by the rest of the one before it:
-- what is left of each was accepted.
unfoldable pub Open : List ℕ → List ℕ → ℕ → ℕ → Type 0
Open s ends zero at = Unit {0}
Open s ends (suc m) at =
    (at ≤ get_or ends m 0)
    × (get_or ends m 0 ≤ length s)
    × Accepted (read_of 13 at (drop at (take (get_or ends m 0) s)))
    × Open s ends m (get_or ends m 0)

-- the parts that are left of them
unfoldable pub pending : List ℕ → List ℕ → ℕ → ℕ → List Part
pending s ends zero at = []
pending s ends (suc m) at = list_of 13 (suc m) at (drop at (take (get_or ends m 0) s)) ++ pending s ends m (get_or ends m 0)

-- a UPID was accepted if it is a MID, and is short enough for its parts to have their places
pub record Listable (upid_type : ℕ) (bytes : List ℕ) : Type 0 where
  pub accepted : upid_type ≡ 13 → Accepted (read_of upid_type 0 bytes)
  pub short : length bytes ≤ 255
