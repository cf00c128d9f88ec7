-- A refusal by 01's number and values.
use Rattle.std.specs.Prelude.{ℕ, ◌+◌, List, [], ◌∷◌, ◌≡◌, get_or, Err, Some, Result}
use Rattle.descriptor.specs.declared.Descriptor.{Descriptor}
use Rattle.descriptor_loop.specs.Cover.{Ends}
use Rattle.descriptor_loop.specs.Items as items
use Rattle.descriptor_loop.specs.declared.ItemRefusal.{ItemRefusal}
use Rattle.descriptor_loop.specs.declared.Step.{Step}
use Rattle.upid.specs.Upid as upid
use Rattle.upid.specs.declared.Refusal.{Refusal}

-- the step refuses the item with this number and these values, and goes on at `next`
pub record StepRefused (s : Step) (n : ℕ) (values : List ℕ) (next : ℕ) : Type 0 where
  pub refusal : ItemRefusal
  pub is : s.item ≡ Some (Err refusal)
  pub number : items.number_of refusal ≡ n
  pub told : items.values_of refusal ≡ values
  pub goes : s.next ≡ next

-- where a loop ends, each rule with its refusal: "R from 1 to 5: refusal 21 (2, 0)", "L + 2 > R: 21 (L + 2, 0)", "L = 255 that fits: 22"
abbrev pub end_number : {rest : List ℕ} → Ends rest → ℕ
end_number (Ends.few a b) = 21
end_number (Ends.over a b) = 21
end_number (Ends.full a b) = 22

abbrev pub end_values : {rest : List ℕ} → Ends rest → List ℕ
end_values (Ends.few a b) = 2 ∷ 0 ∷ []
end_values {rest} (Ends.over a b) = (get_or rest 1 0 + 2) ∷ 0 ∷ []
end_values (Ends.full a b) = []

-- a UPID is refused with this number and these values
pub record UpidRefused (r : Result ℕ Refusal) (n : ℕ) (values : List ℕ) : Type 0 where
  pub refusal : Refusal
  pub is : r ≡ Err refusal
  pub number : upid.number_of refusal ≡ n
  pub told : upid.values_of refusal ≡ values

-- the kind of a descriptor: the tag of 0 to 3 that it has with "CUEI", and 4 for reserved
abbrev pub kind_of : Descriptor → ℕ
kind_of (Descriptor.Avail x) = 0
kind_of (Descriptor.Dtmf x) = 1
kind_of (Descriptor.Segmentation x) = 2
kind_of (Descriptor.Time x) = 3
kind_of (Descriptor.Reserved tag v) = 4

-- "Fixed lengths: types 2, 5, 8 have 8; 3, 6, 7, 10 have 12; 4 has 32"
abbrev pub fixed_lengths : List (ℕ × ℕ)
fixed_lengths = (2, 8) ∷ (3, 12) ∷ (4, 32) ∷ (5, 8) ∷ (6, 12) ∷ (7, 12) ∷ (8, 8) ∷ (10, 12) ∷ []

-- "Types 2, 3, 7 are UTF-8"
abbrev pub texts : List (ℕ × ℕ)
texts = (2, 8) ∷ (3, 12) ∷ (7, 12) ∷ []

-- the others, with the type that each reports: "Types 5 and 6 are one kind .. both report type 6"
abbrev pub plain_lengths : List (ℕ × (ℕ × ℕ))
plain_lengths = (4, (32, 4)) ∷ (5, (8, 6)) ∷ (6, (12, 6)) ∷ (8, (8, 8)) ∷ (10, (12, 10)) ∷ []
