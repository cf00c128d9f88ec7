-- The UPID: the identifier that is there put where it is, and put back.
use Prim.Native.Nat.{ℕ, zero, suc, ◌≤◌, ◌<◌}
use mathlib.Core.Bool.{Bool, true, false, not, ◌||◌}
use mathlib.Core.List.{List}
use mathlib.Core.Path.{◌≡◌, refl, ap, sym, subst, ◌∙◌}
use native.Mathlib.Omega.{arith}
use borrow.Author.Tests.{eqb-false}
use lib.Dec.{eqb}
use lib.ListN.{length}
use Rattle.relabel_joined.specs.Relabel.{type_then}
use Rattle.relabel_upid.proofs.Answers.{taken_accepted, accepted_taken, has_parts, made_able}
use Rattle.relabel_upid.proofs.Theorems.{every_other_identifier_stays, the_same_identifier_changes_nothing, the_upid_itself}
use Rattle.relabel_upid.proofs.Turns.{fine_bytes, top_made_lem}
use Rattle.relabel_upid.specs.Relabel.{taken, top_made, upid_made}
use Rattle.table.proofs.Lists.{zero_one}
use Rattle.table.specs.Bits.{pick}
use Rattle.table.specs.Writing.{Made, made, refused}
use Rattle.upid.proofs.Walks.{check_short}
use Rattle.upid.specs.Private.{Accepted}
use Rattle.upid.specs.Upid.{check_of, upid_of}
use Rattle.relabel_trips.specs.Named.{HasPart, type_within, identifier_within}

-- ---- the UPID itself

-- any that is accepted and not empty becomes any other
pub top_becomes : (upid_type_number : ℕ) (top : List ℕ) (k : ℕ) (new : List ℕ) → Accepted (check_of upid_type_number top) → 0 < length top → Accepted (check_of k new) → 0 < length new
    → upid_made upid_type_number top 0 k new ≡ made new
unfolding upid_made
top_becomes upid_type_number top k new a some b full =
    let none : length top ≡ 0 → ⊥ = λ z. omega (arith, z) in
    let empty : length new ≡ 0 → ⊥ = λ z. omega (arith, z) in
    let short : length new ≤ 255 = check_short k new b in
    top_made_lem upid_type_number k top new none (accepted_taken _ a) short empty (ap taken (sym (fine_bytes k new short empty)) ∙ accepted_taken _ b)

-- of what was made the UPID was there
module _ (upid_type_number : ℕ) (top : List ℕ) (k : ℕ) (new b : List ℕ) where
  was_top : upid_made upid_type_number top 0 k new ≡ made b → (0 < length top) × Accepted (check_of upid_type_number top)
  unfolding upid_made top_made
  was_top e = go (eqb (length top) 0) refl (taken (check_of upid_type_number top)) refl _ e
    where
      go : (t : Bool) → eqb (length top) 0 ≡ t → (u : Bool) → taken (check_of upid_type_number top) ≡ u → (m : Made) → pick (t || not u) (refused 41) m ≡ made b
          → (0 < length top) × Accepted (check_of upid_type_number top)
      go true et u eu m h = zero_one cc
      go false et false eu m h = zero_one cc
      go false et true eu m h = (let z : length top ≡ 0 → ⊥ = eqb-false (length top) 0 et in omega arith, taken_accepted _ eu)

pub was_there : (upid_type_number : ℕ) (top : List ℕ) (part k : ℕ) (new b : List ℕ) → upid_made upid_type_number top part k new ≡ made b → HasPart upid_type_number top part
was_there upid_type_number top zero k new b e = (was_top upid_type_number top k new b e).0
was_there upid_type_number top (suc i) k new b e = (made_able upid_type_number top i k new b e).0.there

-- ---- the identifier that is there

pub same_upid : (upid_type_number : ℕ) (top : List ℕ) (part : ℕ) → Accepted (check_of upid_type_number top) → HasPart upid_type_number top part
    → upid_made upid_type_number top part (type_within upid_type_number top part) (identifier_within upid_type_number top part) ≡ made top
unfolding upid_of
same_upid upid_type_number top zero a h = top_becomes upid_type_number top upid_type_number top a h a h
same_upid upid_type_number top (suc i) a h = of_mid upid_type_number (has_parts upid_type_number top i h).0 a h
  where
    of_mid : (upid_type_number : ℕ) → upid_type_number ≡ 13 → Accepted (check_of upid_type_number top) → HasPart upid_type_number top (suc i) → upid_made upid_type_number top (suc i) (type_within upid_type_number top (suc i)) (identifier_within upid_type_number top (suc i)) ≡ made top
    of_mid upid_type_number e a h =
        subst (λ (t : ℕ). upid_made t top (suc i) (type_within t top (suc i)) (identifier_within t top (suc i)) ≡ made top) (sym e)
        (the_same_identifier_changes_nothing top i (subst (λ (t : ℕ). Accepted (check_of t top)) e a) (subst (λ (t : ℕ). HasPart t top (suc i)) e h))

-- ---- what was there, put back

pub back_upid : (upid_type_number : ℕ) (top : List ℕ) (part k : ℕ) (new b : List ℕ) → upid_made upid_type_number top part k new ≡ made b
    → upid_made (type_then part upid_type_number k) b part (type_within upid_type_number top part) (identifier_within upid_type_number top part) ≡ made top
unfolding upid_of
back_upid upid_type_number top zero k new b e =
    let x = was_top upid_type_number top k new b e in
    let y = the_upid_itself upid_type_number top k new b e in
    top_becomes k b upid_type_number top y.1 y.2 x.1 x.0
back_upid upid_type_number top (suc i) k new b e =
    let x = every_other_identifier_stays upid_type_number top i k new b e in
    subst (λ (t : ℕ). upid_made t b (suc i) (type_within t top (suc i)) (identifier_within t top (suc i)) ≡ made top) (sym x.0) x.1.again

-- the type of the UPID is then the old one again
pub type_back : (upid_type_number : ℕ) (top : List ℕ) (part k : ℕ) → type_then part (type_then part upid_type_number k) (type_within upid_type_number top part) ≡ upid_type_number
type_back upid_type_number top zero k = refl
type_back upid_type_number top (suc i) k = refl

pub type_same : (upid_type_number : ℕ) (top : List ℕ) (part : ℕ) → type_then part upid_type_number (type_within upid_type_number top part) ≡ upid_type_number
type_same upid_type_number top zero = refl
type_same upid_type_number top (suc i) = refl
