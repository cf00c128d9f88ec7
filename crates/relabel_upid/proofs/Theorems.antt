-- What is proved of one identifier of a UPID replaced, in the words of specs/Relabel.antt and specs/Kept.antt. `upid_made kind top part k new` is what is made of
-- the UPID `top` of type `upid_type_number` when its part number `part` (0 for the UPID itself) becomes an identifier of type k with the bytes `new`. The proofs stand in
-- Answers.antt.
use Prim.Native.Nat.{ℕ, suc, ◌-◌, ◌<◌}
use mathlib.Core.Path.{◌≡◌}
use mathlib.Core.Bool.{true}
use mathlib.Core.List.{List, [], ◌∷◌, ◌++◌}
use lib.ListN.{length, get_or}
use Rattle.table.specs.Writing.{made}
use Rattle.upid.specs.Cover.{All, Cut, bytes_of}
use Rattle.upid.specs.Upid.{read_of, upid_of, parts_in}
use Rattle.upid.specs.Private.{Accepted}
use Rattle.upid.specs.declared.Part.{Part}
use Rattle.relabel_upid.specs.Hole.{Hole, filled}
use Rattle.relabel_upid.specs.Kept.{identifiers_of, identifiers_then, written_type, Relabelled}
use Rattle.relabel_upid.specs.Relabel.{around, mended, part_at, replaced, upid_made}
use Rattle.relabel_upid.proofs.Answers as answers
use Rattle.relabel_upid.proofs.Rows as rows
use Rattle.relabel_upid.proofs.Turns as turns

-- ---- every other identifier stays

-- Whatever is made of a part is a MID that is accepted, in which every other identifier stays exactly as it was; what was there, put back, gives the old MID.
pub every_other_identifier_stays : (upid_type_number : ℕ) (top : List ℕ) (i k : ℕ) (new b : List ℕ) → upid_made upid_type_number top (suc i) k new ≡ made b
    → (upid_type_number ≡ 13) × Relabelled top i k new b
every_other_identifier_stays = answers.relabelled_made

-- Relabelling with the identifier that is there changes nothing.
pub the_same_identifier_changes_nothing : (top : List ℕ) (i : ℕ) → Accepted (upid_of 13 top).read → i < length (parts_in (upid_of 13 top))
    → let p : Part = part_at (parts_in (upid_of 13 top)) i in upid_made 13 top (suc i) (written_type top p) (bytes_of top p) ≡ made top
unfolding upid_of
the_same_identifier_changes_nothing top i a h = answers.same_again top i a h

-- The old list in the same words: what stood before the part, the part's own, and what stood after it.
pub the_old_list_in_the_same_words : (top : List ℕ) (i : ℕ) → Accepted (upid_of 13 top).read → i < length (parts_in (upid_of 13 top))
    → let p : Part = part_at (parts_in (upid_of 13 top)) i in identifiers_of top ≡ identifiers_then top (parts_in (upid_of 13 top)) i (written_type top p) (bytes_of top p)
unfolding upid_of
the_old_list_in_the_same_words top i a h = (answers.relabelled_made 13 top i _ _ top (answers.same_again top i a h)).1.identifiers

-- It is one MID with a hole, filled twice: what was there fills it to the old MID, and any identifier to the MID that it is replaced in.
pub one_hole_filled_twice : (top : List ℕ) (i : ℕ) → Accepted (upid_of 13 top).read → i < length (parts_in (upid_of 13 top))
    → (h : Hole) × (c : Cut) × (filled h c ≡ top) × ((d : Cut) → replaced top i d.upid_type d.payload ≡ filled h d)
unfolding upid_of
one_hole_filled_twice top i a h = answers.one_hole top i a h

-- The UPID itself: what is made is the new identifier, which its reader takes; it is not empty.
pub the_upid_itself : (upid_type_number : ℕ) (top : List ℕ) (k : ℕ) (new b : List ℕ) → upid_made upid_type_number top 0 k new ≡ made b → (b ≡ new) × Accepted (upid_of k b).read × (0 < length b)
unfolding upid_of
the_upid_itself = answers.top_made_is

-- ---- no other byte changes

-- What stands before the part's head keeps its length, and every byte of it but the lengths in the heads around the part. (What stands after the part, and the new
-- identifier, stand in the definition, `spliced`, as they are.)
pub before_the_part_only_lengths_change : (p : Part) (n : ℕ) (qs : List Part) (prior : List ℕ)
    → (length (mended p n qs prior) ≡ length prior)
    × ((j : ℕ) → All (λ (q : Part). around p q ≡ true → q.start - 1 ≡ j → ⊥) qs → get_or (mended p n qs prior) j 0 ≡ get_or prior j 0)
before_the_part_only_lengths_change p n qs prior = (turns.mended_length p n qs prior, turns.mended_elsewhere p n qs prior)

-- ---- the incident

-- A MID of an identifier of 8 bytes and one of 12: the eight-byte part becomes twelve bytes long, and the other's twelve bytes are untouched.
pub eight_becomes_twelve : (j k m : ℕ) (a b n : List ℕ) → length a ≡ 8 → length b ≡ 12 → length n ≡ 12
    → Accepted (read_of j 0 a) → Accepted (read_of k 0 b) → Accepted (read_of m 0 n) → (j ≡ 13 → ⊥) → (k ≡ 13 → ⊥) → (m ≡ 13 → ⊥)
    → let result : List ℕ = m ∷ (12 ∷ (n ++ (k ∷ (12 ∷ b)))) in
    (upid_made 13 (j ∷ (8 ∷ (a ++ (k ∷ (12 ∷ b))))) 1 m n ≡ made result)
    × (identifiers_of result ≡ record { level = 1; upid_type = m; bytes = n } ∷ (record { level = 1; upid_type = k; bytes = b } ∷ []))
eight_becomes_twelve j k m a b n la lb ln ja kb mn nj nk nm =
    (rows.eight_becomes_twelve j k m a b n la lb ln ja kb mn nj nk, rows.the_other_is_untouched j k m a b n la lb ln ja kb mn nj nk nm)
