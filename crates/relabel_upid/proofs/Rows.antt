-- Worked rows: the incident in general, and rows in bytes.
use Prim.Native.Nat.{ℕ, ◌+◌, ◌-◌, ◌≤◌, ◌<◌}
use mathlib.Core.Path.{◌≡◌, refl, sym, ap, ap₂, subst, ◌∙◌}
use mathlib.Core.Bool.{Bool, cond as pick}
use mathlib.Core.List.{List, [], ◌∷◌, ◌++◌}
use native.Mathlib.Omega.{arith}
use lib.ListN.{length, drop, get_or, replicate, length-append}
use lib.Seq.{drop_at, get_or_at}
use borrow.Author.Tests.{ne_eqb}
use Rattle.table.specs.Writing.{Made, made, refused}
use Rattle.upid.specs.Cover.{bytes_of}
use Rattle.upid.specs.Text.{text_of, done, step, within}
use Rattle.upid.specs.Upid.{upid_of, check_of, read_of, walk_of, ◌then◌, plain_of, length_of, is_text, reported_of, list_of, parts_of, listed, unless_refused, parts_in}
use Rattle.upid.specs.Private.{Accepted}
use Rattle.upid.specs.declared.Part.{Part}
use Rattle.upid.proofs.Laws.{list_plain}
use Rattle.upid.proofs.Theorems.{eight_and_twelve_lem}
use Rattle.relabel_upid.specs.Kept.{told, identifiers_in, identifiers_of, identifiers_at, identifiers_then, inside_of}
use Rattle.relabel_upid.specs.Relabel.{instead, around, mended, spliced, part_at, replaced_in, taken, top_made, part_made, upid_made}
use Rattle.relabel_upid.proofs.Answers.{Able, able_made, accepted_taken, relabelled_made}
use Rattle.relabel_upid.proofs.Told.{reported_other}

-- ---- the incident: a MID of 8 and 12 bytes, whose eight-byte part becomes twelve bytes long

module _ (j k m : ℕ) (a b n : List ℕ) (la : length a ≡ 8) (lb : length b ≡ 12) (ln : length n ≡ 12)
    (ja : Accepted (read_of j 0 a)) (kb : Accepted (read_of k 0 b)) (mn : Accepted (read_of m 0 n)) (nj : j ≡ 13 → ⊥) (nk : k ≡ 13 → ⊥) where
  abbrev top : List ℕ
  top = j ∷ (8 ∷ (a ++ (k ∷ (12 ∷ b))))

  abbrev first : Part
  first = record { upid_type = reported_of j; level = 1; start = 2; len = 8 }

  abbrev second : Part
  second = record { upid_type = reported_of k; level = 1; start = 12; len = 12 }

  parts : parts_in (upid_of 13 top) ≡ first ∷ (second ∷ [])
  parts = (eight_and_twelve_lem j k a b la lb ja kb nj nk).0

  size : length top ≡ 24
  size = omega (arith, length-append a (k ∷ (12 ∷ b)))

  back : drop 8 (a ++ (k ∷ (12 ∷ b))) ≡ k ∷ (12 ∷ b)
  back = drop_at a (k ∷ (12 ∷ b)) 8 la

  able : Able 13 top 0 m n
  able =
      record {
        there = subst (λ (ps : List Part). 0 < length ps) (sym parts) (omega arith);
        short = subst (λ (ps : List Part). instead (part_at ps 0) (length n) (length top) ≤ 255) (sym parts) (omega (arith, size));
        accepted = accepted_taken _ mn;
      }

  pub eight_becomes_twelve : upid_made 13 (j ∷ (8 ∷ (a ++ (k ∷ (12 ∷ b))))) 1 m n ≡ made (m ∷ (12 ∷ (n ++ (k ∷ (12 ∷ b)))))
  unfolding spliced mended
  eight_becomes_twelve =
      able_made 13 top 0 m n able
      ∙ ap (λ (ps : List Part). made (replaced_in top ps 0 m n)) parts
      ∙ ap₂ (λ (l : ℕ) (s : List ℕ). made (m ∷ (l ∷ (n ++ s)))) ln back

  -- and so it is read back: the new one, and the other's twelve bytes untouched
  pub the_other_is_untouched : (m ≡ 13 → ⊥)
      → identifiers_of (m ∷ (12 ∷ (n ++ (k ∷ (12 ∷ b))))) ≡ record { level = 1; upid_type = m; bytes = n } ∷ (record { level = 1; upid_type = k; bytes = b } ∷ [])
  unfolding identifiers_then identifiers_in identifiers_at
  the_other_is_untouched nm =
      let r = (relabelled_made 13 top 0 m n _ eight_becomes_twelve).1 in
      let none : inside_of top first ≡ [] = list_plain (reported_of j) 2 2 (bytes_of top first) (reported_other j nj) in
      let upid_type : get_or top (12 - 2) 0 ≡ k = get_or_at a k (12 ∷ b) 0 8 la in
      let bytes : bytes_of top second ≡ b = (eight_and_twelve_lem j k a b la lb ja kb nj nk).2 in
      r.identifiers
      ∙ ap (λ (ps : List Part). identifiers_then top ps 0 m n) parts
      ∙ ap (λ (ps : List Part). identifiers_at 1 m n ++ identifiers_in top (drop (0 + (1 + length ps)) (first ∷ (second ∷ [])))) none
      ∙ ap₂ (λ (t u : Bool). pick t (identifiers_in n (list_of 13 2 0 n)) (record { level = 1; upid_type = m; bytes = n } ∷ []) ++ pick u [] (told top second ∷ [])) (ne_eqb m 13 nm) (ne_eqb (reported_of k) 13 (reported_other k nk))
      ∙ ap₂ (λ (x : ℕ) (y : List ℕ). record { level = 1; upid_type = m; bytes = n } ∷ (record { level = 1; upid_type = x; bytes = y } ∷ [])) upid_type bytes

-- ---- rows in bytes

-- one row: a UPID, the number of the part, the new type and bytes, and what is made
pub record Row : Type 0 where
  pub upid_type : ℕ
  pub top : List ℕ
  pub part : ℕ
  pub new_type : ℕ
  pub new : List ℕ
  pub answer : Made

-- two parts, the first a MID with one part inside it
abbrev pub nest : List ℕ
nest = 0x0D ∷ 0x0A ∷ 0x08 ∷ 0x08 ∷ 1 ∷ 2 ∷ 3 ∷ 4 ∷ 5 ∷ 6 ∷ 7 ∷ 8 ∷ 0x09 ∷ 0x02 ∷ 0x41 ∷ 0x42 ∷ []

unfoldable pub rows : List Row
rows =
    -- the part inside the inner MID becomes twelve bytes long: the inner MID's head is mended, and the part after it stays
    record {
      upid_type = 13;
      top = nest;
      part = 2;
      new_type = 0x0A;
      new = 9 ∷ 8 ∷ 7 ∷ 6 ∷ 5 ∷ 4 ∷ 3 ∷ 2 ∷ 1 ∷ 0 ∷ 1 ∷ 2 ∷ [];
      answer = made (0x0D ∷ 0x0E ∷ 0x0A ∷ 0x0C ∷ 9 ∷ 8 ∷ 7 ∷ 6 ∷ 5 ∷ 4 ∷ 3 ∷ 2 ∷ 1 ∷ 0 ∷ 1 ∷ 2 ∷ 0x09 ∷ 0x02 ∷ 0x41 ∷ 0x42 ∷ []);
    }
    -- it becomes empty
    ∷ record { upid_type = 13; top = nest; part = 2; new_type = 0x09; new = []; answer = made (0x0D ∷ 0x02 ∷ 0x09 ∷ 0x00 ∷ 0x09 ∷ 0x02 ∷ 0x41 ∷ 0x42 ∷ []) }
    -- the inner MID itself, with all inside it, becomes one identifier
    ∷ record { upid_type = 13; top = nest; part = 1; new_type = 0x09; new = 0x43 ∷ []; answer = made (0x09 ∷ 0x01 ∷ 0x43 ∷ 0x09 ∷ 0x02 ∷ 0x41 ∷ 0x42 ∷ []) }
    -- the part after it: the inner MID's head stays
    ∷ record { upid_type = 13; top = nest; part = 3; new_type = 0x0D; new = 0x09 ∷ 0x00 ∷ []; answer = made (0x0D ∷ 0x0A ∷ 0x08 ∷ 0x08 ∷ 1 ∷ 2 ∷ 3 ∷ 4 ∷ 5 ∷ 6 ∷ 7 ∷ 8 ∷ 0x0D ∷ 0x02 ∷ 0x09 ∷ 0x00 ∷ []) }
    -- what is there changes nothing
    ∷ record { upid_type = 13; top = nest; part = 2; new_type = 0x08; new = 1 ∷ 2 ∷ 3 ∷ 4 ∷ 5 ∷ 6 ∷ 7 ∷ 8 ∷ []; answer = made nest }
    -- the UPID itself
    ∷ record { upid_type = 13; top = nest; part = 0; new_type = 0x09; new = 0x41 ∷ []; answer = made (0x41 ∷ []) }
    -- 41: no such part; a part of what is no MID; a UPID that is refused; none
    ∷ record { upid_type = 13; top = nest; part = 4; new_type = 0x09; new = []; answer = refused 41 }
    ∷ record { upid_type = 9; top = 0x41 ∷ []; part = 1; new_type = 0x09; new = []; answer = refused 41 }
    ∷ record { upid_type = 13; top = 0x00 ∷ 0x00 ∷ []; part = 1; new_type = 0x09; new = []; answer = refused 41 }
    ∷ record { upid_type = 8; top = 0x41 ∷ []; part = 0; new_type = 0x09; new = 0x41 ∷ []; answer = refused 41 }
    ∷ record { upid_type = 9; top = []; part = 0; new_type = 0x09; new = 0x41 ∷ []; answer = refused 41 }
    -- 32: 16 bytes with 250 in place of 8 are too many, though an identifier of 250 is none; and it stands before 33
    ∷ record { upid_type = 13; top = nest; part = 2; new_type = 0x09; new = replicate 250 0x41; answer = refused 32 }
    ∷ record { upid_type = 13; top = nest; part = 2; new_type = 0x00; new = replicate 250 0x41; answer = refused 32 }
    -- 33: wrong length; type 0; an empty top UPID; a MID whose inside is refused; no text
    ∷ record { upid_type = 13; top = nest; part = 2; new_type = 0x08; new = 1 ∷ []; answer = refused 33 }
    ∷ record { upid_type = 13; top = nest; part = 2; new_type = 0x00; new = []; answer = refused 33 }
    ∷ record { upid_type = 13; top = nest; part = 0; new_type = 0x09; new = []; answer = refused 33 }
    ∷ record { upid_type = 13; top = nest; part = 2; new_type = 0x0D; new = 0x08 ∷ 0x00 ∷ []; answer = refused 33 }
    ∷ record { upid_type = 13; top = nest; part = 3; new_type = 0x02; new = replicate 8 0xFF; answer = refused 33 }
    ∷ []

pub data Hold : List Row → Type 0 where
  none : Hold []
  more : {r : Row} {rs : List Row} → upid_made r.upid_type r.top r.part r.new_type r.new ≡ r.answer → Hold rs → Hold (r ∷ rs)

pub rows_hold : Hold rows
unfolding rows upid_made top_made part_made spliced mended around taken upid_of check_of read_of walk_of ◌then◌ plain_of length_of is_text reported_of list_of parts_of listed unless_refused text_of done step within
rows_hold =
    more refl (more refl (more refl (more refl (more refl (more refl
    (more refl (more refl (more refl (more refl (more refl
    (more refl (more refl
    (more refl (more refl (more refl (more refl (more refl none)))))))))))))))))
