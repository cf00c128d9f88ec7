-- The list of identifiers, before and after: with the identifier that is named between those before it and those after it.
use Prim.Native.Nat.{ℕ, zero, suc, ◌<◌, ◌≤◌}
use mathlib.Core.Bool.{Bool, true, false, not, ◌||◌}
use mathlib.Core.List.{List, [], ◌∷◌, ◌++◌, append_assoc, append-nil}
use mathlib.Core.Path.{◌≡◌, refl, ap, sym, subst, ◌∙◌}
use native.Mathlib.Omega.{arith}
use borrow.Author.Tests.{ne_eqb, eqb-true, eqb-false, le-leb}
use lib.Dec.{eqb, ltb}
use lib.ListN.{length, get_or, take, drop}
use Rattle.bit_stores.specs.Written.{answer_of, later_of}
use Rattle.relabel.proofs.Ats.{some_made}
use Rattle.relabel.specs.Relabel.{relabel_made}
use Rattle.relabel_laws.proofs.Theorems.{the_list_is_the_old_one_with_that_one_replaced}
use Rattle.relabel_laws.specs.Identifiers.{of_upid, each, identifiers_in, upid_then}
use Rattle.relabel_upid.proofs.Answers.{made_able, has_parts, taken_accepted, top_made_is, relabelled_made, same_again}
use Rattle.upid.proofs.Answers.{parts_of_mid}
use Rattle.relabel_upid.specs.Kept.{Identifier, identifiers_of, identifiers_at, identifiers_then, after_part, written_type}
use Rattle.relabel_upid.specs.Kept as kept
use Rattle.relabel_upid.specs.Relabel.{part_at, taken, top_made, upid_made}
use Rattle.section.specs.Section.{loop_bytes, section_of}
use Rattle.table.proofs.Lists.{zero_one}
use Rattle.table.specs.Bits.{pick}
use Rattle.table.specs.Writing.{Made, made, refused, bytes_in}
use Rattle.theorems_writer.proofs.Theorems.{an_accepted_write_changes_only_its_result}
use Rattle.upid.specs.Cover.{bytes_of}
use Rattle.upid.specs.Private.{Accepted}
use Rattle.upid.specs.Upid.{check_of, read_of, upid_of, parts_in, list_of}
use Rattle.upid.specs.declared.Part.{Part}
use Rattle.theorems_relabel.specs.Replaced.{Request, level_of, type_of, run_of, upid_for, type_for, Relabelled}
use Rattle.std.proofs.Common.{Ok, Result}

-- ---- a UPID by itself

pub alone : (k : ℕ) (u : List ℕ) → Accepted (check_of k u) → 0 < length u → of_upid k u ≡ identifiers_at 0 k u
unfolding of_upid identifiers_at
alone k u a h = rw (ne_eqb (length u) 0 (λ z. omega arith)) (go (eqb k 13) refl)
  where
    go : (b : Bool) → eqb k 13 ≡ b
        → pick b (identifiers_of u) (record { level = 0; upid_type = k; bytes = u } ∷ []) ≡ pick b (kept.identifiers_in u (list_of 13 1 0 u)) (record { level = 0; upid_type = k; bytes = u } ∷ [])
    go true e = ap (kept.identifiers_in u) (parts_of_mid u (subst (λ (j : ℕ). Accepted (check_of j u)) (eqb-true k 13 e) a))
    go false e = refl

-- one that was replaced was accepted, and not empty
pub was_there : (upid_type_number : ℕ) (top : List ℕ) (k : ℕ) (new b : List ℕ) → upid_made upid_type_number top 0 k new ≡ made b → Accepted (check_of upid_type_number top) × (0 < length top)
unfolding upid_made top_made
was_there upid_type_number top k new b = go (eqb (length top) 0) refl (taken (check_of upid_type_number top)) refl
  where
    go : (t : Bool) → eqb (length top) 0 ≡ t → (u : Bool) → taken (check_of upid_type_number top) ≡ u
        → pick (t || not u) (refused 41) (pick (ltb 255 (length new)) (refused 32) (pick (eqb (length new) 0 || not (taken (read_of k 0 new))) (refused 33) (made new))) ≡ made b
        → Accepted (check_of upid_type_number top) × (0 < length top)
    go true et u eu e = zero_one cc
    go false et false eu e = zero_one cc
    go false et true eu e = (taken_accepted _ eu, let n = eqb-false (length top) 0 et in omega (arith, n))

-- ---- lists

regroup : (l a b c t : List Identifier) → l ++ ((a ++ (b ++ c)) ++ t) ≡ (l ++ a) ++ (b ++ (c ++ t))
regroup l a b c t =
    ap (λ (x : List Identifier). l ++ x) (append_assoc a (b ++ c) t ∙ ap (λ (x : List Identifier). a ++ x) (append_assoc b c t))
    ∙ sym (append_assoc l a (b ++ (c ++ t)))

-- what the UPID's own list is, cut at the identifier that is named
record Sides (upid_type_number : ℕ) (top : List ℕ) (part k : ℕ) (new : List ℕ) : Type 0 where
  pub left : List Identifier
  pub right : List Identifier
  pub was : of_upid upid_type_number top ≡ left ++ (identifiers_at (level_of top part) (type_of upid_type_number top part) (run_of top part) ++ right)
  pub then : upid_then upid_type_number top part k new ≡ left ++ (identifiers_at (level_of top part) k new ++ right)

nothing_after : (x : List Identifier) → x ≡ [] ++ (x ++ [])
nothing_after x = sym (append-nil x)

in_the_same_words : (top : List ℕ) (ps : List Part) (i k : ℕ) (new : List ℕ)
    → identifiers_then top ps i k new ≡ kept.identifiers_in top (take i ps) ++ (identifiers_at (part_at ps i).level k new ++ kept.identifiers_in top (after_part top ps i))
unfolding identifiers_then
in_the_same_words top ps i k new = refl

old_list : (top : List ℕ) (i : ℕ) → Accepted (check_of 13 top) → i < length (parts_in (upid_of 13 top))
    → let ps : List Part = parts_in (upid_of 13 top) in identifiers_of top
    ≡ kept.identifiers_in top (take i ps) ++ (identifiers_at (part_at ps i).level (written_type top (part_at ps i)) (bytes_of top (part_at ps i)) ++ kept.identifiers_in top (after_part top ps i))
old_list top i a h =
    (relabelled_made 13 top i _ _ top (same_again top i a h)).1.identifiers
    ∙ in_the_same_words top (parts_in (upid_of 13 top)) i _ _

of_mid : (top : List ℕ) (i : ℕ) → Accepted (check_of 13 top) → i < length (parts_in (upid_of 13 top)) → of_upid 13 top ≡ identifiers_of top
unfolding of_upid
of_mid top i a h =
    let some : 1 ≤ length top = some_made 13 top (suc i) _ _ top (same_again top i a h) in
    rw (ne_eqb (length top) 0 (λ z. omega arith))

sides : (upid_type_number : ℕ) (top : List ℕ) (part k : ℕ) (new b : List ℕ) → upid_made upid_type_number top part k new ≡ made b → Sides upid_type_number top part k new
unfolding upid_then
sides upid_type_number top zero k new b e =
    let w = was_there upid_type_number top k new b e in
    let x = top_made_is upid_type_number top k new b e in
    record {
      left = [];
      right = [];
      was = alone upid_type_number top w.0 w.1 ∙ nothing_after (identifiers_at 0 upid_type_number top);
      then = alone k new (subst (λ (y : List ℕ). Accepted (check_of k y)) x.0 x.1) (subst (λ (y : List ℕ). 0 < length y) x.0 x.2) ∙ nothing_after (identifiers_at 0 k new);
    }
sides upid_type_number top (suc i) k new b e =
    let ps : List Part = parts_in (upid_of 13 top) in
    let x = made_able upid_type_number top i k new b e in
    let y = has_parts upid_type_number top i x.0.there in
    let a : Accepted (check_of 13 top) = subst (λ (j : ℕ). Accepted (check_of j top)) y.0 y.1 in
    let h : i < length (parts_in (upid_of 13 top)) = subst (λ (j : ℕ). i < length (parts_in (upid_of j top))) y.0 x.0.there in
    record {
      left = kept.identifiers_in top (take i ps);
      right = kept.identifiers_in top (after_part top ps i);
      was = ap (λ (j : ℕ). of_upid j top) y.0 ∙ of_mid top i a h ∙ old_list top i a h;
      then = in_the_same_words top ps i k new;
    }

one_of : (level k : ℕ) (new : List ℕ) → (k ≡ 13 → ⊥) → identifiers_at level k new ≡ record { level = level; upid_type = k; bytes = new } ∷ []
unfolding identifiers_at
one_of level k new n = rw (ne_eqb k 13 n)

-- ---- the section

module _ (q : Request) (r : List ℕ) (bytes : (j : ℕ) → get_or q.section j 0 < 256) (byte : q.upid_type < 256)
    (e : relabel_made q.section q.offset q.part q.upid_type q.bytes ≡ made r) where
  pub relabelled : Relabelled q r
  relabelled =
      let t = the_list_is_the_old_one_with_that_one_replaced q.section q.offset q.part q.upid_type q.bytes r bytes byte e in
      let x = t.0 in
      let y = sides (type_for q) (upid_for q) q.part q.upid_type q.bytes x.upid x.made_of in
      let l : List Identifier = each (loop_bytes q.section) x.lead in
      let z : List Identifier = each (loop_bytes q.section) x.tail in
      let lists : identifiers_in r ≡ (l ++ y.left) ++ (identifiers_at (level_of (upid_for q) q.part) q.upid_type q.bytes ++ (y.right ++ z)) =
      t.2 ∙ ap (λ (m : List Identifier). l ++ (m ++ z)) y.then ∙ regroup l y.left (identifiers_at (level_of (upid_for q) q.part) q.upid_type q.bytes) y.right z in
      record {
        old = x.old;
        was = x.accepted;
        then = _;
        accepted = ap section_of x.is ∙ x.kept.section;
        header = refl;
        command = refl;
        before = l ++ y.left;
        after = y.right ++ z;
        listed = t.1 ∙ ap (λ (m : List Identifier). l ++ (m ++ z)) y.was ∙ regroup l y.left (identifiers_at (level_of (upid_for q) q.part) (type_of (type_for q) (upid_for q) q.part) (run_of (upid_for q) q.part)) y.right z;
        lists = lists;
        single = λ n. lists ∙ ap (λ (m : List Identifier). (l ++ y.left) ++ (m ++ (y.right ++ z))) (one_of (level_of (upid_for q) q.part) q.upid_type q.bytes n);
        stays = x;
      }

-- what stands in the target when it was written
pub written : (q : Request) (target later : List ℕ) (n : ℕ) → ((j : ℕ) → get_or q.section j 0 < 256) → q.upid_type < 256
    → answer_of (relabel_made q.section q.offset q.part q.upid_type q.bytes) target ≡ Ok n → later ≡ later_of (relabel_made q.section q.offset q.part q.upid_type q.bytes) target
    → Relabelled q (take n later) × (drop n later ≡ drop n target) × (length later ≡ length target)
written q target later n bytes byte e l =
    let c = an_accepted_write_changes_only_its_result _ target n e in
    let b : take n later ≡ c.result = ap (take n) l ∙ c.start in
    (subst (Relabelled q) (sym b) (relabelled q c.result bytes byte c.is), ap (drop n) l ∙ c.rest, ap length l ∙ c.size)

-- and that it is what is made
pub made_so : (q : Request) (target later : List ℕ) (n : ℕ)
    → answer_of (relabel_made q.section q.offset q.part q.upid_type q.bytes) target ≡ Ok n → later ≡ later_of (relabel_made q.section q.offset q.part q.upid_type q.bytes) target
    → relabel_made q.section q.offset q.part q.upid_type q.bytes ≡ made (take n later)
made_so q target later n e l =
    let c = an_accepted_write_changes_only_its_result _ target n e in
    c.is ∙ ap made (sym (ap (take n) l ∙ c.start))

fits : (b target : List ℕ) → length b ≤ length target → answer_of (made b) target ≡ Ok (length b)
unfolding answer_of
fits b target h = rw (le-leb (length b) (length target) h)

one_made : (x y : List ℕ) → made x ≡ made y → x ≡ y
unfolding bytes_in
one_made x y e = ap bytes_in e

-- what is made and fits stands in the target
pub stands : (m : Made) (b target later : List ℕ) (answer : Result ℕ ℕ) → m ≡ made b → answer ≡ answer_of m target → later ≡ later_of m target → length b ≤ length target
    → (answer ≡ Ok (length b)) × (take (length b) later ≡ b)
stands m b target later answer e a l h =
    let w : answer_of m target ≡ Ok (length b) = ap (λ (x : Made). answer_of x target) e ∙ fits b target h in
    let c = an_accepted_write_changes_only_its_result m target (length b) w in
    (a ∙ w, ap (take (length b)) l ∙ c.start ∙ one_made c.result b (sym c.is ∙ e))
