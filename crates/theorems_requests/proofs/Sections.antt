-- A section that passed the single box: what is answered, and what stands in the target.
use Prim.Native.Nat.{ℕ, ◌+◌, ◌%◌, ◌^◌}
use mathlib.Core.Bool.{Bool, true, false}
use mathlib.Core.List.{List}
use mathlib.Core.Path.{◌≡◌, refl, ap, sym, subst, ◌∙◌}
use native.Mathlib.Omega.{arith}
use lib.Dec.{eqb, ltb}
use lib.ListN.{length, take}
use borrow.Author.Tests.{le-leb, lt-leb, eqb-true, eqb-false, ltb-true, ltb-false}
use Rattle.adjust.specs.Adjust.{chain_of, undo_of}
use Rattle.adjust_section.proofs.Parts.{length_section}
use Rattle.adjust_section.proofs.Stored.{is_refused, is_wide, is_made, sizes}
use Rattle.adjust_section.proofs.Theorems as box
use Rattle.adjust_section.specs.Adjusted.{adjustment_in, section_with, adjusted_section}
use Rattle.adjust_section.specs.Readings.{reading_with, and_then}
use Rattle.bit_stores.specs.Written.{answer_of, later_of}
use Rattle.c_command_writer.specs.Words.{flat_written}
use Rattle.c_section.specs.Flat.{flat_header}
use Rattle.c_section.specs.FlatSection.{flat_section_read}
use Rattle.section.proofs.Acceptance.{refusals_in_order, is_read}
use Rattle.section.specs.Section.{conditions, first, section_of, number_of}
use Rattle.section.specs.declared.Section.{Section}
use Rattle.table.proofs.Bits.{byte_in}
use Rattle.table.specs.Bits.{pick, AllBytes}
use Rattle.table.specs.Writing.{Made, made}
use Rattle.theorems_writer.proofs.Theorems.{an_accepted_write_changes_only_its_result}
use Rattle.theorems_requests.specs.Sections.{adjust_answered, AdjustedTo, flat_with}
use Rattle.theorems_requests.proofs.Adjustments.{chained_so}
use Rattle.std.proofs.Common.{Ok, Err, Result}

-- ---- the answer

fits : (b target : List ℕ) (n : ℕ) → length b ≡ n → answer_of (made b) target ≡ pick (ltb (length target) n) (Err 36) (Ok n)
unfolding answer_of
fits b target n e = go (ltb (length target) n) refl
  where
    go : (f : Bool) → ltb (length target) n ≡ f → answer_of (made b) target ≡ pick f (Err 36) (Ok n)
    go true f = rw (e, lt-leb n (length target) (ltb-true (length target) n f))
    go false f = rw (e, le-leb n (length target) (ltb-false (length target) n f))

pub answers : (s target : List ℕ) (a : ℕ) → answer_of (adjusted_section s a) target ≡ adjust_answered s a (length target)
unfolding adjust_answered answer_of
answers s target a = go (eqb (first 1 (conditions s)) 0) refl (ltb a (2 ^ 33)) refl
  where
    go : (z : Bool) → eqb (first 1 (conditions s)) 0 ≡ z → (f : Bool) → ltb a (2 ^ 33) ≡ f → answer_of (adjusted_section s a) target
        ≡ pick z (pick f (pick (ltb (length target) (length s)) (Err 36) (Ok (length s))) (Err 32)) (Err (first 1 (conditions s)))
    go true ez true ef =
        let e : number_of (section_of s) ≡ 0 = refusals_in_order s ∙ eqb-true (first 1 (conditions s)) 0 ez in
        let p = (adjustment_in s + a) % 8589934592 in
        ap (λ (m : Made). answer_of m target) (is_made s a e (ltb-true a (2 ^ 33) ef)) ∙ fits (section_with p s) target (length s) (length_section p s (sizes s e).0)
    go true ez false ef =
        let e : number_of (section_of s) ≡ 0 = refusals_in_order s ∙ eqb-true (first 1 (conditions s)) 0 ez in
        ap (λ (m : Made). answer_of m target) (is_wide s a e (ltb-false a (2 ^ 33) ef))
    go false ez f ef =
        let n = eqb-false (first 1 (conditions s)) 0 ez in
        ap (λ (m : Made). answer_of m target) (is_refused s a (first 1 (conditions s)) (sym (refusals_in_order s)) (omega (arith, n)))

-- ---- what was made of it

-- what is written is what was made
pub made_so : (m : Made) (target later : List ℕ) (n : ℕ) → answer_of m target ≡ Ok n → later ≡ later_of m target → m ≡ made (take n later)
made_so m target later n e l = let c = an_accepted_write_changes_only_its_result m target n e in c.is ∙ ap made (sym (ap (take n) l ∙ c.start))

pub adjusted_to : (s : List ℕ) (a : ℕ) (r : List ℕ) → adjusted_section s a ≡ made r → AdjustedTo s a r
adjusted_to s a r e =
    let m = box.made_is s a r e in
    let x = is_read (section_of s) m.0 in
    let t = box.the_reading_but_for_the_adjustment s x.0 a x.1 m.1 in
    let same : t.0 ≡ r = let f = sym t.1 ∙ e in cc in
    let b = box.no_other_byte_changes s a r e in
    record {
      reading = x.0;
      was = x.1;
      reads = ap section_of (sym same) ∙ t.2;
      size = b.0;
      start = b.1;
      bits = b.2;
      rest = b.3;
    }

-- ---- twice

-- behind a box that made r of s
pub behind : (s r : List ℕ) (a b c : ℕ) → AllBytes s → adjusted_section s a ≡ made r → chain_of a b ≡ Ok c → adjusted_section r b ≡ adjusted_section s c
behind s r a b c bytes e f =
    let k = chained_so a b c f in
    sym (ap (λ (m : Made). and_then m b) e) ∙ box.a_box_behind_a_box_is_one_box s a b (byte_in s bytes) k.0 k.1 ∙ ap (adjusted_section s) k.2

pub back : (s r : List ℕ) (a u : ℕ) → AllBytes s → adjusted_section s a ≡ made r → undo_of a ≡ Ok u → adjusted_section r u ≡ made s
back s r a u bytes e f =
    let m = box.made_is s a r e in
    let x = is_read (section_of s) m.0 in
    sym (ap (λ (y : Made). and_then y u) e) ∙ box.undone_the_section_itself s x.0 a u (byte_in s bytes) x.1 m.1 f

-- ---- over C

-- a refusal has a number
abbrev Some : Result ℕ ℕ → Type 0
Some (Ok n) = Unit {0}
Some (Err n) = n ≡ 0 → ⊥

some_answered : (s : List ℕ) (a room : ℕ) → Some (adjust_answered s a room)
unfolding adjust_answered
some_answered s a room = go (eqb (first 1 (conditions s)) 0) refl (ltb a (2 ^ 33)) (ltb room (length s))
  where
    go : (z : Bool) → eqb (first 1 (conditions s)) 0 ≡ z → (f g : Bool)
        → Some (pick z (pick f (pick g (Err 36) (Ok (length s))) (Err 32)) (Err (first 1 (conditions s))))
    go true e true true = λ z. omega arith
    go true e true false = tt
    go true e false g = λ z. omega arith
    go false e f g = eqb-false (first 1 (conditions s)) 0 e

-- what is not refused over C was written
pub wrote_over_c : (s target : List ℕ) (a : ℕ) → (flat_written (answer_of (adjusted_section s a) target)).refusal ≡ 0
    → answer_of (adjusted_section s a) target ≡ Ok (flat_written (answer_of (adjusted_section s a) target)).«length»
unfolding flat_written
wrote_over_c s target a = go (answer_of (adjusted_section s a) target) (subst Some (sym (answers s target a)) (some_answered s a (length target)))
  where
    go : (w : Result ℕ ℕ) → Some w → (flat_written w).refusal ≡ 0 → w ≡ Ok (flat_written w).«length»
    go (Ok n) h e = refl
    go (Err n) h e = absurd (h e)

-- what the reader refuses has its number
pub refused_number : (s target : List ℕ) (a n : ℕ) → n ≡ number_of (section_of s) → (n ≡ 0 → ⊥) → (flat_written (answer_of (adjusted_section s a) target)).refusal ≡ n
unfolding flat_written answer_of
refused_number s target a n e some = ap (λ (m : Made). (flat_written (answer_of m target)).refusal) (is_refused s a n e (omega (arith, some)))

-- the words of the reading
pub flat_reading : (p : ℕ) (x : Section) → flat_section_read (Ok (reading_with p x)) ≡ flat_with p (flat_section_read (Ok x))
unfolding flat_section_read flat_header
flat_reading p x = refl

pub its_adjustment : (x : Section) (a : ℕ) → flat_with ((x.header.pts_adjustment + a) % 8589934592) (flat_section_read (Ok x))
    ≡ flat_with (((flat_section_read (Ok x)).header.pts_adjustment + a) % 8589934592) (flat_section_read (Ok x))
unfolding flat_section_read flat_header
its_adjustment x a = refl
