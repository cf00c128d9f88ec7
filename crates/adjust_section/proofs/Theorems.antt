-- 02, Q-12: the single box. What it makes of a section, and that a chain of boxes can be replaced by one.
use Prim.Native.Nat.{ℕ, ◌+◌, ◌-◌, ◌%◌, ◌^◌, ◌<◌, ◌≤◌}
use mathlib.Core.Bool.{Bool, true, false}
use mathlib.Core.List.{List}
use mathlib.Core.Path.{◌≡◌, refl, ap, sym, ◌∙◌}
use native.Mathlib.Nat.{add-zero, add_comm, add_assoc, mod-eq_of_lt, mod-lt}
use native.Mathlib.Omega.{arith}
use lib.Dec.{eqb, ltb}
use lib.ListN.{length, get_or}
use borrow.Author.Tests.{eqb-true, eqb-false, ltb-true, not-false}
use Rattle.adjust.specs.Adjust.{undo_of}
use Rattle.adjust.proofs.Laws.{mod_twice, mod_late, undo_is}
use Rattle.crc.specs.Crc.{crc_of}
use Rattle.section.specs.Section.{command_type, command_bytes, loop_bytes, section_of, number_of}
use Rattle.section.specs.declared.Section.{Section}
use Rattle.section.proofs.Acceptance.{is_read, none_holds}
use Rattle.table.specs.Bits.{pick, bits_of, field}
use Rattle.table.specs.Writing.{Made, made, refused}
use Rattle.table.proofs.Lists.{zero_one}
use Rattle.table.proofs.Reading.{field_lt}
use Rattle.adjust_section.specs.Adjusted.{adjustment_in, section_with, adjusted_section}
use Rattle.adjust_section.specs.Readings.{reading_with, and_then}
use Rattle.adjust_section.proofs.Parts.{length_section, front_same, moved_is, byte_kept, first_kept}
use Rattle.adjust_section.proofs.Stored.{is_refused, is_made, sizes}
use Rattle.adjust_section.proofs.Stays.{reads_again, adjustment_is, loop_stays, command_stays}
use Rattle.adjust_section.proofs.Back.{moved_twice, moved_to_its_own}
use Rattle.std.proofs.Common.{Ok}

pub accepted_number : (s : List ℕ) (x : Section) → section_of s ≡ Ok x → number_of (section_of s) ≡ 0
unfolding number_of
accepted_number s x e = ap number_of e

remainder_fits : (n : ℕ) → n % 8589934592 < 2 ^ 33
remainder_fits n = mod-lt n (omega arith)

-- ---- what it makes of a section that is accepted: accepted again; the header the same but for pts_adjustment, which is the remainder of p + a; the command and
-- the loop's bytes (so the items) the same, and the length
pub the_reading_but_for_the_adjustment : (s : List ℕ) (x : Section) (a : ℕ) → section_of s ≡ Ok x → a < 2 ^ 33 → (new : List ℕ)
    × (adjusted_section s a ≡ made new) × (section_of new ≡ Ok (reading_with ((x.header.pts_adjustment + a) % 8589934592) x))
    × (command_type new ≡ command_type s) × (command_bytes new ≡ command_bytes s) × (loop_bytes new ≡ loop_bytes s) × (length new ≡ length s)
the_reading_but_for_the_adjustment s x a is h =
    let e : number_of (section_of s) ≡ 0 = accepted_number s x is in
    let p = (adjustment_in s + a) % 8589934592 in
    let k : p < 2 ^ 33 = remainder_fits (adjustment_in s + a) in
    let o : (x.header.pts_adjustment + a) % 8589934592 ≡ p = ap (λ (n : ℕ). (n + a) % 8589934592) (adjustment_is p s x is k) in
    let c = command_stays p s x is k in (
      section_with p s,
      is_made s a e h,
      rw o (reads_again p s x is k),
      c.0,
      c.1,
      loop_stays p s x is k,
      length_section p s (sizes s e).0,
    )

-- what is made is made of a section that is accepted, by an adjustment of 33 bits
pub made_is : (s : List ℕ) (a : ℕ) (new : List ℕ) → adjusted_section s a ≡ made new
    → (number_of (section_of s) ≡ 0) × (a < 2 ^ 33) × (section_with ((adjustment_in s + a) % 8589934592) s ≡ new)
unfolding adjusted_section
made_is s a new = go (eqb (number_of (section_of s)) 0) refl (ltb a (2 ^ 33)) refl
  where
    go : (z : Bool) → eqb (number_of (section_of s)) 0 ≡ z → (f : Bool) → ltb a (2 ^ 33) ≡ f
        → pick z (pick f (made (section_with ((adjustment_in s + a) % 8589934592) s)) (refused 32)) (refused (number_of (section_of s))) ≡ made new
        → (number_of (section_of s) ≡ 0) × (a < 2 ^ 33) × (section_with ((adjustment_in s + a) % 8589934592) s ≡ new)
    go true ez true ef e = (eqb-true (number_of (section_of s)) 0 ez, ltb-true a (2 ^ 33) ef, cc)
    go true ez false ef e = zero_one cc
    go false ez f ef e = zero_one cc

-- ---- "no other byte changed": the bytes before 4, the first seven bits of byte 4, and all from 9 to the CRC, whatever they hold
pub no_other_byte_changes : (s : List ℕ) (a : ℕ) (new : List ℕ) → adjusted_section s a ≡ made new
    → (length new ≡ length s) × ((k : ℕ) → k < 4 → get_or new k 0 ≡ get_or s k 0) × (field (bits_of new) 32 7 ≡ field (bits_of s) 32 7)
    × ((k : ℕ) → 9 ≤ k → k + 4 < length s → get_or new k 0 ≡ get_or s k 0)
no_other_byte_changes s a new e =
    let m = made_is s a new e in
    let p = (adjustment_in s + a) % 8589934592 in
    let l : 18 ≤ length s = (sizes s m.0).0 in
    rw (← m.2) (length_section p s l, first_kept p s l, front_same s l p (remainder_fits (adjustment_in s + a)) 32 7 (omega arith), later p l)
  where
    later : (p : ℕ) → 18 ≤ length s → (k : ℕ) → 9 ≤ k → k + 4 < length s → get_or (section_with p s) k 0 ≡ get_or s k 0
    later p l k h r =
        let o : k ≡ 9 + (k - 9) = omega arith in
        ap (λ (n : ℕ). get_or (section_with p s) n 0) o ∙ byte_kept p s l (k - 9) (omega arith) ∙ ap (λ (n : ℕ). get_or s n 0) (sym o)

its_adjustment : (p : ℕ) (s : List ℕ) → p < 2 ^ 33 → 18 ≤ length s → adjustment_in (section_with p s) ≡ p
unfolding adjustment_in
its_adjustment p s k l = moved_is s l p k

own_adjustment_fits : (s : List ℕ) → adjustment_in s < 2 ^ 33
unfolding adjustment_in
own_adjustment_fits s = field_lt s 39 33

-- ---- "by a and then b is once by `chain(a, b)`": of any bytes, accepted or not
pub a_box_behind_a_box_is_one_box : (s : List ℕ) (a b : ℕ) → ((k : ℕ) → get_or s k 0 < 256) → a < 2 ^ 33 → b < 2 ^ 33
    → and_then (adjusted_section s a) b ≡ adjusted_section s ((a + b) % 8589934592)
a_box_behind_a_box_is_one_box s a b byte ha hb = go (eqb (number_of (section_of s)) 0) refl
  where
    sum : (t a b : ℕ) → ((t + a) % 8589934592 + b) % 8589934592 ≡ (t + (a + b) % 8589934592) % 8589934592
    sum t a b = mod_twice (t + a) b ∙ ap (λ (n : ℕ). n % 8589934592) (add_assoc t a b) ∙ sym (mod_late t (a + b))

    twice : (x : Section) → section_of s ≡ Ok x → (e : number_of (section_of s) ≡ 0) → and_then (adjusted_section s a) b ≡ adjusted_section s ((a + b) % 8589934592)
    twice x is e =
        let q = (adjustment_in s + a) % 8589934592 in
        let k : q < 2 ^ 33 = remainder_fits (adjustment_in s + a) in
        let l : 18 ≤ length s = (sizes s e).0 in
        let f : number_of (section_of (section_with q s)) ≡ 0 = accepted_number (section_with q s) (reading_with q x) (reads_again q s x is k) in
        ap (λ (m : Made). and_then m b) (is_made s a e ha) ∙ is_made (section_with q s) b f hb
        ∙ ap made (ap (λ (n : ℕ). section_with ((n + b) % 8589934592) (section_with q s)) (its_adjustment q s k l)
        ∙ moved_twice q ((q + b) % 8589934592) s l (byte 4) k ∙ ap (λ (n : ℕ). section_with n s) (sum (adjustment_in s) a b))
        ∙ sym (is_made s ((a + b) % 8589934592) e (remainder_fits (a + b)))

    go : (z : Bool) → eqb (number_of (section_of s)) 0 ≡ z → and_then (adjusted_section s a) b ≡ adjusted_section s ((a + b) % 8589934592)
    go true ez =
        let e : number_of (section_of s) ≡ 0 = eqb-true (number_of (section_of s)) 0 ez in
        let x = is_read (section_of s) e in
        twice x.0 x.1 e
    go false ez =
        let h : 0 < number_of (section_of s) = let o = eqb-false (number_of (section_of s)) 0 ez in omega (arith, o) in
        ap (λ (m : Made). and_then m b) (is_refused s a _ refl h) ∙ sym (is_refused s ((a + b) % 8589934592) _ refl h)

-- in either order
pub the_boxes_in_either_order : (s : List ℕ) (a b : ℕ) → ((k : ℕ) → get_or s k 0 < 256) → a < 2 ^ 33 → b < 2 ^ 33
    → and_then (adjusted_section s b) a ≡ and_then (adjusted_section s a) b
the_boxes_in_either_order s a b byte ha hb =
    a_box_behind_a_box_is_one_box s b a byte hb ha ∙ ap (λ (n : ℕ). adjusted_section s (n % 8589934592)) (add_comm b a) ∙ sym (a_box_behind_a_box_is_one_box s a b byte ha hb)

-- ---- "by 0 .. gives the section back"
pub by_zero_the_section_itself : (s : List ℕ) (x : Section) → ((k : ℕ) → get_or s k 0 < 256) → section_of s ≡ Ok x → adjusted_section s 0 ≡ made s
by_zero_the_section_itself s x byte is =
    let e : number_of (section_of s) ≡ 0 = accepted_number s x is in
    let z : (adjustment_in s + 0) % 8589934592 ≡ adjustment_in s = ap (λ (n : ℕ). n % 8589934592) (add-zero (adjustment_in s)) ∙ mod-eq_of_lt (own_adjustment_fits s) in
    let right : crc_of s ≡ 0 = eqb-true (crc_of s) 0 (not-false (eqb (crc_of s) 0) (none_holds s e).1.1.1.0) in
    is_made s 0 e (omega arith) ∙ ap made (ap (λ (n : ℕ). section_with n s) z ∙ moved_to_its_own s (sizes s e).0 byte right)

-- "and by a and then `undo(a)`"
pub undone_the_section_itself : (s : List ℕ) (x : Section) (a u : ℕ) → ((k : ℕ) → get_or s k 0 < 256) → section_of s ≡ Ok x → a < 2 ^ 33
    → undo_of a ≡ Ok u → and_then (adjusted_section s a) u ≡ made s
undone_the_section_itself s x a u byte is h e =
    let v : u ≡ (8589934592 - a) % 8589934592 = let f = sym e ∙ undo_is a h in cc in
    let k : u < 2 ^ 33 = rw v (remainder_fits (8589934592 - a)) in
    let z : (a + u) % 8589934592 ≡ 0 = omega (arith, v) in
    a_box_behind_a_box_is_one_box s a u byte h k ∙ ap (adjusted_section s) z ∙ by_zero_the_section_itself s x byte is
