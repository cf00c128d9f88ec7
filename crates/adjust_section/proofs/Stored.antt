-- What the functions rest on: four stores as one; and the answer, case by case.
use Prim.Native.Nat.{ℕ, ◌+◌, ◌*◌, ◌-◌, ◌/◌, ◌%◌, ◌^◌, ◌<◌, ◌≤◌}
use mathlib.Core.List.{List, ◌++◌, append_assoc}
use mathlib.Core.Path.{◌≡◌, refl, ap, sym, ◌∙◌}
use native.Mathlib.Nat.{div-one}
use native.Mathlib.Omega.{arith}
use lib.ListN.{length, get_or, take, drop, length-append}
use lib.Seq.{take_at, length-take-le}
use borrow.Author.Tests.{lt-ltb, le-ltb, ltb-false, eq-eqb, ne_eqb}
use Rattle.crc.specs.Crc.{crc_of, crc_bytes_of}
use Rattle.bit_stores.specs.Written.{answer_of, later_of}
use Rattle.bit_stores.proofs.Writes.{wrote_answer}
use Rattle.section.specs.Section.{section_of, number_of}
use Rattle.section.proofs.Acceptance.{none_holds}
use Rattle.table.specs.Bits.{bits_of, field, big_endian}
use Rattle.table.specs.Lent.{stored}
use Rattle.table.specs.Writing.{made, refused}
use Rattle.table.proofs.Stores.{stored_fits, stored_append}
use Rattle.adjust_section.specs.Adjusted.{adjustment_in, with_adjustment, body_with, section_with, adjusted_section}
use Rattle.adjust_section.proofs.Parts.{behind, length_behind, length_body, length_section}
use Rattle.std.proofs.Common.{Ok}

-- ---- stores one after the other
three_stores : (t a b c : List ℕ) → length a ≡ 4 → length b ≡ 5 → 9 + length c ≤ length t → stored (stored (stored t 0 a) 4 b) 9 c ≡ stored t 0 (a ++ (b ++ c))
three_stores t a b c la lb n =
    let e : stored (stored t 0 a) 4 b ≡ stored t 0 (a ++ b) =
    ap (λ (i : ℕ). stored (stored t 0 a) i b) (let z : 4 ≡ 0 + length a = omega arith in z) ∙ stored_append t 0 a b (omega arith) in
    let l : length (a ++ b) ≡ 9 = length-append a b ∙ omega arith in
    ap (λ (u : List ℕ). stored u 9 c) e ∙ ap (λ (i : ℕ). stored (stored t 0 (a ++ b)) i c) (let z : 9 ≡ 0 + length (a ++ b) = omega arith in z)
    ∙ stored_append t 0 (a ++ b) c (omega arith) ∙ ap (stored t 0) (append_assoc a b c)

crc_number : (c : ℕ) (m : List ℕ) → c ≡ crc_of m → big_endian 4 c ≡ crc_bytes_of m
crc_number c m e = rw (e, div-one (crc_of m))

pub section_stored : (t u v w z s : List ℕ) (b p c : ℕ) → b ≡ get_or s 4 0 → u ≡ stored t 0 (take 4 s) → v ≡ stored u 4 (big_endian 5 (b / 2 * 8589934592 + p))
    → w ≡ stored v 9 (take (length s - 4 - 9) (drop 9 s)) → c ≡ crc_of (take (length s - 4 - 0) (drop 0 w)) → z ≡ stored w (length s - 4) (big_endian 4 c)
    → 18 ≤ length s → length s ≤ length t → z ≡ stored t 0 (section_with p s)
unfolding body_with section_with
section_stored t u v w z s b p c eb eu ev ew ec ez long room =
    let m = with_adjustment (get_or s 4 0) p in
    let body = body_with p s in
    let o : length s - 4 - 9 ≡ length s - 13 = omega arith in
    let l : length body ≡ length s - 4 = length_body p s long in
    let e : w ≡ stored t 0 body =
    ew ∙ rw (o, ev, eu, eb) (three_stores t (take 4 s) m (behind s) (length-take-le 4 s (omega arith)) refl (omega (arith, length_behind s long))) in
    let k : length s - 4 - 0 ≡ length s - 4 = omega arith in
    let f : take (length s - 4 - 0) (drop 0 w) ≡ body =
    rw (k, e, stored_fits t 0 body (omega arith)) (take_at body (drop (0 + length body) t) (length s - 4) l) in
    let g : big_endian 4 c ≡ crc_bytes_of body = crc_number c _ (ec ∙ ap crc_of f) in
    let h : length s - 4 ≡ 0 + length body = omega arith in
    ez ∙ rw (e, h, g) (stored_append t 0 body (crc_bytes_of body) (omega arith))

-- ---- the answer
module _ (s : List ℕ) (a : ℕ) where
  pub is_refused : (n : ℕ) → n ≡ number_of (section_of s) → 0 < n → adjusted_section s a ≡ refused n
  unfolding adjusted_section
  is_refused n e h = rw (← e, ne_eqb n 0 (λ z. omega (arith, z, h)))

  pub is_wide : number_of (section_of s) ≡ 0 → 2 ^ 33 ≤ a → adjusted_section s a ≡ refused 32
  unfolding adjusted_section
  is_wide e h = rw (eq-eqb (number_of (section_of s)) 0 e, le-ltb a (2 ^ 33) h)

  pub is_made : number_of (section_of s) ≡ 0 → a < 2 ^ 33 → adjusted_section s a ≡ made (section_with ((adjustment_in s + a) % 8589934592) s)
  unfolding adjusted_section
  is_made e h = rw (eq-eqb (number_of (section_of s)) 0 e, lt-ltb a (2 ^ 33) h)

-- what is accepted has a header and fits a section
pub sizes : (s : List ℕ) → number_of (section_of s) ≡ 0 → (18 ≤ length s) × (length s ≤ 4096)
sizes s e =
    let t = none_holds s e in
    (ltb-false (length s) 18 t.1.1.1.1.0, ltb-false 4096 (length s) t.1.0)

pub wrote_section : (s t u : List ℕ) (a v : ℕ) → number_of (section_of s) ≡ 0 → a < 2 ^ 33 → length s ≤ length t → v ≡ field (bits_of s) 39 33
    → u ≡ stored t 0 (section_with ((v + a) % 8589934592) s)
    → (Ok (length s) ≡ answer_of (adjusted_section s a) t) × (u ≡ later_of (adjusted_section s a) t)
unfolding adjustment_in
wrote_section s t u a v e h room ev eu =
    let b = section_with ((adjustment_in s + a) % 8589934592) s in
    let l : length b ≡ length s = length_section ((adjustment_in s + a) % 8589934592) s (sizes s e).0 in
    let w = wrote_answer (adjusted_section s a) t b (is_made s a e h) (omega arith) in
    (ap Ok (sym l) ∙ w.0, eu ∙ rw ev w.1)
