-- One attribute at the start of a text.
--     cut_sound      what is cut off is an attribute by the grammar, its text stands there, and nothing or a comma behind it
--     cut_exact      an attribute's text with nothing or a comma behind it is cut off whole
--     cut_within     a cut lies in the text
use Prim.Native.Nat.{ℕ, ◌+◌, ◌≤◌, ◌<◌}
use mathlib.Core.Bool.{Bool, true, false, not, ◌&&◌}
use mathlib.Core.List.{List, [], ◌∷◌, ◌++◌, append_assoc}
use mathlib.Core.Path.{◌≡◌, refl, ap, sym, ◌∙◌}
use native.Mathlib.Nat.{add-zero}
use native.Mathlib.Numerals.{add-one}
use native.Mathlib.Omega.{arith}
use lib.Dec.{ltb, eqb}
use lib.ListN.{length, take, drop, get_or, length-append, length-drop, take-append-drop, get_or-eq_default}
use lib.Seq.{length-take-le, drop-cons, drop-drop, drop_at, drop-append-add, get_or-append_seam, take-append_seam}
use borrow.Author.Tests.{lt-ltb, ltb-true, ltb-false, ne_eqb, eqb-true, eqb-false, not-true}
use Rattle.table.specs.Bits.{pick}
use Rattle.table.proofs.Lists.{and_true, zero_one}
use Rattle.attribute_list.specs.Grammar.{name_byte, quoted_byte, plain_byte, all, Value, quoted, plain, Attribute, valid, text_of}
use Rattle.attribute_list.specs.Cutting.{closed, quoted_of, plain_of, cut_of, value_from, end_of, attribute_in, some_cut}
use Rattle.attribute_list.specs.declared.cutting.Cut.{Cut}
use Rattle.attribute_list.proofs.Runs.{all_first, stops, prefix_len-all}
use Rattle.std.proofs.lemmas.List.Sums.{prefix_len-le-length}
use Rattle.std.specs.List.{prefix_len}
use Rattle.std.specs.Prelude.{Option, Some, None, IfSome}

-- a byte that is not 0 stands in the text
pub peel : (s : List ℕ) (i b : ℕ) → get_or s i 0 ≡ b → 0 < b → drop i s ≡ b ∷ drop (i + 1) s
peel s i b e h = go (ltb i (length s)) refl
  where
    go : (t : Bool) → ltb i (length s) ≡ t → drop i s ≡ b ∷ drop (i + 1) s
    go true l = rw (drop-cons s i 0 (ltb-true i (length s) l), e, add-one i)
    go false l = absurd (omega (arith, get_or-eq_default s 0 (ltb-false i (length s) l)))

pub record Complete (s : List ℕ) (n : ℕ) (q : Bool) (k : ℕ) : Type 0 where
  pub good : valid (attribute_in s n q k) ≡ true
  pub text : text_of (attribute_in s n q k) ++ drop (end_of n q k) s ≡ s
  pub size : length (text_of (attribute_in s n q k)) ≡ end_of n q k
  pub shut : closed (drop (end_of n q k) s) ≡ true
  pub named : length (take n s) ≡ n
  pub valued : length (take k (drop (value_from n q) s)) ≡ k

abbrev pub Sound : List ℕ → Option Cut → Type 0
Sound s None = Unit {0}
Sound s (Some c) = Complete s c.name c.quoted c.value

module _ (s : List ℕ) (n : ℕ) (named : all name_byte (take n s) ≡ true) (fits : n ≤ length s) (some : 0 < n) (is : get_or s n 0 ≡ 0x3D) where
  tail : drop n s ≡ 0x3D ∷ drop (n + 1) s
  tail = peel s n 0x3D is (omega arith)

  name_length : length (take n s) ≡ n
  name_length = length-take-le n s fits

  head_good : ltb 0 (length (take n s)) && all name_byte (take n s) ≡ true
  head_good = rw (name_length, lt-ltb 0 n some, named)

  module _ (k : ℕ) where
    plain_complete : 0 < k → k ≤ length (drop (n + 1) s) → all plain_byte (take k (drop (n + 1) s)) ≡ true → closed (drop k (drop (n + 1) s)) ≡ true → Complete s n false k
    unfolding valid text_of
    plain_complete some_value within p c =
        let v = drop (n + 1) s in
        let l : length (take k v) ≡ k = length-take-le k v within in
        let e : end_of n false k ≡ n + 1 + k = add-zero (n + 1 + k) in
        let r : drop (end_of n false k) s ≡ drop k v = ap (λ (i : ℕ). drop i s) e ∙ sym (drop-drop k (n + 1) s) in
        record {
          good = rw (head_good, l, lt-ltb 0 k some_value, p);
          text = rw (r, append_assoc (take n s) (0x3D ∷ take k v) (drop k v), take-append-drop k v, ← tail) (take-append-drop n s);
          size = length-append (take n s) (0x3D ∷ take k v) ∙ omega (arith, name_length);
          shut = rw r c;
          named = name_length;
          valued = l;
        }

    quoted_complete : k ≤ length (drop (n + 2) s) → all quoted_byte (take k (drop (n + 2) s)) ≡ true → get_or (drop (n + 1) s) 0 0 ≡ 0x22
        → get_or (drop (n + 2) s) k 0 ≡ 0x22 → closed (drop (k + 1) (drop (n + 2) s)) ≡ true → Complete s n true k
    unfolding valid text_of
    quoted_complete within p o q c =
        let w = drop (n + 2) s in
        let b = take k w in
        let l : length b ≡ k = length-take-le k w within in
        let e : n + 2 + (k + 1) ≡ end_of n true k = omega arith in
        let r : drop (end_of n true k) s ≡ drop (k + 1) w = ap (λ (i : ℕ). drop i s) (sym e) ∙ sym (drop-drop (k + 1) (n + 2) s) in
        let x : drop k w ≡ 0x22 ∷ drop (k + 1) w = peel w k 0x22 q (omega arith) in
        let y : n + 1 + 1 ≡ n + 2 = omega arith in
        let z : drop (n + 1) s ≡ 0x22 ∷ w = peel (drop (n + 1) s) 0 0x22 o (omega arith) ∙ ap (λ (t : List ℕ). 0x22 ∷ t) (drop-drop 1 (n + 1) s ∙ ap (λ (i : ℕ). drop i s) y) in
        let t : (take n s ++ (0x3D ∷ (0x22 ∷ (b ++ (0x22 ∷ []))))) ++ drop (k + 1) w ≡ take n s ++ (0x3D ∷ (0x22 ∷ (b ++ (0x22 ∷ drop (k + 1) w)))) = simp append_assoc in
        let m : length (b ++ (0x22 ∷ [])) ≡ k + 1 = length-append b (0x22 ∷ []) ∙ omega arith in
        record {
          good = rw (head_good, p);
          text = rw (r, t, ← x, take-append-drop k w, ← z, ← tail) (take-append-drop n s);
          size = length-append (take n s) (0x3D ∷ (0x22 ∷ (b ++ (0x22 ∷ [])))) ∙ omega (arith, name_length);
          shut = rw r c;
          named = name_length;
          valued = l;
        }

  plain_sound : Sound s (plain_of n (drop (n + 1) s))
  plain_sound = go (drop (n + 1) s) (prefix_len plain_byte (drop (n + 1) s)) refl (prefix_len-le-length plain_byte (drop (n + 1) s)) (all_first plain_byte (drop (n + 1) s)) _ refl
    where
      go : (v : List ℕ) (k : ℕ) → v ≡ drop (n + 1) s → k ≤ length v → all plain_byte (take k v) ≡ true → (t : Bool) → not (eqb k 0) && closed (drop k v) ≡ t
          → Sound s (pick t (some_cut n false k) None)
      go v k d l h false e = tt
      go v k d l h true e =
          let both = and_true (not (eqb k 0)) (closed (drop k v)) e in
          let some_value : 0 < k = omega (arith, eqb-false k 0 (not-true (eqb k 0) both.0)) in
          plain_complete k some_value (rw d at l) (rw d at h) (rw d at both.1)

  quoted_sound : get_or (drop (n + 1) s) 0 0 ≡ 0x22 → Sound s (quoted_of n (drop (n + 2) s))
  quoted_sound o = go (drop (n + 2) s) (prefix_len quoted_byte (drop (n + 2) s)) refl (prefix_len-le-length quoted_byte (drop (n + 2) s)) (all_first quoted_byte (drop (n + 2) s)) _ refl
    where
      go : (w : List ℕ) (k : ℕ) → w ≡ drop (n + 2) s → k ≤ length w → all quoted_byte (take k w) ≡ true → (t : Bool) → eqb (get_or w k 0) 0x22 && closed (drop (k + 1) w) ≡ t
          → Sound s (pick t (some_cut n true k) None)
      go w k d l h false e = tt
      go w k d l h true e =
          let both = and_true (eqb (get_or w k 0) 0x22) (closed (drop (k + 1) w)) e in
          quoted_complete k (rw d at l) (rw d at h) o (rw d at (eqb-true (get_or w k 0) 0x22 both.0)) (rw d at both.1)

  value_sound : (t : Bool) → eqb (get_or (drop (n + 1) s) 0 0) 0x22 ≡ t → Sound s (pick t (quoted_of n (drop 1 (drop (n + 1) s))) (plain_of n (drop (n + 1) s)))
  value_sound false e = plain_sound
  value_sound true e =
      let y : n + 1 + 1 ≡ n + 2 = omega arith in
      let w : drop 1 (drop (n + 1) s) ≡ drop (n + 2) s = drop-drop 1 (n + 1) s ∙ ap (λ (i : ℕ). drop i s) y in
      rw w (quoted_sound (eqb-true (get_or (drop (n + 1) s) 0 0) 0x22 e))

pub cut_sound : (s : List ℕ) → Sound s (cut_of s)
unfolding cut_of
cut_sound s = go (prefix_len name_byte s) (prefix_len-le-length name_byte s) (all_first name_byte s) _ refl
  where
    go : (n : ℕ) → n ≤ length s → all name_byte (take n s) ≡ true → (t : Bool) → not (eqb n 0) && eqb (get_or s n 0) 0x3D ≡ t
        → Sound s (pick t (pick (eqb (get_or (drop (n + 1) s) 0 0) 0x22) (quoted_of n (drop 1 (drop (n + 1) s))) (plain_of n (drop (n + 1) s))) None)
    go n l h false e = tt
    go n l h true e =
        let both = and_true (not (eqb n 0)) (eqb (get_or s n 0) 0x3D) e in
        let some : 0 < n = omega (arith, eqb-false n 0 (not-true (eqb n 0) both.0)) in
        value_sound s n h l some (eqb-true (get_or s n 0) 0x3D both.1) (eqb (get_or (drop (n + 1) s) 0 0) 0x22) refl

pub cut_complete : (s : List ℕ) (n : ℕ) (q : Bool) (k : ℕ) → cut_of s ≡ some_cut n q k → Complete s n q k
cut_complete s n q k e = rw e at (cut_sound s)

pub cut_within : (s : List ℕ) (n : ℕ) (q : Bool) (k : ℕ) → cut_of s ≡ some_cut n q k → end_of n q k ≤ length s
cut_within s n q k e =
    let w = cut_complete s n q k e in
    omega (arith, ap length w.text, length-append (text_of (attribute_in s n q k)) (drop (end_of n q k) s), w.size)

-- ---- an attribute's text is cut off whole

abbrev pub is_quoted : Value → Bool
is_quoted (quoted b) = true
is_quoted (plain b) = false

abbrev pub sized : Value → ℕ
sized (quoted b) = length b
sized (plain b) = length b

closed_stops : (r : List ℕ) → closed r ≡ true → stops plain_byte r ≡ true
unfolding plain_byte
closed_stops [] e = refl
closed_stops (x ∷ r) e = rw (eqb-true x 0x2C e)

-- an unquoted value begins with no quote
no_quote : (b r : List ℕ) → ltb 0 (length b) ≡ true → all plain_byte b ≡ true → eqb (get_or (b ++ r) 0 0) 0x22 ≡ false
unfolding plain_byte
no_quote [] r l h = absurd (omega (arith, ltb-true 0 0 l))
no_quote (x ∷ b) r l h = go (eqb x 0x22) refl (and_true (plain_byte x) (all plain_byte b) h).0
  where
    go : (t : Bool) → eqb x 0x22 ≡ t → plain_byte x ≡ true → eqb x 0x22 ≡ false
    go false e k = e
    go true e k = zero_one (let z : plain_byte 0x22 ≡ true = rw (eqb-true x 0x22 e) at k in cc)

pub record Exact (a : Attribute) (r : List ℕ) : Type 0 where
  pub cut : cut_of (text_of a ++ r) ≡ some_cut (length a.name) (is_quoted a.value) (sized a.value)
  pub is : attribute_in (text_of a ++ r) (length a.name) (is_quoted a.value) (sized a.value) ≡ a
  pub rest : drop (end_of (length a.name) (is_quoted a.value) (sized a.value)) (text_of a ++ r) ≡ r
  pub size : length (text_of a) ≡ end_of (length a.name) (is_quoted a.value) (sized a.value)

module _ (name b r : List ℕ) (some : ltb 0 (length name) ≡ true) (named : all name_byte name ≡ true) (c : closed r ≡ true) where
  none_not : eqb (length name) 0 ≡ false
  none_not = ne_eqb (length name) 0 (λ e. omega (arith, ltb-true 0 (length name) some))

  quoted_exact : all quoted_byte b ≡ true → Exact (record { name = name; value = quoted b }) r
  unfolding text_of cut_of name_byte quoted_byte
  quoted_exact p =
      let u = b ++ (0x22 ∷ r) in
      let s = name ++ (0x3D ∷ (0x22 ∷ u)) in
      let a : Attribute = record { name = name; value = quoted b } in
      let t : text_of a ++ r ≡ s = simp append_assoc in
      let n1 : prefix_len name_byte s ≡ length name = prefix_len-all name_byte name (0x3D ∷ (0x22 ∷ u)) named refl in
      let g1 : get_or s (length name) 0 ≡ 0x3D = get_or-append_seam name 0x3D (0x22 ∷ u) 0 in
      let d1 : drop (length name + 1) s ≡ 0x22 ∷ u = drop-append-add name (0x3D ∷ (0x22 ∷ u)) 1 in
      let d2 : drop (length name + 2) s ≡ u = drop-append-add name (0x3D ∷ (0x22 ∷ u)) 2 in
      let n2 : prefix_len quoted_byte u ≡ length b = prefix_len-all quoted_byte b (0x22 ∷ r) p refl in
      let g2 : get_or u (length b) 0 ≡ 0x22 = get_or-append_seam b 0x22 r 0 in
      let d3 : drop (length b + 1) u ≡ r = drop-append-add b (0x22 ∷ r) 1 in
      let e : length name + 2 + length b + 1 ≡ length name + 2 + (length b + 1) = omega arith in
      record {
        cut = rw (t, n1, g1, d1, n2, none_not, g2, d3, c);
        is = rw (t, d2, take-append_seam name (0x3D ∷ (0x22 ∷ u)), take-append_seam b (0x22 ∷ r));
        rest = rw (t, e) (sym (drop-drop (length b + 1) (length name + 2) s) ∙ rw (d2, d3));
        size = length-append name (0x3D ∷ (0x22 ∷ (b ++ (0x22 ∷ [])))) ∙ omega (arith, length-append b (0x22 ∷ []));
      }

  plain_exact : ltb 0 (length b) ≡ true → all plain_byte b ≡ true → Exact (record { name = name; value = plain b }) r
  unfolding text_of cut_of name_byte
  plain_exact some_value p =
      let u = b ++ r in
      let s = name ++ (0x3D ∷ u) in
      let a : Attribute = record { name = name; value = plain b } in
      let t : text_of a ++ r ≡ s = simp append_assoc in
      let n1 : prefix_len name_byte s ≡ length name = prefix_len-all name_byte name (0x3D ∷ u) named refl in
      let g1 : get_or s (length name) 0 ≡ 0x3D = get_or-append_seam name 0x3D u 0 in
      let d1 : drop (length name + 1) s ≡ u = drop-append-add name (0x3D ∷ u) 1 in
      let n2 : prefix_len plain_byte u ≡ length b = prefix_len-all plain_byte b r p (closed_stops r c) in
      let g2 : eqb (get_or u 0 0) 0x22 ≡ false = no_quote b r some_value p in
      let d3 : drop (length b) u ≡ r = drop_at b r (length b) refl in
      let k0 : eqb (length b) 0 ≡ false = ne_eqb (length b) 0 (λ e. omega (arith, ltb-true 0 (length b) some_value)) in
      let e : length name + 1 + length b + 0 ≡ length name + 1 + length b = omega arith in
      record {
        cut = rw (t, n1, g1, d1, none_not, g2, n2, k0, d3, c);
        is = rw (t, d1, take-append_seam name (0x3D ∷ u), take-append_seam b r);
        rest = rw (t, e) (sym (drop-drop (length b) (length name + 1) s) ∙ rw (d1, d3));
        size = length-append name (0x3D ∷ b) ∙ omega arith;
      }

pub cut_exact : (a : Attribute) (r : List ℕ) → valid a ≡ true → closed r ≡ true → Exact a r
unfolding valid
cut_exact a r = go a.name a.value
  where
    go : (name : List ℕ) (v : Value) → valid (record { name = name; value = v }) ≡ true → closed r ≡ true → Exact (record { name = name; value = v }) r
    go name (quoted b) h c =
        let both = and_true (ltb 0 (length name) && all name_byte name) (all quoted_byte b) h in
        let front = and_true (ltb 0 (length name)) (all name_byte name) both.0 in
        quoted_exact name b r front.0 front.1 c both.1
    go name (plain b) h c =
        let both = and_true (ltb 0 (length name) && all name_byte name) (ltb 0 (length b) && all plain_byte b) h in
        let front = and_true (ltb 0 (length name)) (all name_byte name) both.0 in
        let back = and_true (ltb 0 (length b)) (all plain_byte b) both.1 in
        plain_exact name b r front.0 front.1 c back.0 back.1

-- a cut at a place of a line lies in the line
pub within_line : (line : List ℕ) (at : ℕ) (c : Option Cut) (n : ℕ) (q : Bool) (k : ℕ) → c ≡ cut_of (drop at line) → c ≡ some_cut n q k → at + end_of n q k ≤ length line
within_line line at c n q k e f =
    let w = cut_within (drop at line) n q k (sym e ∙ f) in
    let some : 0 < end_of n q k = some_bytes q in
    omega (arith, length-drop at line)
  where
    some_bytes : (q : Bool) → 0 < end_of n q k
    some_bytes true = omega arith
    some_bytes false = omega arith

pub IfSome-cut_of : (line : List ℕ) (at : ℕ) (o : Option Cut) → o ≡ cut_of (drop at line) → IfSome o (λ c. at + end_of c.name c.quoted c.value ≤ length line)
IfSome-cut_of line at None e = tt
IfSome-cut_of line at (Some c) e = within_line line at (Some c) c.name c.quoted c.value e refl
