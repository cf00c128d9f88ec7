-- The values of a line's attributes, where they stand in the line, and what a fine line has.
--     view_value      a view found in a line is of the value found in its list
--     judged_fine     what is so of the attributes of a line that is not refused
--     signal_hex      the first cue of a line that is not refused is hexadecimal
use Prim.Native.Nat.{ℕ, ◌+◌, ◌-◌, ◌%◌, ◌≤◌, ◌<◌}
use mathlib.Core.Bool.{Bool, true, false, not, ◌&&◌, ◌||◌}
use mathlib.Core.List.{List, [], ◌∷◌, ◌++◌, append_assoc}
use mathlib.Core.Path.{◌≡◌, refl, ap, sym, ◌∙◌}
use native.Mathlib.Omega.{arith}
use lib.Dec.{ltb, eqb}
use lib.ListN.{length, take, drop, get_or, length-append, length-drop}
use lib.Seq.{drop-drop, drop-append-add, drop-append-le, take_at}
use borrow.Author.Tests.{eqb-true, ltb-true, le-leb}
use Rattle.table.specs.Bits.{pick}
use Rattle.table.specs.Lent.{viewed}
use Rattle.table.specs.declared.View.{View}
use Rattle.table.proofs.Lists.{and_true, zero_one}
use Rattle.attribute_list.specs.Grammar.{all, name_byte, plain_byte, hex_byte, Attribute, Value, quoted, plain, valid, value_text, text_of, later_text, list_text}
use Rattle.daterange_line.specs.Reading.{known_of, is_id, is_date, is_signal, as_signal, hexadecimal, fits_for, fitting, repeats, any, bytes_in, before, view_at, view_of, value_of, fault, fine, judge}
use Rattle.daterange_line.specs.declared.Known.{Known}
use Rattle.daterange_line.specs.declared.Known.TheVariants.{Id, Date, Signal, Other}
use Rattle.attribute_list.proofs.Lists.{later_list}
use Rattle.daterange_line.proofs.Walks.{next}
use Rattle.std.specs.Prelude.{Option, Some, None}
use Rattle.daterange_line.specs.declared.LineRefusal.TheVariants.{MalformedLine, AttributeMissing}

-- these bytes stand where a view says
pub record Stands (line : List ℕ) (v : View) (b : List ℕ) : Type 0 where
  pub len : v.len ≡ length b
  pub rest : List ℕ
  pub text : drop v.at line ≡ b ++ rest
  pub some : 0 < length (b ++ rest)

pub stands_inside : (line : List ℕ) (v : View) (b : List ℕ) → Stands line v b → v.at + v.len ≤ length line
stands_inside line v b s = omega (arith, s.len, s.some, ap length s.text, length-append b s.rest, length-drop v.at line)

pub stands_viewed : (line : List ℕ) (v : View) (b : List ℕ) → Stands line v b → viewed line v ≡ b
unfolding viewed
stands_viewed line v b s = rw (le-leb (v.at + v.len) (length line) (stands_inside line v b s), s.text) (take_at b s.rest v.len (sym s.len))

-- the text behind a value
abbrev behind : Value → List ℕ → List ℕ
behind (quoted b) r = 0x22 ∷ r
behind (plain b) r = r

value_text_lem : (name : List ℕ) (v : Value) (r : List ℕ) → drop (length name + before v) ((name ++ (0x3D ∷ value_text v)) ++ r) ≡ bytes_in v ++ behind v r
value_text_lem name (quoted b) r =
    let e : (name ++ (0x3D ∷ (0x22 ∷ (b ++ (0x22 ∷ []))))) ++ r ≡ name ++ (0x3D ∷ (0x22 ∷ (b ++ (0x22 ∷ r)))) = simp append_assoc in
    rw e (drop-append-add name (0x3D ∷ (0x22 ∷ (b ++ (0x22 ∷ r)))) 2)
value_text_lem name (plain b) r =
    let e : (name ++ (0x3D ∷ b)) ++ r ≡ name ++ (0x3D ∷ (b ++ r)) = simp append_assoc in
    rw e (drop-append-add name (0x3D ∷ (b ++ r)) 1)

value_some : (name : List ℕ) (v : Value) (r : List ℕ) → valid (record { name = name; value = v }) ≡ true → 0 < length (bytes_in v ++ behind v r)
unfolding valid
value_some name (quoted b) r h = omega (arith, length-append b (0x22 ∷ r))
value_some name (plain b) r h =
    let back = (and_true (ltb 0 (length name) && all name_byte name) (ltb 0 (length b) && all plain_byte b) h).1 in
    omega (arith, length-append b r, ltb-true 0 (length b) (and_true (ltb 0 (length b)) (all plain_byte b) back).0)

one_stands : (line : List ℕ) (at : ℕ) (a : Attribute) (r : List ℕ) → valid a ≡ true → drop at line ≡ text_of a ++ r → Stands line (view_at at a) (bytes_in a.value)
unfolding text_of
one_stands line at a r h e =
    record {
      len = refl;
      rest = behind a.value r;
      text = sym (drop-drop (length a.name + before a.value) at line) ∙ ap (drop (length a.name + before a.value)) e ∙ value_text_lem a.name a.value r;
      some = value_some a.name a.value r h;
    }

some_any : (p : Attribute → Bool) (l : List Attribute) → any p l ≡ true → 0 < length l
unfolding any
some_any p [] e = zero_one cc
some_any p (a ∷ l) e = omega arith

pub view_value : (p : Attribute → Bool) (line : List ℕ) (l : List Attribute) (at : ℕ) → all valid l ≡ true → drop at line ≡ list_text l → any p l ≡ true
    → Stands line (view_of p at l) (value_of p l)
unfolding any view_of value_of list_text
view_value p line [] at h e s = zero_one cc
view_value p line (a ∷ l) at h e s =
    let both = and_true (valid a) (all valid l) h in
    go (p a) s (one_stands line at a (later_text l) both.0 e) (λ k. view_value p line l (next at a) both.1 (later k) k)
  where
    later : any p l ≡ true → drop (next at a) line ≡ list_text l
    later k =
        let c : later_text l ≡ 0x2C ∷ list_text l = later_list l (some_any p l k) in
        sym (drop-drop (length (text_of a) + 1) at line) ∙ ap (drop (length (text_of a) + 1)) e ∙ rw c (drop-append-add (text_of a) (0x2C ∷ list_text l) 1)

    go : (t : Bool) → t || any p l ≡ true → Stands line (view_at at a) (bytes_in a.value) → (any p l ≡ true → Stands line (view_of p (next at a) l) (value_of p l))
        → Stands line (pick t (view_at at a) (view_of p (next at a) l)) (pick t (bytes_in a.value) (value_of p l))
    go true k x y = x
    go false k x y = y k

-- ---- a line that is not refused

pub record Fine (o : Option (List Attribute)) (l : List Attribute) : Type 0 where
  pub is : o ≡ Some l
  pub once : repeats l ≡ false
  pub fits : all fitting l ≡ true
  pub id : any is_id l ≡ true
  pub date : any is_date l ≡ true
  pub cue : any is_signal l ≡ true

pub judged_fine : (o : Option (List Attribute)) (l : List Attribute) → judge o ≡ fine l → Fine o l
unfolding judge
judged_fine None l e = zero_one cc
judged_fine (Some m) l e = go (repeats m) (all fitting m) (any is_id m) (any is_date m) (any is_signal m) refl refl refl refl refl e
  where
    go : (r f i d s : Bool) → repeats m ≡ r → all fitting m ≡ f → any is_id m ≡ i → any is_date m ≡ d → any is_signal m ≡ s
        → pick (r || not f) (fault MalformedLine) (pick (not (i && (d && s))) (fault AttributeMissing) (fine m)) ≡ fine l → Fine (Some m) l
    go true f i d s hr hf hi hd hs x = zero_one cc
    go false false i d s hr hf hi hd hs x = zero_one cc
    go false true false d s hr hf hi hd hs x = zero_one cc
    go false true true false s hr hf hi hd hs x = zero_one cc
    go false true true true false hr hf hi hd hs x = zero_one cc
    go false true true true true hr hf hi hd hs x = let g : m ≡ l = cc in rw (← g) (record { is = refl; once = hr; fits = hf; id = hi; date = hd; cue = hs })

signal_one : (w : Known) (v : Value) → fits_for w v ≡ true → as_signal w ≡ true → hexadecimal (bytes_in v) ≡ true
signal_one Id v h e = zero_one cc
signal_one Date v h e = zero_one cc
signal_one (Signal c) (quoted b) h e = zero_one cc
signal_one (Signal c) (plain b) h e = h
signal_one Other v h e = zero_one cc

pub signal_hex : (l : List Attribute) → all fitting l ≡ true → any is_signal l ≡ true → hexadecimal (value_of is_signal l) ≡ true
unfolding any value_of
signal_hex [] h e = zero_one cc
signal_hex (a ∷ l) h e = let both = and_true (fitting a) (all fitting l) h in go (is_signal a) refl e both.0 (λ k. signal_hex l both.1 k)
  where
    go : (t : Bool) → is_signal a ≡ t → t || any is_signal l ≡ true → fitting a ≡ true → (any is_signal l ≡ true → hexadecimal (value_of is_signal l) ≡ true)
        → hexadecimal (pick t (bytes_in a.value) (value_of is_signal l)) ≡ true
    go true x k y z = signal_one (known_of a.name) a.value y x
    go false x k y z = z k

-- ---- its digits

pub record Digits (b : List ℕ) : Type 0 where
  pub some : 2 < length b
  pub even : length b % 2 ≡ 0
  pub hex : all hex_byte (drop 2 b) ≡ true

pub digits_of : (b : List ℕ) → hexadecimal b ≡ true → Digits b
unfolding hexadecimal
digits_of b h =
    let head = eqb (get_or b 0 0) 0x30 && (eqb (get_or b 1 0) 0x78 || eqb (get_or b 1 0) 0x58) in
    let back = (and_true head ((ltb 2 (length b) && eqb (length b % 2) 0) && all hex_byte (drop 2 b)) h).1 in
    let front = and_true (ltb 2 (length b) && eqb (length b % 2) 0) (all hex_byte (drop 2 b)) back in
    let two = and_true (ltb 2 (length b)) (eqb (length b % 2) 0) front.0 in
    record { some = ltb-true 2 (length b) two.0; even = eqb-true (length b % 2) 0 two.1; hex = front.1 }

-- the bytes behind 0x, as a part of the line
pub digits_part : (line : List ℕ) (v : View) (b : List ℕ) → Stands line v b → 2 < length b → take (v.at + v.len - (v.at + 2)) (drop (v.at + 2) line) ≡ drop 2 b
digits_part line v b s h =
    let d : drop (v.at + 2) line ≡ drop 2 b ++ s.rest = sym (drop-drop 2 v.at line) ∙ ap (drop 2) s.text ∙ drop-append-le 2 b s.rest (omega arith) in
    rw d (take_at (drop 2 b) s.rest (v.at + v.len - (v.at + 2)) (length-drop 2 b ∙ omega (arith, s.len)))
