-- The order of attributes, and unknown ones between, do not change what a line says.
--     any_order         attributes in another order (of several cues, in their order) say the same
--     lines_in_any_order, lines_with_unknown    the same of lines
--     unknown_passed    an attribute of a name of its own that is none of the five changes nothing, wherever it stands
use Prim.Native.Nat.{ℕ}
use mathlib.Core.Bool.{Bool, true, false, not, ◌&&◌, ◌||◌, and-false}
use mathlib.Core.List.{List, [], ◌∷◌, ◌++◌}
use mathlib.Core.Path.{◌≡◌, refl, ap, sym, ◌∙◌}
use borrow.Author.Tests.{eq-eqb}
use Rattle.table.specs.Bits.{pick}
use Rattle.table.proofs.Lists.{zero_one}
use Rattle.attribute_list.specs.Grammar.{all, Attribute, Line}
use Rattle.attribute_list.specs.Cutting as cutting
use Rattle.attribute_list.specs.Cutting.{attributes_of}
use Rattle.daterange_line.specs.Reading.{id_name, date_name, cue_name, known_of, as_id, as_date, as_signal, is_id, is_date, is_signal, fitting, named, repeats, any, bytes_in, value_of, cue_in, cue_of, fault, fine, judge}
use Rattle.daterange_laws.specs.Order.{said_of, heard_of, Shuffled, same, first, swap, then}
use Rattle.daterange_line.specs.declared.Cue.{Cue}
use Rattle.daterange_line.specs.declared.Cue.TheVariants.{Cmd, Out, In}
use Rattle.daterange_line.specs.declared.Known.{Known}
use Rattle.daterange_line.specs.declared.Known.TheVariants.{Id, Date, Signal, Other}
use Rattle.attribute_list.proofs.Lists.{same_true, line_exact}
use Rattle.daterange_line.proofs.Names.{same_comm}
use Rattle.std.specs.Prelude.{Some}
use Rattle.daterange_line.specs.declared.LineRefusal.TheVariants.{MalformedLine, AttributeMissing}

-- ---- tests of the whole list

or_left : (a b n : Bool) → a || (b || n) ≡ b || (a || n)
or_left true true n = refl
or_left true false n = refl
or_left false b n = refl

and_left : (a b n : Bool) → a && (b && n) ≡ b && (a && n)
and_left true b n = refl
and_left false true n = refl
and_left false false n = refl

any_shuffled : (p : Attribute → Bool) {l m : List Attribute} → Shuffled l m → any p l ≡ any p m
unfolding any
any_shuffled p same = refl
any_shuffled p (first {a = a} s) = ap (λ (t : Bool). p a || t) (any_shuffled p s)
any_shuffled p (swap {a = a} {b = b} {l = l} e) = or_left (p a) (p b) (any p l)
any_shuffled p (then s t) = any_shuffled p s ∙ any_shuffled p t

all_shuffled : (p : Attribute → Bool) {l m : List Attribute} → Shuffled l m → all p l ≡ all p m
all_shuffled p same = refl
all_shuffled p (first {a = a} s) = ap (λ (t : Bool). p a && t) (all_shuffled p s)
all_shuffled p (swap {a = a} {b = b} {l = l} e) = and_left (p a) (p b) (all p l)
all_shuffled p (then s t) = all_shuffled p s ∙ all_shuffled p t

named_shuffled : (x : List ℕ) {l m : List Attribute} → Shuffled l m → named x l ≡ named x m
unfolding named
named_shuffled x same = refl
named_shuffled x (first {a = a} s) = ap (λ (t : Bool). cutting.same a.name x || t) (named_shuffled x s)
named_shuffled x (swap {a = a} {b = b} {l = l} e) = or_left (cutting.same a.name x) (cutting.same b.name x) (named x l)
named_shuffled x (then s t) = named_shuffled x s ∙ named_shuffled x t

repeats_swap : (s x y r : Bool) → (s || x) || (y || r) ≡ (s || y) || (x || r)
repeats_swap true x y r = refl
repeats_swap false true true r = refl
repeats_swap false true false r = refl
repeats_swap false false y r = refl

repeats_shuffled : {l m : List Attribute} → Shuffled l m → repeats l ≡ repeats m
unfolding repeats named
repeats_shuffled same = refl
repeats_shuffled (first {a = a} s) = rw (named_shuffled a.name s, repeats_shuffled s)
repeats_shuffled (swap {a = a} {b = b} {l = l} e) =
    rw (same_comm b.name a.name) (repeats_swap (cutting.same a.name b.name) (named a.name l) (named b.name l) (repeats l))
repeats_shuffled (then s t) = repeats_shuffled s ∙ repeats_shuffled t

-- ---- values

value_swap : (p q : Bool) (x y v : List ℕ) → p && q ≡ false → pick p x (pick q y v) ≡ pick q y (pick p x v)
value_swap true true x y v e = zero_one cc
value_swap true false x y v e = refl
value_swap false q x y v e = refl

signal_shuffled : {l m : List Attribute} → Shuffled l m → value_of is_signal l ≡ value_of is_signal m
unfolding value_of
signal_shuffled same = refl
signal_shuffled (first {a = a} s) = ap (λ (v : List ℕ). pick (is_signal a) (bytes_in a.value) v) (signal_shuffled s)
signal_shuffled (swap {a = a} {b = b} {l = l} e) = value_swap (is_signal a) (is_signal b) (bytes_in a.value) (bytes_in b.value) (value_of is_signal l) e
signal_shuffled (then s t) = signal_shuffled s ∙ signal_shuffled t

cue_swap : (k w : Known) (c : Cue) → as_signal k && as_signal w ≡ false → cue_in k (cue_in w c) ≡ cue_in w (cue_in k c)
cue_swap Id w c e = refl
cue_swap Date w c e = refl
cue_swap (Signal x) Id c e = refl
cue_swap (Signal x) Date c e = refl
cue_swap (Signal x) (Signal y) c e = zero_one cc
cue_swap (Signal x) Other c e = refl
cue_swap Other w c e = refl

cue_shuffled : {l m : List Attribute} → Shuffled l m → cue_of l ≡ cue_of m
unfolding cue_of
cue_shuffled same = refl
cue_shuffled (first {a = a} s) = ap (cue_in (known_of a.name)) (cue_shuffled s)
cue_shuffled (swap {a = a} {b = b} {l = l} e) = cue_swap (known_of a.name) (known_of b.name) (cue_of l) e
cue_shuffled (then s t) = cue_shuffled s ∙ cue_shuffled t

-- ---- one name, one attribute

same_refl : (x : List ℕ) → cutting.same x x ≡ true
unfolding cutting.same
same_refl [] = refl
same_refl (b ∷ x) = rw (eq-eqb b b refl) (same_refl x)

-- two attributes of which the names are equal are no list without repeats
apart : (p : Attribute → Bool) (x : List ℕ) → ((a : Attribute) → p a ≡ true → a.name ≡ x)
    → (a b : Attribute) (l : List Attribute) → repeats (a ∷ (b ∷ l)) ≡ false → p a && p b ≡ false
unfolding repeats named
apart p x h a b l r = go (p a) (p b) refl refl
  where
    go : (t u : Bool) → p a ≡ t → p b ≡ u → t && u ≡ false
    go false u e f = refl
    go true false e f = refl
    go true true e f =
        let n : b.name ≡ a.name = h b f ∙ sym (h a e) in
        let s : cutting.same b.name a.name ≡ true = ap (λ (y : List ℕ). cutting.same y a.name) n ∙ same_refl a.name in
        let z = rw s at r in
        zero_one cc

or_later : (a b : Bool) → a || b ≡ false → b ≡ false
or_later true b e = zero_one cc
or_later false b e = e

once_shuffled : (p : Attribute → Bool) (x : List ℕ) → ((a : Attribute) → p a ≡ true → a.name ≡ x) → {l m : List Attribute} → Shuffled l m → repeats l ≡ false
    → value_of p l ≡ value_of p m
unfolding value_of repeats
once_shuffled p x h same r = refl
once_shuffled p x h (first {a = a} {l = l} s) r =
    ap (λ (v : List ℕ). pick (p a) (bytes_in a.value) v) (once_shuffled p x h s (or_later (named a.name l) (repeats l) r))
once_shuffled p x h (swap {a = a} {b = b} {l = l} e) r =
    value_swap (p a) (p b) (bytes_in a.value) (bytes_in b.value) (value_of p l) (apart p x h a b l r)
once_shuffled p x h (then s t) r = once_shuffled p x h s r ∙ once_shuffled p x h t (sym (repeats_shuffled s) ∙ r)

-- the names behind the tests
module _ (a : Attribute) where
  id_name_lem : is_id a ≡ true → a.name ≡ id_name
  unfolding known_of
  id_name_lem e = go (cutting.same a.name id_name) refl e
    where
      rest : (d c o i : Bool) → as_id (pick d Date (pick c (Signal Cmd) (pick o (Signal Out) (pick i (Signal In) Other)))) ≡ true → ⊥
      rest true c o i f = zero_one cc
      rest false true o i f = zero_one cc
      rest false false true i f = zero_one cc
      rest false false false true f = zero_one cc
      rest false false false false f = zero_one cc

      go : (t : Bool) → cutting.same a.name id_name ≡ t
          → as_id (pick t Id (pick (cutting.same a.name date_name) Date (pick (cutting.same a.name (cue_name Cmd)) (Signal Cmd) (pick (cutting.same a.name (cue_name Out)) (Signal Out) (pick (cutting.same a.name (cue_name In)) (Signal In) Other))))) ≡ true
          → a.name ≡ id_name
      go true s f = same_true a.name id_name s
      go false s f = absurd (rest (cutting.same a.name date_name) (cutting.same a.name (cue_name Cmd)) (cutting.same a.name (cue_name Out)) (cutting.same a.name (cue_name In)) f)

  date_name_lem : is_date a ≡ true → a.name ≡ date_name
  unfolding known_of
  date_name_lem e = go (cutting.same a.name id_name) (cutting.same a.name date_name) refl e
    where
      rest : (c o i : Bool) → as_date (pick c (Signal Cmd) (pick o (Signal Out) (pick i (Signal In) Other))) ≡ true → ⊥
      rest true o i f = zero_one cc
      rest false true i f = zero_one cc
      rest false false true f = zero_one cc
      rest false false false f = zero_one cc

      go : (u t : Bool) → cutting.same a.name date_name ≡ t
          → as_date (pick u Id (pick t Date (pick (cutting.same a.name (cue_name Cmd)) (Signal Cmd) (pick (cutting.same a.name (cue_name Out)) (Signal Out) (pick (cutting.same a.name (cue_name In)) (Signal In) Other))))) ≡ true
          → a.name ≡ date_name
      go true t s f = zero_one cc
      go false true s f = same_true a.name date_name s
      go false false s f = absurd (rest (cutting.same a.name (cue_name Cmd)) (cutting.same a.name (cue_name Out)) (cutting.same a.name (cue_name In)) f)

-- ---- the theorems

said_shuffled : {l m : List Attribute} → Shuffled l m → repeats l ≡ false → said_of l ≡ said_of m
said_shuffled s r =
    let i = once_shuffled is_id id_name id_name_lem s r in
    let d = once_shuffled is_date date_name date_name_lem s r in
    let c = cue_shuffled s in
    let g = signal_shuffled s in
    rw (i, d, c, g)

pub any_order : {l m : List Attribute} → Shuffled l m → heard_of (judge (Some l)) ≡ heard_of (judge (Some m))
unfolding judge heard_of
any_order {l} {m} s =
    rw (← repeats_shuffled s, ← all_shuffled fitting s, ← any_shuffled is_id s, ← any_shuffled is_date s, ← any_shuffled is_signal s)
    (go (repeats l) refl (all fitting l) (not (any is_id l && (any is_date l && any is_signal l))))
  where
    go : (r : Bool) → repeats l ≡ r → (f k : Bool) → heard_of (pick (r || not f) (fault MalformedLine) (pick k (fault AttributeMissing) (fine l))) ≡ heard_of (pick (r || not f) (fault MalformedLine) (pick k (fault AttributeMissing) (fine m)))
    go true e f k = refl
    go false e false k = refl
    go false e true true = refl
    go false e true false = rw (said_shuffled s e)

to_front : (a : Attribute) → is_signal a ≡ false → (l m : List Attribute) → Shuffled (l ++ (a ∷ m)) (a ∷ (l ++ m))
to_front a e [] m = same
to_front a e (b ∷ l) m = let z : is_signal b && is_signal a ≡ false = rw e (and-false (is_signal b)) in then (first (to_front a e l m)) (swap z)

front_passed : (a : Attribute) (l : List Attribute) → known_of a.name ≡ Other → named a.name l ≡ false → heard_of (judge (Some (a ∷ l))) ≡ heard_of (judge (Some l))
unfolding judge heard_of repeats any value_of cue_of
front_passed a l e n = rw (n, e) (go (repeats l || not (all fitting l)) (not (any is_id l && (any is_date l && any is_signal l))))
  where
    go : (f k : Bool) → heard_of (pick f (fault MalformedLine) (pick k (fault AttributeMissing) (fine (a ∷ l)))) ≡ heard_of (pick f (fault MalformedLine) (pick k (fault AttributeMissing) (fine l)))
    go true k = refl
    go false true = refl
    go false false = rw e

pub unknown_passed : (a : Attribute) (l m : List Attribute) → known_of a.name ≡ Other → named a.name (l ++ m) ≡ false
    → heard_of (judge (Some (l ++ (a ∷ m)))) ≡ heard_of (judge (Some (l ++ m)))
unknown_passed a l m e n = any_order (to_front a (ap as_signal e) l m) ∙ front_passed a (l ++ m) e n

-- ---- the same of lines

pub lines_in_any_order : (line other : List ℕ) (l m : List Attribute) → Line l line → Line m other → Shuffled l m
    → heard_of (judge (attributes_of line)) ≡ heard_of (judge (attributes_of other))
lines_in_any_order line other l m h g s = rw (line_exact line l h, line_exact other m g) (any_order s)

pub lines_with_unknown : (line other : List ℕ) (a : Attribute) (l m : List Attribute) → Line (l ++ (a ∷ m)) line → Line (l ++ m) other → known_of a.name ≡ Other
    → named a.name (l ++ m) ≡ false → heard_of (judge (attributes_of line)) ≡ heard_of (judge (attributes_of other))
lines_with_unknown line other a l m h g e n = rw (line_exact line (l ++ (a ∷ m)) h, line_exact other (l ++ m) g) (unknown_passed a l m e n)
