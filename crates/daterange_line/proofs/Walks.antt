-- The walk over a line's attributes says what its list of attributes says (`walk_is`).
use Prim.Native.Nat.{ℕ, zero, suc, ◌+◌, ◌≤◌, ◌<◌}
use mathlib.Core.Bool.{Bool, true, false, not, ◌&&◌, ◌||◌, or-true}
use mathlib.Core.List.{List, [], ◌∷◌, ◌++◌, append_assoc}
use mathlib.Core.Path.{◌≡◌, refl, ap, sym, ◌∙◌}
use native.Mathlib.Omega.{arith}
use lib.Dec.{eqb}
use lib.ListN.{length, take, drop, length-append, length-drop}
use lib.Seq.{drop-drop}
use borrow.Author.Tests.{ne_eqb}
use Rattle.table.specs.Bits.{pick}
use Rattle.table.specs.Lent.{no_view}
use Rattle.table.specs.declared.View.{View}
use Rattle.table.proofs.Lists.{and_true}
use Rattle.attribute_list.specs.Grammar.{all, Attribute, valid, text_of}
use Rattle.attribute_list.specs.Cutting.{cut_of, value_from, end_of, attribute_in, consed, attributes_by, attributes_from}
use Rattle.daterange_line.specs.Reading.{known_of, fitting, named, is_id, is_date, is_signal, view_at, view_of, cue_in, cue_of}
use Rattle.daterange_line.specs.Private.{earlier, or_else, noted, nothing, turn_by, turn_of, ended, walk_by, walk, found_in}
use Rattle.daterange_line.specs.declared.Cue.{Cue}
use Rattle.attribute_list.specs.declared.cutting.Cut.{Cut}
use Rattle.daterange_line.specs.declared.Known.{Known}
use Rattle.daterange_line.specs.declared.Known.TheVariants.{Id, Date, Signal, Other}
use Rattle.daterange_line.specs.declared.looking.Found.{Found}
use Rattle.attribute_list.proofs.Completes.{Complete, Sound, cut_sound}
use Rattle.attribute_list.proofs.Lists.{comma}
use Rattle.daterange_line.proofs.Names.{followed, followed_length, followed_more, Before, earlier_is, repeats_after}
use Rattle.std.specs.Prelude.{Option, Some, None, Result, Ok, Err}
use Rattle.daterange_line.specs.declared.LineRefusal.{LineRefusal}
use Rattle.daterange_line.specs.declared.LineRefusal.TheVariants.{MalformedLine}
use Rattle.daterange_line.specs.declared.looking.Turn.TheVariants.{Done, More}

-- ---- what is found, attribute by attribute, and all at once

abbrev pub next : ℕ → Attribute → ℕ
next at a = at + (length (text_of a) + 1)

unfoldable pub gathered : Found → ℕ → List Attribute → Found
gathered f at [] = f
gathered f at (a ∷ l) = gathered (noted f (known_of a.name) (view_at at a)) (next at a) l

-- the first view that passes, else this one
unfoldable view_or : View → (Attribute → Bool) → ℕ → List Attribute → View
view_or v p at [] = v
view_or v p at (a ∷ l) = pick (p a) (view_at at a) (view_or v p (next at a) l)

unfoldable cue_or : Cue → List Attribute → Cue
cue_or c [] = c
cue_or c (a ∷ l) = cue_in (known_of a.name) (cue_or c l)

view_or_none : (p : Attribute → Bool) (at : ℕ) (l : List Attribute) → view_or no_view p at l ≡ view_of p at l
unfolding view_or view_of
view_or_none p at [] = refl
view_or_none p at (a ∷ l) = rw (view_or_none p (next at a) l)

cue_or_cmd : (l : List Attribute) → cue_or nothing.cue l ≡ cue_of l
unfolding cue_or cue_of
cue_or_cmd [] = refl
cue_or_cmd (a ∷ l) = rw (cue_or_cmd l)

-- a view that is there stays
abbrev kept : View → View → View
kept v w = pick (eqb v.at 0) w v

abbrev merged : Found → ℕ → List Attribute → Found
merged f at l =
    record {
      id = kept f.id (view_or f.id is_id at l);
      date = kept f.date (view_or f.date is_date at l);
      cue = pick (eqb f.digits.at 0) (cue_or f.cue l) f.cue;
      digits = kept f.digits (view_or f.digits is_signal at l);
    }

same_either : {A : Type 0} (t : Bool) (x : A) → pick t x x ≡ x
same_either true x = refl
same_either false x = refl

-- a view that was noted is kept
noted_kept : (v x w : View) → (x.at ≡ 0 → ⊥) → kept (or_else v x) w ≡ kept v x
noted_kept v x w h = go (eqb v.at 0) refl
  where
    go : (t : Bool) → eqb v.at 0 ≡ t → kept (pick t x v) w ≡ pick t x v
    go true e = rw (ne_eqb x.at 0 h)
    go false e = rw e

noted_cue : (v x : View) (c d : Cue) (l : List Attribute) → (x.at ≡ 0 → ⊥)
    → pick (eqb (or_else v x).at 0) (cue_or (pick (eqb v.at 0) c d) l) (pick (eqb v.at 0) c d) ≡ pick (eqb v.at 0) c d
noted_cue v x c d l h = go (eqb v.at 0) refl
  where
    go : (t : Bool) → eqb v.at 0 ≡ t → pick (eqb (pick t x v).at 0) (cue_or (pick t c d) l) (pick t c d) ≡ pick t c d
    go true e = rw (ne_eqb x.at 0 h)
    go false e = rw e

merged_none : (f : Found) (at : ℕ) → f ≡ merged f at []
unfolding view_or cue_or
merged_none f at = rw (same_either (eqb f.id.at 0) f.id, same_either (eqb f.date.at 0) f.date, same_either (eqb f.digits.at 0) f.cue, same_either (eqb f.digits.at 0) f.digits)

-- one attribute more
merged_more : (f : Found) (at : ℕ) (a : Attribute) (l : List Attribute) → 0 < at → (w : Known) → known_of a.name ≡ w
    → merged (noted f w (view_at at a)) (next at a) l ≡ merged f at (a ∷ l)
unfolding view_or cue_or
merged_more f at a l h Id e = rw (e, noted_kept f.id (view_at at a) (view_or (or_else f.id (view_at at a)) is_id (next at a) l) (λ z. omega arith))
merged_more f at a l h Date e = rw (e, noted_kept f.date (view_at at a) (view_or (or_else f.date (view_at at a)) is_date (next at a) l) (λ z. omega arith))
merged_more f at a l h (Signal c) e =
    rw (e, noted_kept f.digits (view_at at a) (view_or (or_else f.digits (view_at at a)) is_signal (next at a) l) (λ z. omega arith), noted_cue f.digits (view_at at a) c f.cue l (λ z. omega arith))
merged_more f at a l h Other e = rw e

gathered_is : (l : List Attribute) (f : Found) (at : ℕ) → 0 < at → gathered f at l ≡ merged f at l
unfolding gathered
gathered_is [] f at h = merged_none f at
gathered_is (a ∷ l) f at h = gathered_is l (noted f (known_of a.name) (view_at at a)) (next at a) (omega arith) ∙ merged_more f at a l h (known_of a.name) refl

pub gathered_all : (l : List Attribute) → gathered nothing 17 l ≡ found_in l
gathered_all l = gathered_is l nothing 17 (omega arith) ∙ rw (view_or_none is_id 17 l, view_or_none is_date 17 l, view_or_none is_signal 17 l, cue_or_cmd l)

-- ---- the walk

abbrev pub outcome : List Attribute → Found → ℕ → Option (List Attribute) → Result Found LineRefusal
outcome seen f at None = Err MalformedLine
outcome seen f at (Some l) = pick (repeats_after seen l || not (all fitting l)) (Err MalformedLine) (ended (gathered f at l))

-- one attribute's tests, and those of all after it
one_last : (e t : Bool) (m : ℕ → Found → Result Found LineRefusal) (g : Found)
    → walk_by m (pick (e || not t) (Err MalformedLine) (Ok (Done g))) ≡ pick ((e || false) || not (t && true)) (Err MalformedLine) (ended g)
one_last true t m g = refl
one_last false true m g = refl
one_last false false m g = refl

one_more : (e t : Bool) (m : ℕ → Found → Result Found LineRefusal) (g : Found) (at : ℕ) (r u : Bool) (h : Result Found LineRefusal) → m at g ≡ pick (r || not u) (Err MalformedLine) h
    → walk_by m (pick (e || not t) (Err MalformedLine) (Ok (More g at))) ≡ pick ((e || r) || not (t && u)) (Err MalformedLine) h
one_more true t m g at r u h x = refl
one_more false true m g at r u h x = x
one_more false false m g at r u h x = rw (or-true r)

one_none : (e t : Bool) (m : ℕ → Found → Result Found LineRefusal) (g : Found) (at : ℕ) → m at g ≡ Err MalformedLine → walk_by m (pick (e || not t) (Err MalformedLine) (Ok (More g at))) ≡ Err MalformedLine
one_none true t m g at x = refl
one_none false true m g at x = x
one_none false false m g at x = refl

one_listed : (m : ℕ → Found → Result Found LineRefusal) (seen : List Attribute) (a : Attribute) (f : Found) (at p : ℕ) → p ≡ next at a → (o : Option (List Attribute))
    → m p (noted f (known_of a.name) (view_at at a)) ≡ outcome (seen ++ (a ∷ [])) (noted f (known_of a.name) (view_at at a)) p o
    → walk_by m (pick (named a.name seen || not (fitting a)) (Err MalformedLine) (Ok (More (noted f (known_of a.name) (view_at at a)) p))) ≡ outcome seen f at (consed a o)
unfolding repeats_after gathered
one_listed m seen a f at p e None x = one_none (named a.name seen) (fitting a) m (noted f (known_of a.name) (view_at at a)) p x
one_listed m seen a f at p e (Some l) x =
    let g = noted f (known_of a.name) (view_at at a) in
    one_more (named a.name seen) (fitting a) m g p (repeats_after (seen ++ (a ∷ [])) l) (all fitting l) (ended (gathered g p l)) x
    ∙ ap (λ (i : ℕ). pick (repeats_after seen (a ∷ l) || not (all fitting (a ∷ l))) (Err MalformedLine) (ended (gathered g i l))) e

value_view : (at n : ℕ) (q : Bool) (k : ℕ) (s : List ℕ) → Complete s n q k → ◌≡◌ {A = View} (record { at = at + value_from n q; len = k }) (view_at at (attribute_in s n q k))
value_view at n true k s w = rw (w.named, w.valued)
value_view at n false k s w = rw (w.named, w.valued)

all_more : {A : Type 0} (p : A → Bool) (l : List A) (a : A) → all p l ≡ true → p a ≡ true → all p (l ++ (a ∷ [])) ≡ true
all_more p [] a h e = rw e
all_more p (b ∷ l) a h e = let both = and_true (p b) (all p l) h in rw (both.0, all_more p l a both.1 e)

-- an attribute more stands before the next one
before_more : (line : List ℕ) (at : ℕ) (seen : List Attribute) (n : ℕ) (q : Bool) (k : ℕ) → Complete (drop at line) n q k → Before line 17 at seen
    → eqb (length (drop (end_of n q k) (drop at line))) 0 ≡ false → Before line 17 (at + (end_of n q k + 1)) (seen ++ (attribute_in (drop at line) n q k ∷ []))
before_more line at seen n q k w b z =
    let s = drop at line in
    let a = attribute_in s n q k in
    let d : drop (end_of n q k + 1) s ≡ drop (at + (end_of n q k + 1)) line = drop-drop (end_of n q k + 1) at line in
    let t : drop (end_of n q k) s ≡ 0x2C ∷ drop (at + (end_of n q k + 1)) line = comma (drop (end_of n q k) s) w.shut z ∙ ap (λ (x : List ℕ). 0x2C ∷ x) (drop-drop 1 (end_of n q k) s ∙ d) in
    let u : text_of a ++ (0x2C ∷ drop (at + (end_of n q k + 1)) line) ≡ s = ap (λ (x : List ℕ). text_of a ++ x) (sym t) ∙ w.text in
    let v : followed (seen ++ (a ∷ [])) ++ drop (at + (end_of n q k + 1)) line ≡ followed seen ++ (text_of a ++ (0x2C ∷ drop (at + (end_of n q k + 1)) line)) =
    rw (followed_more seen a) (simp append_assoc) in
    record {
      each = all_more valid seen a b.each w.good;
      text = b.text ∙ sym (v ∙ ap (λ (x : List ℕ). followed seen ++ x) u);
      place =
          omega (
            arith,
            b.place,
            ap length (followed_more seen a),
            length-append (followed seen) (text_of a ++ (0x2C ∷ [])),
            length-append (text_of a) (0x2C ∷ []),
            w.size,
          );
    }

module _ (line : List ℕ) where
  walk_cut : (m at : ℕ) (seen : List Attribute) (f : Found) (c : Option Cut) → Sound (drop at line) c → Before line 17 at seen
      → ((p : ℕ) (more : List Attribute) (g : Found) → Before line 17 p more → walk m line p g ≡ outcome more g p (attributes_from m (drop p line)))
      → walk_by (walk m line) (turn_by line at f c) ≡ outcome seen f at (attributes_by (attributes_from m) (drop at line) c)
  unfolding repeats_after gathered
  walk_cut m at seen f None w b h = refl
  walk_cut m at seen f (Some c) w b h =
      let s = drop at line in
      let a = attribute_in s c.name c.quoted c.value in
      let few : length seen ≤ length line = omega (arith, followed_length seen, ap length b.text, length-append (followed seen) (drop at line), length-drop 17 line) in
      let early : earlier (length line) line at a.name 17 ≡ named a.name seen = earlier_is line at a.name seen (length line) 17 few b in
      let view = value_view at c.name c.quoted c.value s w in
      rw (early, view) (go (eqb (length (drop (end_of c.name c.quoted c.value) s)) 0) refl)
    where
      go : (z : Bool) → eqb (length (drop (end_of c.name c.quoted c.value) (drop at line))) 0 ≡ z
          → walk_by (walk m line) (pick (named (take c.name (drop at line)) seen || not (fitting (attribute_in (drop at line) c.name c.quoted c.value))) (Err MalformedLine)
          (pick z (Ok (Done (noted f (known_of (take c.name (drop at line))) (view_at at (attribute_in (drop at line) c.name c.quoted c.value)))))
          (Ok (More (noted f (known_of (take c.name (drop at line))) (view_at at (attribute_in (drop at line) c.name c.quoted c.value))) (at + (end_of c.name c.quoted c.value + 1))))))
          ≡ outcome seen f at (pick z (Some (attribute_in (drop at line) c.name c.quoted c.value ∷ [])) (consed (attribute_in (drop at line) c.name c.quoted c.value) (attributes_from m (drop (end_of c.name c.quoted c.value + 1) (drop at line)))))
      go true z = one_last (named (take c.name (drop at line)) seen) (fitting (attribute_in (drop at line) c.name c.quoted c.value)) (walk m line) (noted f (known_of (take c.name (drop at line))) (view_at at (attribute_in (drop at line) c.name c.quoted c.value)))
      go false z =
          let s = drop at line in
          let a = attribute_in s c.name c.quoted c.value in
          let g = noted f (known_of a.name) (view_at at a) in
          let p = at + (end_of c.name c.quoted c.value + 1) in
          let i = h p (seen ++ (a ∷ [])) g (before_more line at seen c.name c.quoted c.value w b z) in
          let d : drop p line ≡ drop (end_of c.name c.quoted c.value + 1) s = sym (drop-drop (end_of c.name c.quoted c.value + 1) at line) in
          let e : p ≡ next at a = ap (λ (x : ℕ). at + (x + 1)) (sym w.size) in
          one_listed (walk m line) seen a f at p e (attributes_from m (drop (end_of c.name c.quoted c.value + 1) s)) (i ∙ ap (λ (x : List ℕ). outcome (seen ++ (a ∷ [])) g p (attributes_from m x)) d)

  pub walk_is : (m at : ℕ) (seen : List Attribute) (f : Found) → Before line 17 at seen → walk m line at f ≡ outcome seen f at (attributes_from m (drop at line))
  unfolding walk turn_of attributes_from
  walk_is zero at seen f b = refl
  walk_is (suc m) at seen f b = walk_cut m at seen f (cut_of (drop at line)) (cut_sound (drop at line)) b (λ p more g x. walk_is m p more g x)
