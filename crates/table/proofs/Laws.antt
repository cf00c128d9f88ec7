-- The laws of every table, from any bit on.
--     forth      what is written is read as what was handed in, its views at their new places, and is canonical
--     back       canonical bits that are read are what is written of their reading
use Prim.Native.Nat.{ℕ, ◌+◌, ◌*◌, ◌-◌, ◌/◌, ◌%◌, ◌^◌, ◌<◌, ◌≤◌}
use mathlib.Core.Bool.{Bool, true, false}
use mathlib.Core.List.{List, ◌++◌, append_assoc}
use mathlib.Core.Path.{◌≡◌, refl, ap, sym, ◌∙◌}
use native.Mathlib.Omega.{arith}
use lib.Dec.{leb, ltb}
use lib.ListN.{length, take, drop, length-append, take-append-drop}
use lib.Seq.{drop-drop}
use borrow.Author.Tests.{leb-true, ltb-true, le-leb, lt-ltb}
use Rattle.table.specs.Bits.{pick, bits_of_num, bits_of, field}
use Rattle.table.specs.Table.{Table, done, uint, view, left, must, Answer, got, short, parse, canonical}
use Rattle.table.specs.Writing.{walk, seen, within, contents, print}
use Rattle.table.proofs.Bits.{all_bits, length_num, length_bits, bits_append, bits_from}
use Rattle.table.proofs.Fields.{field_bits, field_below, field_num}
use Rattle.table.proofs.Lists.{zero_one, and_true}
use Rattle.table.proofs.Walks.{past, Tight, view_length, print_length}

-- ---- a field that is read is there
there : {X : Type 0} (b : Bool) (r : Answer X) (e a : ℕ) (y : X) (m : ℕ) → pick b r (short e a) ≡ got y m → (b ≡ true) × (r ≡ got y m)
there true r e a y m h = (refl, h)
there false r e a y m h = zero_one cc

module _ {X : Type 0} (n : ℕ) (p : X → ℕ) (k : ℕ → Table X) (bs : List ℕ) (at : ℕ) (y : X) (m : ℕ) where
  pub field_there : parse (uint n p k) bs at ≡ got y m → (at + n ≤ length bs) × (parse (k (field bs at n)) bs (at + n) ≡ got y m)
  field_there e =
      let i = there (leb (at + n) (length bs)) (parse (k (field bs at n)) bs (at + n)) (n / 8) ((length bs - at) / 8) y m e in
      (leb-true _ _ i.0, i.1)

  pub view_there : parse (view n p k) bs at ≡ got y m → (at + n * 8 ≤ length bs) × (parse (k (at / 8)) bs (at + n * 8) ≡ got y m)
  view_there e =
      let i = there (leb (at + n * 8) (length bs)) (parse (k (at / 8)) bs (at + n * 8)) 1 0 y m e in
      (leb-true _ _ i.0, i.1)

-- ---- what is written, wherever it stands
pub record Forth {X : Type 0} (t : Table X) (bs : List ℕ) (x : X) (at : ℕ) : Type 0 where
  pub reads : parse t bs at ≡ got (walk t x at).value (past (walk t x at).fields at)
  pub form : (walk t x at).writable ≡ true → canonical t bs at ≡ true

room : (bs pre a r : List ℕ) (at n : ℕ) → bs ≡ pre ++ a ++ r → length pre ≡ at → length a ≡ n → at + n ≤ length bs
room bs pre a r at n e h l = omega (arith, ap length e, length-append (pre ++ a) r, length-append pre a)

module _ {X : Type 0} (lent : List ℕ) (x : X) (bs r : List ℕ) where
  pub forth : (t : Table X) (at : ℕ) (pre : List ℕ) → bs ≡ pre ++ print (contents lent (walk t x at).fields) ++ r → length pre ≡ at
      → seen lent (walk t x at).fields ≡ true → within (walk t x at).fields ≡ true → Tight (walk t x at).fields at (length r) → Forth t bs x at
  forth (done y) at pre e l s w g = record { reads = refl; form = λ c. refl }
  forth (uint n p k) at pre e l s w g =
      let a = and_true (ltb (p x) (2 ^ n)) _ w in
      let more = print (contents lent (walk (k (p x)) x (at + n)).fields) in
      let e₂ : bs ≡ (pre ++ bits_of_num n (p x)) ++ more ++ r = e ∙ simp append_assoc in
      let e₃ : bs ≡ pre ++ bits_of_num n (p x) ++ (more ++ r) = e₂ ∙ append_assoc (pre ++ bits_of_num n (p x)) more r in
      let l₂ : length (pre ++ bits_of_num n (p x)) ≡ at + n = length-append pre (bits_of_num n (p x)) ∙ omega (arith, length_num n (p x)) in
      let i = forth (k (p x)) (at + n) (pre ++ bits_of_num n (p x)) e₂ l₂ s a.1 g in
      let f : field bs at n ≡ p x = ap (λ (l : List ℕ). field l at n) e₃ ∙ field_num pre (more ++ r) at n (p x) l (ltb-true _ _ a.0) in
      let h : at + n ≤ length bs = room bs pre (bits_of_num n (p x)) (more ++ r) at n e₃ l (length_num n (p x)) in
      record { reads = rw (le-leb (at + n) (length bs) h, f) i.reads; form = λ c. rw f (i.form c) }
  forth (view n p k) at pre e l s w g =
      let a = and_true (leb (p x + n) (length lent)) _ s in
      let b = bits_of (take n (drop (p x) lent)) in
      let m : length b ≡ n * 8 = view_length n (p x) lent (leb-true _ _ a.0) in
      let more = print (contents lent (walk (k (at / 8)) x (at + n * 8)).fields) in
      let e₂ : bs ≡ (pre ++ b) ++ more ++ r = e ∙ simp append_assoc in
      let l₂ : length (pre ++ b) ≡ at + n * 8 = length-append pre b ∙ omega arith in
      let i = forth (k (at / 8)) (at + n * 8) (pre ++ b) e₂ l₂ a.1 w g in
      let h : at + n * 8 ≤ length bs = room bs pre b (more ++ r) at (n * 8) (e₂ ∙ append_assoc (pre ++ b) more r) l m in
      record { reads = rw (le-leb (at + n * 8) (length bs) h) i.reads; form = i.form }
  forth (left p k) at pre e l s w g =
      let i = forth (k (p x)) at pre e l s w g.1 in
      let fs = (walk (k (p x)) x at).fields in
      let m : length bs - at ≡ past fs at + length r - at =
      omega (arith, ap length e, length-append (pre ++ print (contents lent fs)) r, length-append pre (print (contents lent fs)), print_length lent fs at s) in
      let f : (length bs - at) / 8 ≡ p x = rw m (sym g.0) in
      record { reads = rw f i.reads; form = λ c. rw f (i.form c) }
  forth (must b t) at pre e l s w g =
      let i = forth t at pre e l s w g in
      record { reads = i.reads; form = λ c. let a = and_true b _ c in rw a.0 (i.form a.1) }

-- ---- what makes a table an invertible one: at each end of it, every field is found again in the reading, and the reading has P.
-- The fields are those of the canonical form, and at each view a byte begins
abbrev pub Tells : {X : Type 0} → Table X → ℕ → (ℕ → X → Type 0) → Type 0
Tells (done y) at P = P at y
Tells (uint w p k) at P = (v : ℕ) → v < 2 ^ w → Tells (k v) (at + w) (λ a y. P a y × (p y ≡ v))
Tells (view n p k) at P = (at % 8 ≡ 0) × Tells (k (at / 8)) (at + n * 8) (λ a y. P a y × (p y ≡ at / 8))
Tells (left p k) at P = (m : ℕ) → Tells (k m) at (λ a y. P a y × (p y ≡ m))
Tells (must b t) at P = b ≡ true → Tells t at P

-- ---- canonical bits that are read as x, which ends before bit m; the views of x are of these bytes
pub record Back {X : Type 0} (t : Table X) (s : List ℕ) (x : X) (at m : ℕ) (P : ℕ → X → Type 0) : Type 0 where
  pub tells : P m x
  pub prints : print (contents s (walk t x at).fields) ++ drop m (bits_of s) ≡ drop at (bits_of s)
  pub views : seen s (walk t x at).fields ≡ true
  pub widths : within (walk t x at).fields ≡ true
  pub writable : (walk t x at).writable ≡ true
  pub same : (walk t x at).value ≡ x
  pub ends : past (walk t x at).fields at ≡ m

module _ {X : Type 0} (s : List ℕ) (x : X) (m : ℕ) where
  pub back : (t : Table X) (at : ℕ) (P : ℕ → X → Type 0) → at ≤ length (bits_of s)
      → parse t (bits_of s) at ≡ got x m → canonical t (bits_of s) at ≡ true → Tells t at P → Back t s x at m P
  back (done y) at P l e c f =
      let i : y ≡ x = cc in
      let j : at ≡ m = cc in
      record { tells = rw (i, j) at f; prints = rw j; views = refl; widths = refl; writable = refl; same = i; ends = j }
  back (uint w p k) at P l e c f =
      let bs = bits_of s in
      let j = field_there w p k bs at x m e in
      let v = field bs at w in
      let n : v < 2 ^ w = field_below bs at w (all_bits s) j.0 in
      let i = back (k v) (at + w) (λ a y. P a y × (p y ≡ v)) j.0 j.1 c (f v n) in
      let o : p x ≡ v = i.tells.1 in
      record {
        tells = i.tells.0;
        prints = rw (o, append_assoc) (ap (λ (l : List ℕ). bits_of_num w v ++ l) i.prints ∙ field_bits bs at w (all_bits s) j.0);
        views = rw o i.views;
        widths = rw (o, lt-ltb v (2 ^ w) n) i.widths;
        writable = rw o i.writable;
        same = rw o i.same;
        ends = rw o i.ends;
      }
  back (view n p k) at P l e c f =
      let bs = bits_of s in
      let j = view_there n p k bs at x m e in
      let h : at + n * 8 ≤ length bs = j.0 in
      let b = at / 8 in
      let i = back (k b) (at + n * 8) (λ a y. P a y × (p y ≡ b)) h j.1 c f.1 in
      let o : p x ≡ b = i.tells.1 in
      let z : at ≡ b * 8 = omega (arith, f.0) in
      let z₂ : at + n * 8 ≡ (b + n) * 8 = omega arith in
      let u : b + n ≤ length s = omega (arith, length_bits s) in
      let d : drop at bs ≡ bits_of (drop b s) = ap (λ (j : ℕ). drop j bs) z ∙ bits_from b s in
      let d₂ : drop (at + n * 8) bs ≡ bits_of (drop n (drop b s)) = ap (λ (j : ℕ). drop j bs) z₂ ∙ bits_from (b + n) s ∙ rw (drop-drop n b s) in
      record {
        tells = i.tells.0;
        prints = rw (o, append_assoc)
            (ap (λ (l : List ℕ). bits_of (take n (drop b s)) ++ l) (i.prints ∙ d₂)
            ∙ sym (bits_append (take n (drop b s)) (drop n (drop b s))) ∙ ap bits_of (take-append-drop n (drop b s)) ∙ sym d);
        views = rw (o, le-leb (b + n) (length s) u) i.views;
        widths = i.widths;
        writable = i.writable;
        same = i.same;
        ends = i.ends;
      }
  back (left p k) at P l e c f =
      let v = (length (bits_of s) - at) / 8 in
      let i = back (k v) at (λ a y. P a y × (p y ≡ v)) l e c (f v) in
      let o : p x ≡ v = i.tells.1 in
      record {
        tells = i.tells.0;
        prints = rw o i.prints;
        views = rw o i.views;
        widths = rw o i.widths;
        writable = rw o i.writable;
        same = rw o i.same;
        ends = rw o i.ends;
      }
  back (must b t) at P l e c f =
      let a = and_true b _ c in
      let i = back t at P l e a.1 (f a.0) in
      record {
        tells = i.tells;
        prints = i.prints;
        views = i.views;
        widths = i.widths;
        writable = rw a.0 i.writable;
        same = i.same;
        ends = i.ends;
      }
