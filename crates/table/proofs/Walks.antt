-- What a value has in the fields of a table: the bits that it takes, and the number of bytes left.
use Prim.Native.Nat.{ℕ, ◌+◌, ◌*◌, ◌-◌, ◌/◌, ◌≤◌}
use mathlib.Core.Bool.{Bool, true, ◌&&◌}
use mathlib.Core.List.{List, [], ◌∷◌, ◌++◌}
use mathlib.Core.Path.{◌≡◌, refl, ap, ◌∙◌}
use native.Mathlib.Nat.{add-zero}
use native.Mathlib.Omega.{arith}
use lib.ListN.{length, take, drop, length-append, length-drop}
use lib.Seq.{length-take-le}
use borrow.Author.Tests.{leb-true}
use lib.Dec.{leb}
use Rattle.table.specs.Bits.{bits_of_num, bits_of}
use Rattle.table.specs.Table.{Table, done, uint, view, left, must, inside}
use Rattle.table.specs.Writing.{Field, bits, run, rest, Walk, before, asking, walk, seen, Content, number, bytes, count, contents, print}
use Rattle.table.proofs.Bits.{AllBits, all_append, all_num, all_bits, length_num, length_bits}
use Rattle.table.proofs.Lists.{and_true, and_assoc}

-- the bit after fields that begin at bit `at`
abbrev pub past : List Field → ℕ → ℕ
past [] at = at
past (bits w v ∷ fs) at = past fs (at + w)
past (run n from ∷ fs) at = past fs (at + n * 8)
past (rest k ∷ fs) at = past fs at

-- with m bits after the fields, as many bytes are left as they say
abbrev pub Tight : List Field → ℕ → ℕ → Type 0
Tight [] at m = Unit {0}
Tight (bits w v ∷ fs) at m = Tight fs (at + w) m
Tight (run n from ∷ fs) at m = Tight fs (at + n * 8) m
Tight (rest k ∷ fs) at m = (k ≡ (past fs at + m - at) / 8) × Tight fs at m

pub past_le : (fs : List Field) (at : ℕ) → at ≤ past fs at
past_le [] at = omega arith
past_le (bits w v ∷ fs) at = omega (arith, past_le fs (at + w))
past_le (run n from ∷ fs) at = omega (arith, past_le fs (at + n * 8))
past_le (rest k ∷ fs) at = past_le fs at

pub past_append : (fs gs : List Field) (at : ℕ) → past (fs ++ gs) at ≡ past gs (past fs at)
past_append [] gs at = refl
past_append (bits w v ∷ fs) gs at = past_append fs gs (at + w)
past_append (run n from ∷ fs) gs at = past_append fs gs (at + n * 8)
past_append (rest k ∷ fs) gs at = past_append fs gs at

pub tight_append : (fs gs : List Field) (at m : ℕ) → Tight fs at (past gs (past fs at) - past fs at + m) → Tight gs (past fs at) m → Tight (fs ++ gs) at m
tight_append [] gs at m g h = h
tight_append (bits w v ∷ fs) gs at m g h = tight_append fs gs (at + w) m g h
tight_append (run n from ∷ fs) gs at m g h = tight_append fs gs (at + n * 8) m g h
tight_append (rest k ∷ fs) gs at m g h =
    let e : past fs at + (past gs (past fs at) - past fs at + m) ≡ past (fs ++ gs) at + m = omega (arith, past_append fs gs at, past_le gs (past fs at)) in
    (g.0 ∙ ap (λ (v : ℕ). (v - at) / 8) e, tight_append fs gs at m g.1 h)

-- ---- what is written
pub view_length : (n from : ℕ) (lent : List ℕ) → from + n ≤ length lent → length (bits_of (take n (drop from lent))) ≡ n * 8
view_length n from lent h =
    length_bits (take n (drop from lent)) ∙ ap (λ (k : ℕ). k * 8) (length-take-le n (drop from lent) (omega (arith, length-drop from lent)))

pub print_length : (lent : List ℕ) (fs : List Field) (at : ℕ) → seen lent fs ≡ true → at + length (print (contents lent fs)) ≡ past fs at
print_length lent [] at s = add-zero at
print_length lent (bits w v ∷ fs) at s =
    omega (arith, length-append (bits_of_num w v) (print (contents lent fs)), length_num w v, print_length lent fs (at + w) s)
print_length lent (run n from ∷ fs) at s =
    let a = and_true (leb (from + n) (length lent)) _ s in
    omega (
      arith,
      length-append (bits_of (take n (drop from lent))) (print (contents lent fs)),
      view_length n from lent (leb-true _ _ a.0),
      print_length lent fs (at + n * 8) a.1,
    )
print_length lent (rest k ∷ fs) at s = print_length lent fs at s

pub print_bits : (cs : List Content) → AllBits (print cs)
print_bits [] = tt
print_bits (number w v ∷ cs) = all_append (bits_of_num w v) (print cs) (all_num w v) (print_bits cs)
print_bits (bytes b ∷ cs) = all_append (bits_of b) (print cs) (all_bits b) (print_bits cs)
print_bits (count m ∷ cs) = print_bits cs

-- ---- a table inside another
-- a walk, and then another from where it came to
abbrev pub joined : {X Y : Type 0} → Walk Y → (Y → Walk X) → Walk X
joined w f = record {
  fields = w.fields ++ (f w.value).fields;
  writable = w.writable && (f w.value).writable;
  value = (f w.value).value;
}

pub walk_inside : {X Y : Type 0} (t : Table Y) (q : X → Y) (k : Y → Table X) (x : X) (at : ℕ)
    → walk (inside t q k) x at ≡ joined (walk t (q x) at) (λ y. walk (k y) x (past (walk t (q x) at).fields at))
walk_inside (done y) q k x at = refl
walk_inside (uint w p f) q k x at = ap (before (bits w (p (q x)))) (walk_inside (f (p (q x))) q k x (at + w))
walk_inside (view n p f) q k x at = ap (before (run n (p (q x)))) (walk_inside (f (at / 8)) q k x (at + n * 8))
walk_inside (left p f) q k x at = ap (before (rest (p (q x)))) (walk_inside (f (p (q x))) q k x at)
walk_inside {X} (must b t) q k x at =
    ap (asking b) (walk_inside t q k x at) ∙ same_walk (and_assoc b (walk t (q x) at).writable _)
  where
    same_walk : {fs : List Field} {v : X} {c d : Bool} → c ≡ d → ◌≡◌ {A = Walk X} (record { fields = fs; writable = c; value = v }) (record { fields = fs; writable = d; value = v })
    same_walk {fs} {v} e = ap (λ (c : Bool). record { fields = fs; writable = c; value = v }) e
