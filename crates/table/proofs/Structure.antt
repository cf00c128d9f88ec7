-- The laws of a structure of whole bytes.
--     write_same        and that reading is equal to what was handed in
--     write_read        what is written of x reads as x, its views at their new places, and is canonical
--     read_write        canonical bytes begin with what is written of their reading; without a spare byte they are it
--     write_one      canonical bytes of equal readings are equal
use Prim.Native.Nat.{ℕ, zero, suc, ◌+◌, ◌*◌, ◌/◌, ◌%◌, ◌^◌, ◌≤◌}
use mathlib.Core.Bool.{Bool, true, false}
use mathlib.Core.List.{List, [], ◌∷◌, ◌++◌, append_assoc}
use mathlib.Core.Path.{◌≡◌, refl, ap, ap₂, sym, ◌∙◌}
use native.Mathlib.Omega.{arith}
use lib.Dec.{ltb, leb}
use lib.ListN.{length, take, drop, length-append, length-drop, take-append-drop}
use lib.Seq.{drop-length, length-take-le, take_at, drop_at}
use borrow.Author.Tests.{ltb-true, leb-true}
use Rattle.table.specs.Bits.{pick, bits_of_num, bits_of, bytes_of, AllBytes}
use Rattle.table.specs.Table.{Table, done, uint, view, left, must, got, parse, canonical}
use Rattle.table.specs.Writing.{Field, walk, seen, within, Content, number, bytes, count, contents, print, Same, made, refused, make_of, make}
use Rattle.table.proofs.Bits.{all_bytes_n, length_num, length_bits, length_bytes_n, bits_append, bits_from, bytes_bits, bytes_append}
use Rattle.table.proofs.Fields.{bits_bytes}
use Rattle.table.proofs.Laws.{forth, Tells, back}
use Rattle.table.proofs.Leading.{Leads}
use Rattle.table.proofs.Lists.{zero_one, and_true, append_nil}
use Rattle.table.proofs.Walks.{past, print_length, print_bits}

-- a writer's answer, undone
pub record Wrote (writable : Bool) (lent : List ℕ) (fs : List Field) (b : List ℕ) : Type 0 where
  pub views : seen lent fs ≡ true
  pub widths : within fs ≡ true
  pub fit : writable ≡ true
  pub bytes : b ≡ bytes_of (print (contents lent fs))

pub wrote : (writable : Bool) (lent : List ℕ) (fs : List Field) (b : List ℕ) → make_of writable lent fs ≡ made b → Wrote writable lent fs b
wrote writable lent fs b e = go (seen lent fs) (within fs) writable refl refl refl e
  where
    go : (u v w : Bool) → seen lent fs ≡ u → within fs ≡ v → writable ≡ w
        → pick u (pick v (pick w (made (bytes_of (print (contents lent fs)))) (refused 33)) (refused 32)) (refused 31) ≡ made b → Wrote writable lent fs b
    go false v w p q r e = zero_one cc
    go true false w p q r e = zero_one cc
    go true true false p q r e = zero_one cc
    go true true true p q r e = record { views = p; widths = q; fit = r; bytes = cc }

-- ---- bytes that were written, found again
pub bytes_take : (n : ℕ) (s : List ℕ) → AllBytes s → AllBytes (take n s)
bytes_take zero s a = tt
bytes_take (suc n) [] a = tt
bytes_take (suc n) (b ∷ s) a = (a.0, bytes_take n s a.1)

pub bytes_drop : (n : ℕ) (s : List ℕ) → AllBytes s → AllBytes (drop n s)
bytes_drop zero s a = a
bytes_drop (suc n) [] a = a
bytes_drop (suc n) (b ∷ s) a = bytes_drop n s a.1

-- bytes whose bits begin with those of v begin with v
begins : (s v : List ℕ) (r : List ℕ) → AllBytes s → AllBytes v → bits_of s ≡ bits_of v ++ r → take (length v) s ≡ v
begins s v r a b e =
    let n : length v * 8 ≤ length s * 8 = omega (arith, ap length e, length-append (bits_of v) r, length_bits v, length_bits s) in
    let l : length (take (length v) s) ≡ length v = length-take-le (length v) s (omega arith) in
    let f : bits_of (take (length v) s) ≡ bits_of v =
    sym (take_at (bits_of (take (length v) s)) (bits_of (drop (length v) s)) (length v * 8) (length_bits (take (length v) s) ∙ ap (λ (k : ℕ). k * 8) l))
    ∙ ap (take (length v * 8)) (sym (bits_append (take (length v) s) (drop (length v) s)) ∙ ap bits_of (take-append-drop (length v) s) ∙ e)
    ∙ take_at (bits_of v) r (length v * 8) (length_bits v) in
    sym (bytes_bits (take (length v) s) (bytes_take (length v) s a)) ∙ ap bytes_of f ∙ bytes_bits v b

module _ {X : Type 0} (lent s : List ℕ) (x y : X) (al : AllBytes lent) (ab : AllBytes s) where
  -- the value y to which x leads holds, in the bytes s that are written, what x held in the lent ones
  again : (t : Table X) (at : ℕ) (P : ℕ → X → Type 0) (pre r : List ℕ) → (walk t x at).value ≡ y → Tells t at P
      → bits_of s ≡ pre ++ print (contents lent (walk t x at).fields) ++ r → length pre ≡ at
      → seen lent (walk t x at).fields ≡ true → within (walk t x at).fields ≡ true → (walk t x at).writable ≡ true
      → P (past (walk t x at).fields at) y × (contents s (walk t y at).fields ≡ contents lent (walk t x at).fields)
  again (done z) at P pre r v f e l q w c = (rw v at f, refl)
  again (uint n p k) at P pre r v f e l q w c =
      let a = and_true (ltb (p x) (2 ^ n)) _ w in
      let more = print (contents lent (walk (k (p x)) x (at + n)).fields) in
      let e₂ : bits_of s ≡ (pre ++ bits_of_num n (p x)) ++ more ++ r = e ∙ simp append_assoc in
      let l₂ : length (pre ++ bits_of_num n (p x)) ≡ at + n = length-append pre (bits_of_num n (p x)) ∙ omega (arith, length_num n (p x)) in
      let i = again (k (p x)) (at + n) (λ a y. P a y × (p y ≡ p x)) (pre ++ bits_of_num n (p x)) r v (f (p x) (ltb-true _ _ a.0)) e₂ l₂ q a.1 c in
      (i.0.0, rw i.0.1 (ap (λ (l : List Content). number n (p x) ∷ l) i.1))
  again (view n p k) at P pre r v f e l q w c =
      let a = and_true (leb (p x + n) (length lent)) _ q in
      let u = take n (drop (p x) lent) in
      let b = bits_of u in
      let m : length u ≡ n = length-take-le n (drop (p x) lent) (omega (arith, length-drop (p x) lent, leb-true (p x + n) (length lent) a.0)) in
      let more = print (contents lent (walk (k (at / 8)) x (at + n * 8)).fields) in
      let e₂ : bits_of s ≡ (pre ++ b) ++ more ++ r = e ∙ simp append_assoc in
      let l₂ : length (pre ++ b) ≡ at + n * 8 = length-append pre b ∙ omega (arith, length_bits u) in
      let i = again (k (at / 8)) (at + n * 8) (λ a y. P a y × (p y ≡ at / 8)) (pre ++ b) r v f.1 e₂ l₂ a.1 w c in
      let z : at ≡ at / 8 * 8 = omega (arith, f.0) in
      let d : bits_of (drop (at / 8) s) ≡ b ++ (more ++ r) =
      sym (bits_from (at / 8) s) ∙ ap (λ (j : ℕ). drop j (bits_of s)) (sym z) ∙ ap (drop at) (e₂ ∙ simp append_assoc) ∙ drop_at pre (b ++ (more ++ r)) at l in
      let h : take n (drop (at / 8) s) ≡ u = rw m at (begins (drop (at / 8) s) u (more ++ r) (bytes_drop (at / 8) s ab) (bytes_take n (drop (p x) lent) (bytes_drop (p x) lent al)) d) in
      (i.0.0, rw (i.0.1, h) (ap (λ (l : List Content). bytes u ∷ l) i.1))
  again (left p k) at P pre r v f e l q w c =
      let i = again (k (p x)) at (λ a y. P a y × (p y ≡ p x)) pre r v (f (p x)) e l q w c in
      (i.0.0, rw i.0.1 (ap (λ (l : List Content). count (p x) ∷ l) i.1))
  again (must b t) at P pre r v f e l q w c =
      let a = and_true b _ c in
      again t at P pre r v (f a.0) e l q w a.1

-- A structure: its table t; what a writer accepts (`writable`); its bytes (`size`); and what it becomes when it is written and read again (`moved`).
-- `Shape` is what the types say of a value (an array's length), and `After m` that m bits may follow it: none, if the table asks how many are left.
-- It owes two facts. `tells`: at each end of the table the reading tells every field, is one that a writer accepts, and a byte ends.
-- `ends`: the fields of an accepted value lead to that value, its views at their new places.
pub record Structure {X : Type 0} (t : Table X) : Type 1 where
  pub writable : X → Bool
  pub size : X → ℕ
  pub moved : X → X
  pub Shape : X → Type 0
  pub After : ℕ → Type 0
  pub none : After 0
  pub tells : Tells t 0 (λ a y. (a % 8 ≡ 0) × (writable y ≡ true))
  pub ends : (x : X) (m : ℕ) → Shape x → writable x ≡ true → After m → Leads t x (moved x) 0 (size x * 8) m

module _ {X : Type 0} (t : Table X) (st : Structure t) where
  written : (lent : List ℕ) (x : X) (b : List ℕ) → st.Shape x → Wrote (st.writable x) lent (walk t x 0).fields b → length (print (contents lent (walk t x 0).fields)) ≡ st.size x * 8
  written lent x b h w = omega (arith, (st.ends x 0 h w.fit st.none).2, print_length lent (walk t x 0).fields 0 w.views)

  -- as many bytes are written as the structure has
  pub write_size : (lent : List ℕ) (x : X) (b : List ℕ) → st.Shape x → make t (st.writable x) lent x ≡ made b → length b ≡ st.size x
  write_size lent x b h e =
      let w = wrote (st.writable x) lent (walk t x 0).fields b e in
      let p = print (contents lent (walk t x 0).fields) in
      rw w.bytes (length_bytes_n (length p / 8) p ∙ omega (arith, written lent x b h w))

  -- what is written of x reads as x, its views at their new places, whatever follows if the table does not ask; and it is canonical
  pub write_read : (lent : List ℕ) (x : X) (b r : List ℕ) → st.Shape x → make t (st.writable x) lent x ≡ made b → st.After (length r * 8)
      → (parse t (bits_of (b ++ r)) 0 ≡ got (st.moved x) (length b * 8)) × (canonical t (bits_of (b ++ r)) 0 ≡ true)
  write_read lent x b r h e g =
      let w = wrote (st.writable x) lent (walk t x 0).fields b e in
      let p = print (contents lent (walk t x 0).fields) in
      let f = st.ends x (length r * 8) h w.fit g in
      let d : bits_of (b ++ r) ≡ p ++ bits_of r =
      bits_append b r ∙ rw w.bytes (ap (λ (l : List ℕ). l ++ bits_of r) (bits_bytes (st.size x) p (print_bits (contents lent (walk t x 0).fields)) (written lent x b h w))) in
      let i = forth lent x (bits_of (b ++ r)) (bits_of r) t 0 [] d refl w.views w.widths (rw (length_bits r) f.3) in
      (i.reads ∙ ap₂ got f.0 (f.2 ∙ ap (λ (n : ℕ). n * 8) (sym (write_size lent x b h e))), i.form f.1)

  -- and the reading is equal to what was handed in: the same numbers, and the same bytes in the views
  pub write_same : (lent : List ℕ) (x : X) (b : List ℕ) → AllBytes lent → st.Shape x → make t (st.writable x) lent x ≡ made b → Same t b (st.moved x) lent x
  write_same lent x b al h e =
      let w = wrote (st.writable x) lent (walk t x 0).fields b e in
      let p = print (contents lent (walk t x 0).fields) in
      let f = st.ends x 0 h w.fit st.none in
      let d : bits_of b ≡ p ++ [] = ap bits_of w.bytes ∙ bits_bytes (st.size x) p (print_bits (contents lent (walk t x 0).fields)) (written lent x b h w) ∙ sym (append_nil p) in
      let ab : AllBytes b = rw w.bytes (all_bytes_n (length p / 8) p (print_bits (contents lent (walk t x 0).fields))) in
      (again lent b x (st.moved x) al ab t 0 _ [] [] f.0 st.tells d refl w.views w.widths f.1).1

  -- canonical bytes that are read as x begin with what is written of x
  pub read_write : (s : List ℕ) (x : X) (m : ℕ) → AllBytes s → parse t (bits_of s) 0 ≡ got x m → canonical t (bits_of s) 0 ≡ true
      → (make t (st.writable x) s x ≡ made (bytes_of (print (contents s (walk t x 0).fields)))) × (bytes_of (print (contents s (walk t x 0).fields)) ++ drop (m / 8) s ≡ s)
  read_write s x m a e c =
      let i = back s x m t 0 _ (omega arith) e c st.tells in
      let fs = (walk t x 0).fields in
      let p = print (contents s fs) in
      let z : length p ≡ m / 8 * 8 = omega (arith, i.tells.0, print_length s fs 0 i.views, i.ends) in
      let k : m ≡ m / 8 * 8 = omega (arith, i.tells.0) in
      let d : drop m (bits_of s) ≡ bits_of (drop (m / 8) s) = ap (λ (j : ℕ). drop j (bits_of s)) k ∙ bits_from (m / 8) s in
      let q : p ++ bits_of (drop (m / 8) s) ≡ bits_of s = rw (← d) i.prints in (
        rw (i.views, i.widths, i.tells.1),
        ap (λ (l : List ℕ). bytes_of p ++ l) (sym (bytes_bits (drop (m / 8) s) (bytes_drop (m / 8) s a)))
            ∙ sym (bytes_append (m / 8) p (bits_of (drop (m / 8) s)) z) ∙ ap bytes_of q ∙ bytes_bits s a,
      )

  -- without a spare byte they are what is written of x
  pub read_write_all : (s : List ℕ) (x : X) → AllBytes s → parse t (bits_of s) 0 ≡ got x (length s * 8) → canonical t (bits_of s) 0 ≡ true → make t (st.writable x) s x ≡ made s
  read_write_all s x a e c =
      let i = read_write s x (length s * 8) a e c in
      let z : length s * 8 / 8 ≡ length s = omega arith in
      let n : drop (length s * 8 / 8) s ≡ [] = rw z (drop-length s) in
      i.0 ∙ ap made (sym (append_nil (bytes_of (print (contents s (walk t x 0).fields)))) ∙ rw n at i.1)

  -- canonical bytes without a spare one, of equal readings, are equal
  pub write_one : (s r : List ℕ) (x y : X) → AllBytes s → AllBytes r
      → parse t (bits_of s) 0 ≡ got x (length s * 8) → parse t (bits_of r) 0 ≡ got y (length r * 8)
      → canonical t (bits_of s) 0 ≡ true → canonical t (bits_of r) 0 ≡ true → Same t s x r y → s ≡ r
  write_one s r x y a b p q c d h =
      (wrote (st.writable x) s (walk t x 0).fields s (read_write_all s x a p c)).bytes ∙ ap (λ l. bytes_of (print l)) h
      ∙ sym (wrote (st.writable y) r (walk t y 0).fields r (read_write_all r y b q d)).bytes
