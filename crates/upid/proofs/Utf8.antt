-- The test of text is RFC 3629's grammar.
--     one_row         no byte begins two rows of the grammar: one test, computed over the bytes
--     text_is_utf8, utf8_is_text    the test passes exactly on the grammar's strings
use Prim.Native.Nat.{ℕ, zero, suc, ◌+◌, ◌≤◌, ◌<◌}
use mathlib.Core.Path.{◌≡◌, refl, ap, ◌∙◌}
use mathlib.Core.Bool.{Bool, true, false, ◌&&◌, cond as pick}
use mathlib.Core.List.{List, [], ◌∷◌, ◌++◌, foldl, Memᴰ}
use mathlib.Core.Logic.{⊎_elim}
use native.Mathlib.Omega.{arith}
use native.Mathlib.Nat.{le-max_left, le-max_right, le_of_suc-le-suc, eq-or-lt_of_le}
use lib.Dec.{leb}
use borrow.Author.Tests.{leb-true}
use Rattle.upid.specs.Text.{Range, ◌to◌, within, characters, Matches, none, byte, Octets, end, char, begun, State, wants, broken, begin, step, done, text_of}
use Rattle.upid.proofs.Ranges.{past}

-- ---- no byte begins two rows

below : (ℕ → Bool) → ℕ → Bool
below test zero = true
below test (suc n) = test n && below test n

and_both : (a b : Bool) → a && b ≡ true → (a ≡ true) × (b ≡ true)
and_both true b e = (refl, e)
and_both false b e = let z : ◌≡◌ {A = ℕ} 0 1 = cc in absurd (omega arith)

each_below : (test : ℕ → Bool) (n b : ℕ) → below test n ≡ true → b < n → test b ≡ true
unfolding below
each_below test zero b e h = absurd (omega arith)
each_below test (suc n) b e h =
    let both = and_both (test n) (below test n) e in
    ⊎_elim (λ (s : b ≡ n). rw s both.0) (λ (l : b < n). each_below test n b both.1 l) (eq-or-lt_of_le (le_of_suc-le-suc h))

pub one_row : (b : ℕ) → b < 256 → begun b characters ≤ 1
unfolding below begun within
one_row b h = leb-true _ _ (each_below (λ b. leb (begun b characters) 1) 256 b refl h)

-- a byte that begins a row begins one, and lies below the end of all
begun_some : (b : ℕ) {r : Range} {more : List Range} {rows : List (List Range)} → Memᴰ (r ∷ more) rows → within r b ≡ true → 1 ≤ begun b rows
unfolding begun
begun_some b {r = r} {more = more} {rows = []} x5 h = elim x5 [ ]
begun_some b {rows = x ∷ rows} (Memᴰ.head e) h = rw (← e, h) (omega arith)
begun_some b {rows = [] ∷ rows} (Memᴰ.tail m) h = begun_some b m h
begun_some b {rows = (q ∷ qs) ∷ rows} (Memᴰ.tail m) h = omega (arith, begun_some b m h)

in_range : (r : Range) (more : List Range) (rows : List (List Range)) (b : ℕ) → within r b ≡ true → b < past ((r ∷ more) ∷ rows)
unfolding within
in_range (low to high) more rows b h =
    omega (arith, leb-true b high (and_both (leb low b) (leb b high) h).1, le-max_left (suc high) (past rows))

below_past : (b : ℕ) {r : Range} {more : List Range} {rows : List (List Range)} → Memᴰ (r ∷ more) rows → within r b ≡ true → b < past rows
below_past b {r = r} {more = more} {rows = []} x5 h = elim x5 [ ]
below_past b {r = r} {more = more} {rows = x ∷ rows} (Memᴰ.head e) h = rw (← e) (in_range r more rows b h)
below_past b {rows = [] ∷ rows} (Memᴰ.tail m) h = below_past b m h
below_past b {rows = (low to high ∷ qs) ∷ rows} (Memᴰ.tail m) h = omega (arith, below_past b m h, le-max_right (suc high) (past rows))

-- so the first row that the byte begins is the only one
found : (b : ℕ) {r : Range} {more : List Range} {rows : List (List Range)} → Memᴰ (r ∷ more) rows → within r b ≡ true → begun b rows ≤ 1 → begin rows b ≡ wants more
unfolding begun
found b {r = r} {more = more} {rows = []} x8 h one = elim x8 [ ]
found b {rows = x ∷ rows} (Memᴰ.head e) h one = rw (← e, h)
found b {rows = [] ∷ rows} (Memᴰ.tail m) h one = found b m h one
found b {more = more} {rows = (q ∷ qs) ∷ rows} (Memᴰ.tail m) h one = go (within q b) one (found b m h)
  where
    go : (t : Bool) → pick t 1 0 + begun b rows ≤ 1 → (begun b rows ≤ 1 → begin rows b ≡ wants more) → pick t (wants qs) (begin rows b) ≡ wants more
    go true n f = absurd (omega (arith, begun_some b m h))
    go false n f = f (omega arith)

-- ---- what the grammar has, the test passes

step_in : (r : Range) (row : List Range) (b : ℕ) → within r b ≡ true → step (wants (r ∷ row)) b ≡ wants row
unfolding step
step_in r row b h = rw h

run : {row : List Range} {c : List ℕ} (rest : List ℕ) → Matches row c → foldl step (wants row) (c ++ rest) ≡ foldl step (wants []) rest
run rest none = refl
run rest (byte {r = r} {row = row} {b = b} {bs = bs} h m) = ap (λ (st : State). foldl step st (bs ++ rest)) (step_in r row b h) ∙ run rest m

-- a whole character
run_char : {row : List Range} {c : List ℕ} (rest : List ℕ) → Memᴰ row characters → Matches row c → foldl step (wants []) (c ++ rest) ≡ foldl step (wants []) rest
unfolding step
run_char rest m none = refl
run_char rest m (byte {b = b} {bs = bs} h more) =
    let small : b < 256 = omega (arith, below_past b m h) in
    ap (λ (st : State). foldl step st (bs ++ rest)) (found b m h (one_row b small)) ∙ run rest more

octets_run : {s : List ℕ} → Octets s → foldl step (wants []) s ≡ wants []
octets_run end = refl
octets_run (char {rest = rest} m c more) = run_char rest m c ∙ octets_run more

pub utf8_is_text : (s : List ℕ) → Octets s → text_of s ≡ true
unfolding text_of done
utf8_is_text s o = rw (octets_run o)

-- ---- what the test passes, the grammar has

-- the bytes that are left: the rest of a character, and characters
Left : State → List ℕ → Type 0
Left (wants row) s = (c : List ℕ) × (rest : List ℕ) × (s ≡ c ++ rest) × Matches row c × Octets rest
Left broken s = ⊥

-- what a first byte can begin
Begun : List (List Range) → ℕ → State → Type 0
Begun rows b (wants more) = (r : Range) × Memᴰ (r ∷ more) rows × (within r b ≡ true)
Begun rows b broken = Unit {0}

begun_later : (row : List Range) (rows : List (List Range)) (b : ℕ) (st : State) → Begun rows b st → Begun (row ∷ rows) b st
unfolding Begun
begun_later row rows b (wants more) h = (h.0, Memᴰ.tail h.1, h.2)
begun_later row rows b broken h = tt

begins : (rows : List (List Range)) (b : ℕ) → Begun rows b (begin rows b)
unfolding Begun
begins [] b = tt
begins ([] ∷ rows) b = begun_later [] rows b (begin rows b) (begins rows b)
begins ((r ∷ more) ∷ rows) b = go (within r b) refl (begun_later (r ∷ more) rows b (begin rows b) (begins rows b))
  where
    go : (t : Bool) → within r b ≡ t → Begun ((r ∷ more) ∷ rows) b (begin rows b) → Begun ((r ∷ more) ∷ rows) b (pick t (wants more) (begin rows b))
    go true e h = (r, Memᴰ.head refl, e)
    go false e h = h

-- a first byte, then what is left of its character, is a whole one
first_left : (b : ℕ) (s : List ℕ) (st : State) → Begun characters b st → Left st s → Octets (b ∷ s)
unfolding Begun Left
first_left b s (wants more) (r, m, h) (c, rest, e, cs, os) = rw e (char m (byte h cs) os)
first_left b s broken h l = absurd l

next_left : (b : ℕ) (s : List ℕ) (r : Range) (more : List Range) (t : Bool) → within r b ≡ t → Left (pick t (wants more) broken) s → Left (wants (r ∷ more)) (b ∷ s)
unfolding Left
next_left b s r more true h (c, rest, e, cs, os) = (b ∷ c, rest, rw e, byte h cs, os)
next_left b s r more false h l = absurd l

left : (s : List ℕ) (st : State) → done (foldl step st s) ≡ true → Left st s
unfolding Left step done
left [] (wants []) e = ([], [], refl, none, end)
left [] (wants (r ∷ more)) e = let z : ◌≡◌ {A = ℕ} 0 1 = cc in absurd (omega arith)
left [] broken e = let z : ◌≡◌ {A = ℕ} 0 1 = cc in absurd (omega arith)
left (b ∷ s) (wants []) e = ([], b ∷ s, refl, none, first_left b s (begin characters b) (begins characters b) (left s (begin characters b) e))
left (b ∷ s) (wants (r ∷ more)) e = next_left b s r more (within r b) refl (left s (pick (within r b) (wants more) broken) e)
left (b ∷ s) broken e = left s broken e

overall : (s : List ℕ) → Left (wants []) s → Octets s
unfolding Left
overall s (c, rest, e, none, os) = rw e os

pub text_is_utf8 : (s : List ℕ) → text_of s ≡ true → Octets s
unfolding text_of
text_is_utf8 s e = overall s (left s (wants []) e)
