-- A byte in a range of `specs/Text.antt`, above it and below it (`hit`, `over`, `under`); the row that it begins (`row`), or none (`gap`).
use Prim.Native.Nat.{ℕ, suc, ◌≤◌, ◌<◌, max, min}
use mathlib.Core.Path.{◌≡◌, refl, sym, ◌∙◌}
use mathlib.Core.Bool.{true, false, and-false}
use mathlib.Core.List.{List, [], ◌∷◌, ◌++◌}
use native.Mathlib.Omega.{arith}
use native.Mathlib.Nat.{le-max_left, le-max_right, min-le_left, min-le_right}
use lib.Dec.{leb}
use borrow.Author.Tests.{le-leb, lt-leb}
use Rattle.upid.specs.Text.{Range, ◌to◌, within, wants, broken, begin}

pub hit : (low high b : ℕ) → low ≤ b → b ≤ high → within (low to high) b ≡ true
unfolding within
hit low high b l h = rw (le-leb low b l, le-leb b high h)

pub over : (low high b : ℕ) → high < b → within (low to high) b ≡ false
unfolding within
over low high b h = rw (lt-leb b high h) (and-false (leb low b))

pub under : (low high b : ℕ) → b < low → within (low to high) b ≡ false
unfolding within
under low high b h = rw (lt-leb low b h)

-- ---- the row that a byte begins

-- one more than the highest byte that begins one of these rows
abbrev pub past : List (List Range) → ℕ
past [] = 0
past ([] ∷ rows) = past rows
past ((low to high ∷ more) ∷ rows) = max (suc high) (past rows)

skip : (rows rest : List (List Range)) (b : ℕ) → past rows ≤ b → begin (rows ++ rest) b ≡ begin rest b
skip [] rest b h = refl
skip ([] ∷ rows) rest b h = skip rows rest b h
skip ((low to high ∷ more) ∷ rows) rest b h =
    let l : suc high ≤ b = omega (arith, le-max_left (suc high) (past rows)) in
    let r : past rows ≤ b = omega (arith, le-max_right (suc high) (past rows)) in
    rw (over low high b l) (skip rows rest b r)

-- a byte past the rows before, in the range of the next
pub row : (before after : List (List Range)) (low high : ℕ) (more : List Range) (b : ℕ) → past before ≤ b → low ≤ b → b ≤ high
    → wants more ≡ begin (before ++ ((low to high ∷ more) ∷ after)) b
row before after low high more b p l h = sym (skip before ((low to high ∷ more) ∷ after) b p ∙ rw (hit low high b l h))

-- the lowest byte that begins one of these rows, 256 where there is none
abbrev pub lowest : List (List Range) → ℕ
lowest [] = 256
lowest ([] ∷ rows) = lowest rows
lowest ((low to high ∷ more) ∷ rows) = min low (lowest rows)

ahead : (rows : List (List Range)) (b : ℕ) → b < lowest rows → broken ≡ begin rows b
ahead [] b h = refl
ahead ([] ∷ rows) b h = ahead rows b h
ahead ((low to high ∷ more) ∷ rows) b h =
    let l : b < low = omega (arith, min-le_left low (lowest rows)) in
    let r : b < lowest rows = omega (arith, min-le_right low (lowest rows)) in
    rw (under low high b l) (ahead rows b r)

-- a byte past the rows before, and ahead of those after
pub gap : (before after : List (List Range)) (b : ℕ) → past before ≤ b → b < lowest after → broken ≡ begin (before ++ after) b
gap before after b p l = ahead after b l ∙ sym (skip before after b p)
