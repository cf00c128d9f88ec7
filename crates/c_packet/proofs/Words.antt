-- Words stored one after the other, and the state that they hold.
use Prim.Native.Nat.{ℕ, zero, suc, ◌≤◌}
use mathlib.Core.List.{List, [], ◌∷◌}
use mathlib.Core.Path.{◌≡◌, refl, ap, sym}
use native.Mathlib.Omega.{arith}
use lib.ListN.{length, set}
use lib.Seq.{take_all}
use Rattle.transport.specs.declared.Assembler.{Assembler}
use Rattle.transport.specs.Assembler.{holding}
use Rattle.c_packet.specs.PacketWords.{state_in, kept_in}

pub set_past : (l : List ℕ) (i v : ℕ) → length l ≤ i → set l i v ≡ l
set_past [] i v h = refl
set_past (x ∷ xs) zero v h = absurd (omega arith)
set_past (x ∷ xs) (suc i) v h = ap (λ (l : List ℕ). x ∷ l) (set_past xs i v (omega arith))

pub four_set : (l : List ℕ) (a : Assembler) → set (set (set (set l 0 a.pid) 1 a.counter) 2 a.held) 3 a.at ≡ kept_in l a
four_set [] a = refl
four_set (x ∷ []) a = refl
four_set (x ∷ y ∷ []) a = refl
four_set (x ∷ y ∷ z ∷ []) a = refl
four_set (x ∷ y ∷ z ∷ w ∷ l) a = ap (λ (t : List ℕ). a.pid ∷ a.counter ∷ a.held ∷ a.at ∷ t) (sym (take_all (length l) l (omega arith)))

pub two_set : (l : List ℕ) (held at : ℕ) → set (set l 2 held) 3 at ≡ kept_in l (holding (state_in l) held at)
two_set [] held at = refl
two_set (x ∷ []) held at = refl
two_set (x ∷ y ∷ []) held at = refl
two_set (x ∷ y ∷ z ∷ []) held at = refl
two_set (x ∷ y ∷ z ∷ w ∷ l) held at = ap (λ (t : List ℕ). x ∷ y ∷ held ∷ at ∷ t) (sym (take_all (length l) l (omega arith)))

-- what is kept in four words or more is read there, and no word is lost
pub kept_read : (l : List ℕ) (a : Assembler) → 4 ≤ length l → state_in (kept_in l a) ≡ a
kept_read [] a h = absurd (omega arith)
kept_read (x ∷ []) a h = absurd (omega arith)
kept_read (x ∷ y ∷ []) a h = absurd (omega arith)
kept_read (x ∷ y ∷ z ∷ []) a h = absurd (omega arith)
kept_read (x ∷ y ∷ z ∷ w ∷ l) a h = refl
