-- A time or a duration that starts with a byte ends with one.
use Prim.Native.Nat.{ℕ, ◌+◌, ◌%◌}
use mathlib.Core.Bool.{Bool, true, false}
use mathlib.Core.List.{List}
use mathlib.Core.Path.{◌≡◌}
use native.Mathlib.Omega.{arith}
use lib.Dec.{eqb}
use Rattle.table.specs.Bits.{pick, bits_of, field}
use Rattle.table.specs.Table.{done, uimsbf, ones, Answer, got, parse}
use Rattle.table.proofs.Steps.{reads_number, reads_flag, reads_ones}
use Rattle.splice_time.specs.Break.{break_duration}
use Rattle.splice_time.specs.Time.{splice_time, ticks}
use Rattle.splice_time.specs.declared.SpliceTime.TheVariants.{Unspecified, At}

-- what was read ends where a byte does
abbrev pub Aligned : {X : Type 0} → Answer X → Type 0
Aligned {X} r = (x : X) (m : ℕ) → r ≡ got x m → m % 8 ≡ 0

pub ends : {X : Type 0} (x y : X) (m n : ℕ) → got x m ≡ got y n → m ≡ n
ends x y m n e = cc

module _ (s : List ℕ) where
  pub aligned_time : (at : ℕ) → at % 8 ≡ 0 → Aligned (parse splice_time (bits_of s) at)
  unfolding splice_time
  aligned_time at z x m e = go (eqb (field (bits_of s) at 1) 1) (reads_flag s at _ _ x m e).1
    where
      go : (b : Bool) → parse (pick b (ones 6 (uimsbf 33 ticks λ t. done (At t))) (ones 7 (done Unspecified))) (bits_of s) (at + 1) ≡ got x m → m % 8 ≡ 0
      go true f = omega (arith, ends _ x _ m (reads_number s (at + 1 + 6) 33 _ _ x m (reads_ones s (at + 1) 6 _ x m f).1).1)
      go false f = omega (arith, ends _ x _ m (reads_ones s (at + 1) 7 _ x m f).1)

  pub aligned_break : (b : Bool) (at : ℕ) → at % 8 ≡ 0 → Aligned (parse (break_duration b) (bits_of s) at)
  unfolding break_duration
  aligned_break true at z x m e =
      omega (arith, ends _ x _ m (reads_number s (at + 1 + 6) 33 _ _ x m (reads_ones s (at + 1) 6 _ x m (reads_flag s at _ _ x m e).1).1).1)
  aligned_break false at z x m e = omega (arith, ends _ x at m e)
