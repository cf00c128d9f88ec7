-- A part of an insert that starts with a byte ends with one.
use Prim.Native.Nat.{ℕ, zero, suc, ◌+◌, ◌%◌}
use mathlib.Core.Bool.{Bool, true, false}
use mathlib.Core.List.{List}
use mathlib.Core.Path.{◌≡◌}
use native.Mathlib.Omega.{arith}
use Rattle.table.specs.Bits.{bits_of, field}
use Rattle.table.specs.Table.{list, parse}
use Rattle.table.proofs.Steps.{reads_in, reads_number}
use Rattle.splice_time.proofs.Alignments.{Aligned, ends, aligned_time}
use Rattle.command.specs.Insert.{time_unless, component, blank, moded}

module _ (s : List ℕ) where
  pub aligned_time_unless : (b : Bool) (at : ℕ) → at % 8 ≡ 0 → Aligned (parse (time_unless b) (bits_of s) at)
  unfolding time_unless
  aligned_time_unless true at z x m e = omega (arith, ends _ x at m e)
  aligned_time_unless false at z x m e = aligned_time s at z x m e

  pub aligned_component : (b : Bool) (at : ℕ) → at % 8 ≡ 0 → Aligned (parse (component b) (bits_of s) at)
  unfolding component
  aligned_component b at z x m e =
      let r = reads_in (time_unless b) _ _ (bits_of s) (at + 8) x m (reads_number s at 8 _ _ x m e).1 in
      omega (arith, ends _ x _ m r.back, aligned_time_unless b (at + 8) (omega arith) _ _ r.front)

  pub aligned_list : (b : Bool) (n at : ℕ) → at % 8 ≡ 0 → Aligned (parse (list n blank (component b)) (bits_of s) at)
  unfolding list
  aligned_list b zero at z x m e = omega (arith, ends _ x at m e)
  aligned_list b (suc n) at z x m e =
      let r = reads_in (component b) _ _ (bits_of s) at x m e in
      let q = reads_in (list n blank (component b)) _ _ (bits_of s) r.seam x m r.back in
      omega (arith, ends _ x _ m q.back, aligned_list b n r.seam (aligned_component b at z _ _ r.front) _ _ q.front)

  pub aligned_mode : (p b : Bool) (at : ℕ) → at % 8 ≡ 0 → Aligned (parse (moded p b) (bits_of s) at)
  unfolding moded
  aligned_mode true b at z x m e =
      let r = reads_in (time_unless b) _ _ (bits_of s) at x m e in
      omega (arith, ends _ x _ m r.back, aligned_time_unless b at z _ _ r.front)
  aligned_mode false b at z x m e =
      let r = reads_in (list (field (bits_of s) at 8) blank (component b)) _ _ (bits_of s) (at + 8) x m (reads_number s at 8 _ _ x m e).1 in
      omega (arith, ends _ x _ m r.back, aligned_list b (field (bits_of s) at 8) (at + 8) (omega arith) _ _ r.front)
