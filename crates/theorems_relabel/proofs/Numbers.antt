-- Bytes one by one, and answers that are no refusal.
use Prim.Native.Nat.{ℕ, zero, suc, ◌+◌, ◌<◌}
use mathlib.Core.Bool.{Bool, true, false, ◌||◌}
use mathlib.Core.List.{List, [], ◌∷◌}
use mathlib.Core.Path.{◌≡◌, refl}
use native.Mathlib.Omega.{arith}
use borrow.Author.Tests.{eqb-false}
use lib.Dec.{eqb, ltb}
use lib.ListN.{length, get_or}
use Rattle.c_command_writer.specs.Words.{flat_written}
use Rattle.descriptor_loop.specs.Items.{items_of}
use Rattle.section.specs.Section.{conditions, first, loop_bytes}
use Rattle.table.specs.Bits.{pick, AllBytes}
use Rattle.theorems_relabel.specs.Answered.{no_active, no_part, unfit, size_then, in_accepted, answered}
use Rattle.theorems_relabel.specs.Replaced.{Request, upid_for, type_for}
use Rattle.std.proofs.Common.{Ok, Err, Result}

pub all_at : (s : List ℕ) → AllBytes s → (j : ℕ) → get_or s j 0 < 256
all_at [] h zero = omega arith
all_at [] h (suc j) = omega arith
all_at (b ∷ bs) h zero = h.0
all_at (b ∷ bs) h (suc j) = all_at bs h.1 j

-- a refusal has a number
abbrev pub Some : Result ℕ ℕ → Type 0
Some (Ok n) = Unit {0}
Some (Err n) = n ≡ 0 → ⊥

some_accepted : (q : Request) (room : ℕ) → Some (in_accepted q room)
unfolding in_accepted
some_accepted q room =
    go (no_active q.offset (items_of (loop_bytes q.section))) (no_part (type_for q) (upid_for q) q.part) (ltb 255 (size_then q (length (upid_for q)))) (unfit q.part q.upid_type q.bytes)
    (ltb 254 (size_then q (get_or (loop_bytes q.section) (q.offset + 1) 0)) || ltb 4096 (size_then q (length q.section))) (ltb room (size_then q (length q.section)))
  where
    go : (a b c d e f : Bool)
        → Some (pick a (Err 41) (pick b (Err 41) (pick c (Err 32) (pick d (Err 33)
        (pick e (Err 34) (pick f (Err 36) (Ok (size_then q (length q.section)))))))))
    go true b c d e f = λ z. omega arith
    go false true c d e f = λ z. omega arith
    go false false true d e f = λ z. omega arith
    go false false false true e f = λ z. omega arith
    go false false false false true f = λ z. omega arith
    go false false false false false true = λ z. omega arith
    go false false false false false false = tt

pub some_answered : (q : Request) (room : ℕ) → Some (answered q room)
unfolding answered
some_answered q room = go (eqb (first 1 (conditions q.section)) 0) refl
  where
    go : (b : Bool) → eqb (first 1 (conditions q.section)) 0 ≡ b → Some (pick b (in_accepted q room) (Err (first 1 (conditions q.section))))
    go true e = some_accepted q room
    go false e = eqb-false _ 0 e

pub length_of_lem : (w : Result ℕ ℕ) → Some w → (flat_written w).refusal ≡ 0 → w ≡ Ok (flat_written w).«length»
unfolding flat_written
length_of_lem (Ok n) h e = refl
length_of_lem (Err n) h e = absurd (h e)

pub refused_of : (w : Result ℕ ℕ) → ((flat_written w).refusal ≡ 0 → ⊥) → (n : ℕ) × (w ≡ Err n)
unfolding flat_written
refused_of (Ok n) h = absurd (h refl)
refused_of (Err n) h = (n, refl)
