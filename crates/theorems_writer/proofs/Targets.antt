-- What a write leaves in its target.
--     kept       a refused write leaves its bytes
--     changed    an accepted one changes only those of its result
use Prim.Native.Nat.{ℕ}
use mathlib.Core.Bool.{Bool, true, false}
use mathlib.Core.List.{List, ◌++◌}
use mathlib.Core.Path.{◌≡◌, refl, ap, ◌∙◌}
use native.Mathlib.Omega.{arith}
use lib.Dec.{leb}
use lib.ListN.{length, take, drop, length-append, length-drop}
use lib.Seq.{take_at, drop_at}
use borrow.Author.Tests.{leb-true}
use Rattle.bit_stores.specs.Written.{answer_of, later_of}
use Rattle.table.proofs.Lists.{zero_one}
use Rattle.table.specs.Bits.{pick}
use Rattle.table.specs.Writing.{Made, made, refused}
use Rattle.theorems_writer.specs.Written.{ChangesOnlyResult}
use Rattle.std.proofs.Common.{Ok, Err, Result}

pub kept : (m : Made) (target : List ℕ) (n : ℕ) → answer_of m target ≡ Err n → later_of m target ≡ target
unfolding answer_of later_of
kept (made b) target n e = go (leb (length b) (length target)) e
  where
    go : (fits : Bool) → pick fits (Ok (length b)) (Err 36) ≡ Err n → pick fits (b ++ drop (length b) target) target ≡ target
    go true e = zero_one cc
    go false e = refl
kept (refused k) target n e = refl

pub changed : (m : Made) (target : List ℕ) (n : ℕ) → answer_of m target ≡ Ok n → ChangesOnlyResult m target n
unfolding answer_of later_of
changed (made b) target n e = go (leb (length b) (length target)) refl e
  where
    go : (fits : Bool) → leb (length b) (length target) ≡ fits → pick {A = Result ℕ ℕ} fits (Ok (length b)) (Err 36) ≡ Ok n → ChangesOnlyResult (made b) target n
    go true l e =
        let k : length b ≡ n = cc in
        let later : later_of (made b) target ≡ b ++ drop (length b) target = rw l in
        record {
          result = b;
          is = refl;
          number = k;
          start = ap (take n) later ∙ take_at b (drop (length b) target) n k;
          rest = ap (drop n) later ∙ drop_at b (drop (length b) target) n k ∙ ap (λ (j : ℕ). drop j target) k;
          size = ap length later ∙ length-append b (drop (length b) target) ∙ omega (arith, length-drop (length b) target, leb-true (length b) (length target) l);
        }
    go false l e = zero_one cc
changed (refused k) target n e = zero_one cc
