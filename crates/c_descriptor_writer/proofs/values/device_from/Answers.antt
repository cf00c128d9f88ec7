-- `c_descriptor_writer::values::device_from`, by the bits: from 3 on there is no restriction.
use native.Mathlib.Omega.{arith}
use Prim.Native.Nat.{ℕ, ◌≤◌}
use mathlib.Core.Bool.{Bool, true, false}
use mathlib.Core.Path.{◌≡◌, refl}
use lib.Dec.{eqb}
use borrow.Author.Tests.{ne_eqb}
use Rattle.descriptor.specs.Segmentation.{device_of}
use Rattle.names.specs.Flags.{restrictions_of}
use Rattle.names.specs.declared.flags.DeviceRestrictions.{DeviceRestrictions}
use Rattle.c_descriptor_writer.proofs.values.device_from.Goals as goal

none_from_3 : (n : ℕ) → 3 ≤ n → DeviceRestrictions.None ≡ device_of n
unfolding device_of restrictions_of
none_from_3 n h = go (eqb n 3) refl
  where
    go : (b : Bool) → eqb n 3 ≡ b → DeviceRestrictions.None ≡ device_of n
    go true e = rw (ne_eqb n 0 (λ x. omega arith), ne_eqb n 1 (λ x. omega arith), ne_eqb n 2 (λ x. omega arith), e)
    go false e = rw (ne_eqb n 0 (λ x. omega arith), ne_eqb n 1 (λ x. omega arith), ne_eqb n 2 (λ x. omega arith), e)

pub returns-in-0 : goal.returns-in-0
unfolding device_of restrictions_of
returns-in-0 c = rw c.in-0.is

pub returns-in-1 : goal.returns-in-1
unfolding device_of restrictions_of
returns-in-1 c = rw c.in-1.is

pub returns-in-2 : goal.returns-in-2
unfolding device_of restrictions_of
returns-in-2 c = rw c.in-2.is

pub returns-in_default : goal.returns-in_default
returns-in_default c = none_from_3 c.args.bits (omega arith)
