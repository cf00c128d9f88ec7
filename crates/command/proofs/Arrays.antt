-- The first places of an array.
use Prim.Native.Nat.{ℕ, ◌-◌, ◌≤◌}
use mathlib.Core.List.{List}
use mathlib.Core.Path.{◌≡◌}
use native.Mathlib.Omega.{arith}
use lib.ListN.{length, take, replicate, length-append}
use lib.Seq.{take_at}
use Rattle.command.specs.Command.{array}
use Rattle.command.specs.Insert.{blank}
use Rattle.command.specs.declared.components.InsertComponent.{InsertComponent}

pub array_take : (cs : List InsertComponent) (n : ℕ) → length cs ≡ n → take n (array cs) ≡ cs
unfolding array
array_take cs n e = take_at cs (replicate (255 - length cs) blank) n e

pub array_there : (cs : List InsertComponent) (n : ℕ) → length cs ≡ n → n ≤ length (array cs)
unfolding array
array_there cs n e = omega (arith, length-append cs (replicate (255 - length cs) blank))
