-- The numbers that are named or refused: a name's number gives it, a number over the names is refused with 12.
use Prim.Native.Nat.{ℕ, zero, suc, ◌<◌, ◌≤◌}
use mathlib.Core.Bool.{Bool, true, false, cond as pick}
use mathlib.Core.List.{List, [], ◌∷◌}
use mathlib.Core.Option.{some}
use mathlib.Core.Path.{◌≡◌, refl, ap, sym, ◌∙◌}
use native.Mathlib.Omega.{arith}
use lib.Dec.{eqb}
use borrow.Author.Tests.{eqb-true}
use Rattle.names.specs.declared.flags.NetworkIndicator.{NetworkIndicator}
use Rattle.names.specs.declared.flags.ReturnMode.{ReturnMode}
use Rattle.names.specs.declared.flags.DeviceRestrictions.{DeviceRestrictions}
use Rattle.names.specs.Numbering.{name_of}
use Rattle.names.specs.Flags.{
  Answer,
  gives,
  refuses,
  or_12,
  network_flag,
  networks,
  network_of,
  return_flag,
  return_modes,
  return_of,
  restrictions_bits,
  restrictions,
  restrictions_of,
}
use Rattle.names.proofs.Laws.{unnamed}

-- there are `count` numbers with a name, from 0 on
pub record Flags {A : Type 0} (number : A → ℕ) (of : ℕ → Answer A) (count : ℕ) : Type 0 where
  pub back : (x : A) → of (number x) ≡ gives x
  pub there : (n : ℕ) (x : A) → of n ≡ gives x → number x ≡ n
  pub given : (n : ℕ) → n < count → (x : A) × (of n ≡ gives x)
  pub refused : (n : ℕ) → count ≤ n → of n ≡ refuses 12 []

found : {A : Type 0} (number : A → ℕ) (n : ℕ) (x : A) (xs : List A) → or_12 (name_of number xs n) ≡ gives x → number x ≡ n
found number n x [] e = let z : ◌≡◌ {A = ℕ} 0 1 = cc in absurd (omega arith)
found number n x (y ∷ ys) e = go (eqb n (number y)) refl (found number n x ys) e
  where
    go : (b : Bool) → eqb n (number y) ≡ b → (or_12 (name_of number ys n) ≡ gives x → number x ≡ n)
        → or_12 (pick b (some y) (name_of number ys n)) ≡ gives x → number x ≡ n
    go true t f r = let s : y ≡ x = cc in sym (eqb-true n (number y) t ∙ ap number s)
    go false t f r = f r

network_back : (x : NetworkIndicator) → network_of (network_flag x) ≡ gives x
unfolding network_of
network_back NetworkIndicator.In = refl
network_back NetworkIndicator.Out = refl

network_given : (n : ℕ) → n < 2 → (x : NetworkIndicator) × (network_of n ≡ gives x)
unfolding network_of
network_given zero h = (NetworkIndicator.In, refl)
network_given (suc zero) h = (NetworkIndicator.Out, refl)
network_given (suc (suc n)) h = absurd (omega arith)

pub network_laws : Flags network_flag network_of 2
unfolding network_of
network_laws =
    record {
      back = network_back;
      there = λ n x. found network_flag n x networks;
      given = network_given;
      refused = λ n h. ap or_12 (sym (unnamed network_flag n networks ((tt, λ e. omega arith), λ e. omega arith)));
    }

return_back : (x : ReturnMode) → return_of (return_flag x) ≡ gives x
unfolding return_of
return_back ReturnMode.Manual = refl
return_back ReturnMode.Automatic = refl

return_given : (n : ℕ) → n < 2 → (x : ReturnMode) × (return_of n ≡ gives x)
unfolding return_of
return_given zero h = (ReturnMode.Manual, refl)
return_given (suc zero) h = (ReturnMode.Automatic, refl)
return_given (suc (suc n)) h = absurd (omega arith)

pub return_laws : Flags return_flag return_of 2
unfolding return_of
return_laws =
    record {
      back = return_back;
      there = λ n x. found return_flag n x return_modes;
      given = return_given;
      refused = λ n h. ap or_12 (sym (unnamed return_flag n return_modes ((tt, λ e. omega arith), λ e. omega arith)));
    }

restrictions_back : (x : DeviceRestrictions) → restrictions_of (restrictions_bits x) ≡ gives x
unfolding restrictions_of
restrictions_back DeviceRestrictions.RestrictGroup0 = refl
restrictions_back DeviceRestrictions.RestrictGroup1 = refl
restrictions_back DeviceRestrictions.RestrictGroup2 = refl
restrictions_back DeviceRestrictions.None = refl

restrictions_given : (n : ℕ) → n < 4 → (x : DeviceRestrictions) × (restrictions_of n ≡ gives x)
unfolding restrictions_of
restrictions_given zero h = (DeviceRestrictions.RestrictGroup0, refl)
restrictions_given (suc zero) h = (DeviceRestrictions.RestrictGroup1, refl)
restrictions_given (suc (suc zero)) h = (DeviceRestrictions.RestrictGroup2, refl)
restrictions_given (suc (suc (suc zero))) h = (DeviceRestrictions.None, refl)
restrictions_given (suc (suc (suc (suc n)))) h = absurd (omega arith)

pub restrictions_laws : Flags restrictions_bits restrictions_of 4
unfolding restrictions_of
restrictions_laws =
    record {
      back = restrictions_back;
      there = λ n x. found restrictions_bits n x restrictions;
      given = restrictions_given;
      refused =
          λ n h. ap or_12
          (sym
          (unnamed restrictions_bits n restrictions ((((tt, λ e. omega arith), λ e. omega arith), λ e. omega arith), λ e. omega arith)));
    }
