-- The numbers of which each has a name or is refused. 000: `NetworkIndicator`, `ReturnMode`, `DeviceRestrictions`.
use Rattle.std.specs.Prelude.{◌≡◌, ℕ, List, [], ◌∷◌, Result, Ok, Err}
use Rattle.std.proofs.Math.Option.{Option, none, some}
use Rattle.names.specs.declared.flags.NetworkIndicator.{NetworkIndicator}
use Rattle.names.specs.declared.flags.ReturnMode.{ReturnMode}
use Rattle.names.specs.declared.flags.DeviceRestrictions.{DeviceRestrictions}
use Rattle.names.specs.declared.flags.UnknownNumber.{UnknownNumber}
use Rattle.names.specs.Numbering.{name_of}

-- An answer in 01's terms: a value, or a refusal's number with its values.
pub data Answer (A : Type 0) : Type 0 where
  gives : A → Answer A
  refuses : ℕ → List ℕ → Answer A

-- 01: 12, a flag number over 1 or a restriction number over 3. It has no values.
abbrev pub or_12 : {A : Type 0} → Option A → Answer A
or_12 none = refuses 12 []
or_12 (some x) = gives x

-- an answer in Rattle
abbrev pub flag_answer : {A : Type 0} → Result A UnknownNumber → Answer A
flag_answer (Ok x) = gives x
flag_answer (Err e) = or_12 none

-- out_of_network_indicator
abbrev pub network_flag : NetworkIndicator → ℕ
network_flag NetworkIndicator.In = 0
network_flag NetworkIndicator.Out = 1

abbrev pub networks : List NetworkIndicator
networks = NetworkIndicator.In ∷ NetworkIndicator.Out ∷ []

unfoldable pub network_of : ℕ → Answer NetworkIndicator
network_of n = or_12 (name_of network_flag networks n)

pub network_is : (n : ℕ) (r : Result NetworkIndicator UnknownNumber) → flag_answer r ≡ network_of n → flag_answer r ≡ or_12 (name_of network_flag networks n)
unfolding network_of
network_is n r e = e

-- auto_return
abbrev pub return_flag : ReturnMode → ℕ
return_flag ReturnMode.Manual = 0
return_flag ReturnMode.Automatic = 1

abbrev pub return_modes : List ReturnMode
return_modes = ReturnMode.Manual ∷ ReturnMode.Automatic ∷ []

unfoldable pub return_of : ℕ → Answer ReturnMode
return_of n = or_12 (name_of return_flag return_modes n)

pub return_is : (n : ℕ) (r : Result ReturnMode UnknownNumber) → flag_answer r ≡ return_of n → flag_answer r ≡ or_12 (name_of return_flag return_modes n)
unfolding return_of
return_is n r e = e

-- device_restrictions
abbrev pub restrictions_bits : DeviceRestrictions → ℕ
restrictions_bits DeviceRestrictions.RestrictGroup0 = 0
restrictions_bits DeviceRestrictions.RestrictGroup1 = 1
restrictions_bits DeviceRestrictions.RestrictGroup2 = 2
restrictions_bits DeviceRestrictions.None = 3

abbrev pub restrictions : List DeviceRestrictions
restrictions =
    DeviceRestrictions.RestrictGroup0 ∷ DeviceRestrictions.RestrictGroup1 ∷ DeviceRestrictions.RestrictGroup2 ∷ DeviceRestrictions.None ∷ []

unfoldable pub restrictions_of : ℕ → Answer DeviceRestrictions
restrictions_of n = or_12 (name_of restrictions_bits restrictions n)

pub restrictions_is : (n : ℕ) (r : Result DeviceRestrictions UnknownNumber) → flag_answer r ≡ restrictions_of n → flag_answer r ≡ or_12 (name_of restrictions_bits restrictions n)
unfolding restrictions_of
restrictions_is n r e = e
