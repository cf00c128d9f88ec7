-- The table of `SegmentationUpidType` is sound, so its numbers and its writable values are one to one.
use Prim.Native.Nat.{◌≤◌}
use mathlib.Core.Logic.{◌⊎◌, inl, inr}
use mathlib.Core.Path.{refl}
use native.Mathlib.Omega.{arith}
use lib.Dec.{lit≤}
use lib.ListN.{length}
use denote.Enum.Declared.{tag_of}
use Rattle.names.specs.declared.upid.SegmentationUpidType.{SegmentationUpidType}
use Rattle.names.specs.declared.upid.SegmentationUpidType.TheVariants.{
  NotUsed,
  UserDefinedDeprecated,
  ISCIDeprecated,
  AdID,
  UMID,
  ISANDeprecated,
  ISAN,
  TID,
  TI,
  ADI,
  EIDR,
  ATSC,
  MPU,
  MID,
  ADS,
  URI,
  Reserved,
}
use Rattle.names.specs.Upid.{upid_type_number, upid_types, upid_type_of, writable_upid_type}
use Rattle.names.specs.contracts.upid.SegmentationUpidType.{the_type}
use Rattle.names.proofs.Laws.{Name, Carried, Sound, Inverse, inverse}

split : (x : SegmentationUpidType) → Name upid_types x ⊎ (Carried upid_types x × (length upid_types.names ≤ tag_of the_type x))
split NotUsed = inl (refl, refl)
split UserDefinedDeprecated = inl (refl, refl)
split ISCIDeprecated = inl (refl, refl)
split AdID = inl (refl, refl)
split UMID = inl (refl, refl)
split ISANDeprecated = inl (refl, refl)
split ISAN = inl (refl, refl)
split TID = inl (refl, refl)
split TI = inl (refl, refl)
split ADI = inl (refl, refl)
split EIDR = inl (refl, refl)
split ATSC = inl (refl, refl)
split MPU = inl (refl, refl)
split MID = inl (refl, refl)
split ADS = inl (refl, refl)
split URI = inl (refl, refl)
split (Reserved n) = inr ((λ e. omega arith, λ e. refl), lit≤ tt)

pub sound : Sound upid_types (tag_of the_type)
sound = record { carries = λ n. refl; listed = refl; split = split }

pub upid_type_laws : Inverse upid_type_number upid_type_of writable_upid_type
unfolding upid_type_of writable_upid_type
upid_type_laws = inverse upid_types (tag_of the_type) sound
