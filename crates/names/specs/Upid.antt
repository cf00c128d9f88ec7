-- segmentation_upid_type, which says what kind of identifier a UPID is. 000: `SegmentationUpidType`.
use Rattle.std.specs.Prelude.{◌≡◌, ℕ, Bool, [], ◌∷◌}
use Rattle.names.specs.declared.upid.SegmentationUpidType.{SegmentationUpidType}
use Rattle.names.specs.declared.upid.SegmentationUpidType.TheVariants.{
  NotUsed,
  UserDefinedDeprecated,
  ISCIDeprecated,
  AdID,
  UMID,
  ISANDeprecated,
  ISAN,
  TID,
  TI,
  ADI,
  EIDR,
  ATSC,
  MPU,
  MID,
  ADS,
  URI,
  Reserved,
}
use Rattle.names.specs.Numbering.{Entry, named, reserved, Numbering, value_of, writable}

-- The table: the number and the class of each value, the names in the order of their numbers. 16 and up have no name.
abbrev pub upid_type_entry : SegmentationUpidType → Entry
upid_type_entry NotUsed = (0, named)
upid_type_entry UserDefinedDeprecated = (1, named)
upid_type_entry ISCIDeprecated = (2, named)
upid_type_entry AdID = (3, named)
upid_type_entry UMID = (4, named)
upid_type_entry ISANDeprecated = (5, named)
upid_type_entry ISAN = (6, named)
upid_type_entry TID = (7, named)
upid_type_entry TI = (8, named)
upid_type_entry ADI = (9, named)
upid_type_entry EIDR = (10, named)
upid_type_entry ATSC = (11, named)
upid_type_entry MPU = (12, named)
upid_type_entry MID = (13, named)
upid_type_entry ADS = (14, named)
upid_type_entry URI = (15, named)
upid_type_entry (Reserved n) = (n, reserved)

abbrev pub upid_type_number : SegmentationUpidType → ℕ
upid_type_number x = (upid_type_entry x).0

abbrev pub upid_types : Numbering SegmentationUpidType
upid_types = record {
  entry = upid_type_entry;
  names = NotUsed ∷ UserDefinedDeprecated ∷ ISCIDeprecated ∷ AdID ∷ UMID ∷ ISANDeprecated ∷ ISAN ∷ TID ∷ TI ∷ ADI ∷ EIDR ∷ ATSC
      ∷ MPU ∷ MID ∷ ADS ∷ URI ∷ [];
  others = Reserved;
}

-- the value that a number stands for
unfoldable pub upid_type_of : ℕ → SegmentationUpidType
upid_type_of n = value_of upid_types n

pub upid_type_is : (n : ℕ) (x : SegmentationUpidType) → x ≡ upid_type_of n → x ≡ value_of upid_types n
unfolding upid_type_of
upid_type_is n x e = e

-- whether a value is what its own number stands for
unfoldable pub writable_upid_type : SegmentationUpidType → Bool
writable_upid_type x = writable upid_types x
