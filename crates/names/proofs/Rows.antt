-- The definitions at numbers of 000 and 01, by computation.
use mathlib.Core.Bool.{true, false}
use mathlib.Core.List.{[], ◌∷◌, map}
use mathlib.Core.Path.{◌≡◌, refl}
use Rattle.names.specs.declared.algorithm.EncryptionAlgorithm.{EncryptionAlgorithm}
use Rattle.names.specs.declared.command.SpliceCommandType.{SpliceCommandType}
use Rattle.names.specs.declared.upid.SegmentationUpidType.{SegmentationUpidType}
use Rattle.names.specs.declared.segmentation.SegmentationTypeId.{SegmentationTypeId}
use Rattle.names.specs.declared.flags.NetworkIndicator.{NetworkIndicator}
use Rattle.names.specs.declared.flags.ReturnMode.{ReturnMode}
use Rattle.names.specs.declared.flags.DeviceRestrictions.{DeviceRestrictions}
use Rattle.names.specs.Algorithm.{algorithm_of, writable_algorithm}
use Rattle.names.specs.Command.{command_type_of, writable_command}
use Rattle.names.specs.Upid.{upid_type_of, writable_upid_type}
use Rattle.names.specs.Segmentation.{segmentation_type_of, writable_segmentation}
use Rattle.names.specs.Flags.{gives, refuses, network_of, return_of, restrictions_of}

algorithm_rows :
    map algorithm_of (0 ∷ 3 ∷ 4 ∷ 31 ∷ 32 ∷ 63 ∷ 64 ∷ 255 ∷ [])
    ≡ EncryptionAlgorithm.None ∷ EncryptionAlgorithm.TripleDesEde3Ecb ∷ EncryptionAlgorithm.Reserved 4 ∷ EncryptionAlgorithm.Reserved 31
    ∷ EncryptionAlgorithm.Private 32 ∷ EncryptionAlgorithm.Private 63 ∷ EncryptionAlgorithm.Private 64 ∷ EncryptionAlgorithm.Private 255 ∷ []
unfolding algorithm_of
algorithm_rows = refl

writable_algorithm_rows :
    map writable_algorithm
    (EncryptionAlgorithm.Reserved 3 ∷ EncryptionAlgorithm.Reserved 4 ∷ EncryptionAlgorithm.Reserved 32 ∷ EncryptionAlgorithm.Private 31
    ∷ EncryptionAlgorithm.Private 32 ∷ EncryptionAlgorithm.DesCbc ∷ [])
    ≡ false ∷ true ∷ false ∷ false ∷ true ∷ true ∷ []
unfolding writable_algorithm
writable_algorithm_rows = refl

command_rows :
    map command_type_of (0x00 ∷ 0x01 ∷ 0x04 ∷ 0x05 ∷ 0x06 ∷ 0x07 ∷ 0x08 ∷ 0xfe ∷ 0xff ∷ [])
    ≡ SpliceCommandType.SpliceNull ∷ SpliceCommandType.Reserved 0x01 ∷ SpliceCommandType.SpliceSchedule ∷ SpliceCommandType.SpliceInsert
    ∷ SpliceCommandType.TimeSignal ∷ SpliceCommandType.BandwidthReservation ∷ SpliceCommandType.Reserved 0x08
    ∷ SpliceCommandType.Reserved 0xfe ∷ SpliceCommandType.PrivateCommand ∷ []
unfolding command_type_of
command_rows = refl

upid_type_rows :
    map upid_type_of (0 ∷ 5 ∷ 6 ∷ 10 ∷ 13 ∷ 15 ∷ 16 ∷ [])
    ≡ SegmentationUpidType.NotUsed ∷ SegmentationUpidType.ISANDeprecated ∷ SegmentationUpidType.ISAN ∷ SegmentationUpidType.EIDR
    ∷ SegmentationUpidType.MID ∷ SegmentationUpidType.URI ∷ SegmentationUpidType.Reserved 16 ∷ []
unfolding upid_type_of
upid_type_rows = refl

segmentation_rows :
    map segmentation_type_of (0x00 ∷ 0x02 ∷ 0x10 ∷ 0x34 ∷ 0x35 ∷ 0x51 ∷ 0x52 ∷ [])
    ≡ SegmentationTypeId.NotIndicated ∷ SegmentationTypeId.Reserved 0x02 ∷ SegmentationTypeId.ProgramStart
    ∷ SegmentationTypeId.ProviderPlacementOpportunityStart ∷ SegmentationTypeId.ProviderPlacementOpportunityEnd
    ∷ SegmentationTypeId.NetworkEnd ∷ SegmentationTypeId.Reserved 0x52 ∷ []
unfolding segmentation_type_of
segmentation_rows = refl

writable_rows :
    (writable_command (SpliceCommandType.Reserved 0x04) ≡ false) × (writable_upid_type (SegmentationUpidType.Reserved 15) ≡ false)
    × (writable_segmentation (SegmentationTypeId.Reserved 0x19) ≡ false) × (writable_segmentation (SegmentationTypeId.Reserved 0x1a) ≡ true)
unfolding writable_command writable_upid_type writable_segmentation
writable_rows = (refl, refl, refl, refl)

flag_rows :
    (map network_of (0 ∷ 1 ∷ 2 ∷ []) ≡ gives NetworkIndicator.In ∷ gives NetworkIndicator.Out ∷ refuses 12 [] ∷ [])
    × (map return_of (0 ∷ 1 ∷ 2 ∷ []) ≡ gives ReturnMode.Manual ∷ gives ReturnMode.Automatic ∷ refuses 12 [] ∷ [])
    × (map restrictions_of (2 ∷ 3 ∷ 4 ∷ []) ≡ gives DeviceRestrictions.RestrictGroup2 ∷ gives DeviceRestrictions.None ∷ refuses 12 [] ∷ [])
unfolding network_of return_of restrictions_of
flag_rows = (refl, refl, refl)
