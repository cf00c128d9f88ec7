-- The named numbers in Rattle: what `from`, `into` and `writable` of each enum may answer, by their contracts (`..-so`), and that there is such an answer
-- (`..-is-met`).
use Prim.Native.Nat.{ℕ}
use mathlib.Core.Bool.{Bool}
use mathlib.Core.Option.{Option, none, some}
use mathlib.Core.Path.{◌≡◌, refl, sym, ◌∙◌, ap}
use Rattle.std.specs.Prelude.{Result, Ok, Err}
use Rattle.names.specs.Algorithm.{algorithm_of, algorithm_number, writable_algorithm}
use Rattle.names.specs.Command.{command_type_of, command_number, writable_command}
use Rattle.names.specs.Upid.{upid_type_of, upid_type_number, writable_upid_type}
use Rattle.names.specs.Segmentation.{segmentation_type_of, segmentation_number, writable_segmentation}
use Rattle.names.specs.Flags.{Answer, or_12, networks, network_of, network_flag, return_modes, return_of, return_flag, restrictions, restrictions_of, restrictions_bits, flag_answer}
use Rattle.names.specs.declared.algorithm.EncryptionAlgorithm.{EncryptionAlgorithm}
use Rattle.names.specs.declared.command.SpliceCommandType.{SpliceCommandType}
use Rattle.names.specs.declared.upid.SegmentationUpidType.{SegmentationUpidType}
use Rattle.names.specs.declared.segmentation.SegmentationTypeId.{SegmentationTypeId}
use Rattle.names.specs.declared.flags.UnknownNumber.{UnknownNumber}
use Rattle.names.specs.declared.flags.NetworkIndicator.{NetworkIndicator}
use Rattle.names.specs.declared.flags.ReturnMode.{ReturnMode}
use Rattle.names.specs.declared.flags.DeviceRestrictions.{DeviceRestrictions}
use Rattle.names.specs.Numbering.{name_of}
use Rattle.theorems_c.specs.Boards.{May}
use Rattle.names.proofs.algorithm.EncryptionAlgorithmFromU8.from.Reads as algorithm_from
use Rattle.names.proofs.algorithm.U8FromEncryptionAlgorithm.from.Reads as algorithm_id
use Rattle.names.proofs.algorithm.EncryptionAlgorithmNumbered.writable.Reads as algorithm_writable
use Rattle.names.proofs.command.SpliceCommandTypeFromU8.from.Reads as command_type_from
use Rattle.names.proofs.command.U8FromSpliceCommandType.from.Reads as command_type_id
use Rattle.names.proofs.command.SpliceCommandTypeNumbered.writable.Reads as command_type_writable
use Rattle.names.proofs.upid.SegmentationUpidTypeFromU8.from.Reads as upid_type_from
use Rattle.names.proofs.upid.U8FromSegmentationUpidType.from.Reads as upid_type_id
use Rattle.names.proofs.upid.SegmentationUpidTypeNumbered.writable.Reads as upid_type_writable
use Rattle.names.proofs.segmentation.SegmentationTypeIdFromU8.from.Reads as segmentation_type_from
use Rattle.names.proofs.segmentation.U8FromSegmentationTypeId.from.Reads as segmentation_type_id
use Rattle.names.proofs.segmentation.SegmentationTypeIdNumbered.writable.Reads as segmentation_type_writable
use Rattle.names.proofs.flags.NetworkIndicatorTryFromU8.try_from.Reads as network_from
use Rattle.names.proofs.flags.U8FromNetworkIndicator.from.Reads as network_number
use Rattle.names.proofs.flags.ReturnModeTryFromU8.try_from.Reads as return_mode_from
use Rattle.names.proofs.flags.U8FromReturnMode.from.Reads as return_mode_number
use Rattle.names.proofs.flags.DeviceRestrictionsTryFromU8.try_from.Reads as restrictions_from
use Rattle.names.proofs.flags.U8FromDeviceRestrictions.from.Reads as restrictions_number

-- ---- EncryptionAlgorithm

abbrev pub AlgorithmFrom : ℕ → EncryptionAlgorithm → Type 0
AlgorithmFrom x r = May algorithm_from.Learnt {S = ℕ} {T = EncryptionAlgorithm} (λ κ a. a.0) (λ κ r e. r) x r

pub algorithm_from_so : (n : ℕ) (x : EncryptionAlgorithm) → AlgorithmFrom n x → x ≡ algorithm_of n
algorithm_from_so n x d = sym d.left ∙ d.learnt_so ∙ ap algorithm_of d.taken

abbrev pub AlgorithmNumber : EncryptionAlgorithm → ℕ → Type 0
AlgorithmNumber x r = May algorithm_id.Learnt {S = EncryptionAlgorithm} {T = ℕ} (λ κ a. a.0) (λ κ r e. r) x r

pub algorithm_number_so : (x : EncryptionAlgorithm) (k : ℕ) → AlgorithmNumber x k → k ≡ algorithm_number x
algorithm_number_so x k d = sym d.left ∙ d.learnt_so ∙ ap algorithm_number d.taken

abbrev pub AlgorithmWritable : EncryptionAlgorithm → Bool → Type 0
AlgorithmWritable x r = May algorithm_writable.Learnt {S = EncryptionAlgorithm} {T = Bool} (λ κ a. a.0) (λ κ r e. r) x r

pub algorithm_writable_so : (x : EncryptionAlgorithm) (b : Bool) → AlgorithmWritable x b → b ≡ writable_algorithm x
unfolding writable_algorithm
algorithm_writable_so x b d = sym d.left ∙ d.learnt_so ∙ ap writable_algorithm d.taken

pub algorithm_from_is_met : (n : ℕ) → AlgorithmFrom n (algorithm_of n)
algorithm_from_is_met n = record { κ = tt; arguments = (n, tt); answer = algorithm_of n; after = (n, tt); taken = refl; left = refl; learnt_so = refl }

pub algorithm_id_is_met : (x : EncryptionAlgorithm) → AlgorithmNumber x (algorithm_number x)
algorithm_id_is_met x = record { κ = tt; arguments = (x, tt); answer = algorithm_number x; after = (x, tt); taken = refl; left = refl; learnt_so = refl }

pub algorithm_writable_is_met : (x : EncryptionAlgorithm) → AlgorithmWritable x (writable_algorithm x)
unfolding writable_algorithm
algorithm_writable_is_met x = record { κ = tt; arguments = (x, tt); answer = writable_algorithm x; after = (x, tt); taken = refl; left = refl; learnt_so = refl }

-- ---- SpliceCommandType

abbrev pub CommandTypeFrom : ℕ → SpliceCommandType → Type 0
CommandTypeFrom x r = May command_type_from.Learnt {S = ℕ} {T = SpliceCommandType} (λ κ a. a.0) (λ κ r e. r) x r

pub command_type_from_so : (n : ℕ) (x : SpliceCommandType) → CommandTypeFrom n x → x ≡ command_type_of n
command_type_from_so n x d = sym d.left ∙ d.learnt_so ∙ ap command_type_of d.taken

abbrev pub CommandTypeNumber : SpliceCommandType → ℕ → Type 0
CommandTypeNumber x r = May command_type_id.Learnt {S = SpliceCommandType} {T = ℕ} (λ κ a. a.0) (λ κ r e. r) x r

pub command_type_number_so : (x : SpliceCommandType) (k : ℕ) → CommandTypeNumber x k → k ≡ command_number x
command_type_number_so x k d = sym d.left ∙ d.learnt_so ∙ ap command_number d.taken

abbrev pub CommandTypeWritable : SpliceCommandType → Bool → Type 0
CommandTypeWritable x r = May command_type_writable.Learnt {S = SpliceCommandType} {T = Bool} (λ κ a. a.0) (λ κ r e. r) x r

pub command_type_writable_so : (x : SpliceCommandType) (b : Bool) → CommandTypeWritable x b → b ≡ writable_command x
unfolding writable_command
command_type_writable_so x b d = sym d.left ∙ d.learnt_so ∙ ap writable_command d.taken

pub command_type_from_is_met : (n : ℕ) → CommandTypeFrom n (command_type_of n)
command_type_from_is_met n = record { κ = tt; arguments = (n, tt); answer = command_type_of n; after = (n, tt); taken = refl; left = refl; learnt_so = refl }

pub command_type_id_is_met : (x : SpliceCommandType) → CommandTypeNumber x (command_number x)
command_type_id_is_met x = record { κ = tt; arguments = (x, tt); answer = command_number x; after = (x, tt); taken = refl; left = refl; learnt_so = refl }

pub command_type_writable_is_met : (x : SpliceCommandType) → CommandTypeWritable x (writable_command x)
unfolding writable_command
command_type_writable_is_met x = record { κ = tt; arguments = (x, tt); answer = writable_command x; after = (x, tt); taken = refl; left = refl; learnt_so = refl }

-- ---- SegmentationUpidType

abbrev pub UpidTypeFrom : ℕ → SegmentationUpidType → Type 0
UpidTypeFrom x r = May upid_type_from.Learnt {S = ℕ} {T = SegmentationUpidType} (λ κ a. a.0) (λ κ r e. r) x r

pub upid_type_from_so : (n : ℕ) (x : SegmentationUpidType) → UpidTypeFrom n x → x ≡ upid_type_of n
upid_type_from_so n x d = sym d.left ∙ d.learnt_so ∙ ap upid_type_of d.taken

abbrev pub UpidTypeNumber : SegmentationUpidType → ℕ → Type 0
UpidTypeNumber x r = May upid_type_id.Learnt {S = SegmentationUpidType} {T = ℕ} (λ κ a. a.0) (λ κ r e. r) x r

pub upid_type_number_so : (x : SegmentationUpidType) (k : ℕ) → UpidTypeNumber x k → k ≡ upid_type_number x
upid_type_number_so x k d = sym d.left ∙ d.learnt_so ∙ ap upid_type_number d.taken

abbrev pub UpidTypeWritable : SegmentationUpidType → Bool → Type 0
UpidTypeWritable x r = May upid_type_writable.Learnt {S = SegmentationUpidType} {T = Bool} (λ κ a. a.0) (λ κ r e. r) x r

pub upid_type_writable_so : (x : SegmentationUpidType) (b : Bool) → UpidTypeWritable x b → b ≡ writable_upid_type x
unfolding writable_upid_type
upid_type_writable_so x b d = sym d.left ∙ d.learnt_so ∙ ap writable_upid_type d.taken

pub upid_type_from_is_met : (n : ℕ) → UpidTypeFrom n (upid_type_of n)
upid_type_from_is_met n = record { κ = tt; arguments = (n, tt); answer = upid_type_of n; after = (n, tt); taken = refl; left = refl; learnt_so = refl }

pub upid_type_id_is_met : (x : SegmentationUpidType) → UpidTypeNumber x (upid_type_number x)
upid_type_id_is_met x = record { κ = tt; arguments = (x, tt); answer = upid_type_number x; after = (x, tt); taken = refl; left = refl; learnt_so = refl }

pub upid_type_writable_is_met : (x : SegmentationUpidType) → UpidTypeWritable x (writable_upid_type x)
unfolding writable_upid_type
upid_type_writable_is_met x = record { κ = tt; arguments = (x, tt); answer = writable_upid_type x; after = (x, tt); taken = refl; left = refl; learnt_so = refl }

-- ---- SegmentationTypeId

abbrev pub SegmentationTypeFrom : ℕ → SegmentationTypeId → Type 0
SegmentationTypeFrom x r = May segmentation_type_from.Learnt {S = ℕ} {T = SegmentationTypeId} (λ κ a. a.0) (λ κ r e. r) x r

pub segmentation_type_from_so : (n : ℕ) (x : SegmentationTypeId) → SegmentationTypeFrom n x → x ≡ segmentation_type_of n
segmentation_type_from_so n x d = sym d.left ∙ d.learnt_so ∙ ap segmentation_type_of d.taken

abbrev pub SegmentationTypeNumber : SegmentationTypeId → ℕ → Type 0
SegmentationTypeNumber x r = May segmentation_type_id.Learnt {S = SegmentationTypeId} {T = ℕ} (λ κ a. a.0) (λ κ r e. r) x r

pub segmentation_type_number_so : (x : SegmentationTypeId) (k : ℕ) → SegmentationTypeNumber x k → k ≡ segmentation_number x
segmentation_type_number_so x k d = sym d.left ∙ d.learnt_so ∙ ap segmentation_number d.taken

abbrev pub SegmentationTypeWritable : SegmentationTypeId → Bool → Type 0
SegmentationTypeWritable x r = May segmentation_type_writable.Learnt {S = SegmentationTypeId} {T = Bool} (λ κ a. a.0) (λ κ r e. r) x r

pub segmentation_type_writable_so : (x : SegmentationTypeId) (b : Bool) → SegmentationTypeWritable x b → b ≡ writable_segmentation x
unfolding writable_segmentation
segmentation_type_writable_so x b d = sym d.left ∙ d.learnt_so ∙ ap writable_segmentation d.taken

pub segmentation_type_from_is_met : (n : ℕ) → SegmentationTypeFrom n (segmentation_type_of n)
segmentation_type_from_is_met n = record { κ = tt; arguments = (n, tt); answer = segmentation_type_of n; after = (n, tt); taken = refl; left = refl; learnt_so = refl }

pub segmentation_type_id_is_met : (x : SegmentationTypeId) → SegmentationTypeNumber x (segmentation_number x)
segmentation_type_id_is_met x = record { κ = tt; arguments = (x, tt); answer = segmentation_number x; after = (x, tt); taken = refl; left = refl; learnt_so = refl }

pub segmentation_type_writable_is_met : (x : SegmentationTypeId) → SegmentationTypeWritable x (writable_segmentation x)
unfolding writable_segmentation
segmentation_type_writable_is_met x = record { κ = tt; arguments = (x, tt); answer = writable_segmentation x; after = (x, tt); taken = refl; left = refl; learnt_so = refl }

-- ---- flags and restrictions; what is read, in 01's terms

flag_read : {A : Type 0} (o : Option A) → (r : Result A UnknownNumber) × (flag_answer r ≡ or_12 o)
flag_read none = (Err (record {}), refl)
flag_read (some x) = (Ok x, refl)

abbrev pub NetworkFrom : ℕ → Answer NetworkIndicator → Type 0
NetworkFrom n r = May network_from.Learnt {S = ℕ} {T = Answer NetworkIndicator} (λ κ a. a.0) (λ κ r e. flag_answer r) n r

pub network_from_so : (n : ℕ) (r : Answer NetworkIndicator) → NetworkFrom n r → r ≡ network_of n
network_from_so n r d = sym d.left ∙ d.learnt_so ∙ ap network_of d.taken

abbrev pub NetworkNumber : NetworkIndicator → ℕ → Type 0
NetworkNumber x k = May network_number.Learnt {S = NetworkIndicator} {T = ℕ} (λ κ a. a.0) (λ κ r e. r) x k

pub network_number_so : (x : NetworkIndicator) (k : ℕ) → NetworkNumber x k → k ≡ network_flag x
network_number_so x k d = sym d.left ∙ d.learnt_so ∙ ap network_flag d.taken

pub network_from_is_met : (n : ℕ) → NetworkFrom n (network_of n)
unfolding network_of
network_from_is_met n =
    let r = flag_read (name_of network_flag networks n) in
    record { κ = tt; arguments = (n, tt); answer = r.0; after = (n, tt); taken = refl; left = r.1; learnt_so = r.1 }

pub network_number_is_met : (x : NetworkIndicator) → NetworkNumber x (network_flag x)
network_number_is_met x = record { κ = tt; arguments = (x, tt); answer = network_flag x; after = (x, tt); taken = refl; left = refl; learnt_so = refl }

abbrev pub ReturnModeFrom : ℕ → Answer ReturnMode → Type 0
ReturnModeFrom n r = May return_mode_from.Learnt {S = ℕ} {T = Answer ReturnMode} (λ κ a. a.0) (λ κ r e. flag_answer r) n r

pub return_mode_from_so : (n : ℕ) (r : Answer ReturnMode) → ReturnModeFrom n r → r ≡ return_of n
return_mode_from_so n r d = sym d.left ∙ d.learnt_so ∙ ap return_of d.taken

abbrev pub ReturnModeNumber : ReturnMode → ℕ → Type 0
ReturnModeNumber x k = May return_mode_number.Learnt {S = ReturnMode} {T = ℕ} (λ κ a. a.0) (λ κ r e. r) x k

pub return_mode_number_so : (x : ReturnMode) (k : ℕ) → ReturnModeNumber x k → k ≡ return_flag x
return_mode_number_so x k d = sym d.left ∙ d.learnt_so ∙ ap return_flag d.taken

pub return_mode_from_is_met : (n : ℕ) → ReturnModeFrom n (return_of n)
unfolding return_of
return_mode_from_is_met n =
    let r = flag_read (name_of return_flag return_modes n) in
    record { κ = tt; arguments = (n, tt); answer = r.0; after = (n, tt); taken = refl; left = r.1; learnt_so = r.1 }

pub return_mode_number_is_met : (x : ReturnMode) → ReturnModeNumber x (return_flag x)
return_mode_number_is_met x = record { κ = tt; arguments = (x, tt); answer = return_flag x; after = (x, tt); taken = refl; left = refl; learnt_so = refl }

abbrev pub RestrictionsFrom : ℕ → Answer DeviceRestrictions → Type 0
RestrictionsFrom n r = May restrictions_from.Learnt {S = ℕ} {T = Answer DeviceRestrictions} (λ κ a. a.0) (λ κ r e. flag_answer r) n r

pub restrictions_from_so : (n : ℕ) (r : Answer DeviceRestrictions) → RestrictionsFrom n r → r ≡ restrictions_of n
restrictions_from_so n r d = sym d.left ∙ d.learnt_so ∙ ap restrictions_of d.taken

abbrev pub RestrictionsNumber : DeviceRestrictions → ℕ → Type 0
RestrictionsNumber x k = May restrictions_number.Learnt {S = DeviceRestrictions} {T = ℕ} (λ κ a. a.0) (λ κ r e. r) x k

pub restrictions_number_so : (x : DeviceRestrictions) (k : ℕ) → RestrictionsNumber x k → k ≡ restrictions_bits x
restrictions_number_so x k d = sym d.left ∙ d.learnt_so ∙ ap restrictions_bits d.taken

pub restrictions_from_is_met : (n : ℕ) → RestrictionsFrom n (restrictions_of n)
unfolding restrictions_of
restrictions_from_is_met n =
    let r = flag_read (name_of restrictions_bits restrictions n) in
    record { κ = tt; arguments = (n, tt); answer = r.0; after = (n, tt); taken = refl; left = r.1; learnt_so = r.1 }

pub restrictions_number_is_met : (x : DeviceRestrictions) → RestrictionsNumber x (restrictions_bits x)
restrictions_number_is_met x = record { κ = tt; arguments = (x, tt); answer = restrictions_bits x; after = (x, tt); taken = refl; left = refl; learnt_so = refl }
