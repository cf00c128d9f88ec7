-- The values of numbers go by their tables, and nothing else does: one law over the table.
use Prim.Native.Nat.{ℕ}
use mathlib.Core.Bool.{Bool, true, false, cond as pick}
use mathlib.Core.List.{List, [], ◌∷◌}
use mathlib.Core.Logic.{⊎_elim}
use mathlib.Core.Option.{Option, none, some}
use mathlib.Core.Path.{◌≡◌, refl, ap, sym, ◌∙◌}
use native.Mathlib.Omega.{arith}
use lib.Dec.{eqb, ltb}
use borrow.Author.Tests.{eqb-true}
use denote.Enum.Declared.{tag_of}
use Rattle.descriptor.specs.Segmentation.{device_of}
use Rattle.names.proofs.Algorithms as algorithm
use Rattle.names.proofs.Commands as command
use Rattle.names.proofs.Laws.{Sound, all_named, inverse}
use Rattle.names.proofs.Segmentations as segmentation
use Rattle.names.proofs.Upids as upid
use Rattle.names.specs.contracts.algorithm.EncryptionAlgorithm as declared_algorithm
use Rattle.names.specs.contracts.command.SpliceCommandType as declared_command
use Rattle.names.specs.contracts.segmentation.SegmentationTypeId as declared_segmentation
use Rattle.names.specs.contracts.upid.SegmentationUpidType as declared_upid
use Rattle.names.specs.Algorithm.{algorithm_entry, other_algorithm, algorithms, algorithm_of, writable_algorithm}
use Rattle.names.specs.Command.{command_entry, commands, command_type_of, writable_command}
use Rattle.names.specs.Flags.{restrictions_bits, restrictions_of}
use Rattle.names.specs.Numbering.{Numbering, number_in, class_in, named, name_of, or, value_of, writable}
use Rattle.names.specs.Segmentation.{segmentation_entry, segmentations, segmentation_type_of, writable_segmentation}
use Rattle.names.specs.Upid.{upid_type_entry, upid_types, upid_type_of, writable_upid_type}
use Rattle.names.specs.declared.algorithm.EncryptionAlgorithm.{EncryptionAlgorithm}
use Rattle.names.specs.declared.command.SpliceCommandType.{SpliceCommandType}
use Rattle.names.specs.declared.flags.DeviceRestrictions.{DeviceRestrictions}
use Rattle.names.specs.declared.segmentation.SegmentationTypeId.{SegmentationTypeId}
use Rattle.names.specs.declared.upid.SegmentationUpidType.{SegmentationUpidType}
use Rattle.table.proofs.Lists.{zero_one, and_true}
use Rattle.theorems_reader.specs.Numbers.{GoesBy, OnlyBy}

-- ---- what a list of names has under a number
module _ {A : Type 0} (number class : A → ℕ) (n : ℕ) where
  -- the name that is found has the number
  found : (xs : List A) → all_named class xs ≡ true → (x : A) → name_of number xs n ≡ some x → (number x ≡ n) × (class x ≡ named)
  found [] a x e = zero_one cc
  found (y ∷ ys) a x e = go (eqb n (number y)) refl (found ys (and_true (eqb (class y) named) _ a).1 x) e
    where
      go : (b : Bool) → eqb n (number y) ≡ b → (name_of number ys n ≡ some x → (number x ≡ n) × (class x ≡ named)) → pick b (some y) (name_of number ys n) ≡ some x
          → (number x ≡ n) × (class x ≡ named)
      go true t later f =
          let z : y ≡ x = cc in
          rw (← z) (sym (eqb-true n (number y) t), eqb-true (class y) named (and_true (eqb (class y) named) _ a).0)
      go false t later f = later f

  -- none is found where no name has it
  missing : (xs : List A) → all_named class xs ≡ true → ((x : A) → class x ≡ named → number x ≡ n → ⊥) → name_of number xs n ≡ none
  missing [] a h = refl
  missing (y ∷ ys) a h = go (eqb n (number y)) refl (missing ys (and_true (eqb (class y) named) _ a).1 h)
    where
      go : (b : Bool) → eqb n (number y) ≡ b → name_of number ys n ≡ none → pick b (some y) (name_of number ys n) ≡ none
      go true t later = absurd (h y (eqb-true (class y) named (and_true (eqb (class y) named) _ a).0) (sym (eqb-true n (number y) t)))
      go false t later = later

-- ---- one law over the table. A number without a name stands for a value that is no name
module _ {A : Type 0} (T : Numbering A) (tag : A → ℕ) (s : Sound T tag) (carried : (n : ℕ) → class_in T (T.others n) ≡ named → ⊥) where
  name_back : (x : A) → class_in T x ≡ named → value_of T (number_in T x) ≡ x
  name_back x e = ⊎_elim (λ m. m.0) (λ c. absurd (c.0.0 e)) (s.split x)

  by_table : GoesBy T.entry T.others (value_of T)
  by_table = record { names = name_back; rest = λ n h. ap (λ o. or o (T.others n)) (missing (number_in T) (class_in T) n T.names s.listed h) }

  -- no name has a number under which none is found
  unnamed : (n : ℕ) → name_of (number_in T) T.names n ≡ none → (x : A) → class_in T x ≡ named → number_in T x ≡ n → ⊥
  unnamed n e x k h =
      let z : T.others n ≡ x = ap (λ o. or o (T.others n)) (sym e) ∙ ap (value_of T) (sym h) ∙ name_back x k in
      carried n (ap (class_in T) z ∙ k)

  one_value : (f : ℕ → A) → GoesBy T.entry T.others f → (n : ℕ) → f n ≡ value_of T n
  one_value f g n = go (name_of (number_in T) T.names n) refl
    where
      go : (o : Option A) → name_of (number_in T) T.names n ≡ o → f n ≡ or o (T.others n)
      go none e = g.rest n (unnamed n e)
      go (some x) e =
          let h = found (number_in T) (class_in T) n T.names s.listed x e in
          ap f (sym h.0) ∙ g.names x h.1

  only_by_table : OnlyBy T.entry T.others (value_of T) (writable T)
  only_by_table = let i = inverse T tag s in record { goes = by_table; only = one_value; own = i.back; writably = i.only }

-- ---- the four tables
algorithm_carried : (b : Bool) (n : ℕ) → class_in algorithms (pick b (EncryptionAlgorithm.Reserved n) (EncryptionAlgorithm.Private n)) ≡ named → ⊥
algorithm_carried true n e = omega arith
algorithm_carried false n e = omega arith

pub algorithms_by : OnlyBy algorithm_entry other_algorithm algorithm_of writable_algorithm
unfolding algorithm_of writable_algorithm
algorithms_by = only_by_table algorithms (tag_of declared_algorithm.the_type) algorithm.sound (λ n e. algorithm_carried (ltb n 32) n e)

pub commands_by : OnlyBy command_entry SpliceCommandType.Reserved command_type_of writable_command
unfolding command_type_of writable_command
commands_by = only_by_table commands (tag_of declared_command.the_type) command.sound (λ n e. omega arith)

pub upid_types_by : OnlyBy upid_type_entry SegmentationUpidType.Reserved upid_type_of writable_upid_type
unfolding upid_type_of writable_upid_type
upid_types_by = only_by_table upid_types (tag_of declared_upid.the_type) upid.sound (λ n e. omega arith)

pub segmentations_by : OnlyBy segmentation_entry SegmentationTypeId.Reserved segmentation_type_of writable_segmentation
unfolding segmentation_type_of writable_segmentation
segmentations_by = only_by_table segmentations (tag_of declared_segmentation.the_type) segmentation.sound (λ n e. omega arith)

-- ---- device_restrictions: each number of two bits has a name
pub device_by : (d : DeviceRestrictions) → device_of (restrictions_bits d) ≡ d
unfolding device_of restrictions_of
device_by DeviceRestrictions.RestrictGroup0 = refl
device_by DeviceRestrictions.RestrictGroup1 = refl
device_by DeviceRestrictions.RestrictGroup2 = refl
device_by DeviceRestrictions.None = refl
