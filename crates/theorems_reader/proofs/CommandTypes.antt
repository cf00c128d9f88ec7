-- Which types of a command are known.
--     unknown_is              a command is of an unknown type by its type alone
--     unknown_if, unknown_only_if
use Prim.Native.Nat.{ℕ}
use mathlib.Core.Bool.{Bool, true, false}
use mathlib.Core.List.{List}
use mathlib.Core.Path.{◌≡◌, refl, ap, sym, ◌∙◌}
use lib.Dec.{eqb}
use lib.ListN.{length}
use Rattle.command.specs.Command.{private, read, empty, by_type, command_of, number_of}
use Rattle.command.specs.Insert.{insert}
use Rattle.command.specs.declared.SpliceCommand.{SpliceCommand}
use Rattle.splice_time.specs.Time.{splice_time}
use Rattle.table.proofs.Lists.{zero_one}
use Rattle.table.specs.Bits.{pick, bits_of}
use Rattle.table.specs.Table.{Answer, got, short, parse}
use Rattle.std.proofs.Common.{Ok, Err, Result}
use Rattle.command.specs.declared.CommandRefusal.{CommandRefusal}

abbrev Unknown : Result SpliceCommand CommandRefusal → Bool
Unknown r = eqb (number_of r) 10

-- the reader of a known type refuses its payload by 11 only
empty_known : (c : SpliceCommand) (payload : List ℕ) → Unknown (empty c payload) ≡ false
empty_known c payload = go (eqb (length payload) 0)
  where
    go : (none : Bool) → Unknown (pick none (Ok c) (Err CommandRefusal.Malformed)) ≡ false
    go true = refl
    go false = refl

read_known : {X : Type 0} (f : X → SpliceCommand) (r : Answer X) → Unknown (read f r) ≡ false
read_known f (got x at) = refl
read_known f (short expected actual) = refl

chain : (b₀ b₅ b₆ b₇ b₈ : Bool) (r₀ r₅ r₆ r₇ r₈ : Result SpliceCommand CommandRefusal) → Unknown r₀ ≡ false → Unknown r₅ ≡ false → Unknown r₆ ≡ false → Unknown r₇ ≡ false → Unknown r₈ ≡ false
    → Unknown (pick b₀ r₀ (pick b₅ r₅ (pick b₆ r₆ (pick b₇ r₇ (pick b₈ r₈ (Err CommandRefusal.UnknownType)))))) ≡ pick b₀ false (pick b₅ false (pick b₆ false (pick b₇ false (pick b₈ false true))))
chain true b₅ b₆ b₇ b₈ r₀ r₅ r₆ r₇ r₈ e₀ e₅ e₆ e₇ e₈ = e₀
chain false true b₆ b₇ b₈ r₀ r₅ r₆ r₇ r₈ e₀ e₅ e₆ e₇ e₈ = e₅
chain false false true b₇ b₈ r₀ r₅ r₆ r₇ r₈ e₀ e₅ e₆ e₇ e₈ = e₆
chain false false false true b₈ r₀ r₅ r₆ r₇ r₈ e₀ e₅ e₆ e₇ e₈ = e₇
chain false false false false true r₀ r₅ r₆ r₇ r₈ e₀ e₅ e₆ e₇ e₈ = e₈
chain false false false false false r₀ r₅ r₆ r₇ r₈ e₀ e₅ e₆ e₇ e₈ = refl

pub unknown_is : (command_type : ℕ) (payload : List ℕ) → eqb (number_of (command_of command_type payload)) 10 ≡ by_type command_type false false false false false true
unfolding command_of
unknown_is command_type payload =
    chain (eqb command_type 0x00) (eqb command_type 0x05) (eqb command_type 0x06) (eqb command_type 0x07) (eqb command_type 0xff) _ _ _ _ _ (empty_known SpliceCommand.SpliceNull payload)
    (read_known (λ x. SpliceCommand.SpliceInsert x.value) (parse insert (bits_of payload) 0)) (read_known SpliceCommand.TimeSignal (parse splice_time (bits_of payload) 0))
    (empty_known SpliceCommand.BandwidthReservation payload) (read_known SpliceCommand.PrivateCommand (parse private (bits_of payload) 0))

-- and 10 is the number of that answer only
ten_is : (r : Result SpliceCommand CommandRefusal) → Unknown r ≡ true → r ≡ Err CommandRefusal.UnknownType
ten_is (Ok c) e = zero_one cc
ten_is (Err CommandRefusal.UnknownType) e = refl
ten_is (Err CommandRefusal.Malformed) e = zero_one cc

pub unknown_if : (command_type : ℕ) (payload : List ℕ) → by_type command_type false false false false false true ≡ true → command_of command_type payload ≡ Err CommandRefusal.UnknownType
unknown_if command_type payload e = ten_is (command_of command_type payload) (unknown_is command_type payload ∙ e)

pub unknown_only_if : (command_type : ℕ) (payload : List ℕ) → command_of command_type payload ≡ Err CommandRefusal.UnknownType → by_type command_type false false false false false true ≡ true
unknown_only_if command_type payload e = sym (unknown_is command_type payload) ∙ ap Unknown e
