-- The number of the C boundary is one number, as FixedAtBoundary.antt has it of the other functions there.
use Rattle.scte35.proofs.abi.scte35_abi.Reads as scte35_abi
use Rattle.theorems_fixed.specs.FixedAnswers.{Answers}

pub scte35_abi_answers : Answers scte35_abi.Asked scte35_abi.Learnt (λ κ r e. r) (λ κ a. 1)
scte35_abi_answers = record { takes_any = λ κ a. tt; is = λ κ a r e l. l }
