-- The adjustments of Q-12 fix their answers and their target's later bytes, and ask nothing of the caller, as FixedAnswers.antt has it of the readers.
use lib.ListN.{drop}
use Rattle.adjust.specs.Adjust.{adjust_of, chain_of, undo_of}
use Rattle.adjust_section.specs.Adjusted.{adjusted_section}
use Rattle.c_adjust.specs.FlatAdjust.{flat_adjustment, flat_moved}
use Rattle.c_command_writer.specs.Words.{flat_written}
use Rattle.bit_stores.specs.Written.{answer_of, later_of}
use Rattle.scte35.specs.FlatNumber.{time_handed}
use Rattle.adjust.proofs.adjust.Reads as adjust
use Rattle.adjust.proofs.chain.Reads as chain
use Rattle.adjust.proofs.undo.Reads as undo
use Rattle.adjust_section.proofs.adjust_section.Reads as adjust_section
use Rattle.c_adjust.proofs.flat_moved.Reads as flat_moved
use Rattle.c_adjust.proofs.flat_adjustment.Reads as flat_adjustment
use Rattle.scte35.proofs.adjusting.scte35_move_time.Reads as scte35_move_time
use Rattle.scte35.proofs.adjusting.scte35_chain_adjustments.Reads as scte35_chain_adjustments
use Rattle.scte35.proofs.adjusting.scte35_undo_adjustment.Reads as scte35_undo_adjustment
use Rattle.scte35.proofs.adjusting.scte35_adjust_section.Reads as scte35_adjust_section
use Rattle.theorems_fixed.specs.FixedAnswers.{Answers}

pub adjust_answers : Answers adjust.Asked adjust.Learnt (λ κ r e. r) (λ κ a. adjust_of a.0 a.1.0)
adjust_answers = record { takes_any = λ κ a. tt; is = λ κ a r e l. l }

pub chain_answers : Answers chain.Asked chain.Learnt (λ κ r e. r) (λ κ a. chain_of a.0 a.1.0)
chain_answers = record { takes_any = λ κ a. tt; is = λ κ a r e l. l }

pub undo_answers : Answers undo.Asked undo.Learnt (λ κ r e. r) (λ κ a. undo_of a.0)
undo_answers = record { takes_any = λ κ a. tt; is = λ κ a r e l. l }

pub adjust_section_answers : Answers adjust_section.Asked adjust_section.Learnt (λ κ r e. r) (λ κ a. answer_of (adjusted_section a.0.now a.1.0) a.1.1.0.now)
adjust_section_answers = record { takes_any = λ κ a. tt; is = λ κ a r e l. l.0 }

pub adjust_section_leaves : Answers adjust_section.Asked adjust_section.Learnt (λ κ r e. e.1.1.0.now) (λ κ a. later_of (adjusted_section a.0.now a.1.0) a.1.1.0.now)
adjust_section_leaves = record { takes_any = λ κ a. tt; is = λ κ a r e l. l.1 }

pub flat_moved_answers : Answers flat_moved.Asked flat_moved.Learnt (λ κ r e. r) (λ κ a. flat_moved a.0 a.1.0)
flat_moved_answers = record { takes_any = λ κ a. tt; is = λ κ a r e l. l }

pub flat_adjustment_answers : Answers flat_adjustment.Asked flat_adjustment.Learnt (λ κ r e. r) (λ κ a. flat_adjustment a.0)
flat_adjustment_answers = record { takes_any = λ κ a. tt; is = λ κ a r e l. l }

pub scte35_move_time_answers : Answers scte35_move_time.Asked scte35_move_time.Learnt (λ κ r e. r) (λ κ a. flat_moved a.0 (adjust_of (time_handed a.0 a.1.0) a.1.1.0))
scte35_move_time_answers = record { takes_any = λ κ a. tt; is = λ κ a r e l. l }

pub scte35_chain_adjustments_answers : Answers scte35_chain_adjustments.Asked scte35_chain_adjustments.Learnt (λ κ r e. r) (λ κ a. flat_adjustment (chain_of a.0 a.1.0))
scte35_chain_adjustments_answers = record { takes_any = λ κ a. tt; is = λ κ a r e l. l }

pub scte35_undo_adjustment_answers : Answers scte35_undo_adjustment.Asked scte35_undo_adjustment.Learnt (λ κ r e. r) (λ κ a. flat_adjustment (undo_of a.0))
scte35_undo_adjustment_answers = record { takes_any = λ κ a. tt; is = λ κ a r e l. l }

pub scte35_adjust_section_answers : Answers scte35_adjust_section.Asked scte35_adjust_section.Learnt (λ κ r e. r) (λ κ a. flat_written (answer_of (adjusted_section (drop a.1.0 a.0.now) a.1.1.0) a.1.1.1.0.now))
scte35_adjust_section_answers = record { takes_any = λ κ a. tt; is = λ κ a r e l. l.0 }

pub scte35_adjust_section_leaves : Answers scte35_adjust_section.Asked scte35_adjust_section.Learnt (λ κ r e. e.1.1.1.0.now) (λ κ a. later_of (adjusted_section (drop a.1.0 a.0.now) a.1.1.0) a.1.1.1.0.now)
scte35_adjust_section_leaves = record { takes_any = λ κ a. tt; is = λ κ a r e l. l.1 }
