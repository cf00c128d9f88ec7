-- Every public function that reads or writes lines of playlists (Q-1) fixes its answer and its target's later bytes, and asks nothing of the caller, as
-- FixedAnswers.antt has it of the readers.
use Prim.Native.Nat.{ℕ, ◌+◌}
use denote.Param.Laws.{Laws}
use denote.RattleType.{RattleType}
use lib.ListN.{drop}
use mathlib.Core.List.{Mem}
use mir.Syntax.{Dict}
use Rattle.std.specs.List.{prefix_len}
use Rattle.attribute_list.specs.Cutting.{same, cut_of}
use Rattle.attribute_list.specs.declared.bytes.Class.{Ghosts}
use Rattle.daterange_line.specs.Reading.{number_of, read_of, read_later}
use Rattle.daterange_writer.specs.Writing.{line_made}
use Rattle.daterange.specs.Choice.{daterange_made}
use Rattle.c_daterange.specs.FlatDaterange.{flat_daterange, flat_line}
use Rattle.c_command_writer.specs.Words.{flat_written}
use Rattle.bit_stores.specs.Written.{answer_of, later_of}
use Rattle.attribute_list.proofs.bytes.past.Reads as past
use Rattle.attribute_list.proofs.bytes.run.Reads as run
use Rattle.attribute_list.proofs.bytes.same_bytes.Reads as same_bytes
use Rattle.attribute_list.proofs.cutting.cut_at.Reads as cut_at
use Rattle.daterange_line.proofs.LineRefusal.number.Reads as line_number
use Rattle.daterange_line.proofs.read_line.Reads as read_line
use Rattle.daterange_writer.proofs.write_line.Reads as write_line
use Rattle.daterange.proofs.write_daterange.Reads as write_daterange
use Rattle.c_daterange.proofs.flat_line.Reads as flat_line
use Rattle.c_daterange.proofs.flat_daterange.Reads as flat_daterange
use Rattle.scte35.proofs.playlist.scte35_write_daterange.Reads as scte35_write_daterange
use Rattle.scte35.proofs.playlist.scte35_read_daterange.Reads as scte35_read_daterange
use Rattle.theorems_fixed.specs.FixedAnswers.{Answers}

-- of any set of bytes: a type of the trait `Class`, which has the set's test and borrows nothing
module _ (T : RattleType) (L : Laws T) (C : Ghosts T.Denot) (D : Dict) (free : (l : ℕ) → Mem l T.lives → ⊥) where
  pub run_answers : Answers (run.Asked T L C D) (run.Learnt T L C D) (λ κ r e. r) (λ κ a. prefix_len C.test a.0.now)
  run_answers = record { takes_any = λ κ a l m. absurd (free l m); is = λ κ a r e l. l }

  pub past_answers : Answers (past.Asked T L C D) (past.Learnt T L C D) (λ κ r e. r) (λ κ a. a.1.0 + prefix_len C.test (drop a.1.0 a.0.now))
  past_answers = record { takes_any = λ κ a l m. absurd (free l m); is = λ κ a r e l. l }

pub same_bytes_answers : Answers same_bytes.Asked same_bytes.Learnt (λ κ r e. r) (λ κ a. same a.0.now a.1.0.now)
same_bytes_answers = record { takes_any = λ κ a. tt; is = λ κ a r e l. l }

pub cut_at_answers : Answers cut_at.Asked cut_at.Learnt (λ κ r e. r) (λ κ a. cut_of (drop a.1.0 a.0.now))
cut_at_answers = record { takes_any = λ κ a. tt; is = λ κ a r e l. l.0 }

pub line_number_answers : Answers line_number.Asked line_number.Learnt (λ κ r e. r) (λ κ a. number_of a.0)
line_number_answers = record { takes_any = λ κ a. tt; is = λ κ a r e l. l }

pub read_line_answers : Answers read_line.Asked read_line.Learnt (λ κ r e. r) (λ κ a. read_of a.0.now a.1.0.now)
read_line_answers = record { takes_any = λ κ a. tt; is = λ κ a r e l. l.0 }

pub read_line_leaves : Answers read_line.Asked read_line.Learnt (λ κ r e. e.1.0.now) (λ κ a. read_later a.0.now a.1.0.now)
read_line_leaves = record { takes_any = λ κ a. tt; is = λ κ a r e l. l.1 }

pub write_line_answers : Answers write_line.Asked write_line.Learnt (λ κ r e. r) (λ κ a. answer_of (line_made a.0.now a.1.0 a.1.1.0.now a.1.1.1.0.now) a.1.1.1.1.0.now)
write_line_answers = record { takes_any = λ κ a. tt; is = λ κ a r e l. l.0 }

pub write_line_leaves : Answers write_line.Asked write_line.Learnt (λ κ r e. e.1.1.1.1.0.now) (λ κ a. later_of (line_made a.0.now a.1.0 a.1.1.0.now a.1.1.1.0.now) a.1.1.1.1.0.now)
write_line_leaves = record { takes_any = λ κ a. tt; is = λ κ a r e l. l.1 }

pub write_daterange_answers : Answers write_daterange.Asked write_daterange.Learnt (λ κ r e. r) (λ κ a. answer_of (daterange_made a.0.now a.1.0.now a.1.1.0.now) a.1.1.1.0.now)
write_daterange_answers = record { takes_any = λ κ a. tt; is = λ κ a r e l. l.0 }

pub write_daterange_leaves : Answers write_daterange.Asked write_daterange.Learnt (λ κ r e. e.1.1.1.0.now) (λ κ a. later_of (daterange_made a.0.now a.1.0.now a.1.1.0.now) a.1.1.1.0.now)
write_daterange_leaves = record { takes_any = λ κ a. tt; is = λ κ a r e l. l.1 }

pub flat_daterange_answers : Answers flat_daterange.Asked flat_daterange.Learnt (λ κ r e. r) (λ κ a. flat_daterange a.0)
flat_daterange_answers = record { takes_any = λ κ a. tt; is = λ κ a r e l. l }

pub flat_line_answers : Answers flat_line.Asked flat_line.Learnt (λ κ r e. r) (λ κ a. flat_line a.0)
flat_line_answers = record { takes_any = λ κ a. tt; is = λ κ a r e l. l }

pub scte35_write_daterange_answers : Answers scte35_write_daterange.Asked scte35_write_daterange.Learnt (λ κ r e. r) (λ κ a. flat_written (answer_of (daterange_made (drop a.1.0 a.0.now) a.1.1.0.now a.1.1.1.0.now) a.1.1.1.1.0.now))
scte35_write_daterange_answers = record { takes_any = λ κ a. tt; is = λ κ a r e l. l.0 }

pub scte35_write_daterange_leaves : Answers scte35_write_daterange.Asked scte35_write_daterange.Learnt (λ κ r e. e.1.1.1.1.0.now) (λ κ a. later_of (daterange_made (drop a.1.0 a.0.now) a.1.1.0.now a.1.1.1.0.now) a.1.1.1.1.0.now)
scte35_write_daterange_leaves = record { takes_any = λ κ a. tt; is = λ κ a r e l. l.1 }

pub scte35_read_daterange_answers : Answers scte35_read_daterange.Asked scte35_read_daterange.Learnt (λ κ r e. r) (λ κ a. flat_line (read_of (drop a.1.0 a.0.now) a.1.1.0.now))
scte35_read_daterange_answers = record { takes_any = λ κ a. tt; is = λ κ a r e l. l.0 }

pub scte35_read_daterange_leaves : Answers scte35_read_daterange.Asked scte35_read_daterange.Learnt (λ κ r e. e.1.1.0.now) (λ κ a. read_later (drop a.1.0 a.0.now) a.1.1.0.now)
scte35_read_daterange_leaves = record { takes_any = λ κ a. tt; is = λ κ a r e l. l.1 }
