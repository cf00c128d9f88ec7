-- The functions that replace an identifier fix their answers and their target's later bytes, and ask nothing of the caller, as FixedAnswers.antt has it of the
-- readers.
use Rattle.bit_stores.specs.Written.{answer_of, later_of}
use Rattle.c_command_writer.specs.Words.{flat_written}
use Rattle.relabel.specs.Relabel.{relabel_made}
use Rattle.relabel_found.specs.Found.{spots}
use Rattle.relabel_payload.specs.Payload.{upid_head}
use Rattle.relabel_upid.specs.Relabel.{up_to, upid_made}
use Rattle.relabel.proofs.relabel.Reads as relabel
use Rattle.relabel_found.proofs.spots_active.Reads as spots_active
use Rattle.relabel_found.proofs.upid_head.Reads as upid_head
use Rattle.relabel_upid.proofs.relabel_upid.Reads as relabel_upid
use Rattle.scte35.proofs.relabelling.scte35_relabel.Reads as scte35_relabel
use Rattle.theorems_fixed.specs.FixedAnswers.{Answers}

pub spots_active_answers : Answers spots_active.Asked spots_active.Learnt (λ κ r e. r) (λ κ a. spots a.0.now a.1.0)
spots_active_answers = record { takes_any = λ κ a. tt; is = λ κ a r e l. l }

pub upid_head_answers : Answers upid_head.Asked upid_head.Learnt (λ κ r e. r) (λ κ a. upid_head a.0.now)
upid_head_answers = record { takes_any = λ κ a. tt; is = λ κ a r e l. l }

pub relabel_upid_answers : Answers relabel_upid.Asked relabel_upid.Learnt (λ κ r e. r) (λ κ a. answer_of (up_to a.1.1.1.1.1.0 (upid_made a.0 a.1.0.now a.1.1.0 a.1.1.1.0 a.1.1.1.1.0.now)) a.1.1.1.1.1.1.0.now)
relabel_upid_answers = record { takes_any = λ κ a. tt; is = λ κ a r e l. l.0 }

pub relabel_upid_leaves : Answers relabel_upid.Asked relabel_upid.Learnt (λ κ r e. e.1.1.1.1.1.1.0.now) (λ κ a. later_of (up_to a.1.1.1.1.1.0 (upid_made a.0 a.1.0.now a.1.1.0 a.1.1.1.0 a.1.1.1.1.0.now)) a.1.1.1.1.1.1.0.now)
relabel_upid_leaves = record { takes_any = λ κ a. tt; is = λ κ a r e l. l.1 }

pub relabel_answers : Answers relabel.Asked relabel.Learnt (λ κ r e. r) (λ κ a. answer_of (relabel_made a.0.now a.1.0 a.1.1.0 a.1.1.1.0 a.1.1.1.1.0.now) a.1.1.1.1.1.0.now)
relabel_answers = record { takes_any = λ κ a. tt; is = λ κ a r e l. l.0 }

pub relabel_leaves : Answers relabel.Asked relabel.Learnt (λ κ r e. e.1.1.1.1.1.0.now) (λ κ a. later_of (relabel_made a.0.now a.1.0 a.1.1.0 a.1.1.1.0 a.1.1.1.1.0.now) a.1.1.1.1.1.0.now)
relabel_leaves = record { takes_any = λ κ a. tt; is = λ κ a r e l. l.1 }

pub scte35_relabel_answers : Answers scte35_relabel.Asked scte35_relabel.Learnt (λ κ r e. r) (λ κ a. flat_written (answer_of (relabel_made a.0.now a.1.0 a.1.1.0 a.1.1.1.0 a.1.1.1.1.0.now) a.1.1.1.1.1.0.now))
scte35_relabel_answers = record { takes_any = λ κ a. tt; is = λ κ a r e l. l.0 }

pub scte35_relabel_leaves : Answers scte35_relabel.Asked scte35_relabel.Learnt (λ κ r e. e.1.1.1.1.1.0.now) (λ κ a. later_of (relabel_made a.0.now a.1.0 a.1.1.0 a.1.1.1.0 a.1.1.1.1.0.now) a.1.1.1.1.1.0.now)
scte35_relabel_leaves = record { takes_any = λ κ a. tt; is = λ κ a r e l. l.1 }
