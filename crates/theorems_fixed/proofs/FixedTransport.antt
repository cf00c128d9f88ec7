-- Every public function of the assembler of transport packets fixes its answer, and the later words of its state and bytes of its buffer, and asks
-- nothing of the caller, as FixedAnswers.antt has it of the readers.
use mathlib.Core.Path.{ap}
use Prim.Native.Nat.{◌%◌, ◌*◌, ◌+◌}
use lib.ListN.{drop}
use Rattle.c_packet.specs.PacketWords.{fed_number, kept_fed, kept_in, kept_taken, state_in, taken_number}
use Rattle.transport.specs.Assembler.{TakenTo, fed_answer, fed_of, fed_state, fresh_assembler, taken_of}
use Rattle.transport_packet.specs.Packet.{head_of, number_of}
use Rattle.transport_packet.specs.Sections.{cut, next_by, next_of}
use Rattle.transport_packet.proofs.packet.Refusal.number.Reads as packet_refusal_number
use Rattle.transport_packet.proofs.packet.read_head.Reads as read_head
use Rattle.transport_packet.proofs.sections.next_by.Reads as next_by_lem
use Rattle.transport_packet.proofs.sections.length_of.Reads as length_of_lem
use Rattle.transport_packet.proofs.sections.next_at.Reads as next_at_lem
use Rattle.transport_packet.proofs.sections.any_long.Reads as any_long
use Rattle.transport.proofs.Assembler.new.Reads as assembler_new
use Rattle.transport.proofs.Assembler.feed.Reads as feed
use Rattle.transport.proofs.Assembler.take.Reads as take_section
use Rattle.c_packet.proofs.start_words.Reads as start_words
use Rattle.c_packet.proofs.feed_words.Reads as feed_words
use Rattle.c_packet.proofs.take_words.Reads as take_words
use Rattle.scte35.proofs.packet.scte35_packet_start.Reads as scte35_packet_start
use Rattle.scte35.proofs.packet.scte35_packet_feed.Reads as scte35_packet_feed
use Rattle.scte35.proofs.packet.scte35_packet_take.Reads as scte35_packet_take
use Rattle.theorems_fixed.specs.FixedAnswers.{Answers}

-- ---- transport_packet: one packet

pub packet_refusal_number_answers : Answers packet_refusal_number.Asked packet_refusal_number.Learnt (λ κ r e. r) (λ κ a. number_of a.0)
packet_refusal_number_answers = record { takes_any = λ κ a. tt; is = λ κ a r e l. l }

pub read_head_answers : Answers read_head.Asked read_head.Learnt (λ κ r e. r) (λ κ a. head_of a.0 a.1.0.now)
read_head_answers = record { takes_any = λ κ a. tt; is = λ κ a r e l. l }

pub next_by_answers : Answers next_by_lem.Asked next_by_lem.Learnt (λ κ r e. r) (λ κ a. next_by a.0 a.1.0 a.1.1.0)
next_by_answers = record { takes_any = λ κ a. tt; is = λ κ a r e l. l }

pub length_of_answers : Answers length_of_lem.Asked length_of_lem.Learnt (λ κ r e. r) (λ κ a. a.0 % 16 * 256 + a.1.0)
length_of_answers = record { takes_any = λ κ a. tt; is = λ κ a r e l. l.0 }

pub next_at_answers : Answers next_at_lem.Asked next_at_lem.Learnt (λ κ r e. r) (λ κ a. next_of (drop a.1.0 a.0.now))
next_at_answers = record { takes_any = λ κ a. tt; is = λ κ a r e l. l }

pub any_long_answers : Answers any_long.Asked any_long.Learnt (λ κ r e. r) (λ κ a. (cut (drop a.1.0 a.0.now)).long)
any_long_answers = record { takes_any = λ κ a. tt; is = λ κ a r e l. l }

-- ---- transport: the assembler, which is the first of what may change, the buffer the last. What `take` promises is one equation.

pub assembler_new_answers : Answers assembler_new.Asked assembler_new.Learnt (λ κ r e. r) (λ κ a. fresh_assembler a.0)
assembler_new_answers = record { takes_any = λ κ a. tt; is = λ κ a r e l. l }

pub feed_answers : Answers feed.Asked feed.Learnt (λ κ r e. r) (λ κ a. fed_answer (fed_of a.0.now a.1.0.now a.1.1.0.now).answer)
feed_answers = record { takes_any = λ κ a. tt; is = λ κ a r e l. l.0 }

pub feed_leaves_the_state : Answers feed.Asked feed.Learnt (λ κ r e. e.0.now) (λ κ a. fed_state a.0.now (fed_of a.0.now a.1.0.now a.1.1.0.now).answer)
feed_leaves_the_state = record { takes_any = λ κ a. tt; is = λ κ a r e l. l.1.0 }

pub feed_leaves : Answers feed.Asked feed.Learnt (λ κ r e. e.1.1.0.now) (λ κ a. (fed_of a.0.now a.1.0.now a.1.1.0.now).buffer)
feed_leaves = record { takes_any = λ κ a. tt; is = λ κ a r e l. l.1.1 }

pub take_section_answers : Answers take_section.Asked take_section.Learnt (λ κ r e. r) (λ κ a. (taken_of a.0.now a.1.0.now a.1.1.0.now).answer.0)
take_section_answers = record { takes_any = λ κ a. tt; is = λ κ a r e l. ap (λ (z : TakenTo). z.answer.0) (l) }

pub take_section_leaves_the_state : Answers take_section.Asked take_section.Learnt (λ κ r e. e.0.now) (λ κ a. (taken_of a.0.now a.1.0.now a.1.1.0.now).answer.1)
take_section_leaves_the_state = record { takes_any = λ κ a. tt; is = λ κ a r e l. ap (λ (z : TakenTo). z.answer.1) (l) }

pub take_section_leaves : Answers take_section.Asked take_section.Learnt (λ κ r e. e.1.1.0.now) (λ κ a. (taken_of a.0.now a.1.0.now a.1.1.0.now).buffer)
take_section_leaves = record { takes_any = λ κ a. tt; is = λ κ a r e l. ap (λ (z : TakenTo). z.buffer) (l) }

-- ---- c_packet: the assembler over words. Its state is the first of what may change, the buffer the last.

pub start_words_leaves : Answers start_words.Asked start_words.Learnt (λ κ r e. e.1.0.now) (λ κ a. kept_in a.1.0.now (fresh_assembler a.0))
start_words_leaves = record { takes_any = λ κ a. tt; is = λ κ a r e l. l }

pub feed_words_answers : Answers feed_words.Asked feed_words.Learnt (λ κ r e. r) (λ κ a. fed_number (fed_of (state_in a.0.now) a.1.0.now a.1.1.0.now).answer)
feed_words_answers = record { takes_any = λ κ a. tt; is = λ κ a r e l. l.0 }

pub feed_words_leaves_the_state : Answers feed_words.Asked feed_words.Learnt (λ κ r e. e.0.now) (λ κ a. kept_fed a.0.now (fed_of (state_in a.0.now) a.1.0.now a.1.1.0.now).answer)
feed_words_leaves_the_state = record { takes_any = λ κ a. tt; is = λ κ a r e l. l.1.0 }

pub feed_words_leaves : Answers feed_words.Asked feed_words.Learnt (λ κ r e. e.1.1.0.now) (λ κ a. (fed_of (state_in a.0.now) a.1.0.now a.1.1.0.now).buffer)
feed_words_leaves = record { takes_any = λ κ a. tt; is = λ κ a r e l. l.1.1 }

pub take_words_answers : Answers take_words.Asked take_words.Learnt (λ κ r e. r) (λ κ a. taken_number (taken_of (state_in a.0.now) a.1.0.now a.1.1.0.now).answer)
take_words_answers = record { takes_any = λ κ a. tt; is = λ κ a r e l. l.0 }

pub take_words_leaves_the_state : Answers take_words.Asked take_words.Learnt (λ κ r e. e.0.now) (λ κ a. kept_taken a.0.now (taken_of (state_in a.0.now) a.1.0.now a.1.1.0.now).answer)
take_words_leaves_the_state = record { takes_any = λ κ a. tt; is = λ κ a r e l. l.1.0 }

pub take_words_leaves : Answers take_words.Asked take_words.Learnt (λ κ r e. e.1.1.0.now) (λ κ a. (taken_of (state_in a.0.now) a.1.0.now a.1.1.0.now).buffer)
take_words_leaves = record { takes_any = λ κ a. tt; is = λ κ a r e l. l.1.1 }

-- ---- scte35: over C

pub scte35_packet_start_leaves : Answers scte35_packet_start.Asked scte35_packet_start.Learnt (λ κ r e. e.1.0.now) (λ κ a. kept_in a.1.0.now (fresh_assembler a.0))
scte35_packet_start_leaves = record { takes_any = λ κ a. tt; is = λ κ a r e l. l }

pub scte35_packet_feed_answers : Answers scte35_packet_feed.Asked scte35_packet_feed.Learnt (λ κ r e. r) (λ κ a. fed_number (fed_of (state_in a.0.now) a.1.0.now a.1.1.0.now).answer)
scte35_packet_feed_answers = record { takes_any = λ κ a. tt; is = λ κ a r e l. l.0 }

pub scte35_packet_feed_leaves_the_state : Answers scte35_packet_feed.Asked scte35_packet_feed.Learnt (λ κ r e. e.0.now) (λ κ a. kept_fed a.0.now (fed_of (state_in a.0.now) a.1.0.now a.1.1.0.now).answer)
scte35_packet_feed_leaves_the_state = record { takes_any = λ κ a. tt; is = λ κ a r e l. l.1.0 }

pub scte35_packet_feed_leaves : Answers scte35_packet_feed.Asked scte35_packet_feed.Learnt (λ κ r e. e.1.1.0.now) (λ κ a. (fed_of (state_in a.0.now) a.1.0.now a.1.1.0.now).buffer)
scte35_packet_feed_leaves = record { takes_any = λ κ a. tt; is = λ κ a r e l. l.1.1 }

pub scte35_packet_take_answers : Answers scte35_packet_take.Asked scte35_packet_take.Learnt (λ κ r e. r) (λ κ a. taken_number (taken_of (state_in a.0.now) a.1.0.now a.1.1.0.now).answer)
scte35_packet_take_answers = record { takes_any = λ κ a. tt; is = λ κ a r e l. l.0 }

pub scte35_packet_take_leaves_the_state : Answers scte35_packet_take.Asked scte35_packet_take.Learnt (λ κ r e. e.0.now) (λ κ a. kept_taken a.0.now (taken_of (state_in a.0.now) a.1.0.now a.1.1.0.now).answer)
scte35_packet_take_leaves_the_state = record { takes_any = λ κ a. tt; is = λ κ a r e l. l.1.0 }

pub scte35_packet_take_leaves : Answers scte35_packet_take.Asked scte35_packet_take.Learnt (λ κ r e. e.1.1.0.now) (λ κ a. (taken_of (state_in a.0.now) a.1.0.now a.1.1.0.now).buffer)
scte35_packet_take_leaves = record { takes_any = λ κ a. tt; is = λ κ a r e l. l.1.1 }
