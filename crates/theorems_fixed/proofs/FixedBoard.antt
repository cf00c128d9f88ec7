-- The public functions of board, channels and c_board, and those over C: each fixes its answer and the words that it is lent, and asks nothing of the
-- caller, as FixedAnswers.antt has it of the readers.
use Rattle.std.specs.Prelude.{position}
use Rattle.board.specs.Board.{blank_place, breaks_of, close_of, empty_board, holds, is_free, open_of}
use Rattle.board.specs.Breaks.{free_from}
use Rattle.channels.specs.Channels.{close_of as channelsCloseOf, empty_shared, open_of as channelsOpenOf}
use Rattle.c_board.specs.Lent.{closed, emptied, opened}
use Rattle.board.proofs.blank_place.Reads as blank_place
use Rattle.board.proofs.Board.empty.Reads as empty_board
use Rattle.board.proofs.free_place.Reads as free_place
use Rattle.board.proofs.place_of.Reads as place_of
use Rattle.board.proofs.free_id.Reads as free_id
use Rattle.board.proofs.Board.open_break.Reads as open_break
use Rattle.board.proofs.Board.close_break.Reads as close_break
use Rattle.channels.proofs.SharedBoard.empty.Reads as empty_shared
use Rattle.channels.proofs.SharedBoard.open_break.Reads as open_on_channel
use Rattle.channels.proofs.SharedBoard.close_break.Reads as close_on_channel
use Rattle.c_board.proofs.empty_words.Reads as empty_words
use Rattle.c_board.proofs.open_words.Reads as open_words
use Rattle.c_board.proofs.close_words.Reads as close_words
use Rattle.scte35.proofs.shared_board.scte35_board_empty.Reads as scte35_board_empty
use Rattle.scte35.proofs.shared_board.scte35_board_open.Reads as scte35_board_open
use Rattle.scte35.proofs.shared_board.scte35_board_close.Reads as scte35_board_close
use Rattle.theorems_fixed.specs.FixedAnswers.{Answers}

-- ---- board

pub blank_place_answers : Answers blank_place.Asked blank_place.Learnt (λ κ r e. r) (λ κ a. blank_place)
blank_place_answers = record { takes_any = λ κ a. tt; is = λ κ a r e l. l }

pub empty_board_answers : Answers empty_board.Asked empty_board.Learnt (λ κ r e. r) (λ κ a. empty_board)
empty_board_answers = record { takes_any = λ κ a. tt; is = λ κ a r e l. l }

pub free_place_answers : Answers free_place.Asked free_place.Learnt (λ κ r e. r) (λ κ a. position is_free a.0.now)
free_place_answers = record { takes_any = λ κ a. tt; is = λ κ a r e l. l }

pub place_of_answers : Answers place_of.Asked place_of.Learnt (λ κ r e. r) (λ κ a. position (holds a.1.0) a.0.now)
place_of_answers = record { takes_any = λ κ a. tt; is = λ κ a r e l. l }

pub free_id_answers : Answers free_id.Asked free_id.Learnt (λ κ r e. r) (λ κ a. free_from a.1.1.0 (breaks_of a.0.now) a.1.0)
free_id_answers = record { takes_any = λ κ a. tt; is = λ κ a r e l. l }

pub open_break_answers : Answers open_break.Asked open_break.Learnt (λ κ r e. r) (λ κ a. (open_of a.0.now a.1.0).answer)
open_break_answers = record { takes_any = λ κ a. tt; is = λ κ a r e l. l.0 }

pub open_break_leaves : Answers open_break.Asked open_break.Learnt (λ κ r e. e.0.now) (λ κ a. (open_of a.0.now a.1.0).board)
open_break_leaves = record { takes_any = λ κ a. tt; is = λ κ a r e l. l.1 }

pub close_break_answers : Answers close_break.Asked close_break.Learnt (λ κ r e. r) (λ κ a. (close_of a.0.now a.1.0).answer)
close_break_answers = record { takes_any = λ κ a. tt; is = λ κ a r e l. l.0 }

pub close_break_leaves : Answers close_break.Asked close_break.Learnt (λ κ r e. e.0.now) (λ κ a. (close_of a.0.now a.1.0).board)
close_break_leaves = record { takes_any = λ κ a. tt; is = λ κ a r e l. l.1 }

-- ---- channels

pub empty_shared_answers : Answers empty_shared.Asked empty_shared.Learnt (λ κ r e. r) (λ κ a. empty_shared)
empty_shared_answers = record { takes_any = λ κ a. tt; is = λ κ a r e l. l }

pub open_on_channel_answers : Answers open_on_channel.Asked open_on_channel.Learnt (λ κ r e. r) (λ κ a. (channelsOpenOf a.0.now a.1.0 a.1.1.0).reply)
open_on_channel_answers = record { takes_any = λ κ a. tt; is = λ κ a r e l. l.0 }

pub open_on_channel_leaves : Answers open_on_channel.Asked open_on_channel.Learnt (λ κ r e. e.0.now) (λ κ a. (channelsOpenOf a.0.now a.1.0 a.1.1.0).board)
open_on_channel_leaves = record { takes_any = λ κ a. tt; is = λ κ a r e l. l.1 }

pub close_on_channel_answers : Answers close_on_channel.Asked close_on_channel.Learnt (λ κ r e. r) (λ κ a. (channelsCloseOf a.0.now a.1.0 a.1.1.0).reply)
close_on_channel_answers = record { takes_any = λ κ a. tt; is = λ κ a r e l. l.0 }

pub close_on_channel_leaves : Answers close_on_channel.Asked close_on_channel.Learnt (λ κ r e. e.0.now) (λ κ a. (channelsCloseOf a.0.now a.1.0 a.1.1.0).board)
close_on_channel_leaves = record { takes_any = λ κ a. tt; is = λ κ a r e l. l.1 }

-- ---- over C

pub empty_words_answers : Answers empty_words.Asked empty_words.Learnt (λ κ r e. r) (λ κ a. (emptied a.0.now).answer)
empty_words_answers = record { takes_any = λ κ a. tt; is = λ κ a r e l. l.0 }

pub empty_words_leaves : Answers empty_words.Asked empty_words.Learnt (λ κ r e. e.0.now) (λ κ a. (emptied a.0.now).words)
empty_words_leaves = record { takes_any = λ κ a. tt; is = λ κ a r e l. l.1 }

pub open_words_answers : Answers open_words.Asked open_words.Learnt (λ κ r e. r) (λ κ a. (opened a.0.now a.1.0 a.1.1.0).answer)
open_words_answers = record { takes_any = λ κ a. tt; is = λ κ a r e l. l.0 }

pub open_words_leaves : Answers open_words.Asked open_words.Learnt (λ κ r e. e.0.now) (λ κ a. (opened a.0.now a.1.0 a.1.1.0).words)
open_words_leaves = record { takes_any = λ κ a. tt; is = λ κ a r e l. l.1 }

pub close_words_answers : Answers close_words.Asked close_words.Learnt (λ κ r e. r) (λ κ a. (closed a.0.now a.1.0 a.1.1.0).answer)
close_words_answers = record { takes_any = λ κ a. tt; is = λ κ a r e l. l.0 }

pub close_words_leaves : Answers close_words.Asked close_words.Learnt (λ κ r e. e.0.now) (λ κ a. (closed a.0.now a.1.0 a.1.1.0).words)
close_words_leaves = record { takes_any = λ κ a. tt; is = λ κ a r e l. l.1 }

pub scte35_board_empty_answers : Answers scte35_board_empty.Asked scte35_board_empty.Learnt (λ κ r e. r) (λ κ a. (emptied a.0.now).answer)
scte35_board_empty_answers = record { takes_any = λ κ a. tt; is = λ κ a r e l. l.0 }

pub scte35_board_empty_leaves : Answers scte35_board_empty.Asked scte35_board_empty.Learnt (λ κ r e. e.0.now) (λ κ a. (emptied a.0.now).words)
scte35_board_empty_leaves = record { takes_any = λ κ a. tt; is = λ κ a r e l. l.1 }

pub scte35_board_open_answers : Answers scte35_board_open.Asked scte35_board_open.Learnt (λ κ r e. r) (λ κ a. (opened a.0.now a.1.0 a.1.1.0).answer)
scte35_board_open_answers = record { takes_any = λ κ a. tt; is = λ κ a r e l. l.0 }

pub scte35_board_open_leaves : Answers scte35_board_open.Asked scte35_board_open.Learnt (λ κ r e. e.0.now) (λ κ a. (opened a.0.now a.1.0 a.1.1.0).words)
scte35_board_open_leaves = record { takes_any = λ κ a. tt; is = λ κ a r e l. l.1 }

pub scte35_board_close_answers : Answers scte35_board_close.Asked scte35_board_close.Learnt (λ κ r e. r) (λ κ a. (closed a.0.now a.1.0 a.1.1.0).answer)
scte35_board_close_answers = record { takes_any = λ κ a. tt; is = λ κ a r e l. l.0 }

pub scte35_board_close_leaves : Answers scte35_board_close.Asked scte35_board_close.Learnt (λ κ r e. e.0.now) (λ κ a. (closed a.0.now a.1.0 a.1.1.0).words)
scte35_board_close_leaves = record { takes_any = λ κ a. tt; is = λ κ a r e l. l.1 }
