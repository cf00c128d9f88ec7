use Rattle.std.proofs.Common.{lt-ltb}
use borrow.Author.Tests.{le-ltb}
use Rattle.c_board.specs.Lent.{closed}
use Rattle.c_board.proofs.close_words.Goals as goal

pub returns-then-words-lt-BOARD_WORDS-clause-answer : goal.returns-then-words-lt-BOARD_WORDS-clause-answer
unfolding closed
returns-then-words-lt-BOARD_WORDS-clause-answer c = let e = lt-ltb _ 66 c.if-words-lt-BOARD_WORDS.true in rw e c.too_short.ensures

pub returns-then-words-lt-BOARD_WORDS-clause-words : goal.returns-then-words-lt-BOARD_WORDS-clause-words
unfolding closed
returns-then-words-lt-BOARD_WORDS-clause-words c = let e = lt-ltb _ 66 c.if-words-lt-BOARD_WORDS.true in rw e

pub returns-clause-answer : goal.returns-clause-answer
unfolding closed
returns-clause-answer c =
    let e = le-ltb _ 66 c.if-words-lt-BOARD_WORDS.false in
    rw (e, ← c.board_given-b.ensures, ← c.close_break-reply.ensures.reply) c.settle.ensures.answer

pub returns-clause-words : goal.returns-clause-words
unfolding closed
returns-clause-words c =
    let e = le-ltb _ 66 c.if-words-lt-BOARD_WORDS.false in
    rw (e, ← c.board_given-b.ensures, ← c.close_break-reply.ensures.reply, ← c.close_break-reply.ensures.board) c.settle.ensures.words
