use Rattle.std.proofs.Common.{lt-ltb}
use borrow.Author.Tests.{le-ltb}
use Rattle.c_board.specs.Lent.{emptied}
use Rattle.c_board.proofs.empty_words.Goals as goal

pub returns-then-words-lt-BOARD_WORDS-clause-answer : goal.returns-then-words-lt-BOARD_WORDS-clause-answer
unfolding emptied
returns-then-words-lt-BOARD_WORDS-clause-answer c = let e = lt-ltb _ 66 c.if-words-lt-BOARD_WORDS.true in rw e c.too_short.ensures

pub returns-then-words-lt-BOARD_WORDS-clause-words : goal.returns-then-words-lt-BOARD_WORDS-clause-words
unfolding emptied
returns-then-words-lt-BOARD_WORDS-clause-words c = let e = lt-ltb _ 66 c.if-words-lt-BOARD_WORDS.true in rw e

pub returns-clause-answer : goal.returns-clause-answer
unfolding emptied
returns-clause-answer c = let e = le-ltb _ 66 c.if-words-lt-BOARD_WORDS.false in rw e

pub returns-clause-words : goal.returns-clause-words
unfolding emptied
returns-clause-words c = let e = le-ltb _ 66 c.if-words-lt-BOARD_WORDS.false in rw (e, ← c.empty.ensures) c.put_board.ensures
