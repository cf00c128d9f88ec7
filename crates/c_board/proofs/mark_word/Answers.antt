use Rattle.c_board.specs.Words.{mark_word}
use Rattle.c_board.proofs.mark_word.Goals as goal

-- src/lib.rt:91:9
pub returns-then-p : goal.returns-then-p
unfolding mark_word
returns-then-p c = rw c.if-p.true

-- src/lib.rt:87:1
pub returns : goal.returns
unfolding mark_word
returns c = rw c.if-p.false
