use Rattle.std.proofs.Common.{◌∙◌, arith}
use Rattle.c_board.proofs.Words.{ids_of, mark_of, next_of}
use Rattle.c_board.proofs.word_at.Goals as goal

pub returns-then-at-lt-MARKS : goal.returns-then-at-lt-MARKS
returns-then-at-lt-MARKS c = c.ids_word.ensures ∙ ids_of _ _ _ _ c.if-at-lt-MARKS.true

pub returns-then-at-lt-NEXT : goal.returns-then-at-lt-NEXT
returns-then-at-lt-NEXT c = c.mark_word.ensures ∙ mark_of _ _ _ _ (omega arith) (omega arith)

pub returns : goal.returns
returns c = next_of _ _ _ _ (omega arith)
