use Rattle.std.proofs.Common.{sym, ◌∙◌}
use Rattle.c_board.specs.Lent.{flat_reply}
use Rattle.c_board.proofs.Words.{accepted, refused}
use Rattle.c_board.proofs.settle.Goals as goal
use Rattle.c_board.proofs.settle.Goals.{then-is_ok, else-is_ok}

pub returns-clause-words : goal.returns-clause-words
unfolding flat_reply
returns-clause-words c =
    elim c.if-is_ok.branch [
      | then-is_ok w ↦ rw (accepted c.args.reply (sym w.if-is_ok.ensures.value)) (w.words-is ∙ w.put_board.ensures)
      | else-is_ok w ↦ rw (refused c.args.reply (sym w.if-is_ok.ensures.value)) w.words-is
    ]
