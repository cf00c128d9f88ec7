use Rattle.std.proofs.Common.{is_some, rules, sym, ap, ◌∙◌}
use Rattle.std.proofs.lemmas.Result.{err_from_is_err_and}
use Rattle.board.specs.Breaks.{after}
use Rattle.board.specs.Board.{Step}
use Rattle.board.proofs.Steps.{open_refused, open_given}
use Rattle.board.proofs.Board.open_break.Goals as goal

pub returns-in_err-at-clause-answer : goal.returns-in_err-at-clause-answer
returns-in_err-at-clause-answer c =
    let p = err_from_is_err_and c.from_residual.result c.from_residual.ensures.1 in
    let none = c.in_err-at.ensures.ok_part in
    rw (p.1, p.2, open_refused c.args.self.now c.args.provider (search rules) (ap is_some (sym c.free_place.ensures ∙ none))) (rw none at c.in_err-at.ensures.value)

pub returns-in_err-at-clause-board : goal.returns-in_err-at-clause-board
returns-in_err-at-clause-board c = rw (open_refused c.args.self.now c.args.provider (search rules) (ap is_some (sym c.free_place.ensures ∙ c.in_err-at.ensures.ok_part)))

pub returns-clause-answer : goal.returns-clause-answer
returns-clause-answer c = rw c.free_id-event.ensures (sym (ap (λ (s : Step). s.answer) (open_given c.args.self.now c.args.provider _ (search rules) (sym c.free_place.ensures ∙ c.in_ok-at.ensures.ok_part))))

pub returns-clause-board : goal.returns-clause-board
unfolding after
returns-clause-board c = rw c.free_id-event.ensures (sym (ap (λ (s : Step). s.board) (open_given c.args.self.now c.args.provider _ (search rules) (sym c.free_place.ensures ∙ c.in_ok-at.ensures.ok_part))))
