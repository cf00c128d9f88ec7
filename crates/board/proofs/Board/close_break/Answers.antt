use Rattle.std.proofs.Common.{is_some, sym, ap, ◌∙◌}
use Rattle.std.proofs.lemmas.Result.{err_from_is_err_and}
use Rattle.board.specs.Board.{Step, blank_place}
use Rattle.board.proofs.Steps.{close_refused, close_given}
use Rattle.board.proofs.Board.close_break.Goals as goal

pub returns-in_err-at-clause-answer : goal.returns-in_err-at-clause-answer
returns-in_err-at-clause-answer c =
    let p = err_from_is_err_and c.from_residual.result c.from_residual.ensures.1 in
    let none = c.in_err-at.ensures.ok_part in
    rw (p.1, p.2, close_refused c.args.self.now c.args.event (ap is_some (sym c.place_of.ensures ∙ none))) (rw none at c.in_err-at.ensures.value)

pub returns-in_err-at-clause-board : goal.returns-in_err-at-clause-board
returns-in_err-at-clause-board c = rw (close_refused c.args.self.now c.args.event (ap is_some (sym c.place_of.ensures ∙ c.in_err-at.ensures.ok_part)))

pub returns-clause-answer : goal.returns-clause-answer
returns-clause-answer c = sym (ap (λ (s : Step). s.answer) (close_given c.args.self.now c.args.event _ blank_place (sym c.place_of.ensures ∙ c.in_ok-at.ensures.ok_part)))

pub returns-clause-board : goal.returns-clause-board
returns-clause-board c = rw c.blank_place.ensures (sym (ap (λ (s : Step). s.board) (close_given c.args.self.now c.args.event _ blank_place (sym c.place_of.ensures ∙ c.in_ok-at.ensures.ok_part))))
