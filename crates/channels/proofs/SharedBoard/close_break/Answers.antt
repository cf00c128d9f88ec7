use Rattle.std.proofs.Common.{is_some, sym, ap, ◌∙◌, arith}
use Rattle.std.proofs.lemmas.Result.{err_from_is_err_and}
use Rattle.board.specs.Board.{blank_place}
use Rattle.channels.specs.Channels.{Turn, reply_of}
use Rattle.channels.proofs.Turns.{close_none, close_refused, close_given}
use Rattle.channels.proofs.SharedBoard.close_break.Goals as goal

pub returns-then-channel-gt1-clause-reply : goal.returns-then-channel-gt1-clause-reply
returns-then-channel-gt1-clause-reply c = rw (close_none c.args.self.now c.args.channel c.args.event c.if-channel-gt1.true)

pub returns-then-channel-gt1-clause-board : goal.returns-then-channel-gt1-clause-board
returns-then-channel-gt1-clause-board c = rw (close_none c.args.self.now c.args.channel c.args.event c.if-channel-gt1.true)

pub returns-in_err-at-clause-reply : goal.returns-in_err-at-clause-reply
returns-in_err-at-clause-reply c =
    let p = err_from_is_err_and c.from_residual.result c.from_residual.ensures.1 in
    let none = c.in_err-at.ensures.ok_part in
    let e = close_refused c.args.self.now c.args.channel c.args.event c.seen-mine.result c.seen-mine.ensures (omega (arith, c.if-channel-gt1.false)) (ap is_some (sym c.place_of.ensures ∙ none)) in
    rw (p.1, p.2, e) (ap reply_of (rw none at c.in_err-at.ensures.value))

pub returns-in_err-at-clause-board : goal.returns-in_err-at-clause-board
returns-in_err-at-clause-board c =
    rw (close_refused c.args.self.now c.args.channel c.args.event c.seen-mine.result c.seen-mine.ensures (omega (arith, c.if-channel-gt1.false)) (ap is_some (sym c.place_of.ensures ∙ c.in_err-at.ensures.ok_part)))

pub returns-clause-reply : goal.returns-clause-reply
returns-clause-reply c =
    sym (ap (λ (t : Turn). t.reply)
    (close_given c.args.self.now c.args.channel c.args.event _ c.seen-mine.result blank_place c.seen-mine.ensures (omega (arith, c.if-channel-gt1.false)) (sym c.place_of.ensures ∙ c.in_ok-at.ensures.ok_part)))

pub returns-clause-board : goal.returns-clause-board
returns-clause-board c =
    rw c.blank_place.ensures
    (sym (ap (λ (t : Turn). t.board)
    (close_given c.args.self.now c.args.channel c.args.event _ c.seen-mine.result blank_place c.seen-mine.ensures (omega (arith, c.if-channel-gt1.false)) (sym c.place_of.ensures ∙ c.in_ok-at.ensures.ok_part))))
