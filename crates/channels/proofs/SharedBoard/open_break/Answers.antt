use Rattle.std.proofs.Common.{is_some, ◌<◌, length, rules, sym, ap, ◌∙◌, arith}
use Rattle.std.proofs.lemmas.Result.{err_from_is_err_and}
use Rattle.board.specs.Breaks.{after}
use Rattle.channels.specs.Channels.{Turn, reply_of, breaks_by}
use Rattle.channels.proofs.Turns.{open_none, open_full, open_taken, open_found}
use Rattle.channels.proofs.SharedBoard.open_break.Goals as goal

pub returns-then-channel-gt1-clause-reply : goal.returns-then-channel-gt1-clause-reply
returns-then-channel-gt1-clause-reply c = rw (open_none c.args.self.now c.args.channel c.args.provider c.if-channel-gt1.true)

pub returns-then-channel-gt1-clause-board : goal.returns-then-channel-gt1-clause-board
returns-then-channel-gt1-clause-board c = rw (open_none c.args.self.now c.args.channel c.args.provider c.if-channel-gt1.true)

pub returns-then-count-ge16-clause-reply : goal.returns-then-count-ge16-clause-reply
returns-then-count-ge16-clause-reply c =
    rw (open_full c.args.self.now c.args.channel c.args.provider (omega (arith, c.if-channel-gt1.false)) (rw (← c.seen-mine.ensures) (omega (arith, c.count.ensures))))

pub returns-then-count-ge16-clause-board : goal.returns-then-count-ge16-clause-board
returns-then-count-ge16-clause-board c =
    rw (open_full c.args.self.now c.args.channel c.args.provider (omega (arith, c.if-channel-gt1.false)) (rw (← c.seen-mine.ensures) (omega (arith, c.count.ensures))))

pub returns-in_err-at-clause-reply : goal.returns-in_err-at-clause-reply
returns-in_err-at-clause-reply c =
    let p = err_from_is_err_and c.from_residual.result c.from_residual.ensures.1 in
    let none = c.in_err-at.ensures.ok_part in
    let few : length (breaks_by c.args.channel c.args.self.now) < 16 = rw (← c.seen-mine.ensures) (omega (arith, c.count.ensures)) in
    let e = open_taken c.args.self.now c.args.channel c.args.provider (omega (arith, c.if-channel-gt1.false)) few (search rules) (ap is_some (sym c.free_place.ensures ∙ none)) in
    rw (p.1, p.2, e) (ap reply_of (rw none at c.in_err-at.ensures.value))

pub returns-in_err-at-clause-board : goal.returns-in_err-at-clause-board
returns-in_err-at-clause-board c =
    let few : length (breaks_by c.args.channel c.args.self.now) < 16 = rw (← c.seen-mine.ensures) (omega (arith, c.count.ensures)) in
    rw (open_taken c.args.self.now c.args.channel c.args.provider (omega (arith, c.if-channel-gt1.false)) few (search rules) (ap is_some (sym c.free_place.ensures ∙ c.in_err-at.ensures.ok_part)))

pub returns-clause-reply : goal.returns-clause-reply
returns-clause-reply c =
    let few : length (breaks_by c.args.channel c.args.self.now) < 16 = rw (← c.seen-mine.ensures) (omega (arith, c.count.ensures)) in
    rw (c.free_id-event.ensures, c.seen-mine.ensures, c.from-c.ensures)
    (sym (ap (λ (t : Turn). t.reply) (open_found c.args.self.now c.args.channel c.args.provider _ (omega (arith, c.if-channel-gt1.false)) few (search rules) (sym c.free_place.ensures ∙ c.in_ok-at.ensures.ok_part))))

pub returns-clause-board : goal.returns-clause-board
unfolding after
returns-clause-board c =
    let few : length (breaks_by c.args.channel c.args.self.now) < 16 = rw (← c.seen-mine.ensures) (omega (arith, c.count.ensures)) in
    rw (c.free_id-event.ensures, c.seen-mine.ensures, c.from-c.ensures)
    (sym (ap (λ (t : Turn). t.board) (open_found c.args.self.now c.args.channel c.args.provider _ (omega (arith, c.if-channel-gt1.false)) few (search rules) (sym c.free_place.ensures ∙ c.in_ok-at.ensures.ok_part))))
