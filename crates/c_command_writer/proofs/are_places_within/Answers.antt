-- `c_command_writer::are_places_within`: what is left says what the whole says.
use Rattle.std.proofs.Common.{◌+◌, ◌-◌, length, sym, ◌∙◌, ap}
use Rattle.c_command_writer.specs.Words.{within, each_place}
use Rattle.c_command_writer.proofs.Words.{turn, stop, each_more, each_end}
use Rattle.c_command_writer.proofs.are_places_within.Goals as goal

pub returns-then-not-are_within : goal.returns-then-not-are_within
returns-then-not-are_within c =
    let a = c.args in
    stop _ _ _ _ c.loop.invariant (each_more (within a.widths.now) (length a.widths.now) a.count c.loop.rest.now c.loop.counter c.loop-test.true) (sym c.are_within.ensures ∙ c.if-not-are_within.true)

pub loop-preserved : goal.loop-preserved
loop-preserved c =
    let a = c.args in
    ap (each_place (within a.widths.now) (length a.widths.now) (a.count - (c.loop.counter + 1))) c.words_from-rest.ensures
    ∙ turn _ _ _ _ c.loop.invariant (each_more (within a.widths.now) (length a.widths.now) a.count c.loop.rest.now c.loop.counter c.loop-test.true) (sym c.are_within.ensures ∙ c.if-not-are_within.false)

pub returns : goal.returns
returns c =
    let a = c.args in
    sym (each_end (within a.widths.now) (length a.widths.now) a.count c.loop.rest.now c.loop.counter c.loop-test.false) ∙ c.loop.invariant
