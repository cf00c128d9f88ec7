use Rattle.std.proofs.Common.{sym, ◌∙◌, arith, lt-ltb}
use Rattle.board.specs.Breaks.{after}
use Rattle.board.specs.Board.{blank_place, holds}
use Rattle.board.proofs.Places.{none_holds, some_holds}
use Rattle.board.proofs.Search.{finds_none, finds_one}
use Rattle.board.proofs.Fresh.{fresh_stops, fresh_passes, fresh_ends}
use Rattle.board.proofs.free_id.Goals as goal

pub returns-then-is_none : goal.returns-then-is_none
returns-then-is_none c = sym (c.loop.invariant ∙ fresh_stops _ _ _ (none_holds _ _ (finds_none (holds c.loop.id) _ (rw (← c.place_of.ensures) c.if-is_none.ensures))))

pub loop-preserved : goal.loop-preserved
unfolding after
loop-preserved c =
    c.loop.invariant ∙ fresh_passes _ _ _ _ c.loop-test.true (lt-ltb _ _ (some_holds _ _ blank_place (finds_one (holds c.loop.id) _ (rw (← c.place_of.ensures) c.if-is_none.ensures))).0)

pub returns : goal.returns
returns c = sym (c.loop.invariant ∙ fresh_ends _ _ _ (omega arith))
