use Rattle.std.proofs.Common.{◌≡◌, ◌-◌}
use Rattle.board.specs.Breaks.{free_from}
use Rattle.board.specs.Board.{breaks_of}
use Rattle.board.proofs.free_id.Given as goal

abbrev pub invariant-loop : goal.invariant-loop
invariant-loop l = free_from l.most (breaks_of l.places) l.next ≡ free_from (l.most - l.counter) (breaks_of l.places) l.id
