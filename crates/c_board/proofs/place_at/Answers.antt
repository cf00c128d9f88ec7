use Rattle.std.proofs.Common.{refl}
use Rattle.c_board.specs.Words.{place_given}
use Rattle.c_board.proofs.place_at.Goals as goal

pub returns : goal.returns
unfolding place_given
returns c = refl
