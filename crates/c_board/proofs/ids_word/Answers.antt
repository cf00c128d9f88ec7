use mathlib.Core.Path.{refl}
use Rattle.c_board.specs.Words.{ids_word}
use Rattle.c_board.proofs.ids_word.Goals as goal

-- src/lib.rt:61:1
pub returns : goal.returns
unfolding ids_word
returns c = refl
