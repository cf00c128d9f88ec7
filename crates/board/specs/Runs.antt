-- Calls, and what the plain list answers to them one after the other.
use Rattle.std.specs.Prelude.{ℕ, List, [], ◌∷◌}
use Rattle.board.specs.Breaks.{Answer, Breaks, Told, opened, closed}
use Rattle.board.specs.Board.{Step, open_of, close_of}
use Rattle.board.specs.declared.Board.{Board}

pub data Call : Type 0 where
  opening : ℕ → Call
  closing : ℕ → Call

-- what the two functions ensure of a call
abbrev pub step_of : Call → Board → Step
step_of (opening provider) b = open_of b provider
step_of (closing id) b = close_of b id

abbrev pub told_of : ℕ → Call → Breaks → Told
told_of limit (opening provider) l = opened limit provider l
told_of limit (closing id) l = closed id l

-- the plain list's answers
unfoldable pub list_answers : ℕ → List Call → Breaks → List Answer
list_answers limit [] l = []
list_answers limit (c ∷ cs) l = (told_of limit c l).answer ∷ list_answers limit cs (told_of limit c l).breaks
