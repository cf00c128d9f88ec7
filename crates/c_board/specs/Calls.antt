-- Calls one after the other over C, on lent words.
use Rattle.std.specs.Prelude.{ℕ, ◌<◌, List, [], ◌∷◌}
use Rattle.board.specs.Runs.{Call}
use Rattle.board.specs.Runs.Call.{opening, closing}
use Rattle.channels.specs.Runs.{On}
use Rattle.c_board.specs.Lent.{Lent, opened, closed}
use Rattle.c_board.specs.declared.FlatBoardAnswer.{FlatBoardAnswer}

abbrev pub lent_by : ℕ → Call → List ℕ → Lent
lent_by channel (opening provider) words = opened words channel provider
lent_by channel (closing id) words = closed words channel id

-- what the two functions ensure of a call
abbrev pub lent_of : On → List ℕ → Lent
lent_of o words = lent_by o.channel o.call words

unfoldable pub lent_answers : List On → List ℕ → List FlatBoardAnswer
lent_answers [] words = []
lent_answers (o ∷ os) words = (lent_of o words).answer ∷ lent_answers os (lent_of o words).words

-- what the types say of calls: a provider id has 32 bits
abbrev pub TypedCall : Call → Type 0
TypedCall (opening provider) = provider < 4294967296
TypedCall (closing id) = id < 4294967296

unfoldable pub Typed : List On → Type 0
Typed [] = Unit {0}
Typed (o ∷ os) = TypedCall o.call × Typed os
