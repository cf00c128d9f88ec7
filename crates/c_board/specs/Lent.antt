-- What the functions over C answer, and the lent words after them.
use Rattle.std.specs.Prelude.{Ok, Err, ℕ, cond as pick, List, ltb, eqb, length}
use Rattle.channels.specs.Channels.{Reply, Turn, refusal_of, empty_shared, open_of, close_of}
use Rattle.channels.specs.declared.SharedBoard.{SharedBoard}
use Rattle.c_board.specs.Words.{board_given, stored}
use Rattle.c_board.specs.declared.FlatBoardAnswer.{FlatBoardAnswer}

pub record Lent : Type 0 where
  pub answer : FlatBoardAnswer
  pub words : List ℕ

-- the id that a call is given
unfoldable pub id_of : Reply → ℕ
id_of (Ok id) = id
id_of (Err r) = 0

unfoldable pub flat_reply : Reply → FlatBoardAnswer
flat_reply reply = record { refusal = refusal_of reply; id = id_of reply }

-- the words after a call: a refusal leaves them as found
abbrev pub settled : FlatBoardAnswer → SharedBoard → List ℕ → List ℕ
settled answer b words = pick (eqb (answer).refusal 0) (stored b words) words

-- a run that is shorter than a board is refused (36)
abbrev pub long_enough : List ℕ → Lent → Lent
long_enough words l = pick (ltb (length words) 66) (record { answer = record { refusal = 36; id = 0 }; words = words }) l

abbrev pub called : (SharedBoard → Turn) → List ℕ → Lent
called turn words =
    let t : Turn = turn (board_given words) in
    long_enough words (record { answer = flat_reply t.reply; words = settled (flat_reply t.reply) t.board words })

unfoldable pub emptied : List ℕ → Lent
emptied words = long_enough words (record { answer = record { refusal = 0; id = 0 }; words = stored empty_shared words })

unfoldable pub opened : List ℕ → ℕ → ℕ → Lent
opened words channel provider = called (λ b. open_of b channel provider) words

unfoldable pub closed : List ℕ → ℕ → ℕ → Lent
closed words channel event = called (λ b. close_of b channel event) words
