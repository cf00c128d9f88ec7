-- A board of two channels in words.
-- 66 words: the ids of each of 32 places, 32 marks (taken or not, and above that the channel), the next id of each channel. Every run of 66 words is a
-- board: what lies above a mark's channel and above 32 bits of a next id is not looked at.
use Rattle.std.specs.Prelude.{map, ℕ, ◌+◌, ◌*◌, ◌/◌, ◌%◌, cond as pick, List, [], ◌∷◌, ◌++◌, ltb, eqb, get_or, drop}
use Rattle.std.specs.List.{range_with_len}
use Rattle.board.specs.Board.{blank_place}
use Rattle.board.specs.declared.Place.{Place}
use Rattle.channels.specs.declared.SharedBoard.{SharedBoard}

-- what `f` makes of `at` and the numbers after it, n in all
unfoldable pub listed : {A : Type 0} → (ℕ → A) → ℕ → ℕ → List A
listed f at n = map f (range_with_len at n)

unfoldable pub place_given : ℕ → ℕ → Place
place_given ids mark = record { used = eqb (mark % 2) 1; event = ids / 4294967296; provider = ids % 4294967296 }

unfoldable pub places_given : List ℕ → List Place
places_given words = listed (λ i. place_given (get_or words i 0) (get_or words (32 + i) 0)) 0 32

unfoldable pub whose_given : List ℕ → List ℕ
whose_given words = listed (λ i. get_or words (32 + i) 0 / 2 % 256) 0 32

abbrev pub board_given : List ℕ → SharedBoard
board_given words =
    record { places = places_given words; whose = whose_given words; next = get_or words 64 0 % 4294967296 ∷ get_or words 65 0 % 4294967296 ∷ [] }

unfoldable pub ids_word : Place → ℕ
ids_word p = p.event * 4294967296 + p.provider

unfoldable pub mark_word : Place → ℕ → ℕ
mark_word p whose = pick p.used (whose * 2 + 1) (whose * 2)

-- a board's word at a place, 65 being the last, with the board's place, channel and next id that it is of
unfoldable pub word_of : Place → ℕ → ℕ → ℕ → ℕ
word_of p whose next at = pick (ltb at 32) (ids_word p) (pick (ltb at 64) (mark_word p whose) next)

abbrev pub word_at : SharedBoard → ℕ → ℕ
word_at b at = word_of (get_or b.places (at % 32) blank_place) (get_or b.whose (at % 32) 0) (get_or b.next (at % 2) 0) at

abbrev pub words_of : SharedBoard → List ℕ
words_of b = listed (word_at b) 0 66

-- the words with a board in place of the first 66
abbrev pub stored : SharedBoard → List ℕ → List ℕ
stored b words = words_of b ++ drop 66 words
