-- What each function of the board answers, for any board, also one that no calls make.
use Rattle.std.specs.Prelude.{ℕ, suc, Bool, true, false, cond as pick, not, ◌&&◌, List, [], ◌∷◌, length, replicate, ◌==◌, nat_le, slice_set, Ok, Err}
use Rattle.board.specs.Breaks.{Answer, Break, is_open, provider_of, free_from, after}
use Rattle.board.specs.declared.Refusal.{Refusal}
use Rattle.board.specs.declared.Refusal.TheVariants.{BoardFull, NotOpen}
use Rattle.board.specs.declared.Place.{Place}
use Rattle.board.specs.declared.Board.{Board}

abbrev pub blank_place : Place
blank_place = record { used = false; event = 0; provider = 0 }

-- a place with an open break
abbrev pub taken_by : ℕ → ℕ → Place
taken_by id provider = record { used = true; event = id; provider = provider }

-- "a board of 32 places"; "Ids count up from 1"
abbrev pub empty_board : Board
empty_board = record { places = replicate 32 blank_place; next = 1 }

abbrev pub is_free : Place → Bool
is_free p = not p.used

abbrev pub holds : ℕ → Place → Bool
holds event p = p.used && p.event == event

-- how many places stand before the first that passes the test; all, where none does
unfoldable pub before : (Place → Bool) → List Place → ℕ
before test [] = 0
before test (p ∷ ps) = pick (test p) 0 (suc (before test ps))

-- the open breaks, in the order of their places
unfoldable pub breaks_of : List Place → List Break
breaks_of [] = []
breaks_of (p ∷ ps) = pick p.used (record { event = p.event; provider = p.provider } ∷ breaks_of ps) (breaks_of ps)

-- what a call answers, and the board after it
pub record Step : Type 0 where
  pub answer : Answer
  pub board : Board

-- "both leave the board as found"
abbrev pub as_found : Refusal → Board → Step
as_found refusal b = record { answer = Err refusal; board = b }

-- the break stands in the first free place: "A closed break's place serves a later one"
unfoldable pub open_of : Board → ℕ → Step
open_of b provider =
    let id : ℕ = free_from 32 (breaks_of b.places) b.next in
    pick (nat_le 32 (length (breaks_of b.places))) (as_found BoardFull b)
    (record {
      answer = Ok id;
      board = record { places = slice_set b.places (before is_free b.places) (taken_by id provider); next = after id };
    })

unfoldable pub close_of : Board → ℕ → Step
close_of b id =
    pick (is_open id (breaks_of b.places))
    (record {
      answer = Ok (provider_of id (breaks_of b.places));
      board = record { places = slice_set b.places (before (holds id) b.places) blank_place; next = b.next };
    })
    (as_found NotOpen b)
