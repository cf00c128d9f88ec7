-- Each answer of the two calls by the place that was found.
use Rattle.std.proofs.Common.{false, Ok, Some, is_some, position, ◌≡◌, ℕ, ◌<◌, ◌≤◌, length, get_or, set, arith, lt-ltb, le-leb}
use borrow.Author.Tests.{lt-leb}
use Rattle.board.specs.Breaks.{free_from, after}
use Rattle.board.specs.Board.{blank_place, taken_by, is_free, holds, before, breaks_of, as_found, open_of, close_of}
use Rattle.board.specs.declared.Refusal.TheVariants.{BoardFull, NotOpen}
use Rattle.board.specs.declared.Place.{Place}
use Rattle.board.specs.declared.Board.{Board}
use Rattle.board.proofs.Search.{finds_none, finds_it}
use Rattle.board.proofs.Places.{none_free, some_free, none_holds, some_holds}

module _ (b : Board) where
  pub open_refused : (provider : ℕ) → length b.places ≡ 32 → is_some (position is_free b.places) ≡ false → open_of b provider ≡ as_found BoardFull b
  unfolding open_of
  open_refused provider n h =
      let full : 32 ≤ length (breaks_of b.places) = omega (arith, none_free b.places (finds_none is_free b.places h)) in
      rw (le-leb _ _ full)

  pub open_given : (provider at : ℕ) → length b.places ≡ 32 → position is_free b.places ≡ Some at
      → open_of b provider ≡ record {
        answer = Ok (free_from 32 (breaks_of b.places) b.next);
        board = record {
          places = set b.places at (taken_by (free_from 32 (breaks_of b.places) b.next) provider);
          next = after (free_from 32 (breaks_of b.places) b.next);
        };
      }
  unfolding open_of
  open_given provider at n h =
      let f : (at ≡ before is_free b.places) × (before is_free b.places < length b.places) = finds_it is_free b.places at h in
      let room : length (breaks_of b.places) < 32 = omega (arith, some_free b.places f.1) in
      rw (lt-leb _ _ room, f.0)

  pub close_refused : (id : ℕ) → is_some (position (holds id) b.places) ≡ false → close_of b id ≡ as_found NotOpen b
  unfolding close_of
  close_refused id h = rw (none_holds id b.places (finds_none (holds id) b.places h))

  pub close_given : (id at : ℕ) (d : Place) → position (holds id) b.places ≡ Some at
      → close_of b id ≡ record {
        answer = Ok (get_or b.places at d).provider;
        board = record { places = set b.places at blank_place; next = b.next };
      }
  unfolding close_of
  close_given id at d h =
      let f : (at ≡ before (holds id) b.places) × (before (holds id) b.places < length b.places) = finds_it (holds id) b.places at h in
      rw (lt-ltb _ _ (some_holds id b.places d f.1).0, f.0, (some_holds id b.places d f.1).1)
