-- Each reply of the two calls by what was found.
use Rattle.std.proofs.Common.{false, Ok, Some, is_some, position, ◌≡◌, ℕ, ◌<◌, ◌≤◌, List, length, get_or, set, arith, lt-ltb, le-leb}
use borrow.Author.Tests.{lt-leb}
use Rattle.board.specs.Breaks.{free_from, after}
use Rattle.board.specs.Board.{blank_place, taken_by, is_free, holds, before, breaks_of}
use Rattle.board.specs.declared.Refusal.TheVariants.{BoardFull, NotOpen}
use Rattle.board.specs.declared.Place.{Place}
use Rattle.board.proofs.Search.{finds_none, finds_it}
use Rattle.board.proofs.Places.{none_free, some_free, none_holds, some_holds}
use Rattle.channels.specs.Channels.{seen_by, breaks_by, as_found, open_of, close_of}
use Rattle.channels.specs.declared.ChannelRefusal.TheVariants.{NoSuchChannel, Board}
use Rattle.channels.specs.declared.SharedBoard.{SharedBoard}

module _ (b : SharedBoard) (channel : ℕ) where
  pub open_none : (provider : ℕ) → 2 ≤ channel → open_of b channel provider ≡ as_found NoSuchChannel b
  unfolding open_of
  open_none provider h = rw (le-leb 2 channel h)

  pub open_full : (provider : ℕ) → channel < 2 → 16 ≤ length (breaks_by channel b) → open_of b channel provider ≡ as_found (Board BoardFull) b
  unfolding open_of
  open_full provider h f = rw (lt-leb 2 channel h, le-leb 16 (length (breaks_by channel b)) f)

  pub open_taken : (provider : ℕ) → channel < 2 → length (breaks_by channel b) < 16 → length b.places ≡ 32 → is_some (position is_free b.places) ≡ false → open_of b channel provider ≡ as_found (Board BoardFull) b
  unfolding open_of
  open_taken provider h f n t =
      let full : 32 ≤ length (breaks_of b.places) = omega (arith, none_free b.places (finds_none is_free b.places t)) in
      rw (lt-leb 2 channel h, lt-leb 16 (length (breaks_by channel b)) f, le-leb 32 (length (breaks_of b.places)) full)

  pub open_given : (provider : ℕ) → channel < 2 → length (breaks_by channel b) < 16 → length b.places ≡ 32 → before is_free b.places < 32
      → open_of b channel provider ≡ record {
        reply = Ok (free_from 16 (breaks_by channel b) (get_or b.next channel 0));
        board = record {
          places = set b.places (before is_free b.places) (taken_by (free_from 16 (breaks_by channel b) (get_or b.next channel 0)) provider);
          whose = set b.whose (before is_free b.places) channel;
          next = set b.next channel (after (free_from 16 (breaks_by channel b) (get_or b.next channel 0)));
        };
      }
  unfolding open_of
  open_given provider h f n t =
      let room : length (breaks_of b.places) < 32 = omega (arith, some_free b.places (omega arith)) in
      rw (lt-leb 2 channel h, lt-leb 16 (length (breaks_by channel b)) f, lt-leb 32 (length (breaks_of b.places)) room)

  -- the same, by the place that std's `position` finds
  pub open_found : (provider at : ℕ) → channel < 2 → length (breaks_by channel b) < 16 → length b.places ≡ 32 → position is_free b.places ≡ Some at
      → open_of b channel provider ≡ record {
        reply = Ok (free_from 16 (breaks_by channel b) (get_or b.next channel 0));
        board = record {
          places = set b.places at (taken_by (free_from 16 (breaks_by channel b) (get_or b.next channel 0)) provider);
          whose = set b.whose at channel;
          next = set b.next channel (after (free_from 16 (breaks_by channel b) (get_or b.next channel 0)));
        };
      }
  open_found provider at h f n t =
      let p : (at ≡ before is_free b.places) × (before is_free b.places < length b.places) = finds_it is_free b.places at t in
      rw p.0 (open_given provider h f n (omega (arith, p.1)))

  pub close_none : (id : ℕ) → 2 ≤ channel → close_of b channel id ≡ as_found NoSuchChannel b
  unfolding close_of
  close_none id h = rw (le-leb 2 channel h)

  -- the places as the channel sees them are named apart: a function's proof has them as the answer of `seen`
  pub close_refused : (id : ℕ) (mine : List Place) → mine ≡ seen_by channel b.places b.whose → channel < 2 → is_some (position (holds id) mine) ≡ false → close_of b channel id ≡ as_found (Board NotOpen) b
  unfolding close_of
  close_refused id mine m h f = rw (lt-leb 2 channel h, ← m, none_holds id mine (finds_none (holds id) mine f))

  pub close_given : (id at : ℕ) (mine : List Place) (d : Place) → mine ≡ seen_by channel b.places b.whose → channel < 2 → position (holds id) mine ≡ Some at
      → close_of b channel id ≡ record {
        reply = Ok (get_or mine at d).provider;
        board = record { places = set b.places at blank_place; whose = b.whose; next = b.next };
      }
  unfolding close_of
  close_given id at mine d m h f =
      let g : (at ≡ before (holds id) mine) × (before (holds id) mine < length mine) = finds_it (holds id) mine at f in
      rw (lt-leb 2 channel h, ← m, lt-ltb _ _ (some_holds id mine d g.1).0, g.0, (some_holds id mine d g.1).1)
