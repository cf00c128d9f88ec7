-- Words and boards: what loops over them make, and that a board is found again in its words.
use Prim.Native.Nat.{ℕ, ◌+◌, ◌/◌, ◌%◌, ◌≤◌, ◌<◌}
use mathlib.Core.List.{List}
use mathlib.Core.Path.{◌≡◌, refl, ◌∙◌, ap}
use native.Mathlib.Nat.{zero-add}
use native.Mathlib.Omega.{arith}
use lib.ListN.{length, get_or}
use borrow.Author.Tests.{lt-ltb, le-ltb}
use mathlib.Core.Bool.{true, false}
use lib.Dec.{eqb}
use Rattle.std.specs.Prelude.{Ok, Err, is_ok}
use Rattle.board.specs.Breaks.{number_of}
use Rattle.board.specs.declared.Refusal.TheVariants.{BoardFull, NotOpen}
use Rattle.channels.specs.Channels.{Reply, refusal_of}
use Rattle.channels.specs.declared.ChannelRefusal.TheVariants.{NoSuchChannel, Board}
use Rattle.std.proofs.lemmas.List.{ext_get_or}
use Rattle.std.proofs.lemmas.List.FromFn.{length-map-range_with_len, get_or-map-range_with_len}
use Rattle.board.specs.Board.{blank_place}
use Rattle.board.specs.declared.Place.{Place}
use Rattle.channels.specs.declared.SharedBoard.{SharedBoard}
use Rattle.c_board.specs.Words.{listed, place_given, places_given, whose_given, ids_word, mark_word, word_of, word_at, words_of}

-- ---- a list by its places

module _ {A : Type 0} where
  pub length_listed : (f : ℕ → A) (at n : ℕ) → length (listed f at n) ≡ n
  unfolding listed
  length_listed f at n = length-map-range_with_len f at n

  pub get_d_listed : (f : ℕ → A) (at n i : ℕ) (d : A) → i < n → get_or (listed f at n) i d ≡ f (at + i)
  unfolding listed
  get_d_listed f at n i d h = get_or-map-range_with_len f at n i (at + i) d h refl

  -- what a list has at its places, in their order, is the list
  pub listed_again : (f : ℕ → A) (at : ℕ) (d : A) (l : List A) → ((i : ℕ) → i < length l → f (at + i) ≡ get_or l i d) → listed f at (length l) ≡ l
  listed_again f at d l h =
      ext_get_or d _ _ (length_listed f at (length l))
      (λ i g.
      let b : i < length l = omega (arith, length_listed f at (length l)) in
      get_d_listed f at (length l) i d b ∙ h i b)

-- ---- the word at a place

module _ (p : Place) (whose next at : ℕ) where
  pub ids_of : at < 32 → ids_word p ≡ word_of p whose next at
  unfolding word_of
  ids_of h = rw (lt-ltb at 32 h)

  pub mark_of : 32 ≤ at → at < 64 → mark_word p whose ≡ word_of p whose next at
  unfolding word_of
  mark_of h g = rw (le-ltb at 32 h, lt-ltb at 64 g)

  pub next_of : 64 ≤ at → next ≡ word_of p whose next at
  unfolding word_of
  next_of h =
      let g : 32 ≤ at = omega arith in
      rw (le-ltb at 32 g, le-ltb at 64 h)

pub word_there : (b : SharedBoard) (at : ℕ) → at < 66 → get_or (words_of b) at 0 ≡ word_at b at
word_there b at h = get_d_listed (word_at b) 0 66 at 0 h ∙ ap (word_at b) (zero-add at)

-- ---- what a reply's number says

pub accepted : (reply : Reply) → is_ok reply ≡ true → eqb (refusal_of reply) 0 ≡ true
unfolding refusal_of
accepted (Ok id) h = refl
accepted (Err refusal) h = absurd (grind (arith, h))

pub refused : (reply : Reply) → is_ok reply ≡ false → eqb (refusal_of reply) 0 ≡ false
unfolding refusal_of number_of
refused (Ok id) h = absurd (grind (arith, h))
refused (Err NoSuchChannel) h = refl
refused (Err (Board BoardFull)) h = refl
refused (Err (Board NotOpen)) h = refl

-- ---- the places that words make

pub places_many : (words : List ℕ) → length (places_given words) ≡ 32
unfolding places_given
places_many words = length_listed (λ i. place_given (get_or words i 0) (get_or words (32 + i) 0)) 0 32

pub place_there : (words : List ℕ) (i : ℕ) → i < 32 → get_or (places_given words) i blank_place ≡ place_given (get_or words i 0) (get_or words (32 + i) 0)
unfolding places_given
place_there words i h = get_d_listed (λ i. place_given (get_or words i 0) (get_or words (32 + i) 0)) 0 32 i blank_place h ∙ ap (λ (k : ℕ). place_given (get_or words k 0) (get_or words (32 + k) 0)) (zero-add i)

pub whose_many : (words : List ℕ) → length (whose_given words) ≡ 32
unfolding whose_given
whose_many words = length_listed (λ i. get_or words (32 + i) 0 / 2 % 256) 0 32

pub whose_there : (words : List ℕ) (i : ℕ) → i < 32 → get_or (whose_given words) i 0 ≡ get_or words (32 + i) 0 / 2 % 256
unfolding whose_given
whose_there words i h = get_d_listed (λ i. get_or words (32 + i) 0 / 2 % 256) 0 32 i 0 h ∙ ap (λ (k : ℕ). get_or words (32 + k) 0 / 2 % 256) (zero-add i)
