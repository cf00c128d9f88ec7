-- A board is found again in its words, and so over any calls over C the answers are those of two plain lists.
use Prim.Native.Nat.{ℕ, zero, suc, ◌+◌, ◌*◌, ◌/◌, ◌%◌, ◌≤◌, ◌<◌}
use mathlib.Core.Bool.{Bool, true, false, ◌||◌, cond as pick}
use mathlib.Core.List.{List, [], ◌∷◌, map}
use mathlib.Core.Path.{◌≡◌, refl, sym, ◌∙◌, ap, ap₂}
use native.Mathlib.Nat.{zero-add}
use native.Mathlib.Omega.{arith}
use lib.Dec.{leb, eqb}
use lib.ListN.{length, length-append, length-set, get_or, get_or-append, set, drop, replicate}
use borrow.Author.Tests.{le-ltb, leb-false}
use Rattle.board.specs.Breaks.{Breaks, is_open}
use Rattle.board.specs.Board.{blank_place, breaks_of}
use Rattle.board.specs.Runs.{Call}
use Rattle.board.specs.Runs.Call.{opening, closing}
use Rattle.board.specs.declared.Place.{Place}
use Rattle.board.proofs.Fresh.{after_fits}
use Rattle.channels.specs.Channels.{refusal_of, empty_shared, breaks_by, no_channel, open_of, close_of}
use Rattle.channels.specs.Runs.{On, turn_by, turn_of, no_lists, said_of, list_replies}
use Rattle.channels.specs.declared.SharedBoard.{SharedBoard}
use Rattle.channels.proofs.Reading.{Reads, Agrees, turn_agrees, empty_reads}
use Rattle.c_board.specs.Words.{listed, place_given, places_given, whose_given, board_given, ids_word, mark_word, word_at, words_of, stored}
use Rattle.c_board.specs.Lent.{flat_reply, settled, emptied, opened, closed}
use Rattle.c_board.specs.Calls.{lent_by, lent_answers, TypedCall, Typed}
use Rattle.c_board.specs.declared.FlatBoardAnswer.{FlatBoardAnswer}
use Rattle.c_board.proofs.Words.{length_listed, listed_again, ids_of, mark_of, next_of, word_there}

-- ---- a place, and a board

mark_used : (p : Place) (w : ℕ) → eqb (mark_word p w % 2) 1 ≡ p.used
unfolding mark_word
mark_used p w = go p.used
  where
    go : (u : Bool) → eqb (pick u (w * 2 + 1) (w * 2) % 2) 1 ≡ u
    go true = let x : (w * 2 + 1) % 2 ≡ 1 = omega arith in rw x
    go false = let x : w * 2 % 2 ≡ 0 = omega arith in rw x

mark_whose : (p : Place) (w : ℕ) → w < 256 → mark_word p w / 2 % 256 ≡ w
unfolding mark_word
mark_whose p w h = go p.used
  where
    go : (u : Bool) → pick u (w * 2 + 1) (w * 2) / 2 % 256 ≡ w
    go true = omega arith
    go false = omega arith

place_back : (p : Place) (w : ℕ) → p.provider < 4294967296 → place_given (ids_word p) (mark_word p w) ≡ p
unfolding place_given ids_word
place_back p w h =
    let a : (p.event * 4294967296 + p.provider) / 4294967296 ≡ p.event = omega arith in
    let b : (p.event * 4294967296 + p.provider) % 4294967296 ≡ p.provider = omega arith in
    rw (a, b, mark_used p w)

two_back : (l : List ℕ) → length l ≡ 2 → get_or l 0 0 ∷ get_or l 1 0 ∷ [] ≡ l
two_back [] h = absurd (omega arith)
two_back (x ∷ []) h = absurd (omega arith)
two_back (x ∷ y ∷ []) h = refl
two_back (x ∷ y ∷ z ∷ l) h = absurd (omega arith)

-- what the types say of a board: 32 places, each with a channel of 8 bits, two next ids, and ids of 32 bits
pub record Fits (b : SharedBoard) : Type 0 where
  pub many : length b.places ≡ 32
  pub owners : length b.whose ≡ 32
  pub two : length b.next ≡ 2
  pub ids : (i : ℕ) → (get_or b.places i blank_place).provider < 4294967296
  pub channels : (i : ℕ) → get_or b.whose i 0 < 256
  pub nexts : (i : ℕ) → get_or b.next i 0 < 4294967296

module _ (b : SharedBoard) (f : Fits b) (words : List ℕ) where
  there : (i : ℕ) → i < 66 → get_or (stored b words) i 0 ≡ word_at b i
  there i h = get_or-append (words_of b) (drop 66 words) 0 i (omega (arith, length_listed (word_at b) 0 66)) ∙ word_there b i h

  mark_there : (i : ℕ) → i < 32 → get_or (stored b words) (32 + i) 0 ≡ mark_word (get_or b.places i blank_place) (get_or b.whose i 0)
  mark_there i h =
      let y : (32 + i) % 32 ≡ i = omega arith in
      there (32 + i) (omega arith) ∙ rw y (sym (mark_of (get_or b.places i blank_place) (get_or b.whose i 0) (get_or b.next ((32 + i) % 2) 0) (32 + i) (omega arith) (omega arith)))

  one_back : (i : ℕ) → i < 32 → place_given (get_or (stored b words) i 0) (get_or (stored b words) (32 + i) 0) ≡ get_or b.places i blank_place
  one_back i h =
      let x : i % 32 ≡ i = omega arith in
      let ids : get_or (stored b words) i 0 ≡ ids_word (get_or b.places i blank_place) = there i (omega arith) ∙ rw x (sym (ids_of (get_or b.places i blank_place) (get_or b.whose i 0) (get_or b.next (i % 2) 0) i h)) in
      rw (ids, mark_there i h) (place_back (get_or b.places i blank_place) (get_or b.whose i 0) (f.ids i))

  places_back : places_given (stored b words) ≡ b.places
  unfolding places_given
  places_back =
      let g : ℕ → Place = λ i. place_given (get_or (stored b words) i 0) (get_or (stored b words) (32 + i) 0) in
      ap (λ (n : ℕ). listed g 0 n) (sym f.many)
      ∙ listed_again g 0 blank_place b.places (λ i h. ap g (zero-add i) ∙ one_back i (omega (arith, f.many)))

  whose_back : whose_given (stored b words) ≡ b.whose
  unfolding whose_given
  whose_back =
      let g : ℕ → ℕ = λ i. get_or (stored b words) (32 + i) 0 / 2 % 256 in
      ap (λ (n : ℕ). listed g 0 n) (sym f.owners)
      ∙ listed_again g 0 0 b.whose (λ i h. ap g (zero-add i) ∙ rw (mark_there i (omega (arith, f.owners))) (mark_whose (get_or b.places i blank_place) (get_or b.whose i 0) (f.channels i)))

  next_there : (i : ℕ) → i < 2 → get_or (stored b words) (64 + i) 0 % 4294967296 ≡ get_or b.next i 0
  next_there i h =
      let x : (64 + i) % 2 ≡ i = omega arith in
      let n : get_or (stored b words) (64 + i) 0 ≡ get_or b.next i 0 = there (64 + i) (omega arith) ∙ rw x (sym (next_of (get_or b.places ((64 + i) % 32) blank_place) (get_or b.whose ((64 + i) % 32) 0) (get_or b.next i 0) (64 + i) (omega arith))) in
      omega (arith, f.nexts i)

  pub board_given_back : board_given (stored b words) ≡ b
  board_given_back = rw (places_back, whose_back, next_there 0 (omega arith), next_there 1 (omega arith), two_back b.next f.two)

  long : 66 ≤ length (stored b words)
  long = omega (arith, length-append (words_of b) (drop 66 words), length_listed (word_at b) 0 66)

-- ---- a call keeps what the types say

-- what holds of each element holds after a store of one of which it holds
set_keeps : {A : Type 0} (P : A → Type 0) (l : List A) (at : ℕ) (x d : A) → P x → ((i : ℕ) → P (get_or l i d)) → (i : ℕ) → P (get_or (set l at x) i d)
set_keeps P [] at x d h g i = g i
set_keeps P (y ∷ l) zero x d h g zero = h
set_keeps P (y ∷ l) zero x d h g (suc i) = g (suc i)
set_keeps P (y ∷ l) (suc at) x d h g zero = g zero
set_keeps P (y ∷ l) (suc at) x d h g (suc i) = set_keeps P l at x d h (λ k. g (suc k)) i

fits_by : (c : ℕ) (q : Call) (b : SharedBoard) → TypedCall q → Fits b → Fits (turn_by c q b).board
unfolding open_of close_of
fits_by c (opening provider) b t f = go (no_channel c) refl (leb 16 (length (breaks_by c b)) || leb 32 (length (breaks_of b.places))) refl
  where
    go : (n : Bool) → no_channel c ≡ n → (x : Bool) → (leb 16 (length (breaks_by c b)) || leb 32 (length (breaks_of b.places))) ≡ x → Fits (turn_by c (opening provider) b).board
    go true e x g = rw e f
    go false e true g = rw (e, g) f
    go false e false g =
        let h : c < 2 = leb-false 2 c e in
        rw (e, g)
        (record {
          many = simp length-set f.many;
          owners = simp length-set f.owners;
          two = simp length-set f.two;
          ids = set_keeps (λ (p : Place). p.provider < 4294967296) b.places _ _ blank_place t f.ids;
          channels = set_keeps (λ (w : ℕ). w < 256) b.whose _ _ 0 (omega arith) f.channels;
          nexts = set_keeps (λ (n : ℕ). n < 4294967296) b.next _ _ 0 (after_fits _) f.nexts;
        })
fits_by c (closing id) b t f = go (no_channel c) refl (is_open id (breaks_by c b)) refl
  where
    go : (n : Bool) → no_channel c ≡ n → (x : Bool) → is_open id (breaks_by c b) ≡ x → Fits (turn_by c (closing id) b).board
    go true e x g = rw e f
    go false e false g = rw (e, g) f
    go false e true g =
        rw (e, g)
        (record {
          many = simp length-set f.many;
          owners = f.owners;
          two = f.two;
          ids = set_keeps (λ (p : Place). p.provider < 4294967296) b.places _ _ blank_place (omega arith) f.ids;
          channels = f.channels;
          nexts = f.nexts;
        })

-- ---- one call over C

impossible : {P : Type 0} → true ≡ false → P
impossible e = let z : ◌≡◌ {A = ℕ} 0 1 = cc in absurd (omega arith)

refused_same : (c : ℕ) (q : Call) (b : SharedBoard) → eqb (flat_reply (turn_by c q b).reply).refusal 0 ≡ false → (turn_by c q b).board ≡ b
unfolding open_of close_of flat_reply refusal_of
refused_same c (opening provider) b a = go (no_channel c) refl (leb 16 (length (breaks_by c b)) || leb 32 (length (breaks_of b.places))) refl
  where
    go : (n : Bool) → no_channel c ≡ n → (x : Bool) → (leb 16 (length (breaks_by c b)) || leb 32 (length (breaks_of b.places))) ≡ x → (turn_by c (opening provider) b).board ≡ b
    go true e x g = rw e
    go false e true g = rw (e, g)
    go false e false g = impossible (rw (e, g) at a)
refused_same c (closing id) b a = go (no_channel c) refl (is_open id (breaks_by c b)) refl
  where
    go : (n : Bool) → no_channel c ≡ n → (x : Bool) → is_open id (breaks_by c b) ≡ x → (turn_by c (closing id) b).board ≡ b
    go true e x g = rw e
    go false e false g = rw (e, g)
    go false e true g = impossible (rw (e, g) at a)

lent_is : (c : ℕ) (q : Call) (words : List ℕ) (b : SharedBoard) → 66 ≤ length words → board_given words ≡ b
    → lent_by c q words ≡ record { answer = flat_reply (turn_by c q b).reply; words = settled (flat_reply (turn_by c q b).reply) (turn_by c q b).board words }
unfolding opened closed
lent_is c (opening provider) words b h e = rw (le-ltb (length words) 66 h, e)
lent_is c (closing id) words b h e = rw (le-ltb (length words) 66 h, e)

words_after : (c : ℕ) (q : Call) (words : List ℕ) (b : SharedBoard) → Fits (turn_by c q b).board → 66 ≤ length words → board_given words ≡ b
    → (board_given (settled (flat_reply (turn_by c q b).reply) (turn_by c q b).board words) ≡ (turn_by c q b).board) × (66 ≤ length (settled (flat_reply (turn_by c q b).reply) (turn_by c q b).board words))
words_after c q words b f h g = go (eqb (flat_reply (turn_by c q b).reply).refusal 0) refl
  where
    go : (x : Bool) → eqb (flat_reply (turn_by c q b).reply).refusal 0 ≡ x
        → (board_given (pick x (stored (turn_by c q b).board words) words) ≡ (turn_by c q b).board) × (66 ≤ length (pick x (stored (turn_by c q b).board words) words))
    go true e = (board_given_back (turn_by c q b).board f words, long (turn_by c q b).board f words)
    go false e = (g ∙ sym (refused_same c q b e), h)

-- ---- any calls over C

calls_agree : (os : List On) (words : List ℕ) (b : SharedBoard) (ls : ℕ → Breaks) → Typed os → Fits b → Reads b ls → 66 ≤ length words → board_given words ≡ b → lent_answers os words ≡ map flat_reply (list_replies os ls)
unfolding lent_answers list_replies Typed
calls_agree [] words b ls t f r h g = refl
calls_agree (o ∷ os) words b ls t f r h g =
    let a : Agrees (turn_of o b) (said_of o ls).reply (said_of o ls).lists = turn_agrees o b ls r in
    let k : Fits (turn_of o b).board = fits_by o.channel o.call b t.0 f in
    let w = words_after o.channel o.call words b k h g in
    rw (lent_is o.channel o.call words b h g)
    (ap₂ (λ (x : FlatBoardAnswer) (xs : List FlatBoardAnswer). x ∷ xs) (ap flat_reply a.replies)
    (calls_agree os (settled (flat_reply (turn_of o b).reply) (turn_of o b).board words) (turn_of o b).board (said_of o ls).lists t.1 k a.reads w.1 w.0))

empty_fits : Fits empty_shared
empty_fits = record { many = refl; owners = refl; two = refl; ids = λ i. none i 32; channels = λ i. few i 32 0 (omega arith); nexts = λ i. let x : get_or (replicate 2 1) i 0 < 256 = few i 2 1 (omega arith) in omega arith }
  where
    none : (i n : ℕ) → (get_or (replicate n blank_place) i blank_place).provider < 4294967296
    none i zero = omega arith
    none zero (suc n) = omega arith
    none (suc i) (suc n) = none i n

    few : (i n x : ℕ) → x < 256 → get_or (replicate n x) i 0 < 256
    few i zero x h = omega arith
    few zero (suc n) x h = h
    few (suc i) (suc n) x h = few i n x h

-- "Over any calls from an empty board", in lent words: what two of Q-7's lists say
pub lent_board_is_two_lists : (words : List ℕ) (os : List On) → 66 ≤ length words → Typed os → lent_answers os (emptied words).words ≡ map flat_reply (list_replies os no_lists)
unfolding emptied
lent_board_is_two_lists words os h t =
    rw (le-ltb (length words) 66 h)
    (calls_agree os (stored empty_shared words) empty_shared no_lists t empty_fits empty_reads (long empty_shared empty_fits words) (board_given_back empty_shared empty_fits words))
