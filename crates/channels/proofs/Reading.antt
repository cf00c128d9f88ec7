-- A shared board and the two lists that it reads as answer the same, and read as one another after every call.
use Rattle.std.proofs.Common.{Err, ◌≡◌, ℕ, zero, suc, ◌+◌, ◌<◌, ◌≤◌, Bool, true, false, eqb, leb, [], ◌∷◌, ◌++◌, length, get_or, set, replicate, sym, refl, ◌∙◌, arith, length-append, length-set, get_or-set_other, get_or-set_same, eq-eqb, ne_eqb, leb-false, leb-true}
use lib.ListN.{get_or-replicate}
use borrow.Author.Tests.{lt-leb, eqb-false}
use Rattle.board.specs.Breaks.{Breaks, under, is_open, without, free_from, after, opened, closed}
use Rattle.board.specs.Board.{blank_place, taken_by, is_free, holds, before, breaks_of}
use Rattle.board.specs.Runs.{Call, told_of}
use Rattle.board.specs.Runs.Call.{opening, closing}
use Rattle.board.proofs.Places.{has_free, first_free, has_held, first_held, free_kept, closed_many, opened_many, broken}
use Rattle.board.proofs.Lists.{length_without}
use Rattle.board.proofs.Fresh.{after_fits, given_free}
use Rattle.board.proofs.Reading.{Same, same_free, same_opened, same_closed}
use Rattle.channels.specs.Channels.{Reply, Turn, reply_of, empty_shared, seen_as, seen_by, breaks_by, no_channel, open_of, close_of}
use Rattle.channels.specs.Runs.{On, turn_by, turn_of, no_lists, with_list, said_of}
use Rattle.channels.specs.declared.ChannelRefusal.TheVariants.{NoSuchChannel}
use Rattle.channels.specs.declared.SharedBoard.{SharedBoard}
use Rattle.channels.proofs.Views.{seen_length, seen_at, seen_set, seen_blank, seen_used, seen_free}
use Rattle.channels.proofs.Lists.{each, kept, one_more, one_less, room_for_both}
use Rattle.channels.proofs.Turns.{open_none, open_full, open_given, close_none}

-- ---- how a shared board reads as two lists: "Q-7's list reads as two lists from then on"

pub record Reads (b : SharedBoard) (ls : ℕ → Breaks) : Type 0 where
  pub room : length b.places ≡ 32
  pub owners : length b.whose ≡ 32
  pub two : length b.next ≡ 2
  pub next : (c : ℕ) → c < 2 → get_or b.next c 0 ≡ (ls c).next
  pub fits : (c : ℕ) → c < 2 → (ls c).next < 4294967296
  pub few : (c : ℕ) → c < 2 → length (ls c).held ≤ 16
  pub same : (c : ℕ) → c < 2 → Same (breaks_by c b) (ls c).held
  -- every open break is one channel's
  pub all : length (breaks_of b.places) ≡ length (ls 0).held + length (ls 1).held

pub record Agrees (t : Turn) (reply : Reply) (ls : ℕ → Breaks) : Type 0 where
  pub replies : t.reply ≡ reply
  pub reads : Reads t.board ls

-- ---- a store into the shared places

module _ (b : SharedBoard) (ls : ℕ → Breaks) (r : Reads b ls) (c : ℕ) (h : c < 2) where
  -- a break of one channel more, in a place that is free
  opened_reads :
      (at id provider : ℕ) → at < 32 → (get_or b.places at blank_place).used ≡ false → under id (ls c).held ≡ [] → length (ls c).held < 16
      → Reads (record { places = set b.places at (taken_by id provider); whose = set b.whose at c; next = set b.next c (after id) })
      (with_list c (record { held = (ls c).held ++ broken id provider ∷ []; next = after id }) ls)
  opened_reads at id provider f free new few =
      record {
        room = simp length-set r.room;
        owners = simp length-set r.owners;
        two = simp length-set r.two;
        next = each (λ k l. get_or (set b.next c (after id)) k 0 ≡ l.next) c l ls (get_or-set_same b.next c (after id) 0 (omega (arith, r.two))) (λ k g o. get_or-set_other b.next c k (after id) 0 (eqb-false k c o) ∙ r.next k g);
        fits = each (λ k l. l.next < 4294967296) c l ls (after_fits id) (λ k g o. r.fits k g);
        few = each (λ k l. length l.held ≤ 16) c l ls (omega (arith, longer)) (λ k g o. r.few k g);
        same = each (λ k l. Same (breaks_of (seen_by k (set b.places at (taken_by id provider)) (set b.whose at c))) l.held) c l ls mine other;
        all = omega (arith, opened_many id provider b.places at blank_place (omega (arith, r.room)) free, r.all, one_more c l ls h (longer ∙ omega arith));
      }
    where
      l : Breaks
      l = record { held = (ls c).held ++ broken id provider ∷ []; next = after id }

      longer : length l.held ≡ length (ls c).held + 1
      longer = length-append (ls c).held (broken id provider ∷ [])

      free_seen : (k : ℕ) → (get_or (seen_by k b.places b.whose) at blank_place).used ≡ false
      free_seen k = rw (seen_at k b.places b.whose at blank_place (omega (arith, r.room)) (omega (arith, r.owners))) (seen_free k (get_or b.places at blank_place) (get_or b.whose at 0) free)

      mine : Same (breaks_of (seen_by c (set b.places at (taken_by id provider)) (set b.whose at c))) l.held
      mine =
          rw (seen_set c b.places b.whose at (taken_by id provider) c, eq-eqb c c refl)
          (same_opened id provider (seen_by c b.places b.whose) at blank_place (ls c).held (omega (arith, seen_length c b.places b.whose (r.room ∙ sym r.owners), r.room)) (free_seen c) new (r.same c h))

      other : (k : ℕ) → k < 2 → eqb k c ≡ false → Same (breaks_of (seen_by k (set b.places at (taken_by id provider)) (set b.whose at c))) (ls k).held
      other k g o =
          rw (seen_set k b.places b.whose at (taken_by id provider) c, ne_eqb c k (λ e. eqb-false k c o (sym e)), free_kept (seen_by k b.places b.whose) at blank_place (free_seen k))
          (r.same k g)

  -- the first of one channel's breaks under an id fewer: its place is free for either
  closed_reads :
      (id : ℕ) → is_open id (ls c).held ≡ true
      → Reads (record { places = set b.places (before (holds id) (seen_by c b.places b.whose)) blank_place; whose = b.whose; next = b.next })
      (with_list c (record { held = without id (ls c).held; next = (ls c).next }) ls)
  closed_reads id o =
      record {
        room = simp length-set r.room;
        owners = r.owners;
        two = r.two;
        next = each (λ k l. get_or b.next k 0 ≡ l.next) c l ls (r.next c h) (λ k g e. r.next k g);
        fits = each (λ k l. l.next < 4294967296) c l ls (r.fits c h) (λ k g e. r.fits k g);
        few = each (λ k l. length l.held ≤ 16) c l ls (omega (arith, shorter, r.few c h)) (λ k g e. r.few k g);
        same = each (λ k l. Same (breaks_of (seen_by k (set b.places at blank_place) b.whose)) l.held) c l ls mine other;
        all = omega (arith, closed_many b.places at blank_place (omega (arith, there, seen_length c b.places b.whose (r.room ∙ sym r.owners))) held.1, r.all, one_less c l ls h shorter);
      }
    where
      at : ℕ
      at = before (holds id) (seen_by c b.places b.whose)

      l : Breaks
      l = record { held = without id (ls c).held; next = (ls c).next }

      shorter : length (ls c).held ≡ suc (length l.held)
      shorter = length_without id (ls c).held o

      there : at < length (seen_by c b.places b.whose)
      there = has_held id (seen_by c b.places b.whose) (rw ((r.same c h).each id) o)

      at_fits : at < 32
      at_fits = omega (arith, there, seen_length c b.places b.whose (r.room ∙ sym r.owners), r.room)

      seen_there : (k : ℕ) → get_or (seen_by k b.places b.whose) at blank_place ≡ seen_as k (get_or b.places at blank_place) (get_or b.whose at 0)
      seen_there k = seen_at k b.places b.whose at blank_place (omega (arith, at_fits, r.room)) (omega (arith, at_fits, r.owners))

      held : (get_or b.whose at 0 ≡ c) × ((get_or b.places at blank_place).used ≡ true)
      held = seen_used c (get_or b.places at blank_place) (get_or b.whose at 0) (rw (← seen_there c) (first_held id (seen_by c b.places b.whose) blank_place there))

      mine : Same (breaks_of (seen_by c (set b.places at blank_place) b.whose)) l.held
      mine = rw (seen_blank c b.places b.whose at) (same_closed id (seen_by c b.places b.whose) (ls c).held o (r.same c h))

      other : (k : ℕ) → k < 2 → eqb k c ≡ false → Same (breaks_of (seen_by k (set b.places at blank_place) b.whose)) (ls k).held
      other k g e = rw (seen_blank k b.places b.whose at, free_kept (seen_by k b.places b.whose) at blank_place hidden) (r.same k g)
        where
          hidden : (get_or (seen_by k b.places b.whose) at blank_place).used ≡ false
          hidden = rw (seen_there k, held.0, ne_eqb c k (λ x. eqb-false k c e (sym x)))

-- ---- a call

pub open_agrees : (b : SharedBoard) (ls : ℕ → Breaks) (c provider : ℕ) → Reads b ls → c < 2 → Agrees (open_of b c provider) (reply_of (opened 16 provider (ls c)).answer) (with_list c (opened 16 provider (ls c)).breaks ls)
unfolding opened
open_agrees b ls c provider r h = go (leb 16 (length (ls c).held)) refl
  where
    id : ℕ
    id = free_from 16 (ls c).held (ls c).next

    found : free_from 16 (breaks_by c b) (get_or b.next c 0) ≡ id
    found = rw (r.next c h) (same_free 16 (breaks_by c b) (ls c).held (ls c).next (r.same c h))

    go : (f : Bool) → leb 16 (length (ls c).held) ≡ f → Agrees (open_of b c provider) (reply_of (opened 16 provider (ls c)).answer) (with_list c (opened 16 provider (ls c)).breaks ls)
    go true e =
        let full : 16 ≤ length (breaks_by c b) = omega (arith, (r.same c h).many, leb-true 16 (length (ls c).held) e) in
        rw (open_full b c provider h full, e, kept c ls) (record { replies = refl; reads = r })
    go false e =
        let few : length (ls c).held < 16 = leb-false 16 (length (ls c).held) e in
        let mine : length (breaks_by c b) < 16 = omega (arith, (r.same c h).many) in
        let free : before is_free b.places < length b.places = has_free b.places (omega (arith, r.room, r.all, room_for_both c ls h few r.few)) in
        let at : before is_free b.places < 32 = omega (arith, r.room) in
        let new : under id (ls c).held ≡ [] = given_free 16 (ls c).held (ls c).next (r.fits c h) few (omega arith) in
        rw (open_given b c provider h mine r.room at, e, found)
        (record { replies = refl; reads = opened_reads b ls r c h (before is_free b.places) id provider at (first_free b.places blank_place free) new few })

pub close_agrees : (b : SharedBoard) (ls : ℕ → Breaks) (c id : ℕ) → Reads b ls → c < 2 → Agrees (close_of b c id) (reply_of (closed id (ls c)).answer) (with_list c (closed id (ls c)).breaks ls)
unfolding closed close_of
close_agrees b ls c id r h = go (is_open id (ls c).held) refl
  where
    go : (o : Bool) → is_open id (ls c).held ≡ o → Agrees (close_of b c id) (reply_of (closed id (ls c)).answer) (with_list c (closed id (ls c)).breaks ls)
    go false e = rw (lt-leb 2 c h, (r.same c h).each id, e, kept c ls) (record { replies = refl; reads = r })
    go true e = rw (lt-leb 2 c h, (r.same c h).each id, e) (record { replies = refl; reads = closed_reads b ls r c h id e })

call_agrees : (q : Call) (b : SharedBoard) (ls : ℕ → Breaks) (c : ℕ) → Reads b ls → c < 2 → Agrees (turn_by c q b) (reply_of (told_of 16 q (ls c)).answer) (with_list c (told_of 16 q (ls c)).breaks ls)
call_agrees (opening provider) b ls c r h = open_agrees b ls c provider r h
call_agrees (closing id) b ls c r h = close_agrees b ls c id r h

call_refused : (q : Call) (b : SharedBoard) (c : ℕ) → 2 ≤ c → turn_by c q b ≡ record { reply = Err NoSuchChannel; board = b }
call_refused (opening provider) b c h = open_none b c provider h
call_refused (closing id) b c h = close_none b c id h

pub turn_agrees : (o : On) (b : SharedBoard) (ls : ℕ → Breaks) → Reads b ls → Agrees (turn_of o b) (said_of o ls).reply (said_of o ls).lists
turn_agrees o b ls r = go (no_channel o.channel) refl
  where
    go : (n : Bool) → no_channel o.channel ≡ n → Agrees (turn_of o b) (said_of o ls).reply (said_of o ls).lists
    go true e = rw (call_refused o.call b o.channel (leb-true 2 o.channel e), e) (record { replies = refl; reads = r })
    go false e = rw e (call_agrees o.call b ls o.channel r (leb-false 2 o.channel e))

-- ---- the empty board

none_seen : (c n : ℕ) → breaks_of (seen_by c (replicate n blank_place) (replicate n 0)) ≡ []
unfolding breaks_of seen_by
none_seen c zero = refl
none_seen c (suc n) = rw (seen_free c blank_place 0 refl, none_seen c n)

empty_same : (c : ℕ) → Same (breaks_by c empty_shared) []
empty_same c = rw (none_seen c 32) (record { many = refl; each = λ id. refl })

pub empty_reads : Reads empty_shared no_lists
unfolding breaks_of
empty_reads =
    record {
      room = refl;
      owners = refl;
      two = refl;
      next = λ c h. get_or-replicate 2 c 1 0 h;
      fits = λ c h. omega arith;
      few = λ c h. omega arith;
      same = λ c h. empty_same c;
      all = refl;
    }
