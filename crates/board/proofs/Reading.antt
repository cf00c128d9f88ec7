-- A board and the list that it reads as answer the same, and read as one another after every call.
use Rattle.std.proofs.Common.{◌≡◌, ℕ, zero, suc, ◌<◌, Bool, true, false, leb, List, [], ◌∷◌, ◌++◌, length, get_or, set, sym, refl, ◌∙◌, arith, length-append, length-set, leb-false}
use Rattle.board.specs.Breaks.{Answer, Break, Breaks, no_breaks, under, is_open, without, free_from, after, opened, closed}
use Rattle.board.specs.Board.{Step, blank_place, taken_by, empty_board, is_free, holds, before, breaks_of, open_of, close_of}
use Rattle.board.specs.Runs.{Call, step_of, told_of}
use Rattle.board.specs.Runs.Call.{opening, closing}
use Rattle.board.specs.declared.Place.{Place}
use Rattle.board.specs.declared.Board.{Board}
use Rattle.board.proofs.Places.{has_free, first_free, closed_place, broken, opened_many, opened_each}
use Rattle.board.proofs.Lists.{under_append, under_without, length_without}
use Rattle.board.proofs.Fresh.{after_fits, given_free}

-- ---- how a board reads as a list

-- as many breaks, and the same under each event id, in whatever order
pub record Same (l m : List Break) : Type 0 where
  pub many : length l ≡ length m
  pub each : (id : ℕ) → under id l ≡ under id m

pub record Reads (b : Board) (l : Breaks) : Type 0 where
  pub room : length b.places ≡ 32
  pub next : b.next ≡ l.next
  pub fits : l.next < 4294967296
  pub same : Same (breaks_of b.places) l.held

-- ---- lists that say the same

pub same_free : (n : ℕ) (l m : List Break) (id : ℕ) → Same l m → free_from n l id ≡ free_from n m id
unfolding free_from
same_free zero l m id s = refl
same_free (suc n) l m id s = rw (s.each id, same_free n l m (after id) s)

pub same_without : (id : ℕ) (l m : List Break) → is_open id m ≡ true → Same l m → Same (without id l) (without id m)
same_without id l m o s =
    let p : is_open id l ≡ true = rw (s.each id) o in
    record {
      many = omega (arith, length_without id l p, length_without id m o, s.many);
      each = λ k. rw (under_without id k l, under_without id k m, s.each k);
    }

-- a store into a free place is one more at the list's end, under an id that was not open
pub same_opened : (id provider : ℕ) (ps : List Place) (at : ℕ) (d : Place) (m : List Break) → at < length ps → (get_or ps at d).used ≡ false → under id m ≡ [] → Same (breaks_of ps) m
    → Same (breaks_of (set ps at (taken_by id provider))) (m ++ broken id provider ∷ [])
same_opened id provider ps at d m h f n s =
    record {
      many = omega (arith, opened_many id provider ps at d h f, length-append m (broken id provider ∷ []), s.many);
      each = λ k. opened_each id provider k ps at d h f (s.each id ∙ n) ∙ rw (s.each k) (sym (under_append k m (broken id provider ∷ [])));
    }

pub same_closed : (id : ℕ) (ps : List Place) (m : List Break) → is_open id m ≡ true → Same (breaks_of ps) m → Same (breaks_of (set ps (before (holds id) ps) blank_place)) (without id m)
same_closed id ps m o s = rw (closed_place id ps) (same_without id (breaks_of ps) m o s)

-- ---- a board and a list

pub record Agrees (s : Step) (answer : Answer) (l : Breaks) : Type 0 where
  pub answers : s.answer ≡ answer
  pub reads : Reads s.board l

pub open_agrees : (b : Board) (l : Breaks) (provider : ℕ) → Reads b l → Agrees (open_of b provider) (opened 32 provider l).answer (opened 32 provider l).breaks
unfolding open_of opened
open_agrees b l provider r = go (leb 32 (length l.held)) refl
  where
    id : ℕ
    id = free_from 32 l.held l.next

    found : free_from 32 (breaks_of b.places) b.next ≡ id
    found = rw r.next (same_free 32 (breaks_of b.places) l.held l.next r.same)

    go : (f : Bool) → leb 32 (length l.held) ≡ f → Agrees (open_of b provider) (opened 32 provider l).answer (opened 32 provider l).breaks
    go true e = rw (r.same.many, e) (record { answers = refl; reads = r })
    go false e =
        let few : length l.held < 32 = leb-false _ _ e in
        let free : before is_free b.places < length b.places = has_free b.places (omega (arith, r.room, r.same.many)) in
        let new : under id l.held ≡ [] = given_free 32 l.held l.next r.fits few (omega arith) in
        rw (r.same.many, e, found)
        (record {
          answers = refl;
          reads =
              record {
                room = simp length-set r.room;
                next = refl;
                fits = after_fits id;
                same = same_opened id provider b.places (before is_free b.places) blank_place l.held free (first_free b.places blank_place free) new r.same;
              };
        })

pub close_agrees : (b : Board) (l : Breaks) (id : ℕ) → Reads b l → Agrees (close_of b id) (closed id l).answer (closed id l).breaks
unfolding close_of closed
close_agrees b l id r = go (is_open id l.held) refl
  where
    go : (o : Bool) → is_open id l.held ≡ o → Agrees (close_of b id) (closed id l).answer (closed id l).breaks
    go false e = rw (r.same.each id, e) (record { answers = refl; reads = r })
    go true e =
        rw (r.same.each id, e)
        (record {
          answers = refl;
          reads = record { room = simp length-set r.room; next = r.next; fits = r.fits; same = same_closed id b.places l.held e r.same };
        })

pub call_agrees : (c : Call) (b : Board) (l : Breaks) → Reads b l → Agrees (step_of c b) (told_of 32 c l).answer (told_of 32 c l).breaks
call_agrees (opening provider) b l r = open_agrees b l provider r
call_agrees (closing id) b l r = close_agrees b l id r

pub empty_reads : Reads empty_board no_breaks
unfolding breaks_of
empty_reads = record { room = refl; next = refl; fits = omega arith; same = record { many = refl; each = λ id. refl } }
