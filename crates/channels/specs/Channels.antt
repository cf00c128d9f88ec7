-- What each function of the shared board answers, for any board, also one that no calls make.
use Rattle.std.specs.Prelude.{ℕ, Bool, cond as pick, ◌||◌, List, [], ◌∷◌, length, replicate, ◌==◌, nat_le, slice_index, slice_set, Result, Ok, Err}
use Rattle.board.specs.Breaks.{Answer, Break, is_open, provider_of, free_from, after, number_of}
use Rattle.board.specs.Board.{blank_place, taken_by, is_free, holds, before, breaks_of}
use Rattle.board.specs.declared.Refusal.TheVariants.{BoardFull, NotOpen}
use Rattle.board.specs.declared.Place.{Place}
use Rattle.channels.specs.declared.ChannelRefusal.{ChannelRefusal}
use Rattle.channels.specs.declared.ChannelRefusal.TheVariants.{NoSuchChannel, Board}
use Rattle.channels.specs.declared.SharedBoard.{SharedBoard}

-- the event id or the provider id; or the refusal
abbrev pub Reply : Type 0
Reply = Result ℕ ChannelRefusal

-- what Q-7's board answers, as a reply
abbrev pub reply_of : Answer → Reply
reply_of (Ok id) = Ok id
reply_of (Err r) = Err (Board r)

-- the number of each refusal, 0 where there is none
unfoldable pub refusal_of : Reply → ℕ
refusal_of (Ok id) = 0
refusal_of (Err NoSuchChannel) = 63
refusal_of (Err (Board r)) = number_of r

-- "Each of the two channels has its own next id"
abbrev pub empty_shared : SharedBoard
empty_shared = record { places = replicate 32 blank_place; whose = replicate 32 0; next = replicate 2 1 }

-- "Ids are looked up per channel": a place, and the places, as a channel sees them
abbrev pub seen_as : ℕ → Place → ℕ → Place
seen_as channel p whose = pick (whose == channel) p blank_place

unfoldable pub seen_by : ℕ → List Place → List ℕ → List Place
seen_by channel [] whose = []
seen_by channel (p ∷ ps) [] = []
seen_by channel (p ∷ ps) (w ∷ ws) = seen_as channel p w ∷ seen_by channel ps ws

-- the open breaks of a channel, in the order of their places
abbrev pub breaks_by : ℕ → SharedBoard → List Break
breaks_by channel b = breaks_of (seen_by channel b.places b.whose)

-- what a call is told, and the board after it
pub record Turn : Type 0 where
  pub reply : Reply
  pub board : SharedBoard

abbrev pub as_found : ChannelRefusal → SharedBoard → Turn
as_found refusal b = record { reply = Err refusal; board = b }

-- "63 channel other than 0 or 1, tested first"
abbrev pub no_channel : ℕ → Bool
no_channel channel = nat_le 2 channel

-- "61 now exactly when that channel holds 16"; no calls make a board on which it holds fewer and no place is free (`room_for_both`)
unfoldable pub open_of : SharedBoard → ℕ → ℕ → Turn
open_of b channel provider =
    let id : ℕ = free_from 16 (breaks_by channel b) (slice_index b.next channel) in
    let at : ℕ = before is_free b.places in
    pick (no_channel channel) (as_found NoSuchChannel b)
    (pick (nat_le 16 (length (breaks_by channel b)) || nat_le 32 (length (breaks_of b.places))) (as_found (Board BoardFull) b)
    (record {
      reply = Ok id;
      board = record { places = slice_set b.places at (taken_by id provider); whose = slice_set b.whose at channel; next = slice_set b.next channel (after id) };
    }))

-- "62 as before, per channel"
unfoldable pub close_of : SharedBoard → ℕ → ℕ → Turn
close_of b channel id =
    pick (no_channel channel) (as_found NoSuchChannel b)
    (pick (is_open id (breaks_by channel b))
    (record {
      reply = Ok (provider_of id (breaks_by channel b));
      board = record { places = slice_set b.places (before (holds id) (seen_by channel b.places b.whose)) blank_place; whose = b.whose; next = b.next };
    })
    (as_found (Board NotOpen) b))
