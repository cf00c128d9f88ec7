-- Calls on any channel one after the other, as the contracts of the functions allow them, and on a list for each channel.
use Rattle.std.specs.Prelude.{Err, ℕ, cond as pick, List, [], ◌∷◌, map, ◌==◌}
use Rattle.board.specs.Breaks.{Breaks, Told, no_breaks}
use Rattle.board.specs.Runs.{Call, told_of, list_answers}
use Rattle.board.specs.Runs.Call.{opening, closing}
use Rattle.channels.specs.Channels.{Reply, Turn, reply_of, no_channel, open_of, close_of}
use Rattle.channels.specs.declared.ChannelRefusal.TheVariants.{NoSuchChannel}
use Rattle.channels.specs.declared.SharedBoard.{SharedBoard}

-- one of Q-7's calls, on a channel of any number
pub record On : Type 0 where
  pub channel : ℕ
  pub call : Call

abbrev pub turn_by : ℕ → Call → SharedBoard → Turn
turn_by channel (opening provider) b = open_of b channel provider
turn_by channel (closing id) b = close_of b channel id

-- what the two functions ensure of a call
abbrev pub turn_of : On → SharedBoard → Turn
turn_of o b = turn_by o.channel o.call b

-- Calls one after the other from a board, what each is told, and the board after them, where `Does o b t` is what a call may do.
pub data Run (Does : On → SharedBoard → Turn → Type 0) : SharedBoard → List On → List Reply → SharedBoard → Type 0 where
  nothing : {b : SharedBoard} → Run Does b [] [] b
  then : {o : On} {b : SharedBoard} (t : Turn) {os : List On} {told : List Reply} {z : SharedBoard} → Does o b t → Run Does t.board os told z → Run Does b (o ∷ os) (t.reply ∷ told) z

-- ---- two of Q-7's lists, each of at most 16

abbrev pub no_lists : ℕ → Breaks
no_lists c = no_breaks

-- the lists with another in a channel's place
abbrev pub with_list : ℕ → Breaks → (ℕ → Breaks) → ℕ → Breaks
with_list channel l ls c = pick (c == channel) l (ls c)

pub record Said : Type 0 where
  pub reply : Reply
  pub lists : ℕ → Breaks

abbrev pub said_of : On → (ℕ → Breaks) → Said
said_of o ls =
    let t : Told = told_of 16 o.call (ls o.channel) in
    pick (no_channel o.channel) (record { reply = Err NoSuchChannel; lists = ls }) (record { reply = reply_of t.answer; lists = with_list o.channel t.breaks ls })

unfoldable pub list_replies : List On → (ℕ → Breaks) → List Reply
list_replies [] ls = []
list_replies (o ∷ os) ls = (said_of o ls).reply ∷ list_replies os (said_of o ls).lists

-- ---- what one channel asks and hears

unfoldable pub asked_by : ℕ → List On → List Call
asked_by c [] = []
asked_by c (o ∷ os) = pick (o.channel == c) (o.call ∷ asked_by c os) (asked_by c os)

-- of what all calls are told, what a channel's are
unfoldable pub heard_by : ℕ → List On → List Reply → List Reply
heard_by c [] told = []
heard_by c (o ∷ os) [] = []
heard_by c (o ∷ os) (r ∷ told) = pick (o.channel == c) (r ∷ heard_by c os told) (heard_by c os told)

-- What Q-7's list with room for 16 says to a channel's own calls; to one of another number, 63 each time. No other channel is named, no place, and no total.
abbrev pub alone : ℕ → List Call → Breaks → List Reply
alone c calls l = pick (no_channel c) (map (λ (q : Call). Err NoSuchChannel) calls) (map reply_of (list_answers 16 calls l))
