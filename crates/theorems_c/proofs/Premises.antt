-- What the statements of boards ask of calls can be met: any calls from an empty board, as the contracts of the functions allow them.
use Prim.Native.Nat.{ℕ}
use mathlib.Core.List.{List, [], ◌∷◌}
use mathlib.Core.Path.{refl}
use contract.Lifetimes.{Lfts}
use denote.MutBor.{MutBor}
use Rattle.board.specs.Board.{empty_board}
use Rattle.board.specs.Calls as one
use Rattle.board.specs.Runs.{Call, step_of}
use Rattle.board.specs.Runs.Call.{opening, closing}
use Rattle.board.specs.Breaks.{Answer}
use Rattle.board.specs.declared.Board.{Board}
use Rattle.board.proofs.Theorems as board
use Rattle.board.proofs.Board.empty.Reads as empty
use Rattle.channels.specs.Channels.{Reply, empty_shared}
use Rattle.channels.specs.Runs as two
use Rattle.channels.specs.Runs.{On, turn_by, turn_of}
use Rattle.channels.specs.declared.SharedBoard.{SharedBoard}
use Rattle.channels.proofs.Theorems as channels
use Rattle.channels.proofs.SharedBoard.empty.Reads as empty_shared
use Rattle.c_board.specs.Calls.{lent_by, lent_of, lent_answers}
use Rattle.c_board.specs.Lent.{emptied}
use Rattle.theorems_c.specs.Boards.{LentRun}
use Rattle.theorems_c.proofs.BoardOverC as over_c

-- what is lent
abbrev lent : {A : Type 0} → A → MutBor A
lent x = record { ref_ptr = (0, 0); ghost_name = 0; now = x }

-- ---- a board

does : (c : Call) (b : Board) → board.Does c b (step_of c b)
does (opening provider) b =
    let s = step_of (opening provider) b in
    record { κ = ([], tt); arguments = (lent b, (provider, tt)); answer = s.answer; after = (lent s.board, (provider, tt)); taken = refl; left = refl; learnt_so = (refl, refl) }
does (closing id) b =
    let s = step_of (closing id) b in
    record { κ = ([], tt); arguments = (lent b, (id, tt)); answer = s.answer; after = (lent s.board, (id, tt)); taken = refl; left = refl; learnt_so = (refl, refl) }

pub any_calls_are_run : (calls : List Call) (b : Board) → (heard : List Answer) × (z : Board) × one.Run board.Does b calls heard z
any_calls_are_run [] b = ([], b, one.Run.nothing)
any_calls_are_run (c ∷ calls) b =
    let r = any_calls_are_run calls (step_of c b).board in
    ((step_of c b).answer ∷ r.0, r.1, one.Run.then (step_of c b) (does c b) r.2)

pub a_board_is_emptied : (κ : Lfts 0) → empty.Learnt κ tt empty_board tt
a_board_is_emptied κ = refl

-- ---- two channels

does_on : (channel : ℕ) (c : Call) (b : SharedBoard) → channels.DoesOn channel c b (turn_by channel c b)
does_on channel (opening provider) b =
    let t = turn_by channel (opening provider) b in
    record { κ = ([], tt); arguments = (lent b, (channel, (provider, tt))); answer = t.reply; after = (lent t.board, (channel, (provider, tt))); taken = refl; left = refl; learnt_so = (refl, refl) }
does_on channel (closing id) b =
    let t = turn_by channel (closing id) b in
    record { κ = ([], tt); arguments = (lent b, (channel, (id, tt))); answer = t.reply; after = (lent t.board, (channel, (id, tt))); taken = refl; left = refl; learnt_so = (refl, refl) }

pub any_calls_on_channels_are_run : (os : List On) (b : SharedBoard) → (told : List Reply) × (z : SharedBoard) × two.Run channels.Does b os told z
any_calls_on_channels_are_run [] b = ([], b, two.Run.nothing)
any_calls_on_channels_are_run (o ∷ os) b =
    let r = any_calls_on_channels_are_run os (turn_of o b).board in
    ((turn_of o b).reply ∷ r.0, r.1, two.Run.then (turn_of o b) (does_on o.channel o.call b) r.2)

pub a_shared_board_is_emptied : (κ : Lfts 0) → empty_shared.Learnt κ tt empty_shared tt
a_shared_board_is_emptied κ = refl

-- ---- over C

pub lent_words_are_emptied : (words : List ℕ) → over_c.Empties words (emptied words).answer (emptied words).words
lent_words_are_emptied words = record { κ = ([], tt); arguments = (lent words, tt); answer = (emptied words).answer; after = (lent (emptied words).words, tt); taken = refl; left = refl; learnt_so = (refl, refl) }

does_over_c : (channel : ℕ) (c : Call) (words : List ℕ) → over_c.DoesOverC channel c words (lent_by channel c words).answer (lent_by channel c words).words
does_over_c channel (opening provider) words =
    let l = lent_by channel (opening provider) words in
    record { κ = ([], tt); arguments = (lent words, (channel, (provider, tt))); answer = l.answer; after = (lent l.words, (channel, (provider, tt))); taken = refl; left = refl; learnt_so = (refl, refl) }
does_over_c channel (closing id) words =
    let l = lent_by channel (closing id) words in
    record { κ = ([], tt); arguments = (lent words, (channel, (id, tt))); answer = l.answer; after = (lent l.words, (channel, (id, tt))); taken = refl; left = refl; learnt_so = (refl, refl) }

pub any_calls_over_c_are_run : (os : List On) (words : List ℕ) → LentRun over_c.Does words os (lent_answers os words)
unfolding lent_answers
any_calls_over_c_are_run [] words = LentRun.nothing
any_calls_over_c_are_run (o ∷ os) words = LentRun.then (lent_of o words).answer (lent_of o words).words (does_over_c o.channel o.call words) (any_calls_over_c_are_run os (lent_of o words).words)
