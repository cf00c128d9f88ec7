-- What Q-8 asks for, of the functions' contracts as the checker makes them.
use Rattle.std.proofs.Common.{Ok, Err, subst, ◌≡◌, ℕ, ◌<◌, ◌≤◌, Bool, true, false, cond as pick, eqb, List, [], ◌∷◌, map, length, get_or, sym, refl, ap, ◌∙◌, subst, ap₂, arith, ne_eqb, eqb-true}
use borrow.Author.Tests.{eqb-false, lt-leb}
use contract.Lifetimes.{Lfts}
use Rattle.board.specs.Breaks.{Breaks, no_breaks, is_open, provider_of, free_from}
use Rattle.board.specs.Board.{breaks_of}
use Rattle.board.specs.Calls.{May}
use Rattle.board.specs.Runs.{Call, told_of, list_answers}
use Rattle.board.specs.Runs.Call.{opening, closing}
use Rattle.board.specs.declared.Refusal.TheVariants.{BoardFull, NotOpen}
use Rattle.channels.specs.Channels.{Reply, Turn, reply_of, breaks_by, no_channel, as_found, open_of, close_of}
use Rattle.channels.specs.Runs.{On, turn_by, turn_of, Run, no_lists, said_of, list_replies, asked_by, heard_by, alone}
use Rattle.channels.specs.Runs.Run.{nothing, then}
use Rattle.channels.specs.declared.ChannelRefusal.TheVariants.{NoSuchChannel, Board}
use Rattle.channels.specs.declared.SharedBoard.{SharedBoard}
use Rattle.channels.proofs.SharedBoard.empty.Reads as empty
use Rattle.channels.proofs.SharedBoard.open_break.Reads as open_break
use Rattle.channels.proofs.SharedBoard.close_break.Reads as close_break
use Rattle.channels.proofs.Lists.{own, room_for_both}
use Rattle.channels.proofs.Turns.{open_none, open_full, close_none}
use Rattle.channels.proofs.Reading.{Reads, Agrees, turn_agrees, empty_reads}

-- ---- what the contracts allow

abbrev pub DoesOn : ℕ → Call → SharedBoard → Turn → Type 0
DoesOn channel (opening provider) b t = May open_break.Learnt {S = SharedBoard × (ℕ × ℕ)} {T = Reply × SharedBoard} (λ κ a. (a.0.now, (a.1.0, a.1.1.0))) (λ κ r e. (r, e.0.now)) (b, (channel, provider)) (t.reply, t.board)
DoesOn channel (closing id) b t = May close_break.Learnt {S = SharedBoard × (ℕ × ℕ)} {T = Reply × SharedBoard} (λ κ a. (a.0.now, (a.1.0, a.1.1.0))) (λ κ r e. (r, e.0.now)) (b, (channel, id)) (t.reply, t.board)

abbrev pub Does : On → SharedBoard → Turn → Type 0
Does o b t = DoesOn o.channel o.call b t

turn_is : (t u : Turn) (reply : Reply) (board : SharedBoard) → ◌≡◌ {A = Reply × SharedBoard} (reply, board) (t.reply, t.board) → reply ≡ u.reply → board ≡ u.board → t ≡ u
turn_is t u reply board l x y = ap (λ (p : Reply × SharedBoard). record { reply = p.0; board = p.1 }) (sym l) ∙ rw (x, y)

does_on : (channel : ℕ) (q : Call) (b : SharedBoard) (t : Turn) → DoesOn channel q b t → t ≡ turn_by channel q b
does_on channel (opening provider) b t d =
    turn_is t (open_of d.arguments.0.now d.arguments.1.0 d.arguments.1.1.0) _ _ d.left d.learnt_so.0 d.learnt_so.1 ∙ ap (λ (x : SharedBoard × (ℕ × ℕ)). open_of x.0 x.1.0 x.1.1) d.taken
does_on channel (closing id) b t d =
    turn_is t (close_of d.arguments.0.now d.arguments.1.0 d.arguments.1.1.0) _ _ d.left d.learnt_so.0 d.learnt_so.1 ∙ ap (λ (x : SharedBoard × (ℕ × ℕ)). close_of x.0 x.1.0 x.1.1) d.taken

-- ---- "Q-7's list reads as two lists from then on"

-- over any calls, on channels of any number: what is told is what the two lists say, and the board reads as them after
run_agrees : (os : List On) (b : SharedBoard) (ls : ℕ → Breaks) (told : List Reply) (z : SharedBoard) → Reads b ls → Run Does b os told z → told ≡ list_replies os ls
unfolding list_replies
run_agrees [] b ls (x ∷ told) z r x5 = elim x5 [ ]
run_agrees (o ∷ os) b ls [] z r x4 = elim x4 [ ]
run_agrees [] b ls [] z r nothing = refl
run_agrees (o ∷ os) b ls (x ∷ told) z r (then t d w) =
    let a : Agrees (turn_of o b) (said_of o ls).reply (said_of o ls).lists = turn_agrees o b ls r in
    let e : t ≡ turn_of o b = does_on o.channel o.call b t d in
    ap₂ (λ (x : Reply) (xs : List Reply). x ∷ xs) (ap (λ (x : Turn). x.reply) e ∙ a.replies) (run_agrees os t.board (said_of o ls).lists told z (subst (λ (x : Turn). Reads x.board (said_of o ls).lists) (sym e) a.reads) w)

pub board_is_two_lists : (κ : Lfts 0) (os : List On) (b : SharedBoard) (told : List Reply) (z : SharedBoard) → empty.Learnt κ tt b tt → Run Does b os told z → told ≡ list_replies os no_lists
board_is_two_lists κ os b told z e w = run_agrees os b no_lists told z (rw e empty_reads) w

-- ---- "one channel's answers are the same whatever the other opens or closes, refusals included"

module _ (o : On) (ls : ℕ → Breaks) where
  -- a call by its own channel
  own_call : (calls : List Call) (heard : List Reply) → heard ≡ alone o.channel calls ((said_of o ls).lists o.channel) → (said_of o ls).reply ∷ heard ≡ alone o.channel (o.call ∷ calls) (ls o.channel)
  unfolding list_answers
  own_call calls heard h = go (no_channel o.channel) refl
    where
      go : (n : Bool) → no_channel o.channel ≡ n → (said_of o ls).reply ∷ heard ≡ alone o.channel (o.call ∷ calls) (ls o.channel)
      go true e = rw (h, e)
      go false e = rw (h, e, own o.channel (told_of 16 o.call (ls o.channel)).breaks ls)

  -- a call by another
  other_call : (c : ℕ) → eqb o.channel c ≡ false → (said_of o ls).lists c ≡ ls c
  other_call c h = go (no_channel o.channel) refl
    where
      go : (n : Bool) → no_channel o.channel ≡ n → (said_of o ls).lists c ≡ ls c
      go true e = rw e
      go false e = rw (e, ne_eqb c o.channel (λ x. eqb-false o.channel c h (sym x)))

-- of what two lists say, a channel hears what its own calls are told
said_alone : (c : ℕ) (os : List On) (ls : ℕ → Breaks) → heard_by c os (list_replies os ls) ≡ alone c (asked_by c os) (ls c)
unfolding heard_by asked_by list_replies list_answers
said_alone c [] ls = go (no_channel c)
  where
    go : (n : Bool) → [] ≡ pick n (map (λ (q : Call). Err NoSuchChannel) []) (map reply_of (list_answers 16 [] (ls c)))
    go true = refl
    go false = refl
said_alone c (o ∷ os) ls = go (λ x. said_alone x os (said_of o ls).lists) (eqb o.channel c) refl
  where
    go : ((x : ℕ) → heard_by x os (list_replies os (said_of o ls).lists) ≡ alone x (asked_by x os) ((said_of o ls).lists x)) → (v : Bool) → eqb o.channel c ≡ v
        → heard_by c (o ∷ os) (list_replies (o ∷ os) ls) ≡ alone c (asked_by c (o ∷ os)) (ls c)
    go ih true e =
        rw e
        (subst (λ (x : ℕ). (said_of o ls).reply ∷ heard_by x os (list_replies os (said_of o ls).lists) ≡ alone x (o.call ∷ asked_by x os) (ls x)) (eqb-true o.channel c e)
        (own_call o ls (asked_by o.channel os) (heard_by o.channel os (list_replies os (said_of o ls).lists)) (ih o.channel)))
    go ih false e = rw (e, ← other_call o ls c e) (ih c)

-- a channel hears what Q-7's list with room for 16 says to its calls alone; one of another number hears 63 each time
pub heard_alone : (κ : Lfts 0) (c : ℕ) (os : List On) (b : SharedBoard) (told : List Reply) (z : SharedBoard) → empty.Learnt κ tt b tt → Run Does b os told z → heard_by c os told ≡ alone c (asked_by c os) no_breaks
heard_alone κ c os b told z e w = rw (board_is_two_lists κ os b told z e w) (said_alone c os no_lists)

pub isolated :
    (κ : Lfts 0) (c : ℕ) (xs ys : List On) (b d : SharedBoard) (told heard : List Reply) (y z : SharedBoard)
    → empty.Learnt κ tt b tt → Run Does b xs told y → empty.Learnt κ tt d tt → Run Does d ys heard z
    → asked_by c xs ≡ asked_by c ys → heard_by c xs told ≡ heard_by c ys heard
isolated κ c xs ys b d told heard y z e w f v a = heard_alone κ c xs b told y e w ∙ ap (λ (calls : List Call). alone c calls no_breaks) a ∙ sym (heard_alone κ c ys d heard z f v)

-- ---- the refusals, on any board: "63 channel other than 0 or 1, tested first"; a refusal leaves the very same board

module _ (b : SharedBoard) (channel provider : ℕ) (t : Turn) (d : DoesOn channel (opening provider) b t) where
  pub open_63 : 2 ≤ channel → t ≡ as_found NoSuchChannel b
  open_63 h = does_on channel (opening provider) b t d ∙ open_none b channel provider h

  -- "61 now exactly when that channel holds 16", with `a_channel_finds_a_place`
  pub open_61 : channel < 2 → 16 ≤ length (breaks_by channel b) → t ≡ as_found (Board BoardFull) b
  open_61 h f = does_on channel (opening provider) b t d ∙ open_full b channel provider h f

  pub open_accepted : channel < 2 → length (breaks_by channel b) < 16 → length (breaks_of b.places) < 32 → t.reply ≡ Ok (free_from 16 (breaks_by channel b) (get_or b.next channel 0))
  unfolding open_of
  open_accepted h f g = rw (does_on channel (opening provider) b t d, lt-leb 2 channel h, lt-leb 16 (length (breaks_by channel b)) f, lt-leb 32 (length (breaks_of b.places)) g)

module _ (b : SharedBoard) (channel id : ℕ) (t : Turn) (d : DoesOn channel (closing id) b t) where
  pub close_63 : 2 ≤ channel → t ≡ as_found NoSuchChannel b
  close_63 h = does_on channel (closing id) b t d ∙ close_none b channel id h

  -- "62 as before, per channel"
  pub close_62 : channel < 2 → is_open id (breaks_by channel b) ≡ false → t ≡ as_found (Board NotOpen) b
  unfolding close_of
  close_62 h f = does_on channel (closing id) b t d ∙ rw (lt-leb 2 channel h, f)

  pub close_accepted : channel < 2 → is_open id (breaks_by channel b) ≡ true → t.reply ≡ Ok (provider_of id (breaks_by channel b))
  unfolding close_of
  close_accepted h f = rw (does_on channel (closing id) b t d, lt-leb 2 channel h, f)

-- ---- the places are shared, and 16 and 16 always find one

lists_after : List On → (ℕ → Breaks) → ℕ → Breaks
lists_after [] ls = ls
lists_after (o ∷ os) ls = lists_after os (said_of o ls).lists

run_reads : (os : List On) (b : SharedBoard) (ls : ℕ → Breaks) (told : List Reply) (z : SharedBoard) → Reads b ls → Run Does b os told z → Reads z (lists_after os ls)
unfolding lists_after
run_reads [] b ls (x ∷ told) z r x5 = elim x5 [ ]
run_reads (o ∷ os) b ls [] z r x4 = elim x4 [ ]
run_reads [] b ls [] z r nothing = r
run_reads (o ∷ os) b ls (x ∷ told) z r (then t d w) =
    let a : Agrees (turn_of o b) (said_of o ls).reply (said_of o ls).lists = turn_agrees o b ls r in
    run_reads os t.board (said_of o ls).lists told z (subst (λ (x : Turn). Reads x.board (said_of o ls).lists) (sym (does_on o.channel o.call b t d)) a.reads) w

pub a_channel_finds_a_place :
    (κ : Lfts 0) (os : List On) (b : SharedBoard) (told : List Reply) (z : SharedBoard) → empty.Learnt κ tt b tt → Run Does b os told z
    → (c : ℕ) → c < 2 → length (breaks_by c z) < 16 → length (breaks_of z.places) < 32
a_channel_finds_a_place κ os b told z e w c h f =
    let r : Reads z (lists_after os no_lists) = run_reads os b no_lists told z (rw e empty_reads) w in
    omega (arith, r.all, room_for_both c (lists_after os no_lists) h (omega (arith, (r.same c h).many)) r.few)
