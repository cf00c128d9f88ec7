-- What Q-9 asks for. (`taken_right` in Right.antt: the same of every section that `take` hands out, from any state. `runs_join`, `run_in_order`,
-- `multiplexed_given` in Cutting.antt: the concatenation itself. Framing.antt: with the section reader.)
use Prim.Native.Nat.{ℕ, ◌≤◌, ◌<◌}
use mathlib.Core.Bool.{Bool, true, false}
use mathlib.Core.List.{List, [], ◌∷◌, ◌++◌}
use mathlib.Core.Path.{◌≡◌, refl, ◌∙◌}
use native.Mathlib.Omega.{arith}
use lib.Dec.{eqb, leb}
use lib.ListN.{length, drop, get_or}
use borrow.Author.Tests.{ne_eqb, leb-true, leb-false}
use Rattle.std.specs.Prelude.{Some, None, Ok, Err, Result}
use Rattle.transport_packet.specs.declared.packet.Refusal.{Refusal}
use Rattle.transport_packet.specs.declared.sections.Next.TheVariants.{Long}
use Rattle.transport.specs.declared.Assembler.{Assembler}
use Rattle.transport_packet.specs.Packet.{Head, head_of}
use Rattle.transport_packet.specs.Sections.{section_length, next_of, Right, Each}
use Rattle.transport.specs.Step.{State, Told, fresh, goes_on, cut_of, before, step_of, Settled}
use Rattle.transport.specs.Step.Told.{took}
use Rattle.transport.specs.Step.Settled.{none, going}
use Rattle.transport.specs.Assembler.{fresh_assembler, kept, under_for, fed_by, fed_with, fed_of}
use Rattle.transport_laws.specs.Concatenation.{payloads, unrepeated, runs_of, concatenation, concatenated, spans, spanned, Multiplex}
use Rattle.transport_laws.specs.Runs.{state_after, sections_in, given, accepted, Unrefused, Clean}
use Rattle.transport_laws.specs.Takes.{state_of, CodeStep, CodeGives, Ready}
use Rattle.transport_packet.proofs.Next.{Shown, shown, part_shown, same_length}
use Rattle.transport_laws.proofs.Runs.{given_spanned, given_concatenated, given_accepted, accepted_unrefused, step_settles}
use Rattle.transport_laws.proofs.Agreement.{is_step, code_given}
use Rattle.transport_laws.proofs.Right.{each_append, step_right}
use Rattle.transport_laws.proofs.Cutting.{multiplexed_given}

-- ---- the code is the step: `feed`, and `take` until it is done, answer what the step answers, with each section in the buffer when it is handed out

pub feed_and_take : (a later : Assembler) (p b b' : List ℕ) (x : Told) → Ready a b → CodeStep a p b x later b' → x ≡ step_of a.pid (state_of a b) p
feed_and_take a later p b b' x ready c = (is_step a p b ready x later b' c).told

-- and the state after it is the step's, and ready again
pub feed_and_take_later : (a later : Assembler) (p b b' : List ℕ) (x : Told) → Ready a b → CodeStep a p b x later b' → (state_of later b' ≡ state_after (state_of a b) x) × Ready later b'
feed_and_take_later a later p b b' x ready c = let i = is_step a p b ready x later b' c in (i.state, i.still)

pub packets_taken : (ps ss : List (List ℕ)) (a : Assembler) (b : List ℕ) → Ready a b → CodeGives a b ps ss → ss ≡ given a.pid (state_of a b) ps
packets_taken ps ss a b ready g = code_given ps ss a b ready g

-- the state that packets lead to is ready again
pub settles : (pid : ℕ) (s later : State) (p : List ℕ) (sections : List (List ℕ)) → Settled s.under → step_of pid s p ≡ took later sections → Settled later.under
settles pid s later p sections k e = step_settles pid p s later sections k e

-- ---- "A counter gap drops the section under way, and the next payload-unit start begins afresh"

-- Packets of which none is refused, with any gaps: for each span between two gaps, the sections of its own concatenation. (What stands before a
-- span's first pointer is in none of them.)
pub gaps_concatenated : (pid : ℕ) (ps : List (List ℕ)) → Unrefused pid fresh ps → given pid fresh ps ≡ concatenation (spans pid ps).first ++ spanned (spans pid ps).others
gaps_concatenated pid ps c = given_spanned pid ps c

-- any packets at all: the same of those that are not refused
pub any_concatenated : (pid : ℕ) (ps : List (List ℕ))
    → given pid fresh ps ≡ concatenation (spans pid (accepted pid fresh ps)).first ++ spanned (spans pid (accepted pid fresh ps)).others
any_concatenated pid ps = given_accepted pid ps fresh ∙ given_spanned pid (accepted pid fresh ps) (accepted_unrefused pid ps fresh)

pub code_any : (pid : ℕ) (buffer : List ℕ) (ps ss : List (List ℕ)) → 4096 ≤ length buffer → CodeGives (fresh_assembler pid) buffer ps ss
    → ss ≡ concatenation (spans pid (accepted pid fresh ps)).first ++ spanned (spans pid (accepted pid fresh ps)).others
code_any pid buffer ps ss r g = code_given ps ss (fresh_assembler pid) buffer (record { room = r; settled = none }) g ∙ any_concatenated pid ps

-- ---- "Without gaps or refused packets, the sections given are those of the standard's concatenation"

pub clean_concatenated : (pid : ℕ) (ps : List (List ℕ)) → Clean pid ps → given pid fresh ps ≡ concatenated pid ps
clean_concatenated pid ps c = given_concatenated pid ps c

pub code_concatenated : (pid : ℕ) (buffer : List ℕ) (ps ss : List (List ℕ)) → 4096 ≤ length buffer → Clean pid ps → CodeGives (fresh_assembler pid) buffer ps ss
    → ss ≡ concatenated pid ps
code_concatenated pid buffer ps ss r c g = code_given ps ss (fresh_assembler pid) buffer (record { room = r; settled = none }) g ∙ given_concatenated pid ps c

-- what was laid into packets without gaps or refusals, the code gives
pub code_multiplexed : (pid : ℕ) (buffer : List ℕ) (ps ss laid : List (List ℕ)) → 4096 ≤ length buffer → Clean pid ps → Multiplex (runs_of (unrepeated 16 (payloads pid ps))).runs laid
    → CodeGives (fresh_assembler pid) buffer ps ss → ss ≡ laid
code_multiplexed pid buffer ps ss laid r c m g = code_concatenated pid buffer ps ss r c g ∙ multiplexed_given (runs_of (unrepeated 16 (payloads pid ps))).runs laid m

-- ---- "Framing now fixes section_length before demand 2's reader is called"

-- of any state and any packets
pub given_right : (pid : ℕ) (s : State) (ps : List (List ℕ)) → Each Right (given pid s ps)
unfolding given
given_right pid s [] = tt
given_right pid s (p ∷ ps) = each_append (sections_in (step_of pid s p)) (given pid (state_after s (step_of pid s p)) ps) (step_right pid s p) (given_right pid (state_after s (step_of pid s p)) ps)

-- ---- "A refused packet changes no state": no byte of the buffer either, from any state

pub refused_keeps : (a : Assembler) (p b : List ℕ) (r : Refusal) → (fed_of a p b).answer ≡ Err r → (fed_of a p b).buffer ≡ b
unfolding fed_with fed_by
refused_keeps a p b r e = go (head_of a.pid p) refl
  where
    go : (k : Head) → head_of a.pid p ≡ k → (fed_of a p b).buffer ≡ b
    go (Err y) h = rw h
    go (Ok None) h = rw h
    go (Ok (Some x)) h = by_repeat (eqb x.counter a.counter) refl (cut_of (under_for a x.counter b) (before p x.at x.first) (drop x.first p)).long refl
      where
        by_repeat : (f : Bool) → eqb x.counter a.counter ≡ f → (l : Bool) → (cut_of (under_for a x.counter b) (before p x.at x.first) (drop x.first p)).long ≡ l → (fed_of a p b).buffer ≡ b
        by_repeat true f l g = rw (h, f)
        by_repeat false f true g = rw (h, f, g)
        by_repeat false f false g =
            let w : ◌≡◌ {A = Result Assembler Refusal} (Ok (record { pid = a.pid; counter = x.counter; held = length (kept (under_for a x.counter b) (before p x.at x.first) (drop x.first p)); at = x.first })) (Err r) =
            rw (h, f, g) at e in
            absurd cc

-- ---- 75 "whose length it completes": of a section under way it is the packet that brings the third byte

pub long_completed : (under x : List ℕ) → Settled under → goes_on under x ≡ Long → length under < 3
long_completed [] x none e = omega arith
long_completed under x (going f) e = go (leb 3 (length under)) refl
  where
    go : (b : Bool) → leb 3 (length under) ≡ b → length under < 3
    go false b = leb-false _ _ b
    go true b =
        let h : 3 ≤ length under = leb-true _ _ b in
        let l : next_of (under ++ x) ≡ Long = rw (ne_eqb (length under) 0 (λ z. omega arith)) at e in
        let w : Shown (length (under ++ x)) (get_or (under ++ x) 0 0) (section_length (under ++ x)) Long = rw l at (shown (length (under ++ x)) (get_or (under ++ x) 0 0) (section_length (under ++ x))) in
        absurd (omega (arith, w.1, same_length under x h, (part_shown under f).short h))
