-- The same over C, of the exported functions. `MovesTimeC kind ticks a f` is what `scte35_move_time` may answer, and so on (Contracts.antt);
-- `ReadsSectionC`, of theorems_functions, what `scte35_read_section` may.
use Prim.Native.Nat.{ℕ, suc, ◌+◌, ◌%◌, ◌≤◌}
use mathlib.Core.Bool.{Bool, true, false}
use mathlib.Core.List.{List, [], ◌∷◌, ◌++◌}
use mathlib.Core.Path.{◌≡◌, refl, ap, sym, ◌∙◌}
use native.Mathlib.Omega.{arith}
use lib.Dec.{eqb}
use lib.ListN.{length, take, drop}
use borrow.Author.Tests.{eqb-true, eqb-false}
use Rattle.std.specs.Prelude.{Result, Ok, Err}
use Rattle.adjust.proofs.Laws.{undo_wide}
use Rattle.adjust.specs.Adjust.{chain_of, undo_of}
use Rattle.adjust_section.specs.Adjusted.{adjusted_section}
use Rattle.bit_stores.specs.Written.{answer_of, later_of}
use Rattle.c_adjust.specs.FlatAdjust.{flat_adjustment}
use Rattle.c_adjust.specs.declared.FlatAdjustment.{FlatAdjustment}
use Rattle.c_command_writer.specs.Words.{flat_written}
use Rattle.c_command_writer.specs.declared.FlatWritten.{FlatWritten}
use Rattle.c_packet.specs.PacketWords.{state_in, kept_in, fed_number, kept_fed}
use Rattle.c_section.specs.FlatSection.{flat_section_read}
use Rattle.c_section.specs.declared.headers.FlatAdjusted.{FlatAdjusted}
use Rattle.c_section.specs.declared.sections.FlatSection.{FlatSection}
use Rattle.section.specs.Section.{section_of, number_of}
use Rattle.table.specs.Bits.{AllBytes}
use Rattle.table.specs.Writing.{Made, made}
use Rattle.theorems_functions.proofs.OverC.{ReadsSectionC, reads_section_so, flat_number, puts_flat, left}
use Rattle.theorems_functions.specs.Flat.{PutsFlat}
use Rattle.theorems_writer.proofs.Theorems as writing
use Rattle.transport.specs.Assembler.{FedTo, fresh_assembler, fed_of}
use Rattle.transport.specs.Step.{fresh}
use Rattle.transport.specs.declared.Assembler.{Assembler}
use Rattle.transport_laws.proofs.Theorems as packets
use Rattle.transport_laws.specs.Concatenation.{payloads, unrepeated, runs_of, concatenation, concatenated, spans, spanned, Multiplex}
use Rattle.transport_packet.specs.Sections.{Right, Each}
use Rattle.transport_packet.specs.declared.packet.Refusal.{Refusal}
use Rattle.theorems_requests.specs.Adjustments.{TimeOverC, ChainedOverC, UndoneOverC}
use Rattle.theorems_requests.specs.Packets.{refusal_number, unrefused_of, step_numbers, Zeros, words_of}
use Rattle.theorems_requests.specs.Sections.{adjust_answered, AdjustedTo, flat_with}
use Rattle.theorems_requests.proofs.Adjustments as adjustments
use Rattle.theorems_requests.proofs.Contracts.{fed_as, as_fed, MovesTimeC, moves_time_c_so, AdjustsTimeC, adjusts_time_c_so, ChainsC, chains_c_so, UndoesC, undoes_c_so, AdjustsSectionC, adjusts_section_c_so, ReadsHead, Starts, Feeds, feeds_so, StartsC, starts_c_so, FeedsC, feeds_c_so}
use Rattle.theorems_requests.proofs.Premises.{fresh_is_met, feed_is_met}
use Rattle.theorems_requests.proofs.Runs.{RunsPackets, RunsPacketsC, kept_words, number_is, run_over_c, run_again}
use Rattle.theorems_requests.proofs.Sections as sections
use Rattle.theorems_requests.proofs.Theorems as rattle
use Rattle.std.proofs.Common.{Ok}

-- ---- a time, in the words refusal, kind and ticks

-- Q-12; a time that is not specified keeps the kind that was handed in
pub scte35_move_time_moves_a_time : {kind ticks a : ℕ} {f : FlatAdjusted} → MovesTimeC kind ticks a f → TimeOverC kind kind ticks a f
scte35_move_time_moves_a_time {kind = kind} {ticks = ticks} {a = a} d = rw (moves_time_c_so d) (adjustments.moves_over_c kind ticks a)

-- Q-2; "otherwise none", kind 0
pub scte35_adjust_time_adds_the_adjustment : {kind ticks p : ℕ} {f : FlatAdjusted} → AdjustsTimeC kind ticks p f → TimeOverC 0 kind ticks p f
scte35_adjust_time_adds_the_adjustment {kind = kind} {ticks = ticks} {p = p} d = rw (adjusts_time_c_so d) (adjustments.adjusts_over_c kind ticks p)

-- so the adjusted time under p is the time moved by p; of another kind both refuse the same, and have the same ticks, 0
pub the_adjusted_time_over_c_is_the_time_moved : {kind ticks p : ℕ} {f g : FlatAdjusted} → AdjustsTimeC kind ticks p f → MovesTimeC kind ticks p g
    → (kind ≡ 3 → f ≡ g) × (f.refusal ≡ g.refusal) × (f.ticks ≡ g.ticks)
the_adjusted_time_over_c_is_the_time_moved d e = adjustments.one_time (scte35_adjust_time_adds_the_adjustment d) (scte35_move_time_moves_a_time e)

-- ---- adjustments, in the words refusal and adjustment

pub scte35_chain_adjustments_answers_the_sum : {a b : ℕ} {f : FlatAdjustment} → ChainsC a b f → ChainedOverC a b f
scte35_chain_adjustments_answers_the_sum {a = a} {b = b} d = rw (chains_c_so d) (adjustments.chains_over_c a b)

pub scte35_undo_adjustment_answers_what_takes_it_back : {a : ℕ} {f : FlatAdjustment} → UndoesC a f → UndoneOverC a f
unfolding flat_adjustment
scte35_undo_adjustment_answers_what_takes_it_back {a = a} d = rw (undoes_c_so d) (record { one = adjustments.undoes_over_c a; wide = λ h. ap flat_adjustment (undo_wide a h) })

-- by a and then by b is once by what `scte35_chain_adjustments` answers
pub over_c_by_a_and_then_by_b_is_once_by_their_chain : {kind ticks a b : ℕ} {f g h : FlatAdjusted} {c : FlatAdjustment} → MovesTimeC kind ticks a f → f.refusal ≡ 0
    → MovesTimeC f.kind f.ticks b g → g.refusal ≡ 0 → ChainsC a b c → MovesTimeC kind ticks c.adjustment h → h ≡ g
over_c_by_a_and_then_by_b_is_once_by_their_chain {kind = kind} {g = g} {h = h} first e second z chained once = go (eqb kind 3) refl
  where
    go : (k : Bool) → eqb kind 3 ≡ k → h ≡ g
    go true k =
        adjustments.twice_specified (eqb-true kind 3 k) (scte35_move_time_moves_a_time first) e (scte35_move_time_moves_a_time second) z (scte35_chain_adjustments_answers_the_sum chained)
        (scte35_move_time_moves_a_time once)
    go false k =
        adjustments.twice_other (eqb-false kind 3 k) (scte35_move_time_moves_a_time first) e (scte35_move_time_moves_a_time second) z (scte35_chain_adjustments_answers_the_sum chained)
        (scte35_move_time_moves_a_time once)

-- and what `scte35_undo_adjustment` answers takes it back
pub over_c_what_undo_answers_takes_it_back : {ticks a : ℕ} {f g : FlatAdjusted} {u : FlatAdjustment} → MovesTimeC 3 ticks a f → f.refusal ≡ 0 → UndoesC a u
    → MovesTimeC f.kind f.ticks u.adjustment g → g ≡ record { refusal = 0; kind = 3; ticks = ticks }
over_c_what_undo_answers_takes_it_back first e u second =
    let m = scte35_move_time_moves_a_time first in
    adjustments.back_specified refl m e ((scte35_undo_adjustment_answers_what_takes_it_back u).one (adjustments.not_wide m e).1).1 (scte35_move_time_moves_a_time second)

-- what it means for a cue: under its pts_adjustment p moved by a, a specified time is adjusted to what it was under p, moved by a
pub a_time_under_a_moved_adjustment_is_its_adjusted_time_moved : {ticks p a : ℕ} {f g h : FlatAdjusted} {c : FlatAdjustment} → AdjustsTimeC 3 ticks p f → f.refusal ≡ 0 → ChainsC p a c
    → AdjustsTimeC 3 ticks c.adjustment g → MovesTimeC f.kind f.ticks a h → h.refusal ≡ 0 → g ≡ h
a_time_under_a_moved_adjustment_is_its_adjusted_time_moved first e chained once second z =
    adjustments.twice_specified refl (scte35_adjust_time_adds_the_adjustment first) e (scte35_move_time_moves_a_time second) z (scte35_chain_adjustments_answers_the_sum chained)
    (scte35_adjust_time_adds_the_adjustment once)

-- ---- the single box: `scte35_adjust_section`

pub scte35_adjust_section_answers_in_order : {s : List ℕ} {a : ℕ} {target : List ℕ} {answer : FlatWritten} {later : List ℕ} → AdjustsSectionC s a target answer later
    → answer ≡ flat_written (adjust_answered s a (length target))
scte35_adjust_section_answers_in_order {s = s} {a = a} {target = target} d = (adjusts_section_c_so d).0 ∙ ap flat_written (sections.answers s target a)

pub a_refused_box_over_c_changes_no_byte : {s : List ℕ} {a : ℕ} {target : List ℕ} {answer : FlatWritten} {later : List ℕ} → AdjustsSectionC s a target answer later → (answer.refusal ≡ 0 → ⊥)
    → later ≡ target
a_refused_box_over_c_changes_no_byte {s = s} {a = a} {target = target} {answer = answer} d some =
    (adjusts_section_c_so d).1 ∙ left (adjusted_section s a) target answer.refusal (ap (λ (v : FlatWritten). v.refusal) (sym (adjusts_section_c_so d).0)) some

wrote : {s : List ℕ} {a : ℕ} {target : List ℕ} {answer : FlatWritten} {later : List ℕ} → AdjustsSectionC s a target answer later → answer.refusal ≡ 0
    → answer_of (adjusted_section s a) target ≡ Ok answer.«length»
wrote {s = s} {a = a} {target = target} d none =
    let e = (adjusts_section_c_so d).0 in
    sections.wrote_over_c s target a (ap (λ (v : FlatWritten). v.refusal) (sym e) ∙ none) ∙ ap (λ (v : FlatWritten). Ok v.«length») (sym e)

made_over_c : {s : List ℕ} {a : ℕ} {target : List ℕ} {answer : FlatWritten} {later : List ℕ} → AdjustsSectionC s a target answer later → answer.refusal ≡ 0
    → adjusted_section s a ≡ made (take answer.«length» later)
made_over_c {s = s} {a = a} {target = target} {answer = answer} {later = later} d none = sections.made_so (adjusted_section s a) target later answer.«length» (wrote d none) (adjusts_section_c_so d).1

pub an_adjusted_section_over_c_keeps_every_other_byte : {s : List ℕ} {a : ℕ} {target : List ℕ} {answer : FlatWritten} {later : List ℕ} → AdjustsSectionC s a target answer later → answer.refusal ≡ 0
    → AdjustedTo s a (take answer.«length» later) × (drop answer.«length» later ≡ drop answer.«length» target) × (length later ≡ length target)
an_adjusted_section_over_c_keeps_every_other_byte {s = s} {a = a} {target = target} {answer = answer} {later = later} d none =
    let l = (adjusts_section_c_so d).1 in
    let c = writing.an_accepted_write_changes_only_its_result (adjusted_section s a) target answer.«length» (wrote d none) in
    (sections.adjusted_to s a (take answer.«length» later) (made_over_c d none), ap (drop answer.«length») l ∙ c.rest, ap length l ∙ c.size)

-- read by `scte35_read_section` it has the same words but for pts_adjustment, to which a was added
pub an_adjusted_section_over_c_reads_the_same : {s : List ℕ} {f g : FlatSection} {a : ℕ} {target : List ℕ} {answer : FlatWritten} {later : List ℕ} → ReadsSectionC s f
    → AdjustsSectionC s a target answer later → answer.refusal ≡ 0 → ReadsSectionC (take answer.«length» later) g
    → (f.refusal ≡ 0) × (g ≡ flat_with ((f.header.pts_adjustment + a) % 8589934592) f)
unfolding flat_section_read
an_adjusted_section_over_c_reads_the_same {s = s} {f = f} {g = g} {a = a} {answer = answer} {later = later} old d none new =
    let t = sections.adjusted_to s a (take answer.«length» later) (made_over_c d none) in
    let e : f ≡ flat_section_read (Ok t.reading) = reads_section_so old ∙ ap flat_section_read t.was in
    let p = (t.reading.header.pts_adjustment + a) % 8589934592 in
    let h : g ≡ flat_with p (flat_section_read (Ok t.reading)) = reads_section_so new ∙ ap flat_section_read t.reads ∙ sections.flat_reading p t.reading in
    (ap (λ (v : FlatSection). v.refusal) e, h ∙ sections.its_adjustment t.reading a ∙ ap (λ (v : FlatSection). flat_with ((v.header.pts_adjustment + a) % 8589934592) v) (sym e))

-- what `scte35_read_section` refuses is refused with the same number
pub a_section_that_is_refused_over_c_is_not_adjusted : {s : List ℕ} {f : FlatSection} {a : ℕ} {target : List ℕ} {answer : FlatWritten} {later : List ℕ} → ReadsSectionC s f → (f.refusal ≡ 0 → ⊥)
    → AdjustsSectionC s a target answer later → answer.refusal ≡ f.refusal
a_section_that_is_refused_over_c_is_not_adjusted {s = s} {f = f} {a = a} {target = target} old some d =
    let q : f.refusal ≡ number_of (section_of s) = ap (λ (v : FlatSection). v.refusal) (reads_section_so old) ∙ flat_number (section_of s) in
    ap (λ (v : FlatWritten). v.refusal) (adjusts_section_c_so d).0 ∙ sections.refused_number s target a f.refusal q some

pub a_box_behind_a_box_over_c_is_one_by_their_chain : {s : List ℕ} {a b : ℕ} {c : FlatAdjustment} {target later room then last : List ℕ} {first answer other : FlatWritten} → AllBytes s
    → AdjustsSectionC s a target first later → first.refusal ≡ 0 → ChainsC a b c → c.refusal ≡ 0
    → AdjustsSectionC (take first.«length» later) b room answer then → AdjustsSectionC s c.adjustment room other last → (answer ≡ other) × (then ≡ last)
a_box_behind_a_box_over_c_is_one_by_their_chain {s = s} {a = a} {b = b} {c = c} {later = later} {room = room} {first = first} bytes d none f few second once =
    let k : chain_of a b ≡ Ok c.adjustment = adjustments.adjustment_over_c (chain_of a b) c (chains_c_so f) few in
    let e = sections.behind s (take first.«length» later) a b c.adjustment bytes (made_over_c d none) k in (
      (adjusts_section_c_so second).0 ∙ ap (λ (m : Made). flat_written (answer_of m room)) e ∙ sym (adjusts_section_c_so once).0,
      (adjusts_section_c_so second).1 ∙ ap (λ (m : Made). later_of m room) e ∙ sym (adjusts_section_c_so once).1,
    )

pub over_c_by_what_undo_answers_the_section_comes_back : {s : List ℕ} {a : ℕ} {u : FlatAdjustment} {target later room then : List ℕ} {first answer : FlatWritten} → AllBytes s
    → AdjustsSectionC s a target first later → first.refusal ≡ 0 → UndoesC a u → u.refusal ≡ 0 → AdjustsSectionC (take first.«length» later) u.adjustment room answer then
    → PutsFlat s room answer then
over_c_by_what_undo_answers_the_section_comes_back {s = s} {a = a} {u = u} {later = later} {room = room} {then = then} {first = first} {answer = answer} bytes d none f few second =
    let k : undo_of a ≡ Ok u.adjustment = adjustments.adjustment_over_c (undo_of a) u (undoes_c_so f) few in
    let r = take first.«length» later in
    puts_flat (adjusted_section r u.adjustment) s room answer then (sections.back s r a u.adjustment bytes (made_over_c d none) k) (adjusts_section_c_so second).0 (adjusts_section_c_so second).1

-- ---- transport packets

-- from words that were started, four or more, the first four are the state that `fresh` answers, and those behind them stay
pub scte35_packet_start_holds_a_fresh_state : {pid : ℕ} {words later : List ℕ} → StartsC pid words later → 4 ≤ length words → (a : Assembler) × Starts pid a × (later ≡ words_of a (drop 4 words))
scte35_packet_start_holds_a_fresh_state {pid = pid} {words = words} d h = (fresh_assembler pid, fresh_is_met pid, starts_c_so d ∙ go words h)
  where
    go : (l : List ℕ) → 4 ≤ length l → kept_in l (fresh_assembler pid) ≡ words_of (fresh_assembler pid) (drop 4 l)
    go [] k = absurd (omega arith)
    go (x ∷ []) k = absurd (omega arith)
    go (x ∷ y ∷ []) k = absurd (omega arith)
    go (x ∷ y ∷ z ∷ []) k = absurd (omega arith)
    go (x ∷ y ∷ z ∷ w ∷ l) k = kept_words (record { pid = x; counter = y; held = z; at = w }) (fresh_assembler pid) l

-- any calls over C are calls of Rattle: the same numbers, the same sections in the buffer, the same state in the first four words; the words behind stay
pub packets_over_c_are_those_of_rattle : {a : Assembler} {rest b w c : List ℕ} {ps : List (List ℕ)} {ns : List ℕ} {ss : List (List ℕ)} → RunsPacketsC (words_of a rest) b ps ns ss w c
    → (t : Assembler) × (w ≡ words_of t rest) × RunsPackets a b ps ns ss t c
packets_over_c_are_those_of_rattle {a = a} {rest = rest} run = run_over_c rest a refl run

-- and the other way round, whatever words stand behind: so there is a run over C of any packets (`a_run_of_any_packets_is_met`)
pub packets_of_rattle_are_those_over_c : {a t : Assembler} {b c : List ℕ} {ps : List (List ℕ)} {ns : List ℕ} {ss : List (List ℕ)} (rest : List ℕ) → RunsPackets a b ps ns ss t c
    → RunsPacketsC (words_of a rest) b ps ns ss (words_of t rest) c
packets_of_rattle_are_those_over_c rest run = run_again rest run

-- 71 to 75: a packet that `feed` refuses is answered by the refusal's number; so is one that its head refuses
pub a_packet_over_c_is_refused_by_its_number : {a left : Assembler} {rest p b : List ℕ} {r : Refusal} {later : List ℕ} {n : ℕ} {w c : List ℕ} → Feeds a p b (Err r, left) later
    → FeedsC (words_of a rest) p b n w c → n ≡ refusal_number r
unfolding fed_number
a_packet_over_c_is_refused_by_its_number {left = left} {r = r} d f =
    (feeds_c_so f).0 ∙ ap (λ (x : FedTo). fed_number x.answer) (sym (feeds_so {left = (Err r, left)} d).0) ∙ number_is r

pub a_packet_over_c_is_refused_with_71_to_74_by_its_head : {a : Assembler} {rest p b : List ℕ} {r : Refusal} {n : ℕ} {w c : List ℕ} → ReadsHead a.pid p (Err r) → FeedsC (words_of a rest) p b n w c
    → n ≡ refusal_number r
unfolding fed_number
a_packet_over_c_is_refused_with_71_to_74_by_its_head {a = a} {p = p} {b = b} {r = r} h f =
    let e = sym (as_fed a (fed_of a p b).answer) ∙ ap fed_as (rattle.a_packet_that_its_head_refuses_is_refused h (feed_is_met a p b)).0 in
    (feeds_c_so f).0 ∙ ap fed_number e ∙ number_is r

-- "A refused packet changes no state": no word and no byte, however many words are lent
pub a_refused_packet_over_c_changes_nothing : {words p b : List ℕ} {n : ℕ} {w c : List ℕ} → FeedsC words p b (suc n) w c → (w ≡ words) × (c ≡ b)
unfolding fed_number kept_fed
a_refused_packet_over_c_changes_nothing {words = words} {p = p} {b = b} {n = n} {w = w} {c = c} d = go (fed_of (state_in words) p b).answer refl
  where
    go : (k : Result Assembler Refusal) → (fed_of (state_in words) p b).answer ≡ k → (w ≡ words) × (c ≡ b)
    go (Ok later) e = let z : suc n ≡ 0 = (feeds_c_so d).0 ∙ ap fed_number e in absurd (omega (arith, z))
    go (Err r) e = ((feeds_c_so d).1 ∙ ap (kept_fed words) e, (feeds_c_so d).2 ∙ packets.refused_keeps (state_in words) p b r e)

-- From `scte35_packet_start` on, with four words or more and the buffer that was asked for, of any packets.
module _ {pid : ℕ} {words started w b c : List ℕ} {ps : List (List ℕ)} {ns : List ℕ} {ss : List (List ℕ)} (start : StartsC pid words started) (four : 4 ≤ length words) (room : 4096 ≤ length b) (run : RunsPacketsC started b ps ns ss w c) where
  fresh_run : (a : Assembler) × Starts pid a × ((t : Assembler) × (w ≡ words_of t (drop 4 words)) × RunsPackets a b ps ns ss t c)
  fresh_run =
      let s = scte35_packet_start_holds_a_fresh_state start four in
      (s.0, s.1, run_over_c (drop 4 words) s.0 s.2 run)

  pub packets_over_c_give_the_sections_of_their_spans : ss ≡ concatenation (spans pid (unrefused_of ps ns)).first ++ spanned (spans pid (unrefused_of ps ns)).others
  packets_over_c_give_the_sections_of_their_spans = rattle.packets_give_the_sections_of_their_spans fresh_run.1 room fresh_run.2.2

  pub packets_over_c_are_refused_as_the_step_says : ns ≡ step_numbers pid fresh ps
  packets_over_c_are_refused_as_the_step_says = rattle.packets_are_refused_as_the_step_says fresh_run.1 room fresh_run.2.2

  pub packets_over_c_without_gaps_or_refusals_give_the_concatenation : Zeros ns → (spans pid ps).others ≡ [] → ss ≡ concatenated pid ps
  packets_over_c_without_gaps_or_refusals_give_the_concatenation = rattle.packets_without_gaps_or_refusals_give_the_concatenation fresh_run.1 room fresh_run.2.2

  pub what_was_laid_into_packets_comes_back_over_c : (laid : List (List ℕ)) → Zeros ns → (spans pid ps).others ≡ [] → Multiplex (runs_of (unrepeated 16 (payloads pid ps))).runs laid → ss ≡ laid
  what_was_laid_into_packets_comes_back_over_c = rattle.what_was_laid_into_packets_comes_back fresh_run.1 room fresh_run.2.2

  pub every_section_of_packets_over_c_is_as_long_as_it_says : Each Right ss
  every_section_of_packets_over_c_is_as_long_as_it_says = rattle.every_section_of_packets_is_as_long_as_it_says fresh_run.1 room fresh_run.2.2

  -- and the words behind the first four are as they were
  pub packets_over_c_leave_the_words_behind : drop 4 w ≡ drop 4 words
  packets_over_c_leave_the_words_behind = ap (drop 4) fresh_run.2.1
