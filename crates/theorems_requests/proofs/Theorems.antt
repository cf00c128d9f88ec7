-- What document 02 asks of adjustments (Q-2, Q-12) and of transport packets (Q-9), of the functions of Rattle: whoever meets their contracts, as the
-- checker makes them of the sources, gives this on every input. So a contract that is changed together with its body is refused here.
-- (`Adjusts` and the like are in Contracts.antt.)
use Prim.Native.Nat.{ℕ, ◌+◌, ◌%◌, ◌≤◌}
use mathlib.Core.List.{List, [], ◌++◌}
use mathlib.Core.Path.{◌≡◌, refl, ap, ap₂, sym, subst, ◌∙◌}
use native.Mathlib.Omega.{arith}
use lib.ListN.{length, take, drop}
use Rattle.std.specs.Prelude.{Result, Ok, Err}
use Rattle.adjust.proofs.Laws.{adjust_is, adjust_wide, adjust_late, chain_is, chain_first, chain_second, undo_wide}
use Rattle.adjust.proofs.Theorems as adjusting
use Rattle.adjust.specs.Adjust.{adjust_of}
use Rattle.adjust.specs.Chains.{and_then}
use Rattle.adjust_section.specs.Adjusted.{adjusted_section}
use Rattle.adjust_section.specs.Readings.{reading_with}
use Rattle.bit_stores.specs.Written.{answer_of, later_of}
use Rattle.section.specs.declared.Section.{Section}
use Rattle.splice_time.proofs.Times as times
use Rattle.splice_time.specs.Time.{adjusted_of}
use Rattle.splice_time.specs.declared.SpliceTime.{SpliceTime}
use Rattle.splice_time.specs.declared.SpliceTime.TheVariants.{Immediate, Unspecified, At}
use Rattle.table.specs.Bits.{AllBytes}
use Rattle.table.specs.Writing.{Made, made}
use Rattle.theorems_functions.proofs.Contracts.{ReadsSection, reads_section_so}
use Rattle.theorems_functions.proofs.Writes.{puts}
use Rattle.theorems_functions.specs.Calls.{Puts}
use Rattle.theorems_writer.proofs.Theorems as writing
use Rattle.transport.proofs.Answers.{fed_refused}
use Rattle.transport.specs.Assembler.{FedTo, fresh_assembler, fed_state}
use Rattle.transport.specs.Step.{fresh}
use Rattle.transport.specs.Step.Settled.{none}
use Rattle.transport.specs.declared.Assembler.{Assembler}
use Rattle.transport_laws.proofs.Runs.{accepted_unrefused}
use Rattle.transport_laws.proofs.Theorems as packets
use Rattle.transport_laws.specs.Concatenation.{payloads, unrepeated, runs_of, concatenation, concatenated, spans, spanned, Multiplex}
use Rattle.transport_laws.specs.Runs.{Unrefused, Clean}
use Rattle.transport_laws.specs.Takes.{state_of, Ready}
use Rattle.transport_packet.specs.Sections.{Right, Each}
use Rattle.transport_packet.specs.Packet.{Head}
use Rattle.transport_packet.specs.declared.packet.Refusal.{Refusal}
use Rattle.theorems_requests.specs.Adjustments.{MovedBy, AdjustedUnder, ChainedBy, UndoneBy, Through, Single}
use Rattle.theorems_requests.specs.Adjustments.Through.{out, box}
use Rattle.theorems_requests.specs.Adjustments.Single.{all, next}
use Rattle.theorems_requests.specs.Packets.{HeadSays, unrefused_of, step_numbers, Zeros}
use Rattle.theorems_requests.specs.Sections.{adjust_answered, AdjustedTo}
use Rattle.theorems_requests.proofs.Adjustments as adjustments
use Rattle.theorems_requests.proofs.Contracts.{fed_as, Adjusts, adjusts_so, AdjustsUnder, adjusts_under_so, Chains, chains_so, Undoes, undoes_so, AdjustsSection, adjusts_section_so, ReadsHead, reads_head_so, Starts, starts_so, Feeds, feeds_so}
use Rattle.theorems_requests.proofs.Heads.{head_is}
use Rattle.theorems_requests.proofs.Premises.{adjust_is_met}
use Rattle.theorems_requests.proofs.Runs.{RunsPackets, run_code, none_refused}
use Rattle.theorems_requests.proofs.Sections as sections
use Rattle.std.proofs.Common.{Ok, Err, Option, Result}
use Rattle.splice_time.specs.declared.TooLarge.{TooLarge}
use Rattle.section.specs.declared.Refusal as section_refusal

-- ---- a time

-- Q-12: which answer, of any time and any number: "(t + a) modulo 8,589,934,592"; "An unspecified or immediate time stays so"; 32
pub adjust_moves_a_time : {t : SpliceTime} {a : ℕ} {m : Result SpliceTime TooLarge} → Adjusts t a m → MovedBy t a m
adjust_moves_a_time {t = t} {a = a} {m = m} d =
    let so : (u : SpliceTime) → t ≡ u → m ≡ adjust_of u a = λ u e. adjusts_so d ∙ ap (λ (y : SpliceTime). adjust_of y a) e in
    record {
      specified = λ n e h k. so (At n) e ∙ adjust_is (At n) a k h;
      unspecified = λ e k. so Unspecified e ∙ adjust_is Unspecified a k (omega arith);
      immediate = λ e k. so Immediate e ∙ adjust_is Immediate a k (omega arith);
      late = λ n e k h. so (At n) e ∙ adjust_late (At n) a k h;
      wide = λ k. adjusts_so d ∙ adjust_wide t a k;
    }

-- Q-2, of `adjusted_time`
pub adjusted_time_is_the_time_moved : {t : SpliceTime} {p : ℕ} {x : Result (Option ℕ) TooLarge} → AdjustsUnder t p x → AdjustedUnder t p x
adjusted_time_is_the_time_moved {t = t} {p = p} {x = x} d =
    let so : (u : SpliceTime) → t ≡ u → x ≡ adjusted_of u p = λ u e. adjusts_under_so d ∙ ap (λ (y : SpliceTime). adjusted_of y p) e in
    record {
      specified = λ n e h k. so (At n) e ∙ sym (times.adjust_at p k (At n) n refl h);
      unspecified = λ e k. so Unspecified e ∙ (times.adjusted_none p k).0;
      immediate = λ e k. so Immediate e ∙ (times.adjusted_none p k).1;
      late = λ n e k h. so (At n) e ∙ (times.adjusted_wide n p).1 k h;
      wide = λ k. adjusts_under_so d ∙ (times.adjusted_wide 0 p).0 k t;
    }

-- ---- adjustments

pub chain_answers_the_sum : {a b : ℕ} {x : Result ℕ TooLarge} → Chains a b x → ChainedBy a b x
chain_answers_the_sum {a = a} {b = b} d = record {
  one = λ h k. chains_so d ∙ chain_is a b h k;
  first_wide = λ h. chains_so d ∙ chain_first a b h;
  second_wide = λ h k. chains_so d ∙ chain_second a b h k;
}

pub undo_answers_what_takes_it_back : {a : ℕ} {x : Result ℕ TooLarge} → Undoes a x → UndoneBy a x
undo_answers_what_takes_it_back {a = a} d = record {
  one = λ h. let u = adjustments.undone a h in (u.0, undoes_so d ∙ u.1, u.2);
  wide = λ h. undoes_so d ∙ undo_wide a h;
}

-- "adjusting by a and then by b is proved equal to adjusting once": by what `chain` answers
pub by_a_and_then_by_b_is_once_by_what_chain_answers : {t u v : SpliceTime} {a b c : ℕ} {w : Result SpliceTime TooLarge} → Adjusts t a (Ok u) → Adjusts u b (Ok v) → Chains a b (Ok c)
    → Adjusts t c w → w ≡ Ok v
by_a_and_then_by_b_is_once_by_what_chain_answers {t = t} {u = u} {v = v} {a = a} {b = b} {c = c} d e f g =
    let m = adjustments.moved_so t u a (sym (adjusts_so d)) in
    let n = adjustments.moved_so u v b (sym (adjusts_so e)) in
    let k = adjustments.chained_so a b c (sym (chains_so f)) in
    adjusts_so g ∙ ap (adjust_of t) (sym k.2) ∙ sym (adjusting.a_and_then_b_is_once_by_their_sum t a b m.1 m.0 n.0)
    ∙ ap (λ (x : Result SpliceTime TooLarge). and_then x b) (sym (adjusts_so d)) ∙ sym (adjusts_so e)

-- "in either order", refusals too
pub chain_answers_the_same_in_either_order : {a b : ℕ} {x y : Result ℕ TooLarge} → Chains a b x → Chains b a y → x ≡ y
chain_answers_the_same_in_either_order {a = a} {b = b} d e = chains_so d ∙ adjustments.chain_either a b ∙ sym (chains_so e)

-- "each adjustment has one that takes it back": what `undo` answers
pub what_undo_answers_takes_it_back : {t u : SpliceTime} {a b : ℕ} {w : Result SpliceTime TooLarge} → Adjusts t a (Ok u) → Undoes a (Ok b) → Adjusts u b w → w ≡ Ok t
what_undo_answers_takes_it_back {t = t} {u = u} {a = a} {b = b} d f g =
    let m = adjustments.moved_so t u a (sym (adjusts_so d)) in
    adjusts_so g ∙ ap (λ (x : Result SpliceTime TooLarge). and_then x b) (adjusts_so d) ∙ adjusting.undone_is_as_before t a b m.1 m.0 (sym (undoes_so f))

-- "Engineers want to be able to replace a chain by a single box": boxes in any number, and the one that `chain` answers of them from 0 on
boxes : {s : SpliceTime} {x y : ℕ} {t v : SpliceTime} {l : List ℕ} → Through Adjusts t l v → Adjusts s x (Ok t) → Single Chains x l y → {w : Result SpliceTime TooLarge} → Adjusts s y w → w ≡ Ok v
boxes out d all g = adjusts_so g ∙ sym (adjusts_so d)
boxes {s = s} (box {u = u} f rest) d (next {c = c} k chained) g =
    let e : adjust_of s c ≡ Ok u = by_a_and_then_by_b_is_once_by_what_chain_answers d f k (adjust_is_met s c) in
    boxes rest (subst (Adjusts s c) e (adjust_is_met s c)) chained g

pub boxes_in_a_chain_are_one_box : {t v : SpliceTime} {l : List ℕ} {r : ℕ} {w : Result SpliceTime TooLarge} → Adjusts t 0 (Ok t) → Through Adjusts t l v → Single Chains 0 l r → Adjusts t r w → w ≡ Ok v
boxes_in_a_chain_are_one_box zero through single g = boxes through zero single g

-- ---- the single box: `adjust_section`

-- "1 to 11 for the section, 32, 36", and nothing else is refused: then as many bytes are written as the section has
pub adjust_section_answers_in_order : {s : List ℕ} {a : ℕ} {target : List ℕ} {answer : Result ℕ ℕ} {later : List ℕ} → AdjustsSection s a target answer later
    → answer ≡ adjust_answered s a (length target)
adjust_section_answers_in_order {s = s} {a = a} {target = target} d = (adjusts_section_so d).0 ∙ sections.answers s target a

pub a_refused_box_changes_no_byte : {s : List ℕ} {a : ℕ} {target : List ℕ} {n : ℕ} {later : List ℕ} → AdjustsSection s a target (Err n) later → later ≡ target
a_refused_box_changes_no_byte {s = s} {a = a} {target = target} {n = n} d =
    (adjusts_section_so d).1 ∙ writing.a_refused_write_changes_no_byte (adjusted_section s a) target n (sym (adjusts_section_so d).0)

made_so : {s : List ℕ} {a : ℕ} {target : List ℕ} {n : ℕ} {later : List ℕ} → AdjustsSection s a target (Ok n) later → adjusted_section s a ≡ made (take n later)
made_so {s = s} {a = a} {target = target} {n = n} {later = later} d = sections.made_so (adjusted_section s a) target later n (sym (adjusts_section_so d).0) (adjusts_section_so d).1

-- what stands at the target's start is the section moved by a, and the rest of the target is as it was
pub an_adjusted_section_keeps_every_other_byte : {s : List ℕ} {a : ℕ} {target : List ℕ} {n : ℕ} {later : List ℕ} → AdjustsSection s a target (Ok n) later
    → AdjustedTo s a (take n later) × (drop n later ≡ drop n target) × (length later ≡ length target)
an_adjusted_section_keeps_every_other_byte {s = s} {a = a} {target = target} {n = n} {later = later} d =
    let l = (adjusts_section_so d).1 in
    let c = writing.an_accepted_write_changes_only_its_result (adjusted_section s a) target n (sym (adjusts_section_so d).0) in
    (sections.adjusted_to s a (take n later) (made_so d), ap (drop n) l ∙ c.rest, ap length l ∙ c.size)

-- read by `read_section` it is the same reading but for pts_adjustment, to which a was added
pub an_adjusted_section_reads_the_same : {s : List ℕ} {x : Section} {a : ℕ} {target : List ℕ} {n : ℕ} {later : List ℕ} {r : Result Section section_refusal.Refusal} → ReadsSection s (Ok x)
    → AdjustsSection s a target (Ok n) later → ReadsSection (take n later) r → r ≡ Ok (reading_with ((x.header.pts_adjustment + a) % 8589934592) x)
an_adjusted_section_reads_the_same {s = s} {x = x} {a = a} {n = n} {later = later} old d new =
    let t = sections.adjusted_to s a (take n later) (made_so d) in
    let e : Ok t.reading ≡ Ok x = sym t.was ∙ sym (reads_section_so old) in
    let same : t.reading ≡ x = cc in
    reads_section_so new ∙ t.reads ∙ ap (λ (y : Section). Ok (reading_with ((y.header.pts_adjustment + a) % 8589934592) y)) same

-- by a and then by b is once by what `chain` answers, with any target
pub a_box_behind_a_box_is_one_by_what_chain_answers : {s : List ℕ} {a b c : ℕ} {target : List ℕ} {n : ℕ} {later room then last : List ℕ} {answer other : Result ℕ ℕ} → AllBytes s
    → AdjustsSection s a target (Ok n) later → Chains a b (Ok c) → AdjustsSection (take n later) b room answer then → AdjustsSection s c room other last
    → (answer ≡ other) × (then ≡ last)
a_box_behind_a_box_is_one_by_what_chain_answers {s = s} {a = a} {b = b} {c = c} {n = n} {later = later} {room = room} bytes d f second once =
    let e : adjusted_section (take n later) b ≡ adjusted_section s c = sections.behind s (take n later) a b c bytes (made_so d) (sym (chains_so f)) in (
      (adjusts_section_so second).0 ∙ ap (λ (m : Made). answer_of m room) e ∙ sym (adjusts_section_so once).0,
      (adjusts_section_so second).1 ∙ ap (λ (m : Made). later_of m room) e ∙ sym (adjusts_section_so once).1,
    )

-- and by a and then by what `undo` answers gives the very bytes back, its CRC too
pub by_what_undo_answers_the_section_comes_back : {s : List ℕ} {a u : ℕ} {target : List ℕ} {n : ℕ} {later room then : List ℕ} {answer : Result ℕ ℕ} → AllBytes s
    → AdjustsSection s a target (Ok n) later → Undoes a (Ok u) → AdjustsSection (take n later) u room answer then → Puts s room answer then
by_what_undo_answers_the_section_comes_back {s = s} {a = a} {u = u} {n = n} {later = later} {room = room} bytes d f second =
    let e : adjusted_section (take n later) u ≡ made s = sections.back s (take n later) a u bytes (made_so d) (sym (undoes_so f)) in
    rw ((adjusts_section_so second).0 ∙ ap (λ (m : Made). answer_of m room) e, (adjusts_section_so second).1 ∙ ap (λ (m : Made). later_of m room) e) (puts s room)

-- ---- transport packets

-- "Refusals in order", 71 to 74, and where a payload lies, by the packet's bytes
pub read_head_goes_by_the_packets_bytes : {pid : ℕ} {p : List ℕ} {h : Head} → ReadsHead pid p h → HeadSays pid p h
read_head_goes_by_the_packets_bytes {pid = pid} {p = p} d = rw (reads_head_so d) (head_is pid p)

-- what its head refuses is refused with that, whatever the state and the buffer
pub a_packet_that_its_head_refuses_is_refused : {a : Assembler} {p b : List ℕ} {r : Refusal} {left : Result (Unit {0}) Refusal × Assembler} {later : List ℕ} → ReadsHead a.pid p (Err r)
    → Feeds a p b left later → (left ≡ (Err r, a)) × (later ≡ b)
a_packet_that_its_head_refuses_is_refused {a = a} {p = p} {b = b} {r = r} {left = left} h d =
    let e = (feeds_so d).0 ∙ fed_refused a p b r (sym (reads_head_so h)) in
    (go left (ap (λ (x : FedTo). x.answer) e) (feeds_so d).1, ap (λ (x : FedTo). x.buffer) e)
  where
    go : (x : Result (Unit {0}) Refusal × Assembler) → fed_as x ≡ Err r → x.1 ≡ fed_state a (fed_as x) → x ≡ (Err r, a)
    go (Ok u, later) e f = cc
    go (Err q, later) e f = let z : q ≡ r = cc in ap₂ (λ (y : Refusal) (t : Assembler). (Err y, t)) z f

-- "A refused packet changes no state", and no byte of the buffer
pub a_refused_packet_changes_no_byte : {a left : Assembler} {p b : List ℕ} {r : Refusal} {later : List ℕ} → Feeds a p b (Err r, left) later → later ≡ b
a_refused_packet_changes_no_byte {a = a} {left = left} {p = p} {b = b} {r = r} d =
    let e = (feeds_so {left = (Err r, left)} d).0 in
    ap (λ (x : FedTo). x.buffer) e ∙ packets.refused_keeps a p b r (sym (ap (λ (x : FedTo). x.answer) e))

pub a_refused_packet_changes_no_state : {a left : Assembler} {p b : List ℕ} {r : Refusal} {later : List ℕ} → Feeds a p b (Err r, left) later → left ≡ a
a_refused_packet_changes_no_state {left = left} {r = r} d = (feeds_so {left = (Err r, left)} d).1

-- From `fresh` on, with the buffer that was asked for, of any packets: `feed` for each, and `take` until it is done (`RunsPackets`, over specs/Packets.antt).
module _ {pid : ℕ} {a t : Assembler} {b d : List ℕ} {ps : List (List ℕ)} {ns : List ℕ} {ss : List (List ℕ)} (start : Starts pid a) (room : 4096 ≤ length b) (run : RunsPackets a b ps ns ss t d) where
  began : RunsPackets (fresh_assembler pid) b ps ns ss t d
  began = subst (λ (x : Assembler). RunsPackets x b ps ns ss t d) (starts_so start) run

  ready : Ready (fresh_assembler pid) b
  ready = record { room = room; settled = none }

  -- "A counter gap drops the section under way": for each span between two gaps of the packets that were answered by 0, the sections of its own concatenation
  pub packets_give_the_sections_of_their_spans : ss ≡ concatenation (spans pid (unrefused_of ps ns)).first ++ spanned (spans pid (unrefused_of ps ns)).others
  packets_give_the_sections_of_their_spans =
      packets.code_any pid b ps ss room (run_code ready began).gives
      ∙ ap (λ (l : List (List ℕ)). concatenation (spans pid l).first ++ spanned (spans pid l).others) (run_code ready began).takes_in

  -- which packets are refused, and with which of 71 to 75: as the rules say, as a step on lists
  pub packets_are_refused_as_the_step_says : ns ≡ step_numbers pid fresh ps
  packets_are_refused_as_the_step_says = (run_code ready began).numbers

  clean : Zeros ns → (spans pid ps).others ≡ [] → Clean pid ps
  clean z gap = record { unrefused = subst (Unrefused pid fresh) ((run_code ready began).takes_in ∙ none_refused began z) (accepted_unrefused pid ps fresh); no_gap = gap }

  -- "Without gaps or refused packets, the sections given are those of the standard's concatenation"
  pub packets_without_gaps_or_refusals_give_the_concatenation : Zeros ns → (spans pid ps).others ≡ [] → ss ≡ concatenated pid ps
  packets_without_gaps_or_refusals_give_the_concatenation z gap = packets.code_concatenated pid b ps ss room (clean z gap) (run_code ready began).gives

  -- and what a multiplexer laid into them by its rules comes back
  pub what_was_laid_into_packets_comes_back : (laid : List (List ℕ)) → Zeros ns → (spans pid ps).others ≡ [] → Multiplex (runs_of (unrepeated 16 (payloads pid ps))).runs laid → ss ≡ laid
  what_was_laid_into_packets_comes_back laid z gap m = packets.code_multiplexed pid b ps ss laid room (clean z gap) m (run_code ready began).gives

  -- "Framing now fixes section_length": of any packets
  pub every_section_of_packets_is_as_long_as_it_says : Each Right ss
  every_section_of_packets_is_as_long_as_it_says =
      subst (Each Right) (sym (packets.packets_taken ps ss (fresh_assembler pid) b ready (run_code ready began).gives)) (packets.given_right pid (state_of (fresh_assembler pid) b) ps)
