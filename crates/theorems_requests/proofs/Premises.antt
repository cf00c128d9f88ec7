-- What the statements ask of answers can be met: of any arguments the definition's answer is one that the contract allows.
use Prim.Native.Nat.{ℕ}
use mathlib.Core.List.{List, []}
use mathlib.Core.Path.{refl}
use denote.Ref.{Bor}
use denote.MutBor.{MutBor}
use Rattle.adjust.specs.Adjust.{adjust_of, chain_of, undo_of}
use Rattle.adjust_section.specs.Adjusted.{adjusted_section}
use Rattle.bit_stores.specs.Written.{answer_of, later_of}
use Rattle.c_adjust.specs.FlatAdjust.{flat_moved, flat_adjustment}
use Rattle.c_command_writer.specs.Words.{flat_written}
use Rattle.c_packet.specs.PacketWords.{state_in, kept_in, fed_number, kept_fed, taken_number, kept_taken}
use Rattle.c_section.specs.Flat.{flat_adjusted}
use Rattle.scte35.specs.FlatNumber.{time_handed}
use Rattle.splice_time.specs.Time.{adjusted_of}
use Rattle.splice_time.specs.declared.SpliceTime.{SpliceTime}
use Rattle.transport.specs.Assembler.{fresh_assembler, fed_of, fed_answer, fed_state, taken_of}
use Rattle.transport.specs.declared.Assembler.{Assembler}
use Rattle.transport_packet.specs.Packet.{head_of}
use Rattle.theorems_requests.proofs.Contracts.{Adjusts, AdjustsUnder, Chains, Undoes, MovesTimeC, AdjustsTimeC, ChainsC, UndoesC, AdjustsSection, AdjustsSectionC, ReadsHead, Starts, Feeds, Takes, StartsC, FeedsC, TakesC}

-- lent bytes or words, wherever they lie
abbrev slice : List ℕ → Bor (List ℕ)
slice s = record { ref_ptr = (0, 0); now = s }

-- a lent target
abbrev target_of : List ℕ → MutBor (List ℕ)
target_of s = record { ref_ptr = (0, 0); ghost_name = 0; now = s }

-- ---- times and adjustments

pub adjust_is_met : (t : SpliceTime) (a : ℕ) → Adjusts t a (adjust_of t a)
adjust_is_met t a = record { κ = tt; arguments = (t, (a, tt)); answer = adjust_of t a; after = (t, (a, tt)); taken = refl; left = refl; learnt_so = refl }

pub adjusted_time_is_met : (t : SpliceTime) (p : ℕ) → AdjustsUnder t p (adjusted_of t p)
adjusted_time_is_met t p = record { κ = tt; arguments = (t, (p, tt)); answer = adjusted_of t p; after = (t, (p, tt)); taken = refl; left = refl; learnt_so = refl }

pub chain_is_met : (a b : ℕ) → Chains a b (chain_of a b)
chain_is_met a b = record { κ = tt; arguments = (a, (b, tt)); answer = chain_of a b; after = (a, (b, tt)); taken = refl; left = refl; learnt_so = refl }

pub undo_is_met : (a : ℕ) → Undoes a (undo_of a)
undo_is_met a = record { κ = tt; arguments = (a, tt); answer = undo_of a; after = (a, tt); taken = refl; left = refl; learnt_so = refl }

pub scte35_move_time_is_met : (kind ticks a : ℕ) → MovesTimeC kind ticks a (flat_moved kind (adjust_of (time_handed kind ticks) a))
scte35_move_time_is_met kind ticks a = record {
  κ = tt;
  arguments = (kind, (ticks, (a, tt)));
  answer = flat_moved kind (adjust_of (time_handed kind ticks) a);
  after = (kind, (ticks, (a, tt)));
  taken = refl;
  left = refl;
  learnt_so = refl;
}

pub scte35_adjust_time_is_met : (kind ticks p : ℕ) → AdjustsTimeC kind ticks p (flat_adjusted (adjusted_of (time_handed kind ticks) p))
scte35_adjust_time_is_met kind ticks p = record {
  κ = tt;
  arguments = (kind, (ticks, (p, tt)));
  answer = flat_adjusted (adjusted_of (time_handed kind ticks) p);
  after = (kind, (ticks, (p, tt)));
  taken = refl;
  left = refl;
  learnt_so = refl;
}

pub scte35_chain_adjustments_is_met : (a b : ℕ) → ChainsC a b (flat_adjustment (chain_of a b))
scte35_chain_adjustments_is_met a b = record { κ = tt; arguments = (a, (b, tt)); answer = flat_adjustment (chain_of a b); after = (a, (b, tt)); taken = refl; left = refl; learnt_so = refl }

pub scte35_undo_adjustment_is_met : (a : ℕ) → UndoesC a (flat_adjustment (undo_of a))
scte35_undo_adjustment_is_met a = record { κ = tt; arguments = (a, tt); answer = flat_adjustment (undo_of a); after = (a, tt); taken = refl; left = refl; learnt_so = refl }

-- ---- the single box

pub adjust_section_is_met : (s : List ℕ) (a : ℕ) (target : List ℕ) → AdjustsSection s a target (answer_of (adjusted_section s a) target) (later_of (adjusted_section s a) target)
adjust_section_is_met s a target = record {
  κ = ([], ([], tt));
  arguments = (slice s, (a, (target_of target, tt)));
  answer = answer_of (adjusted_section s a) target;
  after = (slice s, (a, (target_of (later_of (adjusted_section s a) target), tt)));
  taken = refl;
  left = refl;
  learnt_so = (refl, refl);
}

-- from offset 0 on
pub scte35_adjust_section_is_met : (s : List ℕ) (a : ℕ) (target : List ℕ)
    → AdjustsSectionC s a target (flat_written (answer_of (adjusted_section s a) target)) (later_of (adjusted_section s a) target)
scte35_adjust_section_is_met s a target = record {
  κ = ([], ([], tt));
  arguments = (slice s, (0, (a, (target_of target, tt))));
  answer = flat_written (answer_of (adjusted_section s a) target);
  after = (slice s, (0, (a, (target_of (later_of (adjusted_section s a) target), tt))));
  taken = refl;
  left = refl;
  learnt_so = (refl, refl);
}

-- ---- transport packets

pub read_head_is_met : (pid : ℕ) (p : List ℕ) → ReadsHead pid p (head_of pid p)
read_head_is_met pid p = record { κ = ([], tt); arguments = (pid, (slice p, tt)); answer = head_of pid p; after = (pid, (slice p, tt)); taken = refl; left = refl; learnt_so = refl }

pub fresh_is_met : (pid : ℕ) → Starts pid (fresh_assembler pid)
fresh_is_met pid = record { κ = tt; arguments = (pid, tt); answer = fresh_assembler pid; after = (pid, tt); taken = refl; left = refl; learnt_so = refl }

-- a lent assembler
abbrev lent : Assembler → MutBor Assembler
lent a = record { ref_ptr = (0, 0); ghost_name = 0; now = a }

pub feed_is_met : (a : Assembler) (p b : List ℕ) → Feeds a p b (fed_answer (fed_of a p b).answer, fed_state a (fed_of a p b).answer) (fed_of a p b).buffer
feed_is_met a p b = record {
  κ = ([], ([], ([], tt)));
  arguments = (lent a, (slice p, (target_of b, tt)));
  answer = fed_answer (fed_of a p b).answer;
  after = (lent (fed_state a (fed_of a p b).answer), (slice p, (target_of (fed_of a p b).buffer, tt)));
  taken = refl;
  left = refl;
  learnt_so = (refl, (refl, refl));
}

pub take_is_met : (a : Assembler) (p b : List ℕ) → Takes a p b (taken_of a p b).answer (taken_of a p b).buffer
take_is_met a p b = record {
  κ = ([], ([], ([], tt)));
  arguments = (lent a, (slice p, (target_of b, tt)));
  answer = (taken_of a p b).answer.0;
  after = (lent (taken_of a p b).answer.1, (slice p, (target_of (taken_of a p b).buffer, tt)));
  taken = refl;
  left = refl;
  learnt_so = refl;
}

pub scte35_packet_start_is_met : (pid : ℕ) (words : List ℕ) → StartsC pid words (kept_in words (fresh_assembler pid))
scte35_packet_start_is_met pid words = record {
  κ = ([], tt);
  arguments = (pid, (target_of words, tt));
  answer = tt;
  after = (pid, (target_of (kept_in words (fresh_assembler pid)), tt));
  taken = refl;
  left = refl;
  learnt_so = refl;
}

pub scte35_packet_feed_is_met : (words p b : List ℕ)
    → FeedsC words p b (fed_number (fed_of (state_in words) p b).answer) (kept_fed words (fed_of (state_in words) p b).answer) (fed_of (state_in words) p b).buffer
scte35_packet_feed_is_met words p b = record {
  κ = ([], ([], ([], tt)));
  arguments = (target_of words, (slice p, (target_of b, tt)));
  answer = fed_number (fed_of (state_in words) p b).answer;
  after = (target_of (kept_fed words (fed_of (state_in words) p b).answer), (slice p, (target_of (fed_of (state_in words) p b).buffer, tt)));
  taken = refl;
  left = refl;
  learnt_so = (refl, (refl, refl));
}

pub scte35_packet_take_is_met : (words p b : List ℕ)
    → TakesC words p b (taken_number (taken_of (state_in words) p b).answer) (kept_taken words (taken_of (state_in words) p b).answer) (taken_of (state_in words) p b).buffer
scte35_packet_take_is_met words p b = record {
  κ = ([], ([], ([], tt)));
  arguments = (target_of words, (slice p, (target_of b, tt)));
  answer = taken_number (taken_of (state_in words) p b).answer;
  after = (target_of (kept_taken words (taken_of (state_in words) p b).answer), (slice p, (target_of (taken_of (state_in words) p b).buffer, tt)));
  taken = refl;
  left = refl;
  learnt_so = (refl, (refl, refl));
}
