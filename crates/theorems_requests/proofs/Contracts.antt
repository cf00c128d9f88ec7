-- What each function may do, by its contract as the checker makes it: a relation of what is handed in and what comes back.
-- `..-so` is what the contract then says of it.
use Prim.Native.Nat.{ℕ}
use mathlib.Core.List.{List}
use mathlib.Core.Path.{◌≡◌, refl, sym, ◌∙◌, ap, ap₂}
use lib.ListN.{drop}
use Rattle.std.specs.Prelude.{Option, Result}
use Rattle.adjust.specs.Adjust.{adjust_of, chain_of, undo_of}
use Rattle.adjust_section.specs.Adjusted.{adjusted_section}
use Rattle.bit_stores.specs.Written.{answer_of, later_of}
use Rattle.c_adjust.specs.FlatAdjust.{flat_moved, flat_adjustment}
use Rattle.c_adjust.specs.declared.FlatAdjustment.{FlatAdjustment}
use Rattle.c_command_writer.specs.Words.{flat_written}
use Rattle.c_command_writer.specs.declared.FlatWritten.{FlatWritten}
use Rattle.c_packet.specs.PacketWords.{state_in, kept_in, fed_number, kept_fed, taken_number, kept_taken}
use Rattle.c_section.specs.Flat.{flat_adjusted}
use Rattle.c_section.specs.declared.headers.FlatAdjusted.{FlatAdjusted}
use Rattle.scte35.specs.FlatNumber.{time_handed}
use Rattle.splice_time.specs.Time.{adjusted_of}
use Rattle.splice_time.specs.declared.SpliceTime.{SpliceTime}
use Rattle.transport.specs.Assembler.{answering, giving, fresh_assembler, fed_of, fed_answer, fed_state, taken_of}
use Rattle.transport.specs.declared.Assembler.{Assembler}
use Rattle.transport_packet.specs.Packet.{Head, head_of}
use Rattle.transport_packet.specs.declared.packet.Refusal.{Refusal}
use Rattle.theorems_c.specs.Boards.{May}
use Rattle.adjust.proofs.adjust.Reads as adjust
use Rattle.adjust.proofs.chain.Reads as chain
use Rattle.adjust.proofs.undo.Reads as undo
use Rattle.adjust_section.proofs.adjust_section.Reads as adjust_section
use Rattle.splice_time.proofs.adjusted_time.Reads as adjusted_time
use Rattle.transport.proofs.Assembler.feed.Reads as feed
use Rattle.transport.proofs.Assembler.new.Reads as fresh
use Rattle.transport.proofs.Assembler.take.Reads as take_section
use Rattle.transport_packet.proofs.packet.read_head.Reads as read_head
use Rattle.scte35.proofs.adjusting.scte35_adjust_section.Reads as scte35_adjust_section
use Rattle.scte35.proofs.adjusting.scte35_chain_adjustments.Reads as scte35_chain_adjustments
use Rattle.scte35.proofs.adjusting.scte35_move_time.Reads as scte35_move_time
use Rattle.scte35.proofs.adjusting.scte35_undo_adjustment.Reads as scte35_undo_adjustment
use Rattle.scte35.proofs.packet.scte35_packet_feed.Reads as scte35_packet_feed
use Rattle.scte35.proofs.packet.scte35_packet_start.Reads as scte35_packet_start
use Rattle.scte35.proofs.packet.scte35_packet_take.Reads as scte35_packet_take
use Rattle.scte35.proofs.scte35_adjust_time.Reads as scte35_adjust_time
use Rattle.std.proofs.Common.{Option, Result, Ok, Err}
use Rattle.splice_time.specs.declared.TooLarge.{TooLarge}

-- ---- times and adjustments

-- `adjust` of a time by a number may answer m
abbrev pub Adjusts : SpliceTime → ℕ → Result SpliceTime TooLarge → Type 0
Adjusts t a m = May adjust.Learnt {S = SpliceTime × ℕ} {T = Result SpliceTime TooLarge} (λ κ x. (x.0, x.1.0)) (λ κ r e. r) (t, a) m

pub adjusts_so : {t : SpliceTime} {a : ℕ} {m : Result SpliceTime TooLarge} → Adjusts t a m → m ≡ adjust_of t a
adjusts_so d = sym d.left ∙ d.learnt_so ∙ ap (λ (v : SpliceTime × ℕ). adjust_of v.0 v.1) d.taken

-- `adjusted_time` of a time under pts_adjustment p
abbrev pub AdjustsUnder : SpliceTime → ℕ → Result (Option ℕ) TooLarge → Type 0
AdjustsUnder t p x = May adjusted_time.Learnt {S = SpliceTime × ℕ} {T = Result (Option ℕ) TooLarge} (λ κ x. (x.0, x.1.0)) (λ κ r e. r) (t, p) x

pub adjusts_under_so : {t : SpliceTime} {p : ℕ} {x : Result (Option ℕ) TooLarge} → AdjustsUnder t p x → x ≡ adjusted_of t p
adjusts_under_so d = sym d.left ∙ d.learnt_so ∙ ap (λ (v : SpliceTime × ℕ). adjusted_of v.0 v.1) d.taken

abbrev pub Chains : ℕ → ℕ → Result ℕ TooLarge → Type 0
Chains a b x = May chain.Learnt {S = ℕ × ℕ} {T = Result ℕ TooLarge} (λ κ x. (x.0, x.1.0)) (λ κ r e. r) (a, b) x

pub chains_so : {a b : ℕ} {x : Result ℕ TooLarge} → Chains a b x → x ≡ chain_of a b
chains_so d = sym d.left ∙ d.learnt_so ∙ ap (λ (v : ℕ × ℕ). chain_of v.0 v.1) d.taken

abbrev pub Undoes : ℕ → Result ℕ TooLarge → Type 0
Undoes a x = May undo.Learnt {S = ℕ} {T = Result ℕ TooLarge} (λ κ x. x.0) (λ κ r e. r) a x

pub undoes_so : {a : ℕ} {x : Result ℕ TooLarge} → Undoes a x → x ≡ undo_of a
undoes_so d = sym d.left ∙ d.learnt_so ∙ ap undo_of d.taken

-- over C: `scte35_move_time`, `scte35_adjust_time` of a kind, ticks and a number
abbrev pub MovesTimeC : ℕ → ℕ → ℕ → FlatAdjusted → Type 0
MovesTimeC kind ticks a f = May scte35_move_time.Learnt {S = ℕ × (ℕ × ℕ)} {T = FlatAdjusted} (λ κ x. (x.0, (x.1.0, x.1.1.0))) (λ κ r e. r) (kind, (ticks, a)) f

pub moves_time_c_so : {kind ticks a : ℕ} {f : FlatAdjusted} → MovesTimeC kind ticks a f → f ≡ flat_moved kind (adjust_of (time_handed kind ticks) a)
moves_time_c_so d = sym d.left ∙ d.learnt_so ∙ ap (λ (v : ℕ × (ℕ × ℕ)). flat_moved v.0 (adjust_of (time_handed v.0 v.1.0) v.1.1)) d.taken

abbrev pub AdjustsTimeC : ℕ → ℕ → ℕ → FlatAdjusted → Type 0
AdjustsTimeC kind ticks p f = May scte35_adjust_time.Learnt {S = ℕ × (ℕ × ℕ)} {T = FlatAdjusted} (λ κ x. (x.0, (x.1.0, x.1.1.0))) (λ κ r e. r) (kind, (ticks, p)) f

pub adjusts_time_c_so : {kind ticks p : ℕ} {f : FlatAdjusted} → AdjustsTimeC kind ticks p f → f ≡ flat_adjusted (adjusted_of (time_handed kind ticks) p)
adjusts_time_c_so d = sym d.left ∙ d.learnt_so ∙ ap (λ (v : ℕ × (ℕ × ℕ)). flat_adjusted (adjusted_of (time_handed v.0 v.1.0) v.1.1)) d.taken

abbrev pub ChainsC : ℕ → ℕ → FlatAdjustment → Type 0
ChainsC a b f = May scte35_chain_adjustments.Learnt {S = ℕ × ℕ} {T = FlatAdjustment} (λ κ x. (x.0, x.1.0)) (λ κ r e. r) (a, b) f

pub chains_c_so : {a b : ℕ} {f : FlatAdjustment} → ChainsC a b f → f ≡ flat_adjustment (chain_of a b)
chains_c_so d = sym d.left ∙ d.learnt_so ∙ ap (λ (v : ℕ × ℕ). flat_adjustment (chain_of v.0 v.1)) d.taken

abbrev pub UndoesC : ℕ → FlatAdjustment → Type 0
UndoesC a f = May scte35_undo_adjustment.Learnt {S = ℕ} {T = FlatAdjustment} (λ κ x. x.0) (λ κ r e. r) a f

pub undoes_c_so : {a : ℕ} {f : FlatAdjustment} → UndoesC a f → f ≡ flat_adjustment (undo_of a)
undoes_c_so d = sym d.left ∙ d.learnt_so ∙ ap (λ (v : ℕ). flat_adjustment (undo_of v)) d.taken

-- ---- the single box: a section, an adjustment, the target, the answer and the target's later bytes

abbrev pub AdjustsSection : List ℕ → ℕ → List ℕ → Result ℕ ℕ → List ℕ → Type 0
AdjustsSection s a target answer later =
    May adjust_section.Learnt {S = List ℕ × (ℕ × List ℕ)} {T = Result ℕ ℕ × List ℕ} (λ κ x. (x.0.now, (x.1.0, x.1.1.0.now))) (λ κ r e. (r, e.1.1.0.now))
    (s, (a, target)) (answer, later)

pub adjusts_section_so : {s : List ℕ} {a : ℕ} {target : List ℕ} {answer : Result ℕ ℕ} {later : List ℕ} → AdjustsSection s a target answer later
    → (answer ≡ answer_of (adjusted_section s a) target) × (later ≡ later_of (adjusted_section s a) target)
adjusts_section_so d = (
  sym (ap (λ (v : Result ℕ ℕ × List ℕ). v.0) d.left) ∙ d.learnt_so.0 ∙ ap (λ (v : List ℕ × (ℕ × List ℕ)). answer_of (adjusted_section v.0 v.1.0) v.1.1) d.taken,
  sym (ap (λ (v : Result ℕ ℕ × List ℕ). v.1) d.left) ∙ d.learnt_so.1 ∙ ap (λ (v : List ℕ × (ℕ × List ℕ)). later_of (adjusted_section v.0 v.1.0) v.1.1) d.taken,
)

-- of the bytes that stand from its offset to the end
abbrev pub AdjustsSectionC : List ℕ → ℕ → List ℕ → FlatWritten → List ℕ → Type 0
AdjustsSectionC s a target answer later =
    May scte35_adjust_section.Learnt {S = List ℕ × (ℕ × List ℕ)} {T = FlatWritten × List ℕ}
    (λ κ x. (drop x.1.0 x.0.now, (x.1.1.0, x.1.1.1.0.now))) (λ κ r e. (r, e.1.1.1.0.now)) (s, (a, target)) (answer, later)

pub adjusts_section_c_so : {s : List ℕ} {a : ℕ} {target : List ℕ} {answer : FlatWritten} {later : List ℕ} → AdjustsSectionC s a target answer later
    → (answer ≡ flat_written (answer_of (adjusted_section s a) target)) × (later ≡ later_of (adjusted_section s a) target)
adjusts_section_c_so d = (
  sym (ap (λ (v : FlatWritten × List ℕ). v.0) d.left) ∙ d.learnt_so.0
      ∙ ap (λ (v : List ℕ × (ℕ × List ℕ)). flat_written (answer_of (adjusted_section v.0 v.1.0) v.1.1)) d.taken,
  sym (ap (λ (v : FlatWritten × List ℕ). v.1) d.left) ∙ d.learnt_so.1 ∙ ap (λ (v : List ℕ × (ℕ × List ℕ)). later_of (adjusted_section v.0 v.1.0) v.1.1) d.taken,
)

-- ---- transport packets

-- `read_head` of a packet for a PID
abbrev pub ReadsHead : ℕ → List ℕ → Head → Type 0
ReadsHead pid p h = May read_head.Learnt {S = ℕ × List ℕ} {T = Head} (λ κ x. (x.0, x.1.0.now)) (λ κ r e. r) (pid, p) h

pub reads_head_so : {pid : ℕ} {p : List ℕ} {h : Head} → ReadsHead pid p h → h ≡ head_of pid p
reads_head_so d = sym d.left ∙ d.learnt_so ∙ ap (λ (v : ℕ × List ℕ). head_of v.0 v.1) d.taken

-- `Assembler::new` of a PID
abbrev pub Starts : ℕ → Assembler → Type 0
Starts pid a = May fresh.Learnt {S = ℕ} {T = Assembler} (λ κ x. x.0) (λ κ r e. r) pid a

pub starts_so : {pid : ℕ} {a : Assembler} → Starts pid a → a ≡ fresh_assembler pid
starts_so d = sym d.left ∙ d.learnt_so ∙ ap fresh_assembler d.taken

-- `feed` and `take` of an assembler, a packet and a buffer: the answer with the assembler after it, and the buffer's later bytes
abbrev pub Feeds : Assembler → List ℕ → List ℕ → Result (Unit {0}) Refusal × Assembler → List ℕ → Type 0
Feeds a p b left later =
    May feed.Learnt {S = Assembler × (List ℕ × List ℕ)} {T = (Result (Unit {0}) Refusal × Assembler) × List ℕ} (λ κ x. (x.0.now, (x.1.0.now, x.1.1.0.now)))
    (λ κ r e. ((r, e.0.now), e.1.1.0.now)) (a, (p, b)) (left, later)

-- the two as one answer: a refusal has no assembler
abbrev pub fed_as : Result (Unit {0}) Refusal × Assembler → Result Assembler Refusal
fed_as (Ok u, later) = Ok later
fed_as (Err r, later) = Err r

pub as_fed : (a : Assembler) (k : Result Assembler Refusal) → fed_as (fed_answer k, fed_state a k) ≡ k
as_fed a (Ok later) = refl
as_fed a (Err r) = refl

pub feeds_so : {a : Assembler} {p b : List ℕ} {left : Result (Unit {0}) Refusal × Assembler} {later : List ℕ} → Feeds a p b left later
    → (answering (fed_as left) later ≡ fed_of a p b) × (left.1 ≡ fed_state a (fed_as left))
feeds_so {a = a} {p = p} {b = b} {left = left} {later = later} d =
    let k = fed_of a p b in
    let x : left.0 ≡ fed_answer k.answer =
    sym (ap (λ (v : (Result (Unit {0}) Refusal × Assembler) × List ℕ). v.0.0) d.left) ∙ d.learnt_so.0
    ∙ ap (λ (v : Assembler × (List ℕ × List ℕ)). fed_answer (fed_of v.0 v.1.0 v.1.1).answer) d.taken in
    let y : left.1 ≡ fed_state a k.answer =
    sym (ap (λ (v : (Result (Unit {0}) Refusal × Assembler) × List ℕ). v.0.1) d.left) ∙ d.learnt_so.1.0
    ∙ ap (λ (v : Assembler × (List ℕ × List ℕ)). fed_state v.0 (fed_of v.0 v.1.0 v.1.1).answer) d.taken in
    let z : later ≡ k.buffer =
    sym (ap (λ (v : (Result (Unit {0}) Refusal × Assembler) × List ℕ). v.1) d.left) ∙ d.learnt_so.1.1
    ∙ ap (λ (v : Assembler × (List ℕ × List ℕ)). (fed_of v.0 v.1.0 v.1.1).buffer) d.taken in
    let w : fed_as left ≡ k.answer = ap₂ (λ (r : Result (Unit {0}) Refusal) (s : Assembler). fed_as (r, s)) x y ∙ as_fed a k.answer in
    (ap₂ answering w z, y ∙ ap (fed_state a) (sym w))

abbrev pub Takes : Assembler → List ℕ → List ℕ → Option ℕ × Assembler → List ℕ → Type 0
Takes a p b answer later =
    May take_section.Learnt {S = Assembler × (List ℕ × List ℕ)} {T = (Option ℕ × Assembler) × List ℕ} (λ κ x. (x.0.now, (x.1.0.now, x.1.1.0.now)))
    (λ κ r e. ((r, e.0.now), e.1.1.0.now)) (a, (p, b)) (answer, later)

pub takes_so : {a : Assembler} {p b : List ℕ} {answer : Option ℕ × Assembler} {later : List ℕ} → Takes a p b answer later → giving answer later ≡ taken_of a p b
takes_so d = sym (ap (λ (v : (Option ℕ × Assembler) × List ℕ). giving v.0 v.1) d.left) ∙ d.learnt_so ∙ ap (λ (v : Assembler × (List ℕ × List ℕ)). taken_of v.0 v.1.0 v.1.1) d.taken

-- over C: of lent words, whose later ones come back, too
abbrev pub StartsC : ℕ → List ℕ → List ℕ → Type 0
StartsC pid words later = May scte35_packet_start.Learnt {S = ℕ × List ℕ} {T = List ℕ} (λ κ x. (x.0, x.1.0.now)) (λ κ r e. e.1.0.now) (pid, words) later

pub starts_c_so : {pid : ℕ} {words later : List ℕ} → StartsC pid words later → later ≡ kept_in words (fresh_assembler pid)
starts_c_so d = sym d.left ∙ d.learnt_so ∙ ap (λ (v : ℕ × List ℕ). kept_in v.1 (fresh_assembler v.0)) d.taken

abbrev pub FeedsC : List ℕ → List ℕ → List ℕ → ℕ → List ℕ → List ℕ → Type 0
FeedsC words p b n later buffer =
    May scte35_packet_feed.Learnt {S = List ℕ × (List ℕ × List ℕ)} {T = ℕ × (List ℕ × List ℕ)} (λ κ x. (x.0.now, (x.1.0.now, x.1.1.0.now))) (λ κ r e. (r, (e.0.now, e.1.1.0.now)))
    (words, (p, b)) (n, (later, buffer))

pub feeds_c_so : {words p b : List ℕ} {n : ℕ} {later buffer : List ℕ} → FeedsC words p b n later buffer
    → (n ≡ fed_number (fed_of (state_in words) p b).answer) × (later ≡ kept_fed words (fed_of (state_in words) p b).answer) × (buffer ≡ (fed_of (state_in words) p b).buffer)
feeds_c_so d = (
  sym (ap (λ (v : ℕ × (List ℕ × List ℕ)). v.0) d.left) ∙ d.learnt_so.0 ∙ ap (λ (v : List ℕ × (List ℕ × List ℕ)). fed_number (fed_of (state_in v.0) v.1.0 v.1.1).answer) d.taken,
  sym (ap (λ (v : ℕ × (List ℕ × List ℕ)). v.1.0) d.left) ∙ d.learnt_so.1.0
      ∙ ap (λ (v : List ℕ × (List ℕ × List ℕ)). kept_fed v.0 (fed_of (state_in v.0) v.1.0 v.1.1).answer) d.taken,
  sym (ap (λ (v : ℕ × (List ℕ × List ℕ)). v.1.1) d.left) ∙ d.learnt_so.1.1 ∙ ap (λ (v : List ℕ × (List ℕ × List ℕ)). (fed_of (state_in v.0) v.1.0 v.1.1).buffer) d.taken,
)

abbrev pub TakesC : List ℕ → List ℕ → List ℕ → ℕ → List ℕ → List ℕ → Type 0
TakesC words p b n later buffer =
    May scte35_packet_take.Learnt {S = List ℕ × (List ℕ × List ℕ)} {T = ℕ × (List ℕ × List ℕ)} (λ κ x. (x.0.now, (x.1.0.now, x.1.1.0.now))) (λ κ r e. (r, (e.0.now, e.1.1.0.now)))
    (words, (p, b)) (n, (later, buffer))

pub takes_c_so : {words p b : List ℕ} {n : ℕ} {later buffer : List ℕ} → TakesC words p b n later buffer
    → (n ≡ taken_number (taken_of (state_in words) p b).answer) × (later ≡ kept_taken words (taken_of (state_in words) p b).answer) × (buffer ≡ (taken_of (state_in words) p b).buffer)
takes_c_so d = (
  sym (ap (λ (v : ℕ × (List ℕ × List ℕ)). v.0) d.left) ∙ d.learnt_so.0 ∙ ap (λ (v : List ℕ × (List ℕ × List ℕ)). taken_number (taken_of (state_in v.0) v.1.0 v.1.1).answer) d.taken,
  sym (ap (λ (v : ℕ × (List ℕ × List ℕ)). v.1.0) d.left) ∙ d.learnt_so.1.0
      ∙ ap (λ (v : List ℕ × (List ℕ × List ℕ)). kept_taken v.0 (taken_of (state_in v.0) v.1.0 v.1.1).answer) d.taken,
  sym (ap (λ (v : ℕ × (List ℕ × List ℕ)). v.1.1) d.left) ∙ d.learnt_so.1.1 ∙ ap (λ (v : List ℕ × (List ℕ × List ℕ)). (taken_of (state_in v.0) v.1.0 v.1.1).buffer) d.taken,
)
