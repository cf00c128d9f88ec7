-- Calls of the assembler one after the other: those of Rattle are what `transport_laws` speaks of, and those over C are those of Rattle.
use Prim.Native.Nat.{ℕ, zero, suc, ◌+◌, ◌≤◌}
use mathlib.Core.List.{List, [], ◌∷◌, ◌++◌}
use mathlib.Core.Path.{◌≡◌, refl, ap, ap₂, sym, subst, ◌∙◌}
use native.Mathlib.Omega.{arith}
use lib.ListN.{length, take, drop}
use lib.Seq.{take_all}
use Rattle.std.specs.Prelude.{Option, Some, None, Result, Ok, Err}
use Rattle.c_packet.specs.PacketWords.{state_in, kept_in, fed_number, kept_fed, taken_number, kept_taken}
use Rattle.table.specs.Lent.{stored}
use Rattle.transport.proofs.Answers.{from_nothing, from_long, from_part, from_complete, taken_nothing, taken_long, taken_part, taken_complete}
use Rattle.transport.specs.Assembler.{at_rest, holding, FedTo, TakenTo, giving, taken_from, fed_answer, fed_state, fed_of, taken_of}
use Rattle.transport.specs.Step.{State, Told, step_of}
use Rattle.transport.specs.Step.Told.{took}
use Rattle.transport.specs.declared.Assembler.{Assembler}
use Rattle.transport_laws.proofs.Agreement.{IsStep, is_step}
use Rattle.transport_laws.proofs.Ends.{take_ends}
use Rattle.transport_laws.specs.Runs.{state_after, accepting, accepted}
use Rattle.transport_laws.specs.Takes as code
use Rattle.transport_laws.specs.Takes.{Ends, state_of, CodeStep, CodeGives, Ready, takes_of}
use Rattle.transport_packet.proofs.Next.{complete_shown}
use Rattle.transport_packet.specs.Packet.{number_of}
use Rattle.transport_packet.specs.Sections.{next_of}
use Rattle.transport_packet.specs.declared.packet.Refusal.{Refusal}
use Rattle.transport_packet.specs.declared.packet.Refusal.TheVariants.{NotAPacket, OtherPid, Scrambled, PayloadOutside, SectionLengthTooLarge}
use Rattle.transport_packet.specs.declared.sections.Next.{Next}
use Rattle.transport_packet.specs.declared.sections.Next.TheVariants.{Nothing, Long, Part, Complete}
use Rattle.theorems_requests.specs.Packets.{refusal_number, FeedsTo, TakesTo, Drained, PacketRun, unrefused_of, told_number, step_numbers, Zeros, words_of}
use Rattle.theorems_requests.specs.Packets.FeedsTo.{goes_in, is_refused}
use Rattle.theorems_requests.specs.Packets.TakesTo.{section, done}
use Rattle.theorems_requests.specs.Packets.Drained.{nothing, more}
use Rattle.theorems_requests.specs.Packets.PacketRun.{over, refuses, accepts}
use Rattle.theorems_requests.proofs.Contracts.{Feeds, feeds_so, Takes, takes_so, FeedsC, feeds_c_so, TakesC, takes_c_so}
use Rattle.theorems_requests.proofs.Premises.{feed_is_met, take_is_met, scte35_packet_feed_is_met, scte35_packet_take_is_met}

-- ---- a section has three bytes or more, from any state

size_some : (a later : Assembler) (p b c : List ℕ) (size : ℕ) → giving (Some size, later) c ≡ taken_of a p b → size ≡ 0 → ⊥
size_some a later p b c size e z = go (next_of (take a.held b)) refl
  where
    ended : (x : Assembler) (d : List ℕ) → taken_of a p b ≡ giving (None, x) d → ⊥
    ended x d q = let w : Some size ≡ None = ap (λ (y : TakenTo). y.answer.0) (e ∙ q) in cc

    other : (n : ℕ) (x : Assembler) (d : List ℕ) → taken_of a p b ≡ giving (Some n, x) d → 3 ≤ n → ⊥
    other n x d q k = let w : Some size ≡ Some n = ap (λ (y : TakenTo). y.answer.0) (e ∙ q) in let f : size ≡ n = cc in omega (arith, f, z, k)

    from : taken_of a p b ≡ taken_from a (drop a.at p) b → (k : Next) → next_of (drop a.at p) ≡ k → ⊥
    from q Nothing f = ended (at_rest a) b (q ∙ from_nothing a (drop a.at p) b f)
    from q Long f = ended (at_rest a) b (q ∙ from_long a (drop a.at p) b f)
    from q Part f = ended (holding a (length (drop a.at p)) 188) (stored b 0 (drop a.at p)) (q ∙ from_part a (drop a.at p) b f)
    from q (Complete n) f =
        other n (holding a 0 (a.at + n)) (stored b 0 (take n (drop a.at p))) (q ∙ from_complete a (drop a.at p) b n f) (omega (arith, (complete_shown (drop a.at p) n f).is))

    go : (k : Next) → next_of (take a.held b) ≡ k → ⊥
    go Nothing f = from (taken_nothing a p b f) (next_of (drop a.at p)) refl
    go Long f = from (taken_long a p b f) (next_of (drop a.at p)) refl
    go Part f = from (taken_part a p b f) (next_of (drop a.at p)) refl
    go (Complete n) f = other n (holding a 0 a.at) b (taken_complete a p b n f) (omega (arith, (complete_shown (take a.held b) n f).is))

refusal_some : (r : Refusal) → refusal_number r ≡ 0 → ⊥
refusal_some NotAPacket e = omega arith
refusal_some OtherPid e = omega arith
refusal_some Scrambled e = omega arith
refusal_some PayloadOutside e = omega arith
refusal_some SectionLengthTooLarge e = omega arith

-- ---- the calls of Rattle

abbrev pub Drains : Assembler → List ℕ → List ℕ → List (List ℕ) → Assembler → List ℕ → Type 0
Drains = Drained (FeedsTo Feeds) (TakesTo Takes)

abbrev pub RunsPackets : Assembler → List ℕ → List (List ℕ) → List ℕ → List (List ℕ) → Assembler → List ℕ → Type 0
RunsPackets = PacketRun (FeedsTo Feeds) (TakesTo Takes)

last_take : {a t : Assembler} {p b c : List ℕ} {n : ℕ} → TakesTo Takes a p b n t c → n ≡ 0 → Ends a p b (record { sections = []; assembler = t; buffer = c })
last_take (done d e) z = code.Ends.done (sym (takes_so d))
last_take (section {a = a} {later = later} {p = p} {b = b} {c = c} {size = size} d e) z = absurd (size_some a later p b c size (takes_so d) (sym e ∙ z))

next_take : {a t u : Assembler} {p b c d : List ℕ} {n k : ℕ} {ss : List (List ℕ)} → TakesTo Takes a p b n t c → n ≡ suc k
    → Ends t p c (record { sections = ss; assembler = u; buffer = d }) → Ends a p b (record { sections = take n c ∷ ss; assembler = u; buffer = d })
next_take (done d e) z rest = absurd (omega (arith, e, z))
next_take (section d e) z rest = rw e (code.Ends.gives (sym (takes_so d)) rest)

drained_ends : {a t : Assembler} {p b c : List ℕ} {ss : List (List ℕ)} → Drains a p b ss t c → Ends a p b (record { sections = ss; assembler = t; buffer = c })
drained_ends (nothing d) = last_take d refl
drained_ends (more d rest) = next_take d refl (drained_ends rest)

refused_step : {a t : Assembler} {p b c : List ℕ} {n k : ℕ} → FeedsTo Feeds a p b n t c → n ≡ suc k → (r : Refusal) × CodeStep a p b (Told.refused r) t c × (n ≡ refusal_number r)
refused_step (goes_in d e) z = absurd (omega (arith, e, z))
refused_step (is_refused {a = a} {later = later} {p = p} {b = b} {c = c} {r = r} d e) z =
    let s = feeds_so {left = (Err r, later)} d in
    (r, subst (λ (t : Assembler). CodeStep a p b (Told.refused r) t c) (sym s.1) (code.CodeStep.refuses (sym s.0)), e)

taken_step : {a t u : Assembler} {p b c d : List ℕ} {n : ℕ} {ss : List (List ℕ)} → FeedsTo Feeds a p b n t c → n ≡ 0 → Drains t p c ss u d → CodeStep a p b (took (state_of u d) ss) u d
taken_step (goes_in {later = later} f e) z rest = code.CodeStep.takes (sym (feeds_so {left = (Ok tt, later)} f).0) (drained_ends rest)
taken_step (is_refused {r = r} f e) z rest = absurd (refusal_some r (sym e ∙ z))

module _ (pid : ℕ) (s : State) (p : List ℕ) (ps : List (List ℕ)) (x : Told) (e : x ≡ step_of pid s p) where
  step_accepted : accepted pid s (p ∷ ps) ≡ accepting p x (accepted pid (state_after s x) ps)
  unfolding accepted
  step_accepted = rw e

  step_numbers_lem : step_numbers pid s (p ∷ ps) ≡ told_number x ∷ step_numbers pid (state_after s x) ps
  unfolding step_numbers
  step_numbers_lem = rw e

-- a run: its sections are what the code gives; the packets that were answered by 0 are those that the step accepts; and the numbers are the step's
pub record IsRun (a : Assembler) (b : List ℕ) (ps : List (List ℕ)) (ns : List ℕ) (ss : List (List ℕ)) : Type 0 where
  pub gives : CodeGives a b ps ss
  pub takes_in : accepted a.pid (state_of a b) ps ≡ unrefused_of ps ns
  pub numbers : ns ≡ step_numbers a.pid (state_of a b) ps

pub run_code : {a t : Assembler} {b d : List ℕ} {ps : List (List ℕ)} {ns : List ℕ} {ss : List (List ℕ)} → Ready a b → RunsPackets a b ps ns ss t d → IsRun a b ps ns ss
unfolding accepted unrefused_of step_numbers
run_code ready over = record { gives = code.CodeGives.over; takes_in = refl; numbers = refl }
run_code ready (refuses {s = a} {t = t} {p = p} {b = b} {c = c} {n = n} {ps = ps} f rest) =
    let r = refused_step f refl in
    let x : Told = Told.refused r.0 in
    let i : IsStep a p b ready x t c = is_step a p b ready x t c r.1 in
    let g = run_code i.still rest in
    record {
      gives = code.CodeGives.packet r.1 g.gives;
      takes_in = step_accepted a.pid (state_of a b) p ps x i.told ∙ ap₂ (λ (pid : ℕ) (s : State). accepted pid s ps) (sym i.pid) (sym i.state) ∙ g.takes_in;
      numbers =
          ap₂ (λ (y : ℕ) (ys : List ℕ). y ∷ ys) r.2 (g.numbers ∙ ap₂ (λ (pid : ℕ) (s : State). step_numbers pid s ps) i.pid i.state)
          ∙ sym (step_numbers_lem a.pid (state_of a b) p ps x i.told);
    }
run_code ready (accepts {s = a} {u = u} {p = p} {b = b} {d = d} {ps = ps} {ss = ss} f rest later) =
    let x : Told = took (state_of u d) ss in
    let k : CodeStep a p b x u d = taken_step f refl rest in
    let i : IsStep a p b ready x u d = is_step a p b ready x u d k in
    let g = run_code i.still later in
    record {
      gives = code.CodeGives.packet k g.gives;
      takes_in =
          step_accepted a.pid (state_of a b) p ps x i.told ∙ ap (λ (l : List (List ℕ)). p ∷ l) (ap (λ (pid : ℕ). accepted pid (state_of u d) ps) (sym i.pid) ∙ g.takes_in);
      numbers =
          ap (λ (l : List ℕ). 0 ∷ l) (g.numbers ∙ ap (λ (pid : ℕ). step_numbers pid (state_of u d) ps) i.pid) ∙ sym (step_numbers_lem a.pid (state_of a b) p ps x i.told);
    }

-- where no number but 0 was answered, no packet was refused
pub none_refused : {a t : Assembler} {b d : List ℕ} {ps : List (List ℕ)} {ns : List ℕ} {ss : List (List ℕ)} → RunsPackets a b ps ns ss t d → Zeros ns → unrefused_of ps ns ≡ ps
unfolding unrefused_of
none_refused over z = refl
none_refused (refuses f rest) z = absurd (omega (arith, z.0))
none_refused (accepts {p = p} f rest later) z = ap (λ (l : List (List ℕ)). p ∷ l) (none_refused later z.1)

-- ---- there is such a run, from any state

feeds_if : (a : Assembler) (p b : List ℕ) (k : Result Assembler Refusal) (c : List ℕ) → (fed_of a p b).answer ≡ k → c ≡ (fed_of a p b).buffer
    → Feeds a p b (fed_answer k, fed_state a k) c
feeds_if a p b k c e l = rw (← e, l) (feed_is_met a p b)

takes_if : (a : Assembler) (p b : List ℕ) (k : Option ℕ × Assembler) (c : List ℕ) → (taken_of a p b).answer ≡ k → c ≡ (taken_of a p b).buffer → Takes a p b k c
takes_if a p b k c e l = rw (← e, l) (take_is_met a p b)

given_takes : (a later : Assembler) (p b c : List ℕ) (k : Option ℕ × Assembler) → taken_of a p b ≡ giving k c → Takes a p b k c
given_takes a later p b c k e = takes_if a p b k c (ap (λ (t : TakenTo). t.answer) e) (sym (ap (λ (t : TakenTo). t.buffer) e))

ends_drained : {a : Assembler} {p b : List ℕ} {t : code.Takes} → Ends a p b t → Drains a p b t.sections t.assembler t.buffer
ends_drained (code.Ends.done {a = a} {later = later} {p = p} {b = b} {b' = c} e) = nothing (done (given_takes a later p b c (None, later) e) refl)
ends_drained (code.Ends.gives {a = a} {later = later} {p = p} {b = b} {b' = c} {size = zero} e rest) = absurd (size_some a later p b c 0 (sym e) refl)
ends_drained (code.Ends.gives {a = a} {later = later} {p = p} {b = b} {b' = c} {size = suc n} e rest) = more (section (given_takes a later p b c (Some (suc n), later) e) refl) (ends_drained rest)

pub record Met (a : Assembler) (b : List ℕ) (ps : List (List ℕ)) : Type 0 where
  pub numbers : List ℕ
  pub sections : List (List ℕ)
  pub state : Assembler
  pub buffer : List ℕ
  pub runs : RunsPackets a b ps numbers sections state buffer

some_number : (r : Refusal) → (n : ℕ) × (suc n ≡ refusal_number r)
some_number NotAPacket = (70, refl)
some_number OtherPid = (71, refl)
some_number Scrambled = (72, refl)
some_number PayloadOutside = (73, refl)
some_number SectionLengthTooLarge = (74, refl)

pub a_run_of_any_packets_is_met : (ps : List (List ℕ)) (a : Assembler) (b : List ℕ) → Met a b ps
a_run_of_any_packets_is_met [] a b = record { numbers = []; sections = []; state = a; buffer = b; runs = over }
a_run_of_any_packets_is_met (p ∷ ps) a b = go (a_run_of_any_packets_is_met ps) (fed_of a p b).answer refl
  where
    go : ((t : Assembler) (c : List ℕ) → Met t c ps) → (k : Result Assembler Refusal) → (fed_of a p b).answer ≡ k → Met a b (p ∷ ps)
    go rest (Err r) e =
        let c = (fed_of a p b).buffer in
        let n = some_number r in
        let m = rest a c in
        record { numbers = suc n.0 ∷ m.numbers; sections = m.sections; state = m.state; buffer = m.buffer; runs = refuses (is_refused (feeds_if a p b (Err r) c e refl) n.1) m.runs }
    go rest (Ok later) e =
        let c = (fed_of a p b).buffer in
        let t = takes_of (suc (suc (length (drop later.at p)))) later p c in
        let m = rest t.assembler t.buffer in
        record {
          numbers = 0 ∷ m.numbers;
          sections = t.sections ++ m.sections;
          state = m.state;
          buffer = m.buffer;
          runs =
              accepts (goes_in (feeds_if a p b (Ok later) c e refl) refl) (ends_drained (take_ends (suc (length (drop later.at p))) later p c (omega arith))) m.runs;
        }

-- ---- the calls over C

abbrev pub DrainsC : List ℕ → List ℕ → List ℕ → List (List ℕ) → List ℕ → List ℕ → Type 0
DrainsC = Drained FeedsC TakesC

abbrev pub RunsPacketsC : List ℕ → List ℕ → List (List ℕ) → List ℕ → List (List ℕ) → List ℕ → List ℕ → Type 0
RunsPacketsC = PacketRun FeedsC TakesC

pub kept_words : (a later : Assembler) (rest : List ℕ) → kept_in (words_of a rest) later ≡ words_of later rest
kept_words a later rest = ap (λ (l : List ℕ). words_of later l) (take_all (length rest) rest (omega arith))

pub number_is : (r : Refusal) → number_of r ≡ refusal_number r
unfolding number_of
number_is NotAPacket = refl
number_is OtherPid = refl
number_is Scrambled = refl
number_is PayloadOutside = refl
number_is SectionLengthTooLarge = refl

module _ (rest : List ℕ) where
  feeds_over_c : (a : Assembler) (words p b : List ℕ) (n : ℕ) (w c : List ℕ) → words ≡ words_of a rest → FeedsC words p b n w c → (t : Assembler) × (w ≡ words_of t rest) × FeedsTo Feeds a p b n t c
  unfolding fed_number kept_fed
  feeds_over_c a words p b n w c e d = go (fed_of a p b).answer refl
    where
      s : (n ≡ fed_number (fed_of a p b).answer) × (w ≡ kept_fed (words_of a rest) (fed_of a p b).answer) × (c ≡ (fed_of a p b).buffer)
      s = feeds_c_so (subst (λ (x : List ℕ). FeedsC x p b n w c) e d)

      go : (k : Result Assembler Refusal) → (fed_of a p b).answer ≡ k → (t : Assembler) × (w ≡ words_of t rest) × FeedsTo Feeds a p b n t c
      go (Ok later) f = (later, s.1 ∙ ap (kept_fed (words_of a rest)) f ∙ kept_words a later rest, goes_in (feeds_if a p b (Ok later) c f s.2) (s.0 ∙ ap fed_number f))
      go (Err r) f = (a, s.1 ∙ ap (kept_fed (words_of a rest)) f, is_refused (feeds_if a p b (Err r) c f s.2) (s.0 ∙ ap fed_number f ∙ number_is r))

  takes_over_c : (a : Assembler) (words p b : List ℕ) (n : ℕ) (w c : List ℕ) → words ≡ words_of a rest → TakesC words p b n w c → (t : Assembler) × (w ≡ words_of t rest) × TakesTo Takes a p b n t c
  unfolding taken_number kept_taken
  takes_over_c a words p b n w c e d = go (taken_of a p b).answer refl
    where
      s : (n ≡ taken_number (taken_of a p b).answer) × (w ≡ kept_taken (words_of a rest) (taken_of a p b).answer) × (c ≡ (taken_of a p b).buffer)
      s = takes_c_so (subst (λ (x : List ℕ). TakesC x p b n w c) e d)

      go : (k : Option ℕ × Assembler) → (taken_of a p b).answer ≡ k → (t : Assembler) × (w ≡ words_of t rest) × TakesTo Takes a p b n t c
      go (Some size, later) f =
          (later, s.1 ∙ ap (kept_taken (words_of a rest)) f ∙ kept_words a later rest, section (takes_if a p b (Some size, later) c f s.2) (s.0 ∙ ap taken_number f))
      go (None, later) f = (later, s.1 ∙ ap (kept_taken (words_of a rest)) f ∙ kept_words a later rest, done (takes_if a p b (None, later) c f s.2) (s.0 ∙ ap taken_number f))

  drained_over_c : {words p b w c : List ℕ} {ss : List (List ℕ)} (a : Assembler) → words ≡ words_of a rest → DrainsC words p b ss w c → (t : Assembler) × (w ≡ words_of t rest) × Drains a p b ss t c
  drained_over_c a e (nothing {s = words} {t = w} {p = p} {b = b} {c = c} d) = let x = takes_over_c a words p b 0 w c e d in (x.0, x.1, nothing x.2)
  drained_over_c a e (more {s = words} {t = w} {p = p} {b = b} {c = c} {n = n} d later) =
      let x = takes_over_c a words p b (suc n) w c e d in
      let y = drained_over_c x.0 x.1 later in
      (y.0, y.1, more x.2 y.2)

  pub run_over_c : {words b w c : List ℕ} {ps : List (List ℕ)} {ns : List ℕ} {ss : List (List ℕ)} (a : Assembler) → words ≡ words_of a rest → RunsPacketsC words b ps ns ss w c
      → (t : Assembler) × (w ≡ words_of t rest) × RunsPackets a b ps ns ss t c
  run_over_c a e over = (a, e, over)
  run_over_c a e (refuses {s = words} {t = w} {p = p} {b = b} {c = c} {n = n} d later) =
      let x = feeds_over_c a words p b (suc n) w c e d in
      let y = run_over_c x.0 x.1 later in
      (y.0, y.1, refuses x.2 y.2)
  run_over_c a e (accepts {s = words} {t = w} {p = p} {b = b} {c = c} d drained later) =
      let x = feeds_over_c a words p b 0 w c e d in
      let y = drained_over_c x.0 x.1 drained in
      let z = run_over_c y.0 y.1 later in
      (z.0, z.1, accepts x.2 y.2 z.2)

-- ---- and the other way round, so that there is a run over C of any packets, too

feeds_c_if : (words p b : List ℕ) (n : ℕ) (w c : List ℕ) → n ≡ fed_number (fed_of (state_in words) p b).answer → w ≡ kept_fed words (fed_of (state_in words) p b).answer
    → c ≡ (fed_of (state_in words) p b).buffer → FeedsC words p b n w c
feeds_c_if words p b n w c e f g = rw (e, f, g) (scte35_packet_feed_is_met words p b)

takes_c_if : (words p b : List ℕ) (n : ℕ) (w c : List ℕ) → n ≡ taken_number (taken_of (state_in words) p b).answer → w ≡ kept_taken words (taken_of (state_in words) p b).answer
    → c ≡ (taken_of (state_in words) p b).buffer → TakesC words p b n w c
takes_c_if words p b n w c e f g = rw (e, f, g) (scte35_packet_take_is_met words p b)

module _ (rest : List ℕ) where
  feeds_again : {a t : Assembler} {p b c : List ℕ} {n : ℕ} → FeedsTo Feeds a p b n t c → FeedsC (words_of a rest) p b n (words_of t rest) c
  unfolding fed_number kept_fed
  feeds_again (goes_in {a = a} {later = later} {p = p} {b = b} {c = c} {n = n} d e) =
      let q = (feeds_so {left = (Ok tt, later)} d).0 in
      feeds_c_if (words_of a rest) p b n (words_of later rest) c (e ∙ ap (λ (x : FedTo). fed_number x.answer) q)
      (sym (kept_words a later rest) ∙ ap (λ (x : FedTo). kept_fed (words_of a rest) x.answer) q) (ap (λ (x : FedTo). x.buffer) q)
  feeds_again (is_refused {a = a} {later = later} {p = p} {b = b} {c = c} {n = n} {r = r} d e) =
      let s = feeds_so {left = (Err r, later)} d in
      let q = s.0 in
      feeds_c_if (words_of a rest) p b n (words_of later rest) c (e ∙ sym (number_is r) ∙ ap (λ (x : FedTo). fed_number x.answer) q)
      (ap (λ (t : Assembler). words_of t rest) s.1 ∙ ap (λ (x : FedTo). kept_fed (words_of a rest) x.answer) q) (ap (λ (x : FedTo). x.buffer) q)

  takes_again : {a t : Assembler} {p b c : List ℕ} {n : ℕ} → TakesTo Takes a p b n t c → TakesC (words_of a rest) p b n (words_of t rest) c
  unfolding taken_number kept_taken
  takes_again (section {a = a} {later = later} {p = p} {b = b} {c = c} {n = n} d e) =
      let q = takes_so d in
      takes_c_if (words_of a rest) p b n (words_of later rest) c (e ∙ ap (λ (x : TakenTo). taken_number x.answer) q)
      (sym (kept_words a later rest) ∙ ap (λ (x : TakenTo). kept_taken (words_of a rest) x.answer) q) (ap (λ (x : TakenTo). x.buffer) q)
  takes_again (done {a = a} {later = later} {p = p} {b = b} {c = c} {n = n} d e) =
      let q = takes_so d in
      takes_c_if (words_of a rest) p b n (words_of later rest) c (e ∙ ap (λ (x : TakenTo). taken_number x.answer) q)
      (sym (kept_words a later rest) ∙ ap (λ (x : TakenTo). kept_taken (words_of a rest) x.answer) q) (ap (λ (x : TakenTo). x.buffer) q)

  drained_again : {a t : Assembler} {p b c : List ℕ} {ss : List (List ℕ)} → Drains a p b ss t c → DrainsC (words_of a rest) p b ss (words_of t rest) c
  drained_again (nothing d) = nothing (takes_again d)
  drained_again (more d later) = more (takes_again d) (drained_again later)

  pub run_again : {a t : Assembler} {b c : List ℕ} {ps : List (List ℕ)} {ns : List ℕ} {ss : List (List ℕ)} → RunsPackets a b ps ns ss t c → RunsPacketsC (words_of a rest) b ps ns ss (words_of t rest) c
  run_again over = over
  run_again (refuses d later) = refuses (feeds_again d) (run_again later)
  run_again (accepts d drained later) = accepts (feeds_again d) (drained_again drained) (run_again later)
