-- What the code gives of a packet, and of packets one after the other, is what the step gives.
use Prim.Native.Nat.{ℕ, suc}
use mathlib.Core.Bool.{Bool, true, false}
use mathlib.Core.List.{List, [], ◌∷◌, ◌++◌}
use mathlib.Core.Path.{◌≡◌, refl, ap, ap₂, sym, ◌∙◌}
use native.Mathlib.Omega.{arith}
use lib.Dec.{eqb}
use lib.ListN.{length, drop, length-drop}
use borrow.Author.Tests.{eqb-true, eqb-false, ne_eqb}
use Rattle.std.specs.Prelude.{Some, None, Result, Ok, Err}
use Rattle.table.specs.Lent.{stored}
use Rattle.transport_packet.specs.declared.packet.Payload.{Payload}
use Rattle.transport_packet.specs.declared.packet.Refusal.{Refusal}
use Rattle.transport_packet.specs.declared.packet.Refusal.TheVariants.{SectionLengthTooLarge}
use Rattle.transport.specs.declared.Assembler.{Assembler}
use Rattle.transport_packet.specs.Packet.{Head, head_of}
use Rattle.transport_packet.specs.Sections.{Cut}
use Rattle.transport.specs.Step.{Told, told, cut_of, before, tells_of, step_of}
use Rattle.transport.specs.Step.Told.{refused, took}
use Rattle.transport.specs.Assembler.{FedTo, at_rest, answering, keeping, kept, under_for, fed_by, fed_of}
use Rattle.transport_laws.specs.Takes.{Takes, takes_of, Ends, state_of, CodeStep, CodeGives, Ready}
use Rattle.transport_laws.specs.Takes.CodeStep.{refuses, takes}
use Rattle.transport_laws.specs.Takes.CodeGives.{over, packet}
use Rattle.transport_laws.specs.Runs.{state_after, sections_in, given}
use Rattle.transport_packet.proofs.Heads.{Placed, payload_placed, none_placed}
use Rattle.transport.proofs.Answers.{fed_refused, fed_none, fed_repeat, fed_goes}
use Rattle.transport_laws.proofs.Takes.{Leaves, rests, kept_taken_lem}
use Rattle.transport_laws.proofs.Ends.{take_ends, ends_one}
use Rattle.transport_laws.proofs.Runs.{step_settles}

-- A packet: refused by both, and neither changes anything; or taken by both, with the same sections and the same state after them.
pub data Agrees (a : Assembler) (p b : List ℕ) : Type 0 where
  both_refuse : {r : Refusal} → fed_of a p b ≡ answering (Err r) b → step_of a.pid (state_of a b) p ≡ refused r → Agrees a p b
  both_take :
      {later : Assembler} {b' : List ℕ} {t : Takes}
      → fed_of a p b ≡ answering (Ok later) b' → takes_of 190 later p b' ≡ t → step_of a.pid (state_of a b) p ≡ took (state_of t.assembler t.buffer) t.sections
      → t.assembler.pid ≡ a.pid → length t.buffer ≡ length b → length p ≡ 188 → Agrees a p b

not_refused : {r : Refusal} {l : Assembler} {b c : List ℕ} → answering (Err r) b ≡ answering (Ok l) c → ⊥
not_refused {r = r} {l = l} e = let q : Err r ≡ Ok l = ap (λ (y : FedTo). y.answer) e in cc

module _ (a : Assembler) (p b : List ℕ) (ready : Ready a b) where
  at_rest_lem : length p ≡ 188 → fed_of a p b ≡ answering (Ok (at_rest a)) b → step_of a.pid (state_of a b) p ≡ took (state_of a b) [] → Agrees a p b
  at_rest_lem n e s = both_take e (rests 189 a p b ready.settled n) s refl refl n

  keeps : length p ≡ 188 → (counter first : ℕ) (bytes : List ℕ) (c : Cut) → c.long ≡ false
      → fed_of a p b ≡ keeping a counter first bytes b
      → step_of a.pid (state_of a b) p ≡ told counter c
      → Leaves (takes_of 190 (record { pid = a.pid; counter = counter; held = length bytes; at = first }) p (stored b 0 bytes))
      (record { pid = a.pid; counter = counter; held = length bytes; at = first }) b c
      → Agrees a p b
  keeps complete counter first bytes c l e s v =
      both_take
      {later = record { pid = a.pid; counter = counter; held = length bytes; at = first }}
      {b' = stored b 0 bytes}
      {t = takes_of 190 (record { pid = a.pid; counter = counter; held = length bytes; at = first }) p (stored b 0 bytes)}
      e
      refl
      (s ∙ rw l (ap₂ took (ap₂ (λ (y : ℕ) (z : List ℕ). record { counter = y; under = z }) (sym v.counter) (sym v.under)) (sym v.sections)))
      v.pid
      v.room
      complete

  goes_on_lem : (x : Payload) → head_of a.pid p ≡ Ok (Some x) → (x.counter ≡ a.counter → ⊥) → Agrees a p b
  unfolding fed_by tells_of
  goes_on_lem x h n = go (cut_of (under_for a x.counter b) (before p x.at x.first) (drop x.first p)).long refl
    where
      s : step_of a.pid (state_of a b) p ≡ told x.counter (cut_of (under_for a x.counter b) (before p x.at x.first) (drop x.first p))
      s = rw (h, ne_eqb x.counter a.counter n)

      go : (l : Bool) → (cut_of (under_for a x.counter b) (before p x.at x.first) (drop x.first p)).long ≡ l → Agrees a p b
      go true l = both_refuse {r = SectionLengthTooLarge} (fed_goes a p b x h n ∙ rw l) (s ∙ rw l)
      go false l =
          let w : Placed p x.counter x.at x.first = payload_placed a.pid p x h in
          keeps w.complete x.counter x.first (kept (under_for a x.counter b) (before p x.at x.first) (drop x.first p)) (cut_of (under_for a x.counter b) (before p x.at x.first) (drop x.first p)) l
          (fed_goes a p b x h n ∙ rw l)
          s
          (kept_taken_lem a x.counter x.first (under_for a x.counter b) (before p x.at x.first) p b (omega (arith, length-drop x.first p, w.complete)) ready.room l)

  pub agrees : Agrees a p b
  unfolding tells_of
  agrees = by_head (head_of a.pid p) refl
    where
      by_head : (k : Head) → head_of a.pid p ≡ k → Agrees a p b
      by_head (Err r) h = both_refuse (fed_refused a p b r h) (rw h)
      by_head (Ok None) h = at_rest_lem (none_placed a.pid p h) (fed_none a p b h) (rw h)
      by_head (Ok (Some x)) h = by_repeat (eqb x.counter a.counter) refl
        where
          by_repeat : (f : Bool) → eqb x.counter a.counter ≡ f → Agrees a p b
          by_repeat true f = at_rest_lem (payload_placed a.pid p x h).complete (fed_repeat a p b x h (eqb-true _ _ f)) (rw (h, f))
          by_repeat false f = goes_on_lem x h (eqb-false _ _ f)

  -- `feed`, and `take` until it is done, are the step
  pub record IsStep (x : Told) (a' : Assembler) (b' : List ℕ) : Type 0 where
    pub told : x ≡ step_of a.pid (state_of a b) p
    pub state : state_of a' b' ≡ state_after (state_of a b) x
    pub pid : a'.pid ≡ a.pid
    pub still : Ready a' b'

  pub is_step : (x : Told) (a' : Assembler) (b' : List ℕ) → CodeStep a p b x a' b' → IsStep x a' b'
  is_step x a' b' c = go x a' b' agrees c
    where
      go : (x : Told) (a' : Assembler) (b' : List ℕ) → Agrees a p b → CodeStep a p b x a' b' → IsStep x a' b'
      go x a' b' (both_refuse {r = r} e s) (refuses {b' = d} {r = k} f) =
          let q : Err k ≡ Err r = ap (λ (y : FedTo). y.answer) (sym f ∙ e) in
          let g : k ≡ r = cc in
          let h : d ≡ b = ap (λ (y : FedTo). y.buffer) (sym f ∙ e) in
          record { told = ap refused g ∙ sym s; state = rw h; pid = refl; still = rw h ready }
      go x a' b' (both_refuse e s) (takes f y) = absurd (not_refused (sym e ∙ f))
      go x a' b' (both_take e t s q r n) (refuses f) = absurd (not_refused (sym f ∙ e))
      go x a' b' (both_take {later = l} {b' = d} {t = u} e t s q r n) (takes {later = k} {b' = c} {t = w} f y) =
          let z : Ok l ≡ Ok k = ap (λ (y : FedTo). y.answer) (sym e ∙ f) in
          let g : l ≡ k = cc in
          let h : d ≡ c = ap (λ (y : FedTo). y.buffer) (sym e ∙ f) in
          let o : Ends l p d w = rw (g, h) y in
          let i : w ≡ u = ends_one o (take_ends 189 l p d (omega (arith, length-drop l.at p, n))) ∙ t in
          rw i
          (record {
            told = sym s;
            state = refl;
            pid = q;
            still = record { room = omega (arith, ready.room, r); settled = step_settles a.pid p (state_of a b) (state_of u.assembler u.buffer) u.sections ready.settled s };
          })

-- packets one after the other
pub code_given : (ps ss : List (List ℕ)) (a : Assembler) (b : List ℕ) → Ready a b → CodeGives a b ps ss → ss ≡ given a.pid (state_of a b) ps
unfolding given
code_given [] ss a b ready over = refl
code_given (p ∷ ps) ss a b ready (packet {a' = a'} {b' = b'} {x = x} {ss = more} c g) =
    let i : IsStep a p b ready x a' b' = is_step a p b ready x a' b' c in
    let e : more ≡ given a'.pid (state_of a' b') ps = code_given ps more a' b' i.still g in
    rw (e, i.pid, i.state, i.told)

-- ---- and there is such a run, from any state

pub code_runs : (a : Assembler) (p b : List ℕ) → (x : Told) × (a' : Assembler) × (b' : List ℕ) × CodeStep a p b x a' b'
code_runs a p b = go (fed_of a p b).answer refl
  where
    go : (k : Result Assembler Refusal) → (fed_of a p b).answer ≡ k → (x : Told) × (a' : Assembler) × (b' : List ℕ) × CodeStep a p b x a' b'
    go (Err r) e = (refused r, a, (fed_of a p b).buffer, refuses (ap (λ (y : Result Assembler Refusal). answering y (fed_of a p b).buffer) e))
    go (Ok later) e =
        let d = (fed_of a p b).buffer in
        let t = takes_of (suc (suc (length (drop later.at p)))) later p d in (
          took (state_of t.assembler t.buffer) t.sections,
          t.assembler,
          t.buffer,
          takes (ap (λ (y : Result Assembler Refusal). answering y d) e) (take_ends (suc (length (drop later.at p))) later p d (omega arith)),
        )

pub code_gives : (ps : List (List ℕ)) (a : Assembler) (b : List ℕ) → (ss : List (List ℕ)) × CodeGives a b ps ss
code_gives [] a b = ([], over)
code_gives (p ∷ ps) a b =
    let r = code_runs a p b in
    let m = code_gives ps r.1 r.2 in
    (sections_in r.0 ++ m.0, packet r.3 m.1)
