-- The answers of `take` and `feed`, each by what stands at the buffer's start and in the packet.
use Prim.Native.Nat.{ℕ, ◌+◌, ◌-◌, ◌≤◌, ◌<◌}
use mathlib.Core.Bool.{Bool, true, false}
use mathlib.Core.List.{List, [], ◌∷◌, ◌++◌}
use mathlib.Core.Logic.{◌⊎◌, inl, inr}
use mathlib.Core.Path.{◌≡◌, refl, ap, ap₂, sym, ◌∙◌}
use native.Mathlib.Omega.{arith}
use lib.ListN.{length, take, drop, length-append, length-drop}
use lib.Dec.{eqb}
use lib.Seq.{length-take-le, take_all, take-take, take-append-le, take-append-add}
use borrow.Author.Tests.{eq-eqb, ne_eqb, eqb-true}
use Rattle.std.specs.Prelude.{Some, None, Ok, Err, Result}
use Rattle.table.specs.Lent.{stored}
use Rattle.transport_packet.specs.declared.sections.Next.{Next}
use Rattle.transport_packet.specs.declared.sections.Next.TheVariants.{Nothing, Long, Part, Complete}
use Rattle.transport.specs.declared.Assembler.{Assembler}
use Rattle.transport_packet.specs.declared.packet.Payload.{Payload}
use Rattle.transport_packet.specs.declared.packet.Refusal.{Refusal}
use Rattle.transport_packet.specs.declared.packet.Refusal.TheVariants.{SectionLengthTooLarge}
use Rattle.transport_packet.specs.Packet.{head_of}
use Rattle.transport_packet.specs.Sections.{next_of, cut_from, cut}
use Rattle.transport.specs.Step.{goes_on, cut_of, before}
use Rattle.transport.specs.Assembler.{TakenTo, at_rest, holding, giving, complete_in, taken_from, taken_of, kept, keeping, answering, under_for, fed_by, fed_with, fed_of, fed_answer, fed_state}
use Rattle.transport_packet.proofs.Next.{complete_shown}
use Rattle.transport.proofs.Buffer.{stored_on, stored_same}
use Rattle.table.proofs.Stores.{stored_nil}

module _ (a : Assembler) (s b : List ℕ) where
  pub from_nothing : next_of s ≡ Nothing → taken_from a s b ≡ giving (None, at_rest a) b
  unfolding taken_from
  from_nothing e = rw e

  pub from_long : next_of s ≡ Long → taken_from a s b ≡ giving (None, at_rest a) b
  unfolding taken_from
  from_long e = rw e

  pub from_part : next_of s ≡ Part → taken_from a s b ≡ giving (None, holding a (length s) 188) (stored b 0 s)
  unfolding taken_from
  from_part e = rw e

  pub from_complete : (size : ℕ) → next_of s ≡ Complete size → taken_from a s b ≡ giving (Some size, holding a 0 (a.at + size)) (stored b 0 (take size s))
  unfolding taken_from
  from_complete size e = rw e

module _ (a : Assembler) (p b : List ℕ) where
  pub taken_nothing : next_of (take a.held b) ≡ Nothing → taken_of a p b ≡ taken_from a (drop a.at p) b
  unfolding taken_of
  taken_nothing e = rw e

  pub taken_long : next_of (take a.held b) ≡ Long → taken_of a p b ≡ taken_from a (drop a.at p) b
  unfolding taken_of
  taken_long e = rw e

  pub taken_part : next_of (take a.held b) ≡ Part → taken_of a p b ≡ taken_from a (drop a.at p) b
  unfolding taken_of
  taken_part e = rw e

  pub taken_complete : (size : ℕ) → next_of (take a.held b) ≡ Complete size → taken_of a p b ≡ giving (Some size, holding a 0 a.at) b
  unfolding taken_of
  taken_complete size e = rw e

-- ---- `take`, as the code has it

module _ (a : Assembler) (p b : List ℕ) where
  pub at_part : next_of (drop a.at p) ≡ Part
      → giving (None, holding a (length p - a.at) 188) (stored b 0 (take (length p - a.at) (drop a.at p))) ≡ taken_from a (drop a.at p) b
  at_part e =
      let n : length (drop a.at p) ≡ length p - a.at = length-drop a.at p in
      rw (← n, take_all (length (drop a.at p)) (drop a.at p) (omega arith)) (sym (from_part a (drop a.at p) b e))

  pub at_complete : (size : ℕ) → next_of (drop a.at p) ≡ Complete size
      → giving (Some size, holding a 0 (a.at + size)) (stored b 0 (take (a.at + size - a.at) (drop a.at p))) ≡ taken_from a (drop a.at p) b
  at_complete size e = let n : a.at + size - a.at ≡ size = omega arith in rw n (sym (from_complete a (drop a.at p) b size e))

  pub at_none : (k : Next) → k ≡ next_of (drop a.at p) → (k ≡ Nothing) ⊎ (k ≡ Long) → giving (None, at_rest a) b ≡ taken_from a (drop a.at p) b
  at_none k e (inl f) = sym (from_nothing a (drop a.at p) b (sym e ∙ f))
  at_none k e (inr f) = sym (from_long a (drop a.at p) b (sym e ∙ f))

  -- the section under way, if it is whole
  pub taken_held : (size : ℕ) → complete_in (take a.held b) ≡ Some size → giving (Some size, holding a 0 a.at) b ≡ taken_of a p b
  taken_held size h = go (next_of (take a.held b)) refl
    where
      go : (k : Next) → next_of (take a.held b) ≡ k → giving (Some size, holding a 0 a.at) b ≡ taken_of a p b
      go Nothing e = let n : None ≡ Some size = rw e at h in absurd cc
      go Long e = let n : None ≡ Some size = rw e at h in absurd cc
      go Part e = let n : None ≡ Some size = rw e at h in absurd cc
      go (Complete s) e = let n : Some s ≡ Some size = rw e at h in let z : s ≡ size = cc in rw (← z) (sym (taken_complete a p b s e))

  -- and else the packet's
  pub taken_next : complete_in (take a.held b) ≡ None → taken_from a (drop a.at p) b ≡ taken_of a p b
  taken_next h = go (next_of (take a.held b)) refl
    where
      go : (k : Next) → next_of (take a.held b) ≡ k → taken_from a (drop a.at p) b ≡ taken_of a p b
      go Nothing e = sym (taken_nothing a p b e)
      go Long e = sym (taken_long a p b e)
      go Part e = sym (taken_part a p b e)
      go (Complete size) e = let n : Some size ≡ None = rw e at h in absurd cc

-- as the state before it, but for the bytes held and the place
abbrev pub Keeps : Assembler → TakenTo → Type 0
Keeps a t = holding a t.answer.1.held t.answer.1.at ≡ t.answer.1

from_keeps : (a : Assembler) (s b : List ℕ) → Keeps a (taken_from a s b)
unfolding taken_from
from_keeps a s b = go (next_of s) refl
  where
    go : (k : Next) → next_of s ≡ k → Keeps a (taken_from a s b)
    go Nothing e = rw e
    go Long e = rw e
    go Part e = rw e
    go (Complete size) e = rw e

-- neither the PID nor the counter is another
pub take_keeps : (a : Assembler) (p b : List ℕ) → Keeps a (taken_of a p b)
take_keeps a p b = go (next_of (take a.held b)) refl
  where
    go : (k : Next) → next_of (take a.held b) ≡ k → Keeps a (taken_of a p b)
    go Nothing e = rw (taken_nothing a p b e) (from_keeps a (drop a.at p) b)
    go Long e = rw (taken_long a p b e) (from_keeps a (drop a.at p) b)
    go Part e = rw (taken_part a p b e) (from_keeps a (drop a.at p) b)
    go (Complete size) e = rw (taken_complete a p b size e)

-- ---- `feed`, by the head

module _ (a : Assembler) (p b : List ℕ) where
  pub fed_refused : (r : Refusal) → head_of a.pid p ≡ Err r → fed_of a p b ≡ answering (Err r) b
  unfolding fed_with
  fed_refused r e = rw e

  pub fed_none : head_of a.pid p ≡ Ok None → fed_of a p b ≡ answering (Ok (at_rest a)) b
  unfolding fed_with
  fed_none e = rw e

  module _ (x : Payload) (e : head_of a.pid p ≡ Ok (Some x)) where
    pub fed_repeat : x.counter ≡ a.counter → fed_of a p b ≡ answering (Ok (at_rest a)) b
    unfolding fed_with
    fed_repeat h = rw (e, eq-eqb _ _ h)

    pub fed_goes : (x.counter ≡ a.counter → ⊥) → fed_of a p b ≡ fed_by a x.counter x.first (under_for a x.counter b) (before p x.at x.first) (drop x.first p) b
    unfolding fed_with
    fed_goes h = rw (e, ne_eqb _ _ h)

-- what is answered and the assembler after it are one answer with the assembler in it
pub fed_one : (a : Assembler) (x y : Result Assembler Refusal) → fed_answer x ≡ fed_answer y → fed_state a x ≡ fed_state a y → x ≡ y
fed_one a (Ok x) (Ok y) e f = ap (λ (z : Assembler). Ok z) f
fed_one a (Ok x) (Err r) e f = cc
fed_one a (Err r) (Ok x) e f = cc
fed_one a (Err q) (Err r) e f = cc

-- ---- a payload that is no repeat

cut_none : (s : List ℕ) → length s ≡ 0 → (cut s).long ≡ false
unfolding cut_from
cut_none [] h = refl
cut_none (x ∷ s) h = absurd (omega arith)

module _ (under x : List ℕ) where
  pub goes_complete : (size : ℕ) → goes_on under x ≡ Complete size → next_of (under ++ x) ≡ Complete size
  goes_complete size e = go (eqb (length under) 0) refl
    where
      go : (f : Bool) → eqb (length under) 0 ≡ f → next_of (under ++ x) ≡ Complete size
      go true f = let n : Nothing ≡ Complete size = rw f at e in absurd cc
      go false f = rw f at e

  pub goes_part : goes_on under x ≡ Part → next_of (under ++ x) ≡ Part
  goes_part e = go (eqb (length under) 0) refl
    where
      go : (f : Bool) → eqb (length under) 0 ≡ f → next_of (under ++ x) ≡ Part
      go true f = let n : Nothing ≡ Part = rw f at e in absurd cc
      go false f = rw f at e

-- where a section begins that is too long, the payload has one
pub long_behind : (under x from : List ℕ) → (cut from).long ≡ true → (cut_of under x from).long ≡ true
unfolding cut_of
long_behind under x from h = go (goes_on under x) refl (eqb (length from) 0) refl
  where
    go : (k : Next) → goes_on under x ≡ k → (f : Bool) → eqb (length from) 0 ≡ f → (cut_of under x from).long ≡ true
    go Nothing e f g = rw e h
    go Long e f g = rw e
    go Part e true g = let n : true ≡ false = sym h ∙ cut_none from (eqb-true _ _ g) in absurd cc
    go Part e false g = rw (e, g) h
    go (Complete size) e f g = rw e h

module _ (a : Assembler) (counter first : ℕ) (under x from b : List ℕ) where
  pub by_long_behind : (cut from).long ≡ true → answering (Err SectionLengthTooLarge) b ≡ fed_by a counter first under x from b
  unfolding fed_by
  by_long_behind h = rw (long_behind under x from h)

  pub by_long : goes_on under x ≡ Long → answering (Err SectionLengthTooLarge) b ≡ fed_by a counter first under x from b
  unfolding fed_by cut_of
  by_long e = rw e

  module _ (h : (cut from).long ≡ false) where
    pub by_nothing : goes_on under x ≡ Nothing → answering (Ok (record { pid = a.pid; counter = counter; held = 0; at = first })) b ≡ fed_by a counter first under x from b
    unfolding fed_by cut_of kept
    by_nothing e = rw (e, h, stored_nil b 0)

    -- "A section that a new start cuts short is dropped"
    pub by_cut : goes_on under x ≡ Part → (length from ≡ 0 → ⊥)
        → answering (Ok (record { pid = a.pid; counter = counter; held = 0; at = first })) b ≡ fed_by a counter first under x from b
    unfolding fed_by cut_of kept
    by_cut e n = rw (e, ne_eqb (length from) 0 n, h, stored_nil b 0)

    pub by_part : goes_on under x ≡ Part → length from ≡ 0 → keeping a counter first (under ++ x) b ≡ fed_by a counter first under x from b
    unfolding fed_by cut_of kept
    by_part e n = rw (e, eq-eqb (length from) 0 n)

    pub by_complete : (size : ℕ) → goes_on under x ≡ Complete size → keeping a counter first (take size (under ++ x)) b ≡ fed_by a counter first under x from b
    unfolding fed_by cut_of kept
    by_complete size e = rw (e, h)

-- ---- the same, as the code has it

module _ (b p : List ℕ) (held at first : ℕ) (h : held ≤ length b) (m : at ≤ first) (f : first ≤ length p) where
  held_long : length (take held b) ≡ held
  held_long = length-take-le held b h

  before_long : length (before p at first) ≡ first - at
  before_long = length-take-le (first - at) (drop at p) (omega (arith, length-drop at p))

  pub on_long : length (take held b ++ before p at first) ≡ held + (first - at)
  on_long = length-append (take held b) (before p at first) ∙ omega (arith, held_long, before_long)

  -- a section that is whole now ends in the packet
  pub on_ends : (size : ℕ) → goes_on (take held b) (before p at first) ≡ Complete size → size ≤ held + (first - at)
  on_ends size e = omega (arith, on_long, (complete_shown (take held b ++ before p at first) size (goes_complete (take held b) (before p at first) size e)).fits)

  module _ (a : Assembler) (counter : ℕ) (n : (cut (drop first p)).long ≡ false) where
    pub goes_on_lem : goes_on (take held b) (before p at first) ≡ Part → length p ≤ first
        → answering (Ok (record { pid = a.pid; counter = counter; held = held + (first - at); at = first })) (stored b held (before p at first))
        ≡ fed_by a counter first (take held b) (before p at first) (drop first p) b
    goes_on_lem e l =
        rw (← stored_on b held h (before p at first), ← on_long)
        (by_part a counter first (take held b) (before p at first) (drop first p) b n e (omega (arith, length-drop first p)))

    pub ends_before : (size : ℕ) → goes_on (take held b) (before p at first) ≡ Complete size → size ≤ held
        → answering (Ok (record { pid = a.pid; counter = counter; held = size; at = first })) b
        ≡ fed_by a counter first (take held b) (before p at first) (drop first p) b
    ends_before size e l =
        let k : take size (take held b ++ before p at first) ≡ take size b = take-append-le size (take held b) (before p at first) (omega (arith, held_long)) ∙ take-take size held b l in
        let q : length (take size b) ≡ size = length-take-le size b (omega arith) in
        ap₂ (λ (y : ℕ) (z : List ℕ). answering (Ok (record { pid = a.pid; counter = counter; held = y; at = first })) z) (sym q) (sym (stored_same b size (omega arith)))
        ∙ ap (λ (y : List ℕ). keeping a counter first y b) (sym k)
        ∙ by_complete a counter first (take held b) (before p at first) (drop first p) b n size e

    pub ends_here : (size : ℕ) → goes_on (take held b) (before p at first) ≡ Complete size → held < size
        → answering (Ok (record { pid = a.pid; counter = counter; held = size; at = first })) (stored b held (take (at + (size - held) - at) (drop at p)))
        ≡ fed_by a counter first (take held b) (before p at first) (drop first p) b
    ends_here size e l =
        let i : size - held ≤ first - at = omega (arith, on_ends size e) in
        let j : at + (size - held) - at ≡ size - held = omega arith in
        let t : take (size - held) (before p at first) ≡ take (size - held) (drop at p) = take-take (size - held) (first - at) (drop at p) i in
        let s : size ≡ length (take held b) + (size - held) = omega (arith, held_long) in
        let k : take size (take held b ++ before p at first) ≡ take held b ++ take (size - held) (drop at p) =
        ap (λ (y : ℕ). take y (take held b ++ before p at first)) s ∙ take-append-add (take held b) (before p at first) (size - held) ∙ ap (λ (y : List ℕ). take held b ++ y) t in
        let q : length (take held b ++ take (size - held) (drop at p)) ≡ size =
        length-append (take held b) (take (size - held) (drop at p)) ∙ omega (arith, held_long, length-take-le (size - held) (drop at p) (omega (arith, length-drop at p))) in
        ap₂ (λ (y : ℕ) (z : List ℕ). answering (Ok (record { pid = a.pid; counter = counter; held = y; at = first })) z) (sym q)
        (ap (λ (y : ℕ). stored b held (take y (drop at p))) j ∙ sym (stored_on b held h (take (size - held) (drop at p))))
        ∙ ap (λ (y : List ℕ). keeping a counter first y b) (sym k)
        ∙ by_complete a counter first (take held b) (before p at first) (drop first p) b n size e
