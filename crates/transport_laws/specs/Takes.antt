-- A packet fed, and its sections taken until `take` says that it is done: as one step.
use Rattle.std.specs.Prelude.{ℕ, zero, suc, ◌≤◌, List, [], ◌∷◌, ◌++◌, ◌≡◌, length, take, Option, Some, None, Ok, Err}
use Rattle.transport.specs.declared.Assembler.{Assembler}
use Rattle.transport_packet.specs.declared.packet.Refusal.{Refusal}
use Rattle.transport.specs.Step.{State, Settled, Told}
use Rattle.transport.specs.Step.Told.{refused, took}
use Rattle.transport.specs.Assembler.{answering, fed_of, TakenTo, giving, taken_of}
use Rattle.transport_laws.specs.Runs.{sections_in}

-- the sections, each as the buffer has it when it is handed out; and what is left
pub record Takes : Type 0 where
  pub sections : List (List ℕ)
  pub assembler : Assembler
  pub buffer : List ℕ

abbrev pub taking : TakenTo → (Assembler → List ℕ → Takes) → Takes
taking t more = go t.answer.0
  where
    go : Option ℕ → Takes
    go None = record { sections = []; assembler = t.answer.1; buffer = t.buffer }
    go (Some size) =
        let m : Takes = more t.answer.1 t.buffer in
        record { sections = take size t.buffer ∷ m.sections; assembler = m.assembler; buffer = m.buffer }

-- n is any number from the packet's bytes and two on: it says that this ends
unfoldable pub takes_of : ℕ → Assembler → List ℕ → List ℕ → Takes
takes_of zero a p b = record { sections = []; assembler = a; buffer = b }
takes_of (suc n) a p b = taking (taken_of a p b) (λ later buffer. takes_of n later p buffer)

-- the same without a number (`Take-ends` in proofs/Ends.antt): what `take` gives until it says that it is done
pub data Ends : Assembler → List ℕ → List ℕ → Takes → Type 0 where
  done : {a later : Assembler} {p b b' : List ℕ} → taken_of a p b ≡ giving (None, later) b' → Ends a p b (record { sections = []; assembler = later; buffer = b' })
  gives :
      {a later : Assembler} {p b b' : List ℕ} {size : ℕ} {t : Takes} → taken_of a p b ≡ giving (Some size, later) b' → Ends later p b' t
      → Ends a p b (record { sections = take size b' ∷ t.sections; assembler = t.assembler; buffer = t.buffer })

-- a state and a buffer as the step has them
abbrev pub state_of : Assembler → List ℕ → State
state_of a b = record { counter = a.counter; under = take a.held b }

-- what `feed` and then `take` until it is done do with a packet: what is told, and the state and the buffer after it
pub data CodeStep : Assembler → List ℕ → List ℕ → Told → Assembler → List ℕ → Type 0 where
  refuses : {a : Assembler} {p b b' : List ℕ} {r : Refusal} → fed_of a p b ≡ answering (Err r) b' → CodeStep a p b (refused r) a b'
  takes :
      {a later : Assembler} {p b b' : List ℕ} {t : Takes} → fed_of a p b ≡ answering (Ok later) b' → Ends later p b' t
      → CodeStep a p b (took (state_of t.assembler t.buffer) t.sections) t.assembler t.buffer

-- all sections that the code gives of packets one after the other
pub data CodeGives : Assembler → List ℕ → List (List ℕ) → List (List ℕ) → Type 0 where
  over : {a : Assembler} {b : List ℕ} → CodeGives a b [] []
  packet :
      {a a' : Assembler} {p b b' : List ℕ} {x : Told} {ps ss : List (List ℕ)} → CodeStep a p b x a' b' → CodeGives a' b' ps ss
      → CodeGives a b (p ∷ ps) (sections_in x ++ ss)

-- a state that packets lead to, and the room that was asked for
pub record Ready (a : Assembler) (b : List ℕ) : Type 0 where
  pub room : 4096 ≤ length b
  pub settled : Settled (take a.held b)
