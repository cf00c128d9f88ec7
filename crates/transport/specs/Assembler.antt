-- What the assembler's functions answer, for any state, packet and buffer, and the buffer's later bytes.
-- The section under way stands at the buffer's start.
use Rattle.std.specs.Prelude.{ℕ, ◌+◌, List, [], ◌++◌, eqb, length, take, drop, Option, Some, None, Result, Ok, Err}
use Rattle.table.specs.Bits.{pick}
use Rattle.table.specs.Lent.{stored}
use Rattle.transport_packet.specs.declared.packet.Refusal.{Refusal}
use Rattle.transport_packet.specs.declared.packet.Refusal.TheVariants.{SectionLengthTooLarge}
use Rattle.transport.specs.declared.Assembler.{Assembler}
use Rattle.transport_packet.specs.Packet.{Head, head_of}
use Rattle.transport_packet.specs.Sections.{next_of, by_next}
use Rattle.transport.specs.Step.{follows, goes_on, cut_of, before}

abbrev pub fresh_assembler : ℕ → Assembler
fresh_assembler pid = record { pid = pid; counter = 16; held = 0; at = 188 }

-- nothing of the packet is left to take
abbrev pub at_rest : Assembler → Assembler
at_rest a = record { pid = a.pid; counter = a.counter; held = a.held; at = 188 }

abbrev pub holding : Assembler → ℕ → ℕ → Assembler
holding a held at = record { pid = a.pid; counter = a.counter; held = held; at = at }

-- ---- `feed`

pub record FedTo : Type 0 where
  pub answer : Result Assembler Refusal
  pub buffer : List ℕ

-- what a payload leaves at the buffer's start: the section under way, now complete or going on
unfoldable pub kept : List ℕ → List ℕ → List ℕ → List ℕ
kept under before from =
    by_next (goes_on under before) [] []
    (pick (eqb (length from) 0) (under ++ before) [])
    (λ size. take size (under ++ before))

abbrev pub keeping : Assembler → ℕ → ℕ → List ℕ → List ℕ → FedTo
keeping a counter first bytes b =
    record {
      answer = Ok (record { pid = a.pid; counter = counter; held = length bytes; at = first });
      buffer = stored b 0 bytes;
    }

abbrev pub answering : Result Assembler Refusal → List ℕ → FedTo
answering x b = record { answer = x; buffer = b }

-- the bytes under way for this counter: none after a gap
abbrev pub under_for : Assembler → ℕ → List ℕ → List ℕ
under_for a counter b = pick (follows a.counter counter) (take a.held b) []

unfoldable pub fed_by : Assembler → ℕ → ℕ → List ℕ → List ℕ → List ℕ → List ℕ → FedTo
fed_by a counter first under before from b =
    pick (cut_of under before from).long (answering (Err SectionLengthTooLarge) b) (keeping a counter first (kept under before from) b)

unfoldable pub fed_with : Assembler → List ℕ → List ℕ → Head → FedTo
fed_with a p b (Err r) = answering (Err r) b
fed_with a p b (Ok None) = answering (Ok (at_rest a)) b
fed_with a p b (Ok (Some x)) =
    pick (eqb x.counter a.counter) (answering (Ok (at_rest a)) b)
    (fed_by a x.counter x.first (under_for a x.counter b) (before p x.at x.first) (drop x.first p) b)

abbrev pub fed_of : Assembler → List ℕ → List ℕ → FedTo
fed_of a p b = fed_with a p b (head_of a.pid p)

-- `feed`'s answer has no assembler in it
abbrev pub fed_answer : Result Assembler Refusal → Result (Unit {0}) Refusal
fed_answer (Ok a) = Ok tt
fed_answer (Err r) = Err r

-- and the assembler after it: a refusal leaves it as it was
abbrev pub fed_state : Assembler → Result Assembler Refusal → Assembler
fed_state before (Ok a) = a
fed_state before (Err r) = before

-- a payload's counter and place, and how many bytes it leaves in the buffer
abbrev pub left_as : Assembler → ℕ → ℕ → Result ℕ Refusal → Result Assembler Refusal
left_as a counter first (Ok held) = Ok (record { pid = a.pid; counter = counter; held = held; at = first })
left_as a counter first (Err r) = Err r

-- ---- `take`

-- a section of so many bytes, or none; and the state
pub record TakenTo : Type 0 where
  pub answer : Option ℕ × Assembler
  pub buffer : List ℕ

abbrev pub giving : Option ℕ × Assembler → List ℕ → TakenTo
giving x b = record { answer = x; buffer = b }

-- the size of the section that is complete in these bytes, if one is
abbrev pub complete_in : List ℕ → Option ℕ
complete_in s = by_next (next_of s) None None None (λ size. Some size)

-- from the packet, once the buffer has no complete section
unfoldable pub taken_from : Assembler → List ℕ → List ℕ → TakenTo
taken_from a s b =
    by_next (next_of s) (giving (None, at_rest a) b) (giving (None, at_rest a) b)
    (giving (None, holding a (length s) 188) (stored b 0 s))
    (λ size. giving (Some size, holding a 0 (a.at + size)) (stored b 0 (take size s)))

unfoldable pub taken_of : Assembler → List ℕ → List ℕ → TakenTo
taken_of a p b =
    let s : List ℕ = drop a.at p in
    by_next (next_of (take a.held b)) (taken_from a s b) (taken_from a s b) (taken_from a s b)
    (λ size. giving (Some size, holding a 0 a.at) b)
