-- Q-9's assembler as a step on lists.
use Rattle.std.specs.Prelude.{ℕ, ◌+◌, ◌-◌, ◌%◌, Bool, true, List, [], ◌++◌, ◌≡◌, eqb, leb, length, take, drop, Some, None, Ok, Err}
use Rattle.table.specs.Bits.{pick}
use Rattle.transport_packet.specs.declared.packet.Refusal.{Refusal}
use Rattle.transport_packet.specs.declared.packet.Refusal.TheVariants.{SectionLengthTooLarge}
use Rattle.transport_packet.specs.declared.sections.Next.{Next}
use Rattle.transport_packet.specs.declared.sections.Next.TheVariants.{Nothing, Part}
use Rattle.transport_packet.specs.Packet.{Head, head_of}
use Rattle.transport_packet.specs.Sections.{next_of, by_next, Cut, long_cut, under_way, and_then, cut}

-- The counter of the last packet with payload, 16 before the first; and the bytes of the section under way, none where none is.
pub record State : Type 0 where
  pub counter : ℕ
  pub under : List ℕ

abbrev pub fresh : State
fresh = record { counter = 16; under = [] }

-- no gap: the counter is the one behind the last, or this is the first
abbrev pub follows : ℕ → ℕ → Bool
follows last counter = pick (leb 16 last) true (eqb counter ((last + 1) % 16))

-- the section under way and the bytes behind it
abbrev pub goes_on : List ℕ → List ℕ → Next
goes_on under before = pick (eqb (length under) 0) Nothing (next_of (under ++ before))

-- A payload: the bytes before the first section that begins in it, and those from there on, none where none begins.
-- What stands behind a section that ends in the first is passed over, and "A section that a new start cuts short is dropped".
unfoldable pub cut_of : List ℕ → List ℕ → List ℕ → Cut
cut_of under before from =
    by_next (goes_on under before) (cut from) long_cut
    (pick (eqb (length from) 0) (under_way (under ++ before)) (cut from))
    (λ size. and_then (take size (under ++ before)) (cut from))

-- no section is under way, or one that goes on: what every packet leaves (`settles` in proofs/Theorems.antt)
pub data Settled : List ℕ → Type 0 where
  none : Settled []
  going : {s : List ℕ} → next_of s ≡ Part → Settled s

-- what a packet is answered by: "A refused packet changes no state"
pub data Told : Type 0 where
  refused : Refusal → Told
  took : State → List (List ℕ) → Told

-- 75 "tested for every section the packet begins or whose length it completes, before any is handed out" (`long_completed` in proofs/Theorems.antt: of a
-- section under way, only where the packet completes its length)
abbrev pub told : ℕ → Cut → Told
told counter c = pick c.long (refused SectionLengthTooLarge) (took (record { counter = counter; under = c.under }) c.sections)

abbrev pub before : List ℕ → ℕ → ℕ → List ℕ
before p at first = take (first - at) (drop at p)

unfoldable pub tells_of : State → List ℕ → Head → Told
tells_of s p (Err r) = refused r
-- "Packets without payload add nothing and leave the counter"
tells_of s p (Ok None) = took s []
tells_of s p (Ok (Some x)) =
    -- "a packet with the last payload packet's counter is a repeat, adds nothing and is not tested for 75"
    pick (eqb x.counter s.counter) (took s [])
    -- "A counter gap drops the section under way"
    (told x.counter (cut_of (pick (follows s.counter x.counter) s.under []) (before p x.at x.first) (drop x.first p)))

abbrev pub step_of : ℕ → State → List ℕ → Told
step_of pid s p = tells_of s p (head_of pid p)
