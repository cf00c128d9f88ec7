-- The assembler's state in lent words, and its answers as numbers.
use Rattle.std.specs.Prelude.{ℕ, List, ◌∷◌, length, take, drop, get_or, unwrap_or, Option, Result, Ok, Err}
use Rattle.transport_packet.specs.Packet.{number_of}
use Rattle.transport_packet.specs.declared.packet.Refusal.{Refusal}
use Rattle.transport.specs.declared.Assembler.{Assembler}

-- the PID, the last counter, the bytes held and the place in the packet; a word past the end counts as 0
abbrev pub state_in : List ℕ → Assembler
state_in words = record { pid = get_or words 0 0; counter = get_or words 1 0; held = get_or words 2 0; at = get_or words 3 0 }

-- the words with this state in them: as many as there were, and those behind the state's as they were
abbrev pub kept_in : List ℕ → Assembler → List ℕ
kept_in words a = take (length words) (a.pid ∷ a.counter ∷ a.held ∷ a.at ∷ drop 4 words)

-- 0, or the number of the refusal
unfoldable pub fed_number : Result Assembler Refusal → ℕ
fed_number (Ok a) = 0
fed_number (Err r) = number_of r

-- "A refused packet changes no state"
unfoldable pub kept_fed : List ℕ → Result Assembler Refusal → List ℕ
kept_fed words (Ok a) = kept_in words a
kept_fed words (Err r) = words

-- the section's length, which is at least 3; or 0, nothing is left of this packet
unfoldable pub taken_number : Option ℕ × Assembler → ℕ
taken_number x = unwrap_or x.0 0

unfoldable pub kept_taken : List ℕ → Option ℕ × Assembler → List ℕ
kept_taken words x = kept_in words x.1
