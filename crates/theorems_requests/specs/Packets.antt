-- Q-9 of the functions: a packet's head by its bytes, and calls of the assembler one after the other, in the numbers that C answers.
use Rattle.std.specs.Prelude.{ℕ, zero, suc, ◌+◌, ◌*◌, ◌/◌, ◌%◌, ◌≤◌, ◌<◌, List, [], ◌∷◌, ◌++◌, ◌≡◌, eqb, length, take, get_or, Option, Some, None, Result, Ok, Err}
use Rattle.table.specs.Bits.{pick}
use Rattle.transport.specs.Step.{State, Told, step_of}
use Rattle.transport.specs.declared.Assembler.{Assembler}
use Rattle.transport_laws.specs.Runs.{state_after}
use Rattle.transport_packet.specs.Packet.{Head, bringing}
use Rattle.transport_packet.specs.declared.packet.Refusal.{Refusal}
use Rattle.transport_packet.specs.declared.packet.Refusal.TheVariants.{NotAPacket, OtherPid, Scrambled, PayloadOutside, SectionLengthTooLarge}

-- ---- a packet's head

-- behind four bytes, and the adaptation field with its length's byte where bit 5 of byte 3 says that there is one
unfoldable pub body_at : List ℕ → ℕ
body_at p = pick (eqb (get_or p 3 0 / 32 % 2) 1) (5 + get_or p 4 0) 4

-- 188 bytes with the sync byte, of this PID, not scrambled
pub record Ours (pid : ℕ) (p : List ℕ) : Type 0 where
  pub complete : length p ≡ 188
  pub sync : get_or p 0 0 ≡ 0x47
  pub own : get_or p 1 0 % 32 * 256 + get_or p 2 0 ≡ pid
  pub clear : get_or p 3 0 / 64 ≡ 0

-- with a payload that has a byte at least
pub record Loaded (pid : ℕ) (p : List ℕ) : Type 0 where
  pub ours : Ours pid p
  pub there : get_or p 3 0 / 16 % 2 ≡ 1
  pub room : body_at p + 1 ≤ 188

-- "Refusals in order", and where the payload lies: its counter, its first byte, and the first that a section begins in (188 where none does)
pub record HeadSays (pid : ℕ) (p : List ℕ) (h : Head) : Type 0 where
  -- 71 "not 188 bytes or wrong sync"
  pub short : (length p ≡ 188 → ⊥) → h ≡ Err NotAPacket
  pub unsynced : length p ≡ 188 → (get_or p 0 0 ≡ 0x47 → ⊥) → h ≡ Err NotAPacket
  -- 72 "another PID"
  pub other : length p ≡ 188 → get_or p 0 0 ≡ 0x47 → (get_or p 1 0 % 32 * 256 + get_or p 2 0 ≡ pid → ⊥) → h ≡ Err OtherPid
  -- 73 "scrambled"
  pub scrambled : length p ≡ 188 → get_or p 0 0 ≡ 0x47 → get_or p 1 0 % 32 * 256 + get_or p 2 0 ≡ pid → (get_or p 3 0 / 64 ≡ 0 → ⊥) → h ≡ Err Scrambled
  -- 74 "adaptation field past the packet's end or leaving no byte of an announced payload"
  pub outside : Ours pid p → 188 < body_at p + get_or p 3 0 / 16 % 2 → h ≡ Err PayloadOutside
  pub empty : Ours pid p → get_or p 3 0 / 16 % 2 ≡ 0 → body_at p ≤ 188 → h ≡ Ok None
  pub goes : Loaded pid p → get_or p 1 0 / 64 % 2 ≡ 0 → h ≡ bringing (get_or p 3 0 % 16) (body_at p) 188
  -- 74 "or a pointer to byte 188 or past it"
  pub pointer : Loaded pid p → get_or p 1 0 / 64 % 2 ≡ 1 → 188 ≤ body_at p + 1 + get_or p (body_at p) 0 → h ≡ Err PayloadOutside
  pub starts : Loaded pid p → get_or p 1 0 / 64 % 2 ≡ 1 → body_at p + 1 + get_or p (body_at p) 0 < 188
      → h ≡ bringing (get_or p 3 0 % 16) (body_at p + 1) (body_at p + 1 + get_or p (body_at p) 0)

-- ---- the assembler's calls in numbers

abbrev pub refusal_number : Refusal → ℕ
refusal_number NotAPacket = 71
refusal_number OtherPid = 72
refusal_number Scrambled = 73
refusal_number PayloadOutside = 74
refusal_number SectionLengthTooLarge = 75

-- a packet fed: 0 or the refusal's number, and the state behind it
pub data FeedsTo (Feeds : Assembler → List ℕ → List ℕ → Result (Unit {0}) Refusal × Assembler → List ℕ → Type 0) : Assembler → List ℕ → List ℕ → ℕ → Assembler → List ℕ → Type 0 where
  goes_in : {a later : Assembler} {p b c : List ℕ} {n : ℕ} → Feeds a p b (Ok tt, later) c → n ≡ 0 → FeedsTo Feeds a p b n later c
  is_refused : {a later : Assembler} {p b c : List ℕ} {n : ℕ} {r : Refusal} → Feeds a p b (Err r, later) c → n ≡ refusal_number r → FeedsTo Feeds a p b n later c

-- a section taken: its length, or 0 where nothing is left of the packet
pub data TakesTo (Takes : Assembler → List ℕ → List ℕ → Option ℕ × Assembler → List ℕ → Type 0) : Assembler → List ℕ → List ℕ → ℕ → Assembler → List ℕ → Type 0 where
  section : {a later : Assembler} {p b c : List ℕ} {n size : ℕ} → Takes a p b (Some size, later) c → n ≡ size → TakesTo Takes a p b n later c
  done : {a later : Assembler} {p b c : List ℕ} {n : ℕ} → Takes a p b (None, later) c → n ≡ 0 → TakesTo Takes a p b n later c

-- Over a state S, the assembler or the words that are lent: what a call may answer of a state, a packet and a buffer, and what it leaves.
module _ {S : Type 0} (Feed Take : S → List ℕ → List ℕ → ℕ → S → List ℕ → Type 0) where
  -- sections taken until 0 is answered, each as the buffer has it then
  pub data Drained : S → List ℕ → List ℕ → List (List ℕ) → S → List ℕ → Type 0 where
    nothing : {s t : S} {p b c : List ℕ} → Take s p b 0 t c → Drained s p b [] t c
    more : {s t u : S} {p b c d : List ℕ} {n : ℕ} {ss : List (List ℕ)} → Take s p b (suc n) t c → Drained t p c ss u d → Drained s p b (take (suc n) c ∷ ss) u d

  -- packets fed one after the other, each taken from until it is done unless it was refused: the number that each was answered, and all sections
  pub data PacketRun : S → List ℕ → List (List ℕ) → List ℕ → List (List ℕ) → S → List ℕ → Type 0 where
    over : {s : S} {b : List ℕ} → PacketRun s b [] [] [] s b
    refuses : {s t u : S} {p b c d : List ℕ} {n : ℕ} {ps : List (List ℕ)} {ns : List ℕ} {ss : List (List ℕ)}
        → Feed s p b (suc n) t c → PacketRun t c ps ns ss u d → PacketRun s b (p ∷ ps) (suc n ∷ ns) ss u d
    accepts : {s t u v : S} {p b c d e : List ℕ} {ps : List (List ℕ)} {ns : List ℕ} {ss later : List (List ℕ)}
        → Feed s p b 0 t c → Drained t p c ss u d → PacketRun u d ps ns later v e → PacketRun s b (p ∷ ps) (0 ∷ ns) (ss ++ later) v e

-- the packets that were answered by 0
unfoldable pub unrefused_of : List (List ℕ) → List ℕ → List (List ℕ)
unrefused_of [] ns = []
unrefused_of (p ∷ ps) [] = []
unrefused_of (p ∷ ps) (zero ∷ ns) = p ∷ unrefused_of ps ns
unrefused_of (p ∷ ps) (suc n ∷ ns) = unrefused_of ps ns

-- the numbers that the rules, as a step on lists (transport/specs/Step.antt), give packets one after the other
abbrev pub told_number : Told → ℕ
told_number (Told.refused r) = refusal_number r
told_number (Told.took s sections) = 0

unfoldable pub step_numbers : ℕ → State → List (List ℕ) → List ℕ
step_numbers pid s [] = []
step_numbers pid s (p ∷ ps) = told_number (step_of pid s p) ∷ step_numbers pid (state_after s (step_of pid s p)) ps

-- no number but 0 was answered
abbrev pub Zeros : List ℕ → Type 0
Zeros [] = Unit {0}
Zeros (n ∷ ns) = (n ≡ 0) × Zeros ns

-- the assembler in lent words, over C: PID, counter, bytes held and place, and the words behind them
abbrev pub words_of : Assembler → List ℕ → List ℕ
words_of a rest = a.pid ∷ a.counter ∷ a.held ∷ a.at ∷ rest
