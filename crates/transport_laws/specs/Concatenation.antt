-- The standard's concatenation, of a whole list of packets at once. No word of an assembler's state.
use Rattle.std.specs.Prelude.{ℕ, zero, suc, ◌<◌, List, [], ◌∷◌, ◌++◌, ◌≡◌, eqb, length, take, drop, get_or, Some, None, Ok, Err}
use Rattle.table.specs.Bits.{pick}
use Rattle.transport_packet.specs.Packet.{Head, head_of}
use Rattle.transport_packet.specs.Sections.{next_of, by_next, Right}
use Rattle.transport.specs.Step.{follows, before}

-- ---- the payloads

-- A payload without its pointer_field: the bytes before the pointer's target, and those from there on, none where there is no pointer.
pub record Load : Type 0 where
  pub counter : ℕ
  pub lead : List ℕ
  pub from : List ℕ

abbrev pub load_of : List ℕ → Head → List Load
load_of p (Err r) = []
load_of p (Ok None) = []
load_of p (Ok (Some x)) = record { counter = x.counter; lead = before p x.at x.first; from = drop x.first p } ∷ []

unfoldable pub payloads : ℕ → List (List ℕ) → List Load
payloads pid [] = []
payloads pid (p ∷ ps) = load_of p (head_of pid p) ++ payloads pid ps

-- a payload with the counter of the one before it, `last`, is left out
unfoldable pub unrepeated : ℕ → List Load → List Load
unrepeated last [] = []
unrepeated last (x ∷ xs) = pick (eqb x.counter last) (unrepeated last xs) (x ∷ unrepeated x.counter xs)

-- the payloads joined
unfoldable pub joined : List Load → List ℕ
joined [] = []
joined (x ∷ xs) = x.lead ++ x.from ++ joined xs

-- ---- the payloads joined, cut at each pointer's target

-- The bytes from one pointer's target to the next: those in the packet of that pointer, and those in packets behind it.
pub record Run : Type 0 where
  pub head : List ℕ
  pub rest : List ℕ

pub record Runs : Type 0 where
  pub lead : List ℕ
  pub runs : List Run

unfoldable pub runs_of : List Load → Runs
runs_of [] = record { lead = []; runs = [] }
runs_of (x ∷ xs) =
    let r : Runs = runs_of xs in
    pick (eqb (length x.from) 0) (record { lead = x.lead ++ r.lead; runs = r.runs })
    (record { lead = x.lead; runs = record { head = x.from; rest = r.lead } ∷ r.runs })

-- ---- sections

-- A section begins at the pointer's target, and where one ends, in the packet of that pointer and before stuffing.
-- n is any number from the count of the head's bytes on: it says that this ends.
unfoldable pub sections_from : ℕ → List ℕ → List ℕ → List (List ℕ)
sections_from zero head rest = []
sections_from (suc n) head rest =
    pick (eqb (length head) 0) []
    (by_next (next_of (head ++ rest)) [] [] [] (λ size. take size (head ++ rest) ∷ sections_from n (drop size head) rest))

unfoldable pub sections_of : List Run → List (List ℕ)
sections_of [] = []
sections_of (r ∷ rs) = sections_from (length r.head) r.head r.rest ++ sections_of rs

-- the sections of the concatenation
abbrev pub concatenation : List Load → List (List ℕ)
concatenation xs = sections_of (runs_of xs).runs

abbrev pub concatenated : ℕ → List (List ℕ) → List (List ℕ)
concatenated pid ps = concatenation (unrepeated 16 (payloads pid ps))

-- ---- gaps: the payloads cut where a counter is not the one behind the counter before it

pub record Spans : Type 0 where
  pub first : List Load
  pub others : List (List Load)

-- `last` is the counter of the payload before
unfoldable pub spans_of : ℕ → List Load → Spans
spans_of last [] = record { first = []; others = [] }
spans_of last (x ∷ xs) =
    let r : Spans = spans_of x.counter xs in
    pick (follows last x.counter) (record { first = x ∷ r.first; others = r.others }) (record { first = []; others = (x ∷ r.first) ∷ r.others })

-- the payloads of packets, repeats left out, cut at the gaps
abbrev pub spans : ℕ → List (List ℕ) → Spans
spans pid ps = spans_of 16 (unrepeated 16 (payloads pid ps))

-- the sections of each concatenation, one after the other
unfoldable pub spanned : List (List Load) → List (List ℕ)
spanned [] = []
spanned (xs ∷ xss) = concatenation xs ++ spanned xss

-- ---- what is claimed of the cutting

unfoldable pub runs_joined : List Run → List ℕ
runs_joined [] = []
runs_joined (r ∷ rs) = r.head ++ r.rest ++ runs_joined rs

unfoldable pub flat : List (List ℕ) → List ℕ
flat [] = []
flat (s ∷ ss) = s ++ flat ss

-- one list begins another
pub record Begins (x y : List ℕ) : Type 0 where
  pub left : List ℕ
  pub is : x ++ left ≡ y

-- ---- how a multiplexer lays sections: rules that know nothing of a reader

-- a section that can be laid: its length is what it says, and its first byte is no stuffing
pub record Laid (s : List ℕ) : Type 0 where
  pub right : Right s
  pub begun : get_or s 0 0 ≡ 255 → ⊥

-- nothing, or stuffing
pub data Idle : List ℕ → Type 0 where
  over : Idle []
  stuffing : {bytes : List ℕ} → get_or bytes 0 0 ≡ 255 → Idle bytes

-- A run that carries these sections: each begins in the packet of the pointer, the last may end behind it, and stuffing follows.
pub data Carries : List ℕ → List ℕ → List (List ℕ) → Type 0 where
  idle : {head rest : List ℕ} → Idle head → Carries head rest []
  section : {head rest s : List ℕ} {ss : List (List ℕ)}
      → Laid s → 0 < length head → Begins s (head ++ rest) → Carries (drop (length s) head) rest ss → Carries head rest (s ∷ ss)

-- runs, and the sections of each
pub data Multiplex : List Run → List (List ℕ) → Type 0 where
  no_run : Multiplex [] []
  run : {r : Run} {rs : List Run} {ss more : List (List ℕ)} → Carries r.head r.rest ss → Multiplex rs more → Multiplex (r ∷ rs) (ss ++ more)
