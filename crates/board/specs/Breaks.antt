-- The plain list of Q-7: "a plain list of open breaks with a next id".
-- `limit` is how many may be open: 32 for Q-7's one list, 16 for each of Q-8's two.
use Rattle.std.specs.Prelude.{ℕ, zero, suc, ◌+◌, ◌%◌, Bool, cond as pick, List, [], ◌∷◌, ◌++◌, length, ◌==◌, nat_le, nat_lt, slice_index, Result, Ok, Err}
use Rattle.board.specs.declared.Refusal.{Refusal}
use Rattle.board.specs.declared.Refusal.TheVariants.{BoardFull, NotOpen}

-- to an opening its event id, to a closing the provider id; or the refusal
abbrev pub Answer : Type 0
Answer = Result ℕ Refusal

-- the number of each refusal
unfoldable pub number_of : Refusal → ℕ
number_of BoardFull = 61
number_of NotOpen = 62

pub record Break : Type 0 where
  pub event : ℕ
  pub provider : ℕ

-- the breaks stand in the order of their opening
pub record Breaks : Type 0 where
  pub held : List Break
  pub next : ℕ

-- "Ids count up from 1"
abbrev pub no_breaks : Breaks
no_breaks = record { held = []; next = 1 }

-- "the id after 4,294,967,295 is 0"
unfoldable pub after : ℕ → ℕ
after id = (id + 1) % 4294967296

-- the provider ids of the breaks with this event id: one or none, in a list that calls make
unfoldable pub under : ℕ → List Break → List ℕ
under id [] = []
under id (b ∷ bs) = pick (b.event == id) (b.provider ∷ under id bs) (under id bs)

abbrev pub is_open : ℕ → List Break → Bool
is_open id bs = nat_lt 0 (length (under id bs))

abbrev pub provider_of : ℕ → List Break → ℕ
provider_of id bs = slice_index (under id bs) 0

-- the list without the first break of this event id
unfoldable pub without : ℕ → List Break → List Break
without id [] = []
without id (b ∷ bs) = pick (b.event == id) bs (b ∷ without id bs)

-- "an id still open is passed over": at most n of them, which is enough where fewer than n are open (`given` in proofs/Theorems.antt)
unfoldable pub free_from : ℕ → List Break → ℕ → ℕ
free_from zero bs id = id
free_from (suc n) bs id = pick (is_open id bs) (free_from n bs (after id)) id

-- what a call answers, and the list after it
pub record Told : Type 0 where
  pub answer : Answer
  pub breaks : Breaks

-- "both leave the board as found"
abbrev pub told : Refusal → Breaks → Told
told refusal l = record { answer = Err refusal; breaks = l }

-- "Opening takes a 32-bit provider id and gives an event id"; "61 open exactly when 32 are open"
unfoldable pub opened : ℕ → ℕ → Breaks → Told
opened limit provider l =
    let id : ℕ = free_from limit l.held l.next in
    pick (nat_le limit (length l.held)) (told BoardFull l)
    (record { answer = Ok id; breaks = record { held = l.held ++ record { event = id; provider = provider } ∷ []; next = after id } })

-- "closing takes the event id and gives the provider id back"; "62 close exactly when the id isn't open"
unfoldable pub closed : ℕ → Breaks → Told
closed id l =
    pick (is_open id l.held) (record { answer = Ok (provider_of id l.held); breaks = record { held = without id l.held; next = l.next } })
    (told NotOpen l)
