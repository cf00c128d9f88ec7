-- Packets one after the other.
use Rattle.std.specs.Prelude.{ℕ, List, [], ◌∷◌, ◌++◌, ◌≡◌}
use Rattle.transport.specs.Step.{State, fresh, Told, step_of}
use Rattle.transport.specs.Step.Told.{refused, took}
use Rattle.transport_laws.specs.Concatenation.{spans}

abbrev pub state_after : State → Told → State
state_after s (refused r) = s
state_after s (took later sections) = later

abbrev pub sections_in : Told → List (List ℕ)
sections_in (refused r) = []
sections_in (took later sections) = sections

abbrev pub accepting : List ℕ → Told → List (List ℕ) → List (List ℕ)
accepting p (refused r) ps = ps
accepting p (took later sections) ps = p ∷ ps

-- all sections given
unfoldable pub given : ℕ → State → List (List ℕ) → List (List ℕ)
given pid s [] = []
given pid s (p ∷ ps) = sections_in (step_of pid s p) ++ given pid (state_after s (step_of pid s p)) ps

-- the packets that are not refused: "A refused packet changes no state"
unfoldable pub accepted : ℕ → State → List (List ℕ) → List (List ℕ)
accepted pid s [] = []
accepted pid s (p ∷ ps) = accepting p (step_of pid s p) (accepted pid (state_after s (step_of pid s p)) ps)

-- no packet is refused
pub data Unrefused (pid : ℕ) : State → List (List ℕ) → Type 0 where
  ends : {s : State} → Unrefused pid s []
  goes :
      {s later : State} {sections : List (List ℕ)} {p : List ℕ} {ps : List (List ℕ)}
      → step_of pid s p ≡ took later sections → Unrefused pid later ps → Unrefused pid s (p ∷ ps)

-- "Without gaps or refused packets"
pub record Clean (pid : ℕ) (ps : List (List ℕ)) : Type 0 where
  pub unrefused : Unrefused pid fresh ps
  pub no_gap : (spans pid ps).others ≡ []
