-- What an opening and a closing do on any board, and calls one after the other, as the contracts of the functions allow them.
use Rattle.std.specs.Prelude.{◌≡◌, ℕ, suc, ◌+◌, ◌%◌, ◌<◌, ◌≤◌, Bool, true, false, not, ◌&&◌, List, [], ◌∷◌, length, drop, ◌==◌, Ok}
use Rattle.board.specs.Breaks.{Answer, Break, under, is_open, provider_of, after}
use Rattle.board.specs.Board.{Step, breaks_of}
use Rattle.board.specs.Runs.{Call}
use Rattle.board.specs.Runs.Call.{opening, closing}
use Rattle.board.specs.declared.Board.{Board}

-- what the types say of a board, whoever made it: 32 places, and a next id of 32 bits
pub record Typed (b : Board) : Type 0 where
  pub places : length b.places ≡ 32
  pub next : b.next < 4294967296

-- the breaks that a board holds, in whatever order
abbrev pub held : Board → List Break
held b = breaks_of b.places

-- "an id still open is passed over": `id` is the first from the next one on that is not open, and no more are passed over than are open
pub record Given (bs : List Break) (next id : ℕ) : Type 0 where
  pub by : ℕ
  pub few : by ≤ length bs
  pub at : id ≡ (next + by) % 4294967296
  pub passed : (i : ℕ) → i < by → is_open ((next + i) % 4294967296) bs ≡ true
  pub free : under id bs ≡ []

-- An accepted opening: the id was not open, is open for this provider, and what was open under any id stands as it stood; the next id follows the one given.
pub record Opened (b : Board) (provider id : ℕ) (s : Step) : Type 0 where
  pub answer : s.answer ≡ Ok id
  pub given : Given (held b) b.next id
  pub now : under id (held s.board) ≡ provider ∷ []
  pub others : (k : ℕ) → (id == k) ≡ false → under k (held s.board) ≡ under k (held b)
  pub many : length (held s.board) ≡ suc (length (held b))
  pub next : s.board.next ≡ after id

-- An accepted closing: one break under the id is gone, and its provider is the answer; the next id stays.
pub record Closed (b : Board) (id : ℕ) (s : Step) : Type 0 where
  pub answer : s.answer ≡ Ok (provider_of id (held b))
  pub gone : under id (held s.board) ≡ drop 1 (under id (held b))
  pub others : (k : ℕ) → (id == k) ≡ false → under k (held s.board) ≡ under k (held b)
  pub many : length (held b) ≡ suc (length (held s.board))
  pub next : s.board.next ≡ b.next

-- What a function may do, by its contract: where `given` is what is seen of its arguments, `seen` of its answer and of its parameters at exit.
module _ {K : Type 0} {A R E : K → Type 0} (learnt : (κ : K) → A κ → R κ → E κ → Type 0) where
  pub record May {S T : Type 0} (given : (κ : K) → A κ → S) (seen : (κ : K) → R κ → E κ → T) (v : S) (w : T) : Type 0 where
    pub κ : K
    pub arguments : A κ
    pub answer : R κ
    pub after : E κ
    pub taken : given κ arguments ≡ v
    pub left : seen κ answer after ≡ w
    pub learnt_so : learnt κ arguments answer after

-- Calls one after the other from a board, what each answers, and the board after them, where `Does c b s` is what a call may do.
pub data Run (Does : Call → Board → Step → Type 0) : Board → List Call → List Answer → Board → Type 0 where
  nothing : {b : Board} → Run Does b [] [] b
  then : {c : Call} {b : Board} (s : Step) {cs : List Call} {heard : List Answer} {z : Board} → Does c b s → Run Does s.board cs heard z → Run Does b (c ∷ cs) (s.answer ∷ heard) z

-- no call of these closes the id
unfoldable pub leaves : ℕ → List Call → Bool
leaves id [] = true
leaves id (opening provider ∷ cs) = leaves id cs
leaves id (closing k ∷ cs) = not (k == id) && leaves id cs
