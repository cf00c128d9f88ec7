-- What the contracts of private functions say. No public contract cites this.
use Rattle.std.specs.Prelude.{ℕ, ◌+◌, ◌-◌, ◌≤◌, ◌<◌, true, List, ◌≡◌, eqb, length, take, get_or}
use Rattle.table.specs.Bits.{pick}
use Rattle.upid.specs.Cover.{All}
use Rattle.upid.specs.Private.{Accepted}
use Rattle.upid.specs.Upid.{read_of, list_of, blank_part}
use Rattle.upid.specs.declared.Part.{Part}
use Rattle.relabel_upid.specs.Relabel.{instead, around}

-- the parts of a MID, whose heads stand in this order, and the i-th of them
abbrev pub heads : List ℕ → List Part
heads top = list_of 13 1 0 top

abbrev pub nth : List ℕ → ℕ → Part
nth top i = get_or (heads top) i blank_part

-- where the head after the one at a place stands: inside its part where that is a MID, else behind it
abbrev pub next_head : List ℕ → ℕ → ℕ
next_head top at = pick (eqb (get_or top at 0) 13) (at + 2) (at + 2 + get_or top (at + 1) 0)

-- a MID that was accepted
pub record Walkable (top : List ℕ) : Type 0 where
  pub accepted : Accepted (read_of 13 0 top)
  pub short : length top ≤ 255

-- the head of the i-th part stands at the place r, and behind all where there is none
pub record Headed (top : List ℕ) (i r : ℕ) : Type 0 where
  pub none : length top ≤ r → length (heads top) ≤ i
  pub some : r < length top → (i < length (heads top)) × ((nth top i).start ≡ r + 2) × ((nth top i).len ≡ get_or top (r + 1) 0)

-- a part that is listed before p: its length is a byte of the target, and can be mended
pub record Mends (p : Part) (n : ℕ) (target : List ℕ) (q : Part) : Type 0 where
  pub behind : 2 ≤ q.start
  pub before : q.start ≤ length target
  pub counts : around p q ≡ true → (p.len ≤ q.len) × (instead p n q.len ≤ 255)

-- so can those before the i-th, which has `old` bytes up to `end`
pub record Mendable (top : List ℕ) (i end old n : ℕ) (target : List ℕ) : Type 0 where
  pub walk : Walkable top
  pub there : i < length (heads top)
  pub ends : end ≡ (nth top i).start + (nth top i).len
  pub has : old ≡ (nth top i).len
  pub new : n ≤ 255
  pub each : All (Mends (nth top i) n target) (take i (heads top))

-- a part that is listed before p lies before p's head, or around p, and can be mended
pub record Ahead (p : Part) (n : ℕ) (q : Part) : Type 0 where
  pub behind : 2 ≤ q.start
  pub before : q.start + 2 ≤ p.start
  pub counts : around p q ≡ true → (p.len ≤ q.len) × (instead p n q.len ≤ 255)

-- the i-th part of the UPID, whose head stands at `head`, can be replaced by these bytes, and the target has room
pub record Storable (top : List ℕ) (i head : ℕ) (new target : List ℕ) : Type 0 where
  pub walk : Walkable top
  pub there : i < length (heads top)
  pub starts : (nth top i).start ≡ head + 2
  pub has : (nth top i).len ≡ get_or top (head + 1) 0
  pub short : length new ≤ 255
  pub inside : (nth top i).start + (nth top i).len ≤ length top
  pub room : length top - (nth top i).len + length new ≤ length target
  pub each : All (Ahead (nth top i) (length new)) (take i (heads top))
