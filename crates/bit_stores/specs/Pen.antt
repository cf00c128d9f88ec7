-- Bits stored into a lent target, from a cursor on.
use Rattle.std.specs.Prelude.{ℕ, ◌+◌, ◌*◌, List, ◌++◌, ◌≡◌, leb, length, take, drop}
use Rattle.table.specs.Bits.{pick, bits_of, bytes_of}
use Rattle.table.specs.Cursor.{place, cursor_at}
use Rattle.table.specs.declared.cursor.Cursor.{Cursor}

-- the target with these bits from bit `at` on, and all else as it was; bits that do not fit are not stored
unfoldable pub penned : List ℕ → ℕ → List ℕ → List ℕ
penned target at b =
    pick (leb (at + length b) (length target * 8)) (bytes_of (take at (bits_of target) ++ b ++ drop (at + length b) (bits_of target))) target

-- the cursor after n bits; where they do not fit, where it stood
unfoldable pub pen_after : List ℕ → Cursor → ℕ → Cursor
pen_after target c n = pick (leb (place c + n) (length target * 8)) (cursor_at (place c + n)) c

-- these bits were stored from cursor c on: the target's later bytes, and the cursor after them
pub record Pens (target : List ℕ) (c : Cursor) (b : List ℕ) (later : List ℕ) (next : Cursor) : Type 0 where
  pub bytes : later ≡ penned target (place c) b
  pub cursor : next ≡ pen_after target c (length b)
