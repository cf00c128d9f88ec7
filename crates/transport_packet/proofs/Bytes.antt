-- What the code reads of the bytes where a section would begin.
use Prim.Native.Nat.{ℕ, ◌+◌, ◌-◌, ◌*◌, ◌%◌, ◌≤◌, ◌<◌}
use mathlib.Core.List.{List}
use mathlib.Core.Path.{◌≡◌}
use native.Mathlib.Nat.{add-zero}
use lib.ListN.{length, drop, get_or, length-drop, drop_of_length-le}
use lib.Seq.{get_or-drop}
use borrow.Author.Tests.{lt-ltb}
use Rattle.transport_packet.specs.declared.sections.Next.TheVariants.{Nothing}
use Rattle.transport_packet.specs.Sections.{section_length, next_by, next_of}

-- with fewer than three bytes no section_length is looked at
pub few_by : (count first len len' : ℕ) → count < 3 → next_by count first len ≡ next_by count first len'
unfolding next_by
few_by count first len len' h = rw (lt-ltb count 3 h)

module _ (s : List ℕ) (at : ℕ) where
  pub next_out : length s ≤ at → next_of (drop at s) ≡ Nothing
  unfolding next_by
  next_out h = rw (drop_of_length-le s h)

  pub next_few : at < length s → length s - at < 3 → next_of (drop at s) ≡ next_by (length s - at) (get_or s at 0) 0
  next_few h f =
      rw (length-drop at s, get_or-drop at s 0 0, add-zero at)
      (few_by (length s - at) (get_or s at 0) (section_length (drop at s)) 0 f)

  pub next_many : next_of (drop at s) ≡ next_by (length s - at) (get_or s at 0) (get_or s (at + 1) 0 % 16 * 256 + get_or s (at + 2) 0)
  next_many = rw (length-drop at s, get_or-drop at s 0 0, get_or-drop at s 1 0, get_or-drop at s 2 0, add-zero at)
