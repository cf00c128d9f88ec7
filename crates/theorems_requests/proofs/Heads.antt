-- A packet's head, by the words of specs/Packets.antt.
use Prim.Native.Nat.{ℕ, ◌+◌, ◌≤◌}
use mathlib.Core.List.{List}
use mathlib.Core.Path.{◌≡◌}
use native.Mathlib.Omega.{arith}
use Rattle.transport_packet.proofs.Heads.{head_length, head_sync, head_pid, head_scrambled, head_adaptation, head_none, head_goes, head_pointer, head_starts}
use Rattle.transport_packet.specs.Packet.{payload_at, has_payload, head_of}
use Rattle.theorems_requests.specs.Packets.{body_at, Loaded, HeadSays}

pub head_is : (pid : ℕ) (p : List ℕ) → HeadSays pid p (head_of pid p)
unfolding body_at payload_at
head_is pid p = record {
  short = head_length pid p;
  unsynced = head_sync pid p;
  other = head_pid pid p;
  scrambled = head_scrambled pid p;
  outside = λ o h. head_adaptation pid p o.complete o.sync o.own o.clear h;
  empty = λ o none h. head_none pid p o.complete o.sync o.own o.clear (omega (arith, none, h)) none;
  goes = λ l start. let o = l.ours in head_goes pid p o.complete o.sync o.own o.clear (room l) (some l) start;
  pointer = λ l start h. let o = l.ours in head_pointer pid p o.complete o.sync o.own o.clear (room l) (some l) (λ z. omega (arith, start, z)) h;
  starts = λ l start h. let o = l.ours in head_starts pid p o.complete o.sync o.own o.clear (room l) (some l) (λ z. omega (arith, start, z)) h;
}
  where
    room : Loaded pid p → payload_at p + has_payload p ≤ 188
    room l = omega (arith, l.there, l.room)

    some : Loaded pid p → has_payload p ≡ 0 → ⊥
    some l z = omega (arith, l.there, z)
