-- Laws of the full reading of an item.
--     payload_there    the payload of a descriptor lies in the loop
--     reading_is_lem       the answer
--     reading_full    it is the whole descriptor that tag, identifier and payload make
use Prim.Native.Nat.{ℕ, ◌+◌, ◌-◌, ◌≤◌}
use mathlib.Core.Path.{◌≡◌, refl, sym, subst}
use mathlib.Core.List.{List}
use native.Mathlib.Omega.{arith}
use lib.ListN.{length, take, drop, get_or}
use Rattle.table.proofs.Lists.{zero_one}
use Rattle.descriptor.specs.Full.{beside_read, full_of}
use Rattle.descriptor.specs.declared.Descriptor.{Descriptor}
use Rattle.descriptor.specs.declared.Descriptor.TheVariants.{Avail, Dtmf, Segmentation, Time, Reserved}
use Rattle.descriptor.specs.declared.full.Beside.{Beside}
use Rattle.descriptor.specs.declared.full.FullDescriptor.{FullDescriptor}
use Rattle.descriptor_loop.specs.Items.{item_at, read_at, complete_at, step_of, beside_item, reading_of}
use Rattle.descriptor_loop.specs.declared.Step.{Step}
use Rattle.descriptor_loop.specs.declared.reading.Reading.{Reading}
use Rattle.descriptor_loop.proofs.Steps.{Stands, Clause, long, ended, last, small, entire, clause, step_complete}
use Rattle.std.proofs.Common.{Ok, Err, Some, Option, Result}
use Rattle.upid.specs.declared.Refusal.{Refusal}
use Rattle.descriptor_loop.specs.declared.ItemRefusal.{ItemRefusal}

-- ---- where the payload lies

payload_by : {loop : List ℕ} {offset : ℕ} {s : Step} → Clause loop offset s → (d : Descriptor) → s.item ≡ Some (Ok d) → (offset + 6 ≤ s.next) × (s.next ≤ length loop)
unfolding complete_at
payload_by (long h) d e = zero_one cc
payload_by (ended h) d e = zero_one cc
payload_by (last r v x) d e = zero_one cc
payload_by (small L s) d e = zero_one cc
payload_by (entire L s h) d e = (omega arith, s.there)

module _ (loop : List ℕ) (offset : ℕ) (s : Step) (is : s ≡ step_of loop offset) where
  pub payload_there : (d : Descriptor) → s.item ≡ Some (Ok d) → (offset + 6 ≤ s.next) × (s.next ≤ length loop)
  payload_there = payload_by (subst (Clause loop offset) (sym is) (clause loop offset))

  pub reading_is_lem : (i : Option (Result Descriptor ItemRefusal)) → s.item ≡ i → (b : Beside) → b ≡ beside_item i (take (s.next - (offset + 6)) (drop (offset + 6) loop))
      → ◌≡◌ {A = Reading} (record { step = s; beside = b }) (reading_of loop offset)
  unfolding reading_of
  reading_is_lem i e b f = rw (← is, e, f)

-- ---- the whole descriptor

-- where the views lie makes no difference to what stands beside
beside_same : (base : ℕ) (r : Result Descriptor Refusal) (payload : List ℕ) → beside_item (item_at base r) payload ≡ beside_read r payload
beside_same base (Ok (Avail x)) payload = refl
beside_same base (Ok (Dtmf x)) payload = refl
beside_same base (Ok (Segmentation x)) payload = refl
beside_same base (Ok (Time x)) payload = refl
beside_same base (Ok (Reserved tag v)) payload = refl
beside_same base (Err r) payload = refl

-- a whole descriptor as the reading of an item, whose payload lies at `base` of the loop and ends at `next`
abbrev pub placed : ℕ → ℕ → FullDescriptor → Reading
placed base next w = record { step = record { item = item_at base w.read; identifier = w.identifier; next = next }; beside = w.beside }

pub reading_full : (loop : List ℕ) (offset L : ℕ) → Stands loop offset L → 4 ≤ L
    → reading_of loop offset ≡ placed (offset + 6) (offset + (L + 2)) (full_of (get_or loop offset 0) (take 4 (drop (offset + 2) loop)) (take (L - 4) (drop (offset + 6) loop)))
unfolding reading_of complete_at read_at full_of
reading_full loop offset L s h =
    let n : offset + (L + 2) - (offset + 6) ≡ L - 4 = omega arith in
    let w : step_of loop offset ≡ complete_at loop offset L = step_complete loop offset s.fits (omega (arith, s.six)) L s.is (omega (arith, s.six)) (omega (arith, s.there)) s.right h in
    rw (w, n, beside_same)
