-- The round trips of descriptors, of all kinds. A reader needs specs/{Trips,Making}.antt beside this file, and the definitions of `descriptor_measure`.
use Rattle.upid.specs.declared.Refusal.{Refusal}
use Prim.Native.Nat.{ℕ, ◌≤◌}
use mathlib.Core.Bool.{true}
use mathlib.Core.List.{List}
use mathlib.Core.Path.{◌≡◌, ap, sym, subst, ◌∙◌}
use lib.ListN.{length, drop}
use Rattle.table.specs.Bits.{AllBytes}
use Rattle.table.specs.Writing.{Made, made}
use Rattle.descriptor.specs.declared.Descriptor.{Descriptor}
use Rattle.descriptor.specs.declared.full.Beside.{Beside}
use Rattle.descriptor.specs.declared.full.FullDescriptor.{FullDescriptor}
use Rattle.canonical_form.specs.Descriptor.{canonical_descriptor}
use Rattle.canonical_form.specs.Same.{SameReading}
use Rattle.descriptor_measure.specs.Writing.{count_beside, payload_made, descriptor_made, tag_of, identifier_of}
use Rattle.descriptor_round_trips.specs.Making.{DescriptorMakes}
use Rattle.descriptor_round_trips.specs.Trips.{full_in, Handed, ReadAs}
use Rattle.descriptor_round_trips.proofs.Alike.{same_made}
use Rattle.descriptor_round_trips.proofs.Canon.{enveloped_canonical}
use Rattle.descriptor_round_trips.proofs.MadeSo.{what_is_made, nothing_else}
use Rattle.descriptor_round_trips.proofs.Payloads.{payload_write_read}
use Rattle.descriptor_round_trips.proofs.PlainTrips.{unenveloped}
use Rattle.descriptor_round_trips.proofs.FullTrips.{reads_as, full_descriptor_read_write}
use Rattle.std.proofs.Common.{Ok, Result}

-- What is written of a descriptor reads back equal to what was handed in, and is canonical.
pub descriptor_write_read : (d : Descriptor) (identifier : List ℕ) (beside : Beside) (lent s : List ℕ) → Handed d identifier beside lent
    → descriptor_made d identifier beside lent ≡ made s → ReadAs s d identifier beside lent × (canonical_descriptor s ≡ true)
unfolding descriptor_made
descriptor_write_read d id beside lent s h e =
    let u = unenveloped (tag_of d) (identifier_of d id) (payload_made d id beside lent) s e in
    let p = payload_write_read id beside lent u.0 d h u.1 in (
      subst (λ (t : List ℕ). ReadAs t d id beside lent) (sym u.2) (reads_as d id beside lent (tag_of d) (identifier_of d id) u.0 p),
      rw u.2 (enveloped_canonical (tag_of d) (identifier_of d id) u.0 p.four u.3 p.form),
    )

-- A canonical descriptor is read, and writing its reading gives its bytes.
pub descriptor_read_write : (s : List ℕ) → AllBytes s → canonical_descriptor s ≡ true
    → (d : Descriptor) × ((full_in s).read ≡ Ok d) × (descriptor_made d (full_in s).identifier (full_in s).beside (drop 6 s) ≡ made s)
descriptor_read_write s a c = let b = full_descriptor_read_write s a c in (b.read, ap (λ (w : FullDescriptor). w.read) b.full, b.writes)

-- Two different canonical descriptors never have the same reading.
pub descriptor_one : (s r : List ℕ) (d e : Descriptor) → AllBytes s → AllBytes r → canonical_descriptor s ≡ true → canonical_descriptor r ≡ true
    → (full_in s).read ≡ Ok d → (full_in r).read ≡ Ok e
    → SameReading (drop 6 s) d (full_in s).identifier (full_in s).beside (drop 6 r) e (full_in r).identifier (full_in r).beside → s ≡ r
descriptor_one s r d e a b cs cr rs rr same =
    let x = written s a cs d rs in
    let y = written r b cr e rr in
    same_made (drop 6 s) (drop 6 r) s r d e (full_in s).identifier (full_in r).identifier (full_in s).beside (full_in r).beside x.1 y.1 same x.0 y.0
  where
    written : (s : List ℕ) → AllBytes s → canonical_descriptor s ≡ true → (d : Descriptor) → (full_in s).read ≡ Ok d
        → (descriptor_made d (full_in s).identifier (full_in s).beside (drop 6 s) ≡ made s) × (count_beside d ≤ length (full_in s).beside.components)
    written s a c d e =
        let b = full_descriptor_read_write s a c in
        let i : Ok b.read ≡ Ok d = sym (ap (λ (w : FullDescriptor). w.read) b.full) ∙ e in
        let z : b.read ≡ d = one b.read d i in (
          subst (λ (k : Descriptor). descriptor_made k (full_in s).identifier (full_in s).beside (drop 6 s) ≡ made s) z b.writes,
          subst (λ (k : Descriptor). count_beside k ≤ length (full_in s).beside.components) z b.places,
        )
      where
        one : (x y : Descriptor) → ◌≡◌ {A = Result Descriptor Refusal} (Ok x) (Ok y) → x ≡ y
        one x y e = cc

-- What is made of a descriptor that is handed in is told by what is read: refusal 33 is given where no canonical payload reads as it.
pub what_is_made_of_a_descriptor : (d : Descriptor) (identifier : List ℕ) (beside : Beside) (lent : List ℕ) → Handed d identifier beside lent
    → DescriptorMakes d identifier beside lent (descriptor_made d identifier beside lent)
what_is_made_of_a_descriptor d id beside lent h = what_is_made d id beside lent h

-- and nothing else is
pub a_descriptor_makes_one : (d : Descriptor) (identifier : List ℕ) (beside : Beside) (lent : List ℕ) (m n : Made) → Handed d identifier beside lent
    → DescriptorMakes d identifier beside lent m → DescriptorMakes d identifier beside lent n → m ≡ n
a_descriptor_makes_one d id beside lent m n h e f = sym (nothing_else d id beside lent h e) ∙ nothing_else d id beside lent h f
