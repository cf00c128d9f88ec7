-- A canonical descriptor as a whole: its envelope; and the payload that is written of an avail, DTMF, time or reserved one is canonical.
use Prim.Native.Nat.{ℕ, suc, ◌+◌, ◌≤◌}
use mathlib.Core.Bool.{Bool, true, ◌&&◌}
use mathlib.Core.List.{List, [], ◌∷◌, ◌++◌}
use mathlib.Core.Path.{◌≡◌, refl, ap, ap₂, sym, ◌∙◌}
use native.Mathlib.Omega.{arith}
use lib.Dec.{leb, eqb}
use lib.ListN.{length, take, drop, get_or, length-append, length-drop, take-append-drop}
use lib.Seq.{take_at, drop_at}
use borrow.Author.Tests.{le-leb, leb-true, eq-eqb, eqb-true}
use Rattle.table.specs.Writing.{walk, made}
use Rattle.table.specs.declared.View.{View}
use Rattle.table.proofs.Lists.{and_true}
use Rattle.table.proofs.Structure as laws
use Rattle.descriptor.specs.Descriptor.{is_cuei}
use Rattle.descriptor.specs.Plain.{avail, dtmf, time, private_table}
use Rattle.descriptor.specs.declared.Descriptor.TheVariants.{Avail, Dtmf, Time, Reserved}
use Rattle.descriptor.specs.declared.plain.AvailDescriptor.{AvailDescriptor}
use Rattle.descriptor.specs.declared.plain.DTMFDescriptor.{DTMFDescriptor}
use Rattle.descriptor.specs.declared.plain.TimeDescriptor.{TimeDescriptor}
use Rattle.descriptor.specs.declared.full.Beside.{Beside}
use Rattle.descriptor.proofs.Structures.{avail_structure, dtmf_structure, time_structure, private_structure}
use Rattle.canonical_form.specs.Descriptor.{canonical_segmentation, canonical_payload, canonical_descriptor}
use Rattle.descriptor_measure.specs.Writing.{cuei, enveloped, alone, writable_reserved, payload_made}
use Rattle.table.specs.Table.{canonical_by}
use Rattle.descriptor_round_trips.proofs.PlainLaws.{table_write_read}
use Rattle.descriptor_round_trips.proofs.PlainTrips.{foreign, writable_tag}

-- a canonical payload in its envelope
pub enveloped_canonical : (tag : ℕ) (id p : List ℕ) → length id ≡ 4 → length p + 4 ≤ 254 → canonical_payload tag id p ≡ true → canonical_descriptor (enveloped tag id p) ≡ true
unfolding canonical_descriptor enveloped
enveloped_canonical tag id p four fits c =
    let n : length (id ++ p) ≡ length p + 4 = length-append id p ∙ omega arith in
    let t : take 4 (id ++ p) ≡ id = take_at id p 4 four in
    let d : drop 4 (id ++ p) ≡ p = drop_at id p 4 four in
    let a : leb 6 (suc (suc (length (id ++ p)))) ≡ true = le-leb 6 (suc (suc (length (id ++ p)))) (omega arith) in
    let b : eqb (length p + 4 + 2) (suc (suc (length (id ++ p)))) ≡ true = eq-eqb (length p + 4 + 2) (suc (suc (length (id ++ p)))) (omega arith) in
    rw (t, d, le-leb (length p + 4) 254 fits, c) (ap₂ (λ (x y : Bool). x && y) a (ap (λ (x : Bool). x && true) b))

-- a canonical descriptor is a canonical payload in its envelope
pub canonical_enveloped : (s : List ℕ) → canonical_descriptor s ≡ true
    → (s ≡ enveloped (get_or s 0 0) (take 4 (drop 2 s)) (drop 6 s)) × (length (drop 6 s) + 4 ≤ 254) × (canonical_payload (get_or s 0 0) (take 4 (drop 2 s)) (drop 6 s) ≡ true)
unfolding canonical_descriptor enveloped
canonical_enveloped s e =
    let i = and_true (leb 6 (length s)) _ e in
    let j = and_true (eqb (get_or s 1 0 + 2) (length s)) _ i.1 in
    let k = and_true (leb (get_or s 1 0) 254) _ j.1 in
    let six : 6 ≤ length s = leb-true 6 (length s) i.0 in
    let n : get_or s 1 0 + 2 ≡ length s = eqb-true (get_or s 1 0 + 2) (length s) j.0 in
    let l : get_or s 1 0 ≤ 254 = leb-true (get_or s 1 0) 254 k.0 in
    let d : length (drop 6 s) + 6 ≡ length s = omega (arith, length-drop 6 s) in
    (cut s six n, omega arith, k.1)
  where
    cut : (s : List ℕ) → 6 ≤ length s → get_or s 1 0 + 2 ≡ length s → s ≡ get_or s 0 0 ∷ ((length (drop 6 s) + 4) ∷ (take 4 (drop 2 s) ++ drop 6 s))
    cut [] h n = absurd (omega arith)
    cut (a ∷ []) h n = absurd (omega arith)
    cut (a ∷ (b ∷ r)) h n =
        let z : b ≡ length (drop 4 r) + 4 = omega (arith, length-drop 4 r) in
        ap₂ (λ (x : ℕ) (y : List ℕ). a ∷ (x ∷ y)) z (sym (take-append-drop 4 r))

-- ---- what is written is canonical
module _ (id : List ℕ) (beside : Beside) (lent p : List ℕ) where
  pub avail_canonical : (x : AvailDescriptor) → payload_made (Avail x) id beside lent ≡ made p → canonical_payload 0 cuei p ≡ true
  unfolding payload_made canonical_payload is_cuei
  avail_canonical x e = (table_write_read avail avail_structure (λ x. refl) (alone id beside.eidr) lent x p e tt).1

  pub dtmf_canonical : (x : DTMFDescriptor) → payload_made (Dtmf x) id beside lent ≡ made p → canonical_payload 1 cuei p ≡ true
  unfolding payload_made canonical_payload is_cuei
  dtmf_canonical x e = (table_write_read dtmf dtmf_structure (λ x. refl) (alone id beside.eidr) lent x p e tt).1

  pub time_canonical : (x : TimeDescriptor) → payload_made (Time x) id beside lent ≡ made p → canonical_payload 3 cuei p ≡ true
  unfolding payload_made canonical_payload is_cuei
  time_canonical x e = (table_write_read time time_structure (λ x. refl) (alone id beside.eidr) lent x p e tt).1

  pub reserved_canonical : (tag : ℕ) (v : View) → payload_made (Reserved tag v) id beside lent ≡ made p → canonical_payload tag id p ≡ true
  unfolding payload_made canonical_payload
  reserved_canonical tag v e =
      let writable : Bool = writable_reserved tag id beside.eidr in
      let f = writable_tag tag id beside.eidr (laws.wrote writable lent (walk private_table v 0).fields p e).fit in
      foreign tag id (canonical_by avail p) (canonical_by dtmf p) (canonical_segmentation p) (canonical_by time p) (canonical_by private_table p) f.0
      ∙ (table_write_read private_table private_structure (λ x. refl) writable lent v p e tt).1
