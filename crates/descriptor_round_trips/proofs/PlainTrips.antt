-- Avail, DTMF, time and reserved descriptors by tag and identifier: what is written reads back equal to what was handed in.
use Prim.Native.Nat.{ℕ, zero, suc, ◌+◌, ◌≤◌}
use mathlib.Core.Bool.{Bool, true, false, not, ◌&&◌}
use mathlib.Core.List.{List, [], ◌∷◌}
use mathlib.Core.Path.{◌≡◌, refl, ap, ap₂, sym, ◌∙◌}
use native.Mathlib.Omega.{arith}
use lib.Dec.{leb, ltb, eqb}
use lib.ListN.{length, replicate}
use borrow.Author.Tests.{leb-true, eqb-true, ltb-false, ne_eqb}
use Rattle.table.specs.Bits.{pick, AllBytes}
use Rattle.table.specs.Writing.{walk, Made, made, refused}
use Rattle.table.specs.declared.View.{View}
use Rattle.table.proofs.Lists.{zero_one, and_true}
use Rattle.table.proofs.Structure as laws
use Rattle.descriptor.specs.Descriptor.{avail_of, dtmf_of, segmentation_of, time_of, reserved_of, is_cuei, by_kind, descriptor_of}
use Rattle.descriptor.specs.Plain.{avail, dtmf, time, private_table}
use Rattle.descriptor.specs.Full.{blank_beside, beside_read, identifier_read}
use Rattle.descriptor.specs.declared.Descriptor.{Descriptor}
use Rattle.descriptor.specs.declared.Descriptor.TheVariants.{Avail, Dtmf, Time, Reserved}
use Rattle.descriptor.specs.declared.plain.AvailDescriptor.{AvailDescriptor}
use Rattle.descriptor.specs.declared.plain.DTMFDescriptor.{DTMFDescriptor}
use Rattle.descriptor.specs.declared.plain.TimeDescriptor.{TimeDescriptor}
use Rattle.descriptor.specs.declared.full.Beside.{Beside}
use Rattle.descriptor.proofs.Structures.{dtmf_moved}
use Rattle.canonical_form.specs.Same.{SameReading}
use Rattle.descriptor_measure.specs.Writing.{enveloped, enveloped_made, all_zero, alone, writable_reserved, payload_made, tag_of, identifier_of}
use Rattle.descriptor_round_trips.proofs.PlainLaws.{avail_write_read, time_write_read, dtmf_write_read, reserved_write_read}
use Rattle.std.proofs.Common.{Ok}

-- the payload that was written, read again: equal to what was handed in
pub record ReadsBack (d : Descriptor) (id : List ℕ) (beside : Beside) (lent p : List ℕ) : Type 0 where
  pub again : Descriptor
  pub reading : descriptor_of (tag_of d) (identifier_of d id) p ≡ Ok again
  pub same : SameReading p again (identifier_read (Ok again) (identifier_of d id)) (beside_read (Ok again) p) lent d id beside

-- ---- the envelope, undone
pub unenveloped : (tag : ℕ) (id : List ℕ) (m : Made) (s : List ℕ) → enveloped_made tag id m ≡ made s
    → (p : List ℕ) × (m ≡ made p) × (s ≡ enveloped tag id p) × (length p + 4 ≤ 254)
unfolding enveloped_made
unenveloped tag id (refused n) s e = zero_one cc
unenveloped tag id (made p) s e = go (leb (length p + 4) 254) refl e
  where
    go : (b : Bool) → leb (length p + 4) 254 ≡ b → pick b (made (enveloped tag id p)) (refused 34) ≡ made s → (q : List ℕ) × (made p ≡ made q) × (s ≡ enveloped tag id q) × (length q + 4 ≤ 254)
    go true h f = (p, refl, cc, leb-true (length p + 4) 254 h)
    go false h f = zero_one cc

-- ---- the blank
pub zeros : (l : List ℕ) (n : ℕ) → all_zero l ≡ true → length l ≡ n → replicate n 0 ≡ l
unfolding all_zero
zeros [] zero e h = refl
zeros [] (suc n) e h = absurd (omega arith)
zeros (b ∷ l) zero e h = absurd (omega arith)
zeros (b ∷ l) (suc n) e h =
    let i = and_true (eqb b 0) (all_zero l) e in
    ap₂ ◌∷◌ (sym (eqb-true b 0 i.0)) (zeros l n i.1 (omega arith))

-- a reserved descriptor that is writable is of no other kind
pub foreign : {A : Type 0} (tag : ℕ) (id : List ℕ) (a b c d e : A) → not (is_cuei id && ltb tag 4) ≡ true → by_kind tag id a b c d e ≡ e
foreign {A} tag id a b c d e h = go (is_cuei id) (ltb tag 4) refl h
  where
    go : (own low : Bool) → ltb tag 4 ≡ low → not (own && low) ≡ true → pick own (pick (eqb tag 0) a (pick (eqb tag 1) b (pick (eqb tag 2) c (pick (eqb tag 3) d e)))) e ≡ e
    go false low t h = refl
    go true true t h = zero_one cc
    go true false t h =
        let k : 4 ≤ tag = ltb-false tag 4 t in
        rw (ne_eqb tag 0 (λ z. omega arith), ne_eqb tag 1 (λ z. omega arith), ne_eqb tag 2 (λ z. omega arith), ne_eqb tag 3 (λ z. omega arith))

pub writable_tag : (tag : ℕ) (id eidr : List ℕ) → writable_reserved tag id eidr ≡ true → (not (is_cuei id && ltb tag 4) ≡ true) × (all_zero eidr ≡ true)
unfolding writable_reserved
writable_tag tag id eidr e = and_true (not (is_cuei id && ltb tag 4)) (all_zero eidr) e

module _ (id : List ℕ) (beside : Beside) (lent p : List ℕ) (four : length id ≡ 4) (twelve : length beside.eidr ≡ 12) where
  blank_eidr : all_zero beside.eidr ≡ true → blank_beside.eidr ≡ beside.eidr
  unfolding blank_beside
  blank_eidr e = zeros beside.eidr 12 e twelve

  both : alone id beside.eidr ≡ true → (replicate 4 0 ≡ id) × (blank_beside.eidr ≡ beside.eidr)
  unfolding alone
  both e = let i = and_true (all_zero id) (all_zero beside.eidr) e in (zeros id 4 i.0 four, blank_eidr i.1)

  pub avail_payload_write_read : (x : AvailDescriptor) → payload_made (Avail x) id beside lent ≡ made p → ReadsBack (Avail x) id beside lent p
  unfolding payload_made descriptor_of is_cuei
  avail_payload_write_read x e =
      let f = both (laws.wrote (alone id beside.eidr) lent (walk avail x 0).fields p e).fit in
      record {
        again = Avail x;
        reading = avail_write_read (alone id beside.eidr) lent x p e;
        same = record { values = refl; bytes = refl; identifiers = f.0; components = refl; eidrs = f.1 };
      }

  pub time_payload_write_read : (x : TimeDescriptor) → payload_made (Time x) id beside lent ≡ made p → ReadsBack (Time x) id beside lent p
  unfolding payload_made descriptor_of is_cuei
  time_payload_write_read x e =
      let f = both (laws.wrote (alone id beside.eidr) lent (walk time x 0).fields p e).fit in
      record {
        again = Time x;
        reading = time_write_read (alone id beside.eidr) lent x p e;
        same = record { values = refl; bytes = refl; identifiers = f.0; components = refl; eidrs = f.1 };
      }

  pub dtmf_payload_write_read : (x : DTMFDescriptor) → AllBytes lent → payload_made (Dtmf x) id beside lent ≡ made p → ReadsBack (Dtmf x) id beside lent p
  unfolding payload_made descriptor_of is_cuei
  dtmf_payload_write_read x a e =
      let f = both (laws.wrote (alone id beside.eidr) lent (walk dtmf x 0).fields p e).fit in
      let r = dtmf_write_read (alone id beside.eidr) lent p x a e in
      record {
        again = Dtmf (dtmf_moved x);
        reading = r.0;
        same = record { values = refl; bytes = ap (λ (b : List ℕ). b ∷ []) r.1; identifiers = f.0; components = refl; eidrs = f.1 };
      }

  pub reserved_payload_write_read : (tag : ℕ) (v : View) → AllBytes lent → payload_made (Reserved tag v) id beside lent ≡ made p → ReadsBack (Reserved tag v) id beside lent p
  unfolding payload_made descriptor_of
  reserved_payload_write_read tag v a e =
      let writable = writable_reserved tag id beside.eidr in
      let f = writable_tag tag id beside.eidr (laws.wrote writable lent (walk private_table v 0).fields p e).fit in
      let r = reserved_write_read writable lent p tag v a e in
      record {
        again = Reserved tag (record { at = 0; len = v.len });
        reading = foreign tag id (avail_of p) (dtmf_of p) (segmentation_of p) (time_of p) (reserved_of tag p) f.0 ∙ r.0;
        same = record { values = refl; bytes = ap (λ (b : List ℕ). b ∷ []) r.1; identifiers = refl; components = refl; eidrs = blank_eidr f.1 };
      }
