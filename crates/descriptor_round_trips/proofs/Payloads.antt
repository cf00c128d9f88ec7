-- The payload that is written of a descriptor is the canonical payload that reads as it, and there is no other.
--     payload_write_read       what is written reads as what was handed in, and is canonical
--     written_if_read    a canonical payload that reads as what is handed in is what is written of it
use Rattle.upid.specs.declared.Refusal.{Refusal}
use Prim.Native.Nat.{ℕ, ◌+◌, ◌/◌, ◌≤◌}
use mathlib.Core.Bool.{Bool, true}
use mathlib.Core.List.{List}
use mathlib.Core.Path.{◌≡◌, refl, ap, sym, subst, ◌∙◌}
use native.Mathlib.Omega.{arith}
use lib.ListN.{length}
use Rattle.table.specs.Bits.{AllBytes}
use Rattle.table.specs.Writing.{Field, walk, contents, print, made, make_of}
use Rattle.table.proofs.Bits.{all_bytes_n}
use Rattle.table.proofs.Structure as laws
use Rattle.table.proofs.Walks.{print_bits}
use Rattle.descriptor.specs.Plain.{avail, dtmf, time, private_table}
use Rattle.descriptor.specs.Segmentation.{writable_detail, segmentation}
use Rattle.descriptor.specs.Full.{full_of, identifier_read, beside_read}
use Rattle.descriptor.specs.declared.Descriptor.{Descriptor}
use Rattle.descriptor.specs.declared.Descriptor.TheVariants.{Avail, Dtmf, Segmentation, Time, Reserved}
use Rattle.descriptor.specs.declared.full.Beside.{Beside}
use Rattle.descriptor.specs.declared.full.FullDescriptor.{FullDescriptor}
use Rattle.canonical_form.specs.Descriptor.{canonical_payload}
use Rattle.canonical_form.specs.Same.{SameReading}
use Rattle.descriptor_measure.specs.Writing.{count_beside, alone, writable_reserved, payload_made, tag_of, identifier_of, upid_in, upid_source, written, written_detail}
use Rattle.descriptor_measure.proofs.Making.{by_table}
use Rattle.descriptor_round_trips.specs.Making.{view_in, Payload}
use Rattle.descriptor_round_trips.specs.Trips.{Handed}
use Rattle.descriptor_round_trips.proofs.Alike.{alike_payload, payload_told, same_envelope, same_view}
use Rattle.descriptor_round_trips.proofs.Canon.{avail_canonical, dtmf_canonical, time_canonical, reserved_canonical}
use Rattle.descriptor_round_trips.proofs.PlainTrips.{ReadsBack, avail_payload_write_read, dtmf_payload_write_read, time_payload_write_read, reserved_payload_write_read}
use Rattle.descriptor_round_trips.proofs.SegmentBack.{segmentation_payload_write_read}
use Rattle.descriptor_round_trips.proofs.FullTrips.{payload_is, full_read}
use Rattle.std.proofs.Common.{Ok, Result}

-- ---- what is written

-- it is bytes
are_bytes : (writable : Bool) (lent : List ℕ) (fs : List Field) (b : List ℕ) → make_of writable lent fs ≡ made b → AllBytes b
are_bytes writable lent fs b e =
    let p = print (contents lent fs) in
    rw (laws.wrote writable lent fs b e).bytes (all_bytes_n (length p / 8) p (print_bits (contents lent fs)))

module _ (id : List ℕ) (beside : Beside) (lent p : List ℕ) where
  pub counted : (d : Descriptor) → Handed d id beside lent → count_beside d ≤ length beside.components
  counted d h = omega (arith, h.count, h.places)

  payload_bytes : (d : Descriptor) → Handed d id beside lent → payload_made d id beside lent ≡ made p → AllBytes p
  unfolding payload_made
  payload_bytes (Avail x) h e = are_bytes (alone id beside.eidr) lent (walk avail x 0).fields p e
  payload_bytes (Dtmf x) h e = are_bytes (alone id beside.eidr) lent (walk dtmf x 0).fields p e
  payload_bytes (Segmentation x) h e =
      are_bytes (writable_detail (written_detail x.descriptor_detail)) (upid_source (upid_in x) beside.eidr lent) (walk segmentation (written x beside.components) 0).fields p
      (by_table x id beside lent (counted (Segmentation x) h) p e)
  payload_bytes (Time x) h e = are_bytes (alone id beside.eidr) lent (walk time x 0).fields p e
  payload_bytes (Reserved tag v) h e = are_bytes (writable_reserved tag id beside.eidr) lent (walk private_table v 0).fields p e

  payload_reads_back : (d : Descriptor) → Handed d id beside lent → payload_made d id beside lent ≡ made p → ReadsBack d id beside lent p × (canonical_payload (tag_of d) (identifier_of d id) p ≡ true)
  payload_reads_back (Avail x) h e = (avail_payload_write_read id beside lent p h.four h.twelve x e, avail_canonical id beside lent p x e)
  payload_reads_back (Dtmf x) h e = (dtmf_payload_write_read id beside lent p h.four h.twelve x h.are e, dtmf_canonical id beside lent p x e)
  payload_reads_back (Segmentation x) h e = segmentation_payload_write_read x id beside lent p h.four h.twelve h.held h.are (counted (Segmentation x) h) e
  payload_reads_back (Time x) h e = (time_payload_write_read id beside lent p h.four h.twelve x e, time_canonical id beside lent p x e)
  payload_reads_back (Reserved tag v) h e = (reserved_payload_write_read id beside lent p h.four h.twelve tag v h.are e, reserved_canonical id beside lent p tag v e)

  identifier_four : (d : Descriptor) → length id ≡ 4 → length (identifier_of d id) ≡ 4
  identifier_four (Avail x) four = refl
  identifier_four (Dtmf x) four = refl
  identifier_four (Segmentation x) four = refl
  identifier_four (Time x) four = refl
  identifier_four (Reserved tag v) four = four

  pub payload_write_read : (d : Descriptor) → Handed d id beside lent → payload_made d id beside lent ≡ made p → Payload d id beside lent (tag_of d) (identifier_of d id) p
  payload_write_read d h e =
      let r = payload_reads_back d h e in
      let again : Descriptor = r.0.again in
      let w = full_read (tag_of d) (identifier_of d id) p again r.0.reading in
      record {
        four = identifier_four d h.four;
        are = payload_bytes d h e;
        form = r.1;
        again = again;
        reading = ap (λ (x : FullDescriptor). x.read) w;
        same = subst (λ (x : FullDescriptor). SameReading p again x.identifier x.beside lent d id beside) (sym w) r.0.same;
      }

-- ---- what reads as it
module _ (d : Descriptor) (id : List ℕ) (beside : Beside) (lent : List ℕ) (there : (view_in d).at + (view_in d).len ≤ length lent) where
  pub written_if_read : (tag : ℕ) (own p : List ℕ) → Payload d id beside lent tag own p
      → (payload_made d id beside lent ≡ made p) × (tag_of d ≡ tag) × (identifier_of d id ≡ own)
  written_if_read tag own p q =
      let k = payload_is tag own p q.four q.are q.form in
      let x : Descriptor = k.read in
      let w = full_read tag own p x k.reading in
      let z : x ≡ q.again = one x q.again (sym (ap (λ (x : FullDescriptor). x.read) w) ∙ q.reading) in
      let same : SameReading p x (identifier_read (Ok x) own) (beside_read (Ok x) p) lent d id beside =
      subst (λ (x : FullDescriptor). SameReading p k.read x.identifier x.beside lent d id beside) w
      (subst (λ (x : Descriptor). SameReading p x (full_of tag own p).identifier (full_of tag own p).beside lent d id beside) (sym z) q.same) in
      let writes : payload_made x id (beside_read (Ok x) p) p ≡ made p = subst (λ (i : List ℕ). payload_made x i (beside_read (Ok x) p) p ≡ made p) same.identifiers k.writes in
      let views = same_view p lent x d same.values same.bytes (payload_told p p id (beside_read (Ok x) p) x k.places writes) there in
      let f = same_envelope x d id same.values in (
        alike_payload p lent id (beside_read (Ok x) p) beside same.eidrs x d k.places same.values views same.components p writes,
        sym f.0 ∙ k.tagged,
        sym f.1 ∙ ap (identifier_of x) (sym same.identifiers) ∙ k.identified,
      )
    where
      one : (x y : Descriptor) → ◌≡◌ {A = Result Descriptor Refusal} (Ok x) (Ok y) → x ≡ y
      one x y e = cc
