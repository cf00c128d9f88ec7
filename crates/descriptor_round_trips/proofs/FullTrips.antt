-- A full descriptor: its envelope, by identifier and tag, and what stands beside it.
--     reads_as          what reads as its payload does reads so in its envelope
--     full_descriptor_read_write        a canonical descriptor is what is written of its reading
use Prim.Native.Nat.{ℕ, ◌+◌, ◌≤◌}
use mathlib.Core.Bool.{Bool, true, false, ◌&&◌}
use mathlib.Core.List.{List, [], ◌∷◌}
use mathlib.Core.Path.{◌≡◌, refl, ap, ap₂, sym, subst, ◌∙◌}
use native.Mathlib.Omega.{arith}
use lib.Dec.{leb, ltb, eqb}
use lib.ListN.{length, take, drop, get_or, length-drop}
use lib.Seq.{length-take-le, take_at, drop_at}
use borrow.Author.Tests.{eqb-true, eqb-false, le-leb, le-ltb, leb-true}
use Rattle.table.specs.Bits.{pick, AllBytes}
use Rattle.table.specs.Writing.{made}
use Rattle.table.proofs.Lists.{and_true}
use Rattle.descriptor.specs.Descriptor.{is_cuei, descriptor_of, reserved_of}
use Rattle.descriptor.specs.Plain.{avail, dtmf, time, private_table}
use Rattle.descriptor.specs.Full.{beside_read, identifier_read, full_of}
use Rattle.descriptor.specs.declared.Descriptor.{Descriptor}
use Rattle.descriptor.specs.declared.Descriptor.TheVariants.{Avail, Dtmf, Segmentation, Time, Reserved}
use Rattle.descriptor.specs.declared.full.Beside.{Beside}
use Rattle.descriptor.specs.declared.full.FullDescriptor.{FullDescriptor}
use Rattle.descriptor.proofs.Tags.{is_foreign, is_avail, is_dtmf, is_segmentation, is_time, is_other}
use Rattle.canonical_form.specs.Descriptor.{canonical_segmentation, canonical_payload, canonical_descriptor}
use Rattle.canonical_form.specs.Same.{SameReading}
use Rattle.descriptor_measure.specs.Writing.{count_beside, cuei, enveloped, enveloped_made, payload_made, descriptor_made, tag_of, identifier_of}
use Rattle.table.specs.Table.{canonical_by}
use Rattle.table.proofs.Structure.{bytes_drop}
use Rattle.descriptor_round_trips.specs.Making.{Payload}
use Rattle.descriptor_round_trips.specs.Trips.{full_in, ReadAs}
use Rattle.descriptor_round_trips.proofs.Canon.{canonical_enveloped}
use Rattle.descriptor_round_trips.proofs.PlainCanon.{avail_read_write, dtmf_read_write, time_read_write, reserved_read_write}
use Rattle.descriptor_round_trips.proofs.SegmentCanon.{segmentation_payload_read_write}
use Rattle.std.proofs.Common.{Ok}

-- ---- the envelope

-- the reading of a whole descriptor, from that of its payload
pub full_read : (tag : ℕ) (id p : List ℕ) (d : Descriptor) → descriptor_of tag id p ≡ Ok d
    → full_of tag id p ≡ record { read = Ok d; identifier = identifier_read (Ok d) id; beside = beside_read (Ok d) p }
unfolding full_of
full_read tag id p d e = rw e

module _ (tag : ℕ) (id p : List ℕ) (four : length id ≡ 4) where
  pub payload_enveloped : drop 6 (enveloped tag id p) ≡ p
  unfolding enveloped
  payload_enveloped = drop_at id p 4 four

  pub full_enveloped : full_in (enveloped tag id p) ≡ full_of tag id p
  unfolding enveloped
  full_enveloped = ap₂ (full_of tag) (take_at id p 4 four) (drop_at id p 4 four)

-- what reads as its payload does reads so in its envelope
pub reads_as : (d : Descriptor) (id : List ℕ) (beside : Beside) (lent : List ℕ) (tag : ℕ) (own p : List ℕ) → Payload d id beside lent tag own p → ReadAs (enveloped tag own p) d id beside lent
reads_as d id beside lent tag own p r =
    let w = full_enveloped tag own p r.four in
    record {
      again = r.again;
      reading = ap (λ (x : FullDescriptor). x.read) w ∙ r.reading;
      same =
          subst (λ (q : List ℕ). SameReading q r.again (full_in (enveloped tag own p)).identifier (full_in (enveloped tag own p)).beside lent d id beside) (sym (payload_enveloped tag own p r.four))
          (subst (λ (x : FullDescriptor). SameReading p r.again x.identifier x.beside lent d id beside) (sym w) r.same);
    }

-- ---- canonical bytes, by identifier and tag

cuei_is : (id : List ℕ) → length id ≡ 4 → is_cuei id ≡ true → cuei ≡ id
unfolding is_cuei
cuei_is [] n e = absurd (omega arith)
cuei_is (a ∷ []) n e = absurd (omega arith)
cuei_is (a ∷ (b ∷ [])) n e = absurd (omega arith)
cuei_is (a ∷ (b ∷ (c ∷ []))) n e = absurd (omega arith)
cuei_is (a ∷ (b ∷ (c ∷ (d ∷ (f ∷ l))))) n e = absurd (omega arith)
cuei_is (a ∷ (b ∷ (c ∷ (d ∷ [])))) n e =
    let i = and_true (eqb a 0x43) _ e in
    let j = and_true (eqb b 0x55) _ i.1 in
    let k = and_true (eqb c 0x45) (eqb d 0x49) j.1 in
    let za : a ≡ 0x43 = eqb-true a 0x43 i.0 in
    let zb : b ≡ 0x55 = eqb-true b 0x55 j.0 in
    let zc : c ≡ 0x45 = eqb-true c 0x45 k.0 in
    let zd : d ≡ 0x49 = eqb-true d 0x49 k.1 in
    rw (za, zb, zc, zd)

over_one : (n : ℕ) → (n ≡ 0 → ⊥) → (n ≡ 1 → ⊥) → 2 ≤ n
over_one n a b = omega (arith, a, b)

over : (n : ℕ) → 2 ≤ n → (n ≡ 2 → ⊥) → (n ≡ 3 → ⊥) → 4 ≤ n
over n a b c = omega (arith, b, c)

-- the payload p of a descriptor with this tag and identifier is what is written of its reading
pub record PayloadIs (tag : ℕ) (id p : List ℕ) : Type 0 where
  pub read : Descriptor
  pub reading : descriptor_of tag id p ≡ Ok read
  pub tagged : tag_of read ≡ tag
  pub identified : identifier_of read (identifier_read (Ok read) id) ≡ id
  pub writes : payload_made read (identifier_read (Ok read) id) (beside_read (Ok read) p) p ≡ made p
  pub places : count_beside read ≤ length (beside_read (Ok read) p).components

module _ (tag : ℕ) (id p : List ℕ) (four : length id ≡ 4) (a : AllBytes p) where
  foreign : reserved_of tag p ≡ descriptor_of tag id p → is_cuei id && ltb tag 4 ≡ false → canonical_by private_table p ≡ true → PayloadIs tag id p
  foreign e f c =
      let r = reserved_read_write p a tag id f c in
      record { read = Reserved tag r.0; reading = sym e ∙ r.1; tagged = refl; identified = refl; writes = r.2; places = omega arith }

  module _ (e : is_cuei id ≡ true) where
    own : cuei ≡ id
    own = cuei_is id four e

    as_avail : tag ≡ 0 → canonical_by avail p ≡ true → PayloadIs tag id p
    as_avail t c = let r = avail_read_write p a c in record { read = Avail r.0; reading = sym (is_avail tag id p e t) ∙ r.1; tagged = sym t; identified = own; writes = r.2; places = omega arith }

    as_dtmf : tag ≡ 1 → canonical_by dtmf p ≡ true → PayloadIs tag id p
    as_dtmf t c = let r = dtmf_read_write p a c in record { read = Dtmf r.0; reading = sym (is_dtmf tag id p e t) ∙ r.1; tagged = sym t; identified = own; writes = r.2; places = omega arith }

    as_segmentation : tag ≡ 2 → canonical_segmentation p ≡ true → PayloadIs tag id p
    unfolding payload_made
    as_segmentation t c =
        let r = segmentation_payload_read_write p a c in record { read = Segmentation r.0; reading = sym (is_segmentation tag id p e t) ∙ r.1; tagged = sym t; identified = own; writes = r.2; places = r.3 }

    as_time : tag ≡ 3 → canonical_by time p ≡ true → PayloadIs tag id p
    as_time t c = let r = time_read_write p a c in record { read = Time r.0; reading = sym (is_time tag id p e t) ∙ r.1; tagged = sym t; identified = own; writes = r.2; places = omega arith }

    by_tag : (b₀ b₁ b₂ b₃ : Bool) → eqb tag 0 ≡ b₀ → eqb tag 1 ≡ b₁ → eqb tag 2 ≡ b₂ → eqb tag 3 ≡ b₃
        → pick b₀ (canonical_by avail p) (pick b₁ (canonical_by dtmf p) (pick b₂ (canonical_segmentation p) (pick b₃ (canonical_by time p) (canonical_by private_table p)))) ≡ true → PayloadIs tag id p
    by_tag true b₁ b₂ b₃ e₀ e₁ e₂ e₃ c = as_avail (eqb-true tag 0 e₀) c
    by_tag false true b₂ b₃ e₀ e₁ e₂ e₃ c = as_dtmf (eqb-true tag 1 e₁) c
    by_tag false false true b₃ e₀ e₁ e₂ e₃ c = as_segmentation (eqb-true tag 2 e₂) c
    by_tag false false false true e₀ e₁ e₂ e₃ c = as_time (eqb-true tag 3 e₃) c
    by_tag false false false false e₀ e₁ e₂ e₃ c =
        let n₀ = eqb-false tag 0 e₀ in
        let n₁ = eqb-false tag 1 e₁ in
        let n₂ = eqb-false tag 2 e₂ in
        let n₃ = eqb-false tag 3 e₃ in
        foreign (is_other tag id p e n₀ n₁ n₂ n₃) (rw e (le-ltb tag 4 (over tag (over_one tag n₀ n₁) n₂ n₃))) c

  pub payload_is : canonical_payload tag id p ≡ true → PayloadIs tag id p
  unfolding canonical_payload
  payload_is c = go (is_cuei id) refl c
    where
      go : (t : Bool) → is_cuei id ≡ t
          → pick t (pick (eqb tag 0) (canonical_by avail p) (pick (eqb tag 1) (canonical_by dtmf p) (pick (eqb tag 2) (canonical_segmentation p) (pick (eqb tag 3) (canonical_by time p) (canonical_by private_table p)))))
          (canonical_by private_table p) ≡ true
          → PayloadIs tag id p
      go true t c = by_tag t (eqb tag 0) (eqb tag 1) (eqb tag 2) (eqb tag 3) refl refl refl refl c
      go false t c = foreign (is_foreign tag id p t) (rw t) c

-- ---- a canonical descriptor is what is written of its reading

pub record FullBack (s : List ℕ) : Type 0 where
  pub read : Descriptor
  pub full : full_in s ≡ record { read = Ok read; identifier = identifier_read (Ok read) (take 4 (drop 2 s)); beside = beside_read (Ok read) (drop 6 s) }
  pub writes : descriptor_made read (full_in s).identifier (full_in s).beside (drop 6 s) ≡ made s
  pub places : count_beside read ≤ length (full_in s).beside.components

pub full_descriptor_read_write : (s : List ℕ) → AllBytes s → canonical_descriptor s ≡ true → FullBack s
unfolding canonical_descriptor descriptor_made enveloped_made
full_descriptor_read_write s a c =
    let f = canonical_enveloped s c in
    let six : 6 ≤ length s = leb-true 6 (length s) (and_true (leb 6 (length s)) _ c).0 in
    let tag : ℕ = get_or s 0 0 in
    let id : List ℕ = take 4 (drop 2 s) in
    let p : List ℕ = drop 6 s in
    let four : length id ≡ 4 = length-take-le 4 (drop 2 s) (omega (arith, length-drop 2 s)) in
    let r = payload_is tag id p four (bytes_drop 6 s a) f.2 in
    let w = full_read tag id p r.read r.reading in
    record {
      read = r.read;
      full = w;
      writes =
          ap (λ (x : FullDescriptor). descriptor_made r.read x.identifier x.beside p) w
          ∙ ap₂ (λ (k : ℕ) (i : List ℕ). enveloped_made k i (payload_made r.read (identifier_read (Ok r.read) id) (beside_read (Ok r.read) p) p)) r.tagged r.identified
          ∙ ap (enveloped_made tag id) r.writes ∙ rw (le-leb (length p + 4) 254 f.1) (ap made (sym f.0));
      places = subst (λ (x : FullDescriptor). count_beside r.read ≤ length x.beside.components) (sym w) r.places;
    }
