-- A segmentation descriptor: its parts stored one behind the other, and what is made of it written.
use Prim.Native.Nat.{ℕ, ◌+◌, ◌*◌, ◌%◌, ◌<◌, ◌≤◌}
use mathlib.Core.Bool.{Bool, true, false}
use mathlib.Core.List.{List, [], ◌∷◌, ◌++◌}
use mathlib.Core.Path.{◌≡◌, refl, ap, sym, subst, ◌∙◌}
use native.Mathlib.Omega.{arith}
use lib.Dec.{eqb}
use lib.ListN.{length, take, drop}
use lib.Seq.{take_all}
use borrow.Author.Tests.{eq-eqb, ne_eqb, le-leb}
use Rattle.table.specs.Bits.{pick, bits_of_num, bits_of, bytes_of}
use Rattle.table.specs.Lent.{viewed}
use Rattle.table.specs.Writing.{Content, number, bytes, contents, print, Made, made, refused, refusal_in}
use Rattle.table.specs.declared.cursor.Cursor.{Cursor}
use Rattle.descriptor.specs.Segmentation.{component_count, by_program, count_of, front_of, lasting, sub_bytes, unrestricted, mode_size, duration_size}
use Rattle.descriptor.specs.Full.{filled, blank_beside}
use Rattle.descriptor.specs.declared.segmentation.SegmentationComponent.{SegmentationComponent}
use Rattle.descriptor.specs.declared.segmentation.SegmentationDescriptor.{SegmentationDescriptor}
use Rattle.descriptor.specs.declared.segmentation.DescriptorDetail.{DescriptorDetail}
use Rattle.descriptor.specs.declared.segmentation.DescriptorDetail.TheVariants.{Cancel, Active}
use Rattle.descriptor.specs.declared.segmentation.SegmentationDetail.{SegmentationDetail}
use Rattle.descriptor.specs.declared.segmentation.SegmentationMode.{SegmentationMode}
use Rattle.descriptor.specs.declared.segmentation.SegmentationUpid.{SegmentationUpid}
use Rattle.descriptor.specs.declared.full.Beside.{Beside}
use Rattle.descriptor_measure.specs.Private.{head_fields, flag_fields, delivery_fields, mode_fields, duration_fields, upid_fields, back_fields, active_fields, segment_fields, payload_size}
use Rattle.descriptor_measure.specs.Writing.{cuei, enveloped_made, segmentation_made, upid_in, upid_source, written_type, written_upid}
use Rattle.descriptor_measure.proofs.Making.{zero_view, made_zero, made_size, made_bits}
use Rattle.bit_stores.specs.Pen.{Pens}
use Rattle.bit_stores.proofs.Tables.{print_beside}
use Rattle.descriptor_writer.specs.Stores.{Writes}
use Rattle.descriptor_writer.specs.Private.{Stores, start, envelope_contents}
use Rattle.descriptor_writer.proofs.Storing.{then, then_fields, same_print, put_bytes, number_then}
use Rattle.descriptor_writer.proofs.Envelopes.{writes_long, writes_short, writes_stored}
use Rattle.descriptor_writer.proofs.Plainly.{Enveloped, refuses}
use Rattle.std.proofs.Common.{Ok, Err, Result}

-- ---- sizes
pub written_len : (u : SegmentationUpid) → u.bytes.len ≤ 255 → (written_upid u).bytes.len ≤ 255
unfolding written_upid
written_len u h = go (eqb u.upid_type 10)
  where
    go : (b : Bool) → (pick {A = SegmentationUpid} b (record { upid_type = 10; bytes = record { at = 0; len = 12 } }) (record { upid_type = written_type u; bytes = u.bytes })).bytes.len ≤ 255
    go true = omega arith
    go false = h

pub size_sum : (i : SegmentationDetail) (m d u s : ℕ) → m ≡ mode_size i.segmentation_mode → d ≡ duration_size i.segmentation_duration → u ≡ (written_upid i.segmentation_upid).bytes.len
    → s ≡ sub_bytes i.sub_segments → 8 + m + d + u + (3 + s) ≡ payload_size (Active i)
unfolding payload_size
size_sum i m d u s em ed eu es = rw (em, ed, eu, es)

-- a count is a byte
pub count_small : (k : SegmentationMode) (m : ℕ) → m ≡ mode_size k → m < 1532 → count_of k ≤ 255
count_small SegmentationMode.Program m e h = omega arith
count_small (SegmentationMode.Component n) m e h = omega arith

pub size_cancel : (d : DescriptorDetail) → d ≡ Cancel → (5 ≡ payload_size d) × (count_of (front_of d).segmentation_mode ≤ 255)
unfolding payload_size
size_cancel d e = rw e (refl, (let z : 0 ≤ 255 = omega arith in z))

pub size_active : (d : DescriptorDetail) (i : SegmentationDetail) (r : ℕ) → d ≡ Active i → (r ≡ payload_size (Active i)) × (count_of i.segmentation_mode ≤ 255)
    → (r ≡ payload_size d) × (count_of (front_of d).segmentation_mode ≤ 255)
size_active d i r e h = rw e h

pub active_short : (d : DescriptorDetail) (i : SegmentationDetail) → d ≡ Active i → (front_of d).segmentation_upid.bytes.len ≤ 255 → i.segmentation_upid.bytes.len ≤ 255
active_short d i e h = rw e at h

pub active_seen : (d : DescriptorDetail) (i : SegmentationDetail) (n : ℕ) → d ≡ Active i → (front_of d).segmentation_upid.bytes.at + (front_of d).segmentation_upid.bytes.len ≤ n
    → i.segmentation_upid.bytes.at + i.segmentation_upid.bytes.len ≤ n
active_seen d i n e h = rw e at h

-- ---- a UPID: kind and length as one number, and its bytes
module _ (t : List ℕ) (c : Cursor) (s : List ℕ) (e : Cursor) (v : List ℕ) (d : Cursor) where
  upid_stores : (w : SegmentationUpid) (src b : List ℕ) (y : ℕ) → y ≡ w.upid_type * 256 + w.bytes.len % 256 → b ≡ take w.bytes.len (drop w.bytes.at src)
      → Pens t c (bits_of_num 16 y) s e → Pens s e (bits_of b) v d → Stores t c (contents src (upid_fields w)) v d
  upid_stores w src b y ey eb p q =
      let n = w.upid_type * 256 + w.bytes.len % 256 in
      same_print t c (number 16 n ∷ (bytes b ∷ [])) (contents src (upid_fields w)) v d
      (ap (λ (l : List ℕ). print (number 16 n ∷ (bytes l ∷ []))) eb ∙ sym (print_beside 8 8 w.upid_type w.bytes.len (bytes (take w.bytes.len (drop w.bytes.at src)) ∷ [])))
      (number_then t c s e v d (bytes b ∷ []) 16 n y ey p (put_bytes s e v d b q))

  module _ (u : SegmentationUpid) (eidr lent : List ℕ) (k m y : ℕ) (ek : k ≡ written_type u) (em : m ≡ (written_upid u).bytes.len) (ey : y ≡ k * 256 + m % 256) where
    pub upid_of_eidr : u.upid_type ≡ 10 → length eidr ≡ 12 → Pens t c (bits_of_num 16 y) s e → Pens s e (bits_of eidr) v d
        → Stores t c (contents (upid_source u eidr lent) (upid_fields (written_upid u))) v d
    unfolding upid_source written_upid written_type
    upid_of_eidr is n p q =
        let z : eidr ≡ take 12 eidr = sym (take_all 12 eidr (omega arith)) in
        let h : k ≡ 10 = rw is at ek in
        let j : m ≡ 12 = rw is at em in
        rw (eq-eqb u.upid_type 10 is) (upid_stores (record { upid_type = 10; bytes = record { at = 0; len = 12 } }) eidr eidr y (omega (arith, h, j, ey)) z p q)

    pub upid_of_view : (u.upid_type ≡ 10 → ⊥) → u.bytes.at + u.bytes.len ≤ length lent → (part : List ℕ) → part ≡ viewed lent u.bytes
        → Pens t c (bits_of_num 16 y) s e → Pens s e (bits_of part) v d → Stores t c (contents (upid_source u eidr lent) (upid_fields (written_upid u))) v d
    unfolding upid_source written_upid viewed
    upid_of_view other h part ep p q =
        let z : part ≡ take u.bytes.len (drop u.bytes.at lent) = ep ∙ rw (le-leb (u.bytes.at + u.bytes.len) (length lent) h) in
        let f = ne_eqb u.upid_type 10 other in
        let j : m ≡ u.bytes.len = rw f at em in
        rw f (upid_stores (record { upid_type = written_type u; bytes = u.bytes }) lent part y (omega (arith, ek, j, ey)) z p q)

-- ---- an active segmentation
pub active_stores : (i : SegmentationDetail) (cs : List SegmentationComponent) (src : List ℕ) (p l f : Bool) → p ≡ by_program i.segmentation_mode → l ≡ lasting i.segmentation_duration
    → f ≡ unrestricted i.delivery_restrictions → (t₀ t₁ t₂ t₃ t₄ t₅ : List ℕ) (c₀ c₁ c₂ c₃ c₄ c₅ : Cursor) → Stores t₀ c₀ (contents src (flag_fields p l f ++ delivery_fields i.delivery_restrictions)) t₁ c₁
    → Stores t₁ c₁ (contents src (mode_fields i.segmentation_mode cs)) t₂ c₂ → Stores t₂ c₂ (contents src (duration_fields i.segmentation_duration)) t₃ c₃
    → Stores t₃ c₃ (contents src (upid_fields (written_upid i.segmentation_upid))) t₄ c₄ → Stores t₄ c₄ (contents src (back_fields i)) t₅ c₅
    → Stores t₀ c₀ (contents src (active_fields i cs)) t₅ c₅
active_stores i cs src p l f ep el ef t₀ t₁ t₂ t₃ t₄ t₅ c₀ c₁ c₂ c₃ c₄ c₅ s₁ s₂ s₃ s₄ s₅ =
    let flags = flag_fields (by_program i.segmentation_mode) (lasting i.segmentation_duration) (unrestricted i.delivery_restrictions) in
    let ups = upid_fields (written_upid i.segmentation_upid) in
    let r₄ = ups ++ back_fields i in
    let r₃ = duration_fields i.segmentation_duration ++ r₄ in
    let r₂ = mode_fields i.segmentation_mode cs ++ r₃ in
    then_fields src t₀ c₀ (flags ++ delivery_fields i.delivery_restrictions) r₂ t₁ c₁ t₅ c₅ (rw (ep, el, ef) at s₁)
    (then_fields src t₁ c₁ (mode_fields i.segmentation_mode cs) r₃ t₂ c₂ t₅ c₅ s₂
    (then_fields src t₂ c₂ (duration_fields i.segmentation_duration) r₄ t₃ c₃ t₅ c₅ s₃
    (then_fields src t₃ c₃ ups (back_fields i) t₄ c₄ t₅ c₅ s₄ s₅)))

-- ---- a payload
module _ (x : SegmentationDescriptor) (cs : List SegmentationComponent) (eidr lent t : List ℕ) (c : Cursor) where
  abbrev All : List ℕ → Cursor → Type 0
  All v e = Stores t c (contents (upid_source (upid_in x) eidr lent) (segment_fields x.segmentation_event_id x.descriptor_detail cs)) v e

  pub cancel_stores : (v : List ℕ) (e : Cursor) → x.descriptor_detail ≡ Cancel → ((from : List ℕ) → Stores t c (contents from (head_fields x.segmentation_event_id true)) v e) → All v e
  unfolding segment_fields
  cancel_stores v e is s = rw is (s [])

  pub payload_stores : (i : SegmentationDetail) (u v : List ℕ) (d e : Cursor) → x.descriptor_detail ≡ Active i
      → ((from : List ℕ) → Stores t c (contents from (head_fields x.segmentation_event_id false)) u d)
      → Stores u d (contents (upid_source i.segmentation_upid eidr lent) (active_fields i cs)) v e → All v e
  unfolding segment_fields
  payload_stores i u v d e is s q =
      let src = upid_source i.segmentation_upid eidr lent in
      rw is (then_fields src t c (head_fields x.segmentation_event_id false) (active_fields i cs) u d v e (s src) q)

-- ---- with blank components
pub with_blanks : (x : SegmentationDescriptor) (id eidr lent t v : List ℕ) (r : Result ℕ ℕ) (b : Beside) → b ≡ blank_beside
    → Writes (enveloped_made 2 cuei (segmentation_made x id (record { components = b.components; eidr = eidr }) lent)) t v r
    → Writes (enveloped_made 2 cuei (segmentation_made x id (record { components = filled []; eidr = eidr }) lent)) t v r
unfolding blank_beside
with_blanks x id eidr lent t v r b e w = rw e at w

-- ---- the whole
number_refused : (m : Made) (n : ℕ) → n ≡ refusal_in m → (n ≡ 0 → ⊥) → m ≡ refused n
number_refused (made b) n e h = absurd (h e)
number_refused (refused k) n e h = ap refused (sym e)

module _ (x : SegmentationDescriptor) (id : List ℕ) (beside : Beside) (lent t : List ℕ) (n : ℕ) (en : n ≡ refusal_in (segmentation_made x id beside lent)) where
  abbrev M : Made
  M = segmentation_made x id beside lent

  pub segment_refused : (n ≡ 0 → ⊥) → Writes (enveloped_made 2 cuei M) t t (Err n)
  segment_refused h = refuses 2 cuei t M n (number_refused M n en h)

  pub segment_view : n ≡ 0 → ((upid_in x).bytes.len ≤ 255) × ((upid_in x).bytes.at + (upid_in x).bytes.len ≤ length lent)
  segment_view z = zero_view x id beside lent (sym en ∙ z)

  module _ (zero : n ≡ 0) (all : component_count x ≤ length beside.components) where
    abbrev cs : List Content
    cs = contents (upid_source (upid_in x) beside.eidr lent)
        (segment_fields x.segmentation_event_id x.descriptor_detail (take (component_count x) beside.components))

    segment_made_lem : M ≡ made (bytes_of (print cs))
    segment_made_lem = made_zero x id beside lent all (sym en ∙ zero)

    module _ (k : ℕ) (ek : k ≡ payload_size x.descriptor_detail) where
      size : length (bytes_of (print cs)) ≡ k
      size = made_size x id beside lent all (bytes_of (print cs)) (segment_made_lem) ∙ sym ek

      pub segment_long : 250 < k → Writes (enveloped_made 2 cuei M) t t (Err 34)
      segment_long h = rw (segment_made_lem) (writes_long 2 cuei (bytes_of (print cs)) t k size h)

      module _ (few : k ≤ 250) where
        pub segment_short : length t < k + 6 → Writes (enveloped_made 2 cuei M) t t (Err 36)
        segment_short h = rw (segment_made_lem) (writes_short 2 cuei (bytes_of (print cs)) t k size few refl h)

        pub segment_writes : (i u v : List ℕ) (e d : Cursor) → k + 6 ≤ length t → i ≡ cuei → Enveloped t 2 (k + 4) i u e → Stores u e cs v d
            → Writes (enveloped_made 2 cuei M) t v (Ok (k + 6))
        segment_writes i u v e d room ei f s =
            let g : Enveloped t 2 (k + 4) cuei u e = subst (λ (j : List ℕ). Enveloped t 2 (k + 4) j u e) ei f in
            let b : length (print cs) ≡ k * 8 = made_bits x id beside lent all (bytes_of (print cs)) (segment_made_lem) ∙ ap (λ (m : ℕ). m * 8) (sym ek) in
            rw (segment_made_lem) (writes_stored 2 cuei t k cs b refl room g.1 g.2 v d few (then t start (envelope_contents 2 (k + 4) cuei) cs u e v d g.0 s))
