-- A segmentation descriptor: what is read of it. s are the payload's bytes.
use Prim.Native.Nat.{ℕ, ◌+◌, ◌*◌, ◌-◌, ◌/◌, ◌%◌, ◌<◌, ◌≤◌}
use mathlib.Core.Bool.{Bool, true, false}
use mathlib.Core.List.{List, []}
use mathlib.Core.Path.{◌≡◌, refl, ap, sym, ◌∙◌}
use native.Mathlib.Nat.{add-zero}
use native.Mathlib.Omega.{arith}
use lib.Dec.{leb, eqb}
use lib.ListN.{length, get_or, take, drop, length-take}
use borrow.Author.Tests.{leb-true}
use Rattle.table.specs.Bits.{pick, bits_of, field}
use Rattle.table.specs.Lent.{viewed}
use Rattle.table.specs.Table.{got, short, parse}
use Rattle.table.specs.declared.View.{View}
use Rattle.table.specs.declared.cursor.Short.{Short}
use Rattle.table.proofs.Lists.{zero_one}
use Rattle.table.proofs.Steps.{takes_in, lacks_in, reads_flag, takes_number, lacks_number, takes_flag, lacks_flag, takes_ones}
use Rattle.upid.specs.Upid.{check_of}
use Rattle.upid.specs.declared.Refusal.{Refusal}
use Rattle.upid.proofs.Theorems.{view_of_24_lies_inside}
use Rattle.descriptor.specs.Descriptor.{moved_refusal, reported_upid, if_fine, active_with, active_of, segmentation_of, ◌and_then◌}
use Rattle.descriptor.specs.Segmentation.{Moded, ListedFront, Head, delivery_restrictions, mode, duration, written_upid, parts, front, back, head}
use Rattle.descriptor.specs.Private.{lacking, restrictions_in, upid_answer, upid_checked}
use Rattle.descriptor.specs.declared.Descriptor.TheVariants.{Segmentation}
use Rattle.descriptor.specs.declared.back.Back.{Back}
use Rattle.descriptor.specs.declared.front.Front.{Front}
use Rattle.descriptor.specs.declared.segmentation.SegmentationComponent.{SegmentationComponent}
use Rattle.descriptor.specs.declared.segmentation.DescriptorDetail.TheVariants.{Cancel}
use Rattle.descriptor.specs.declared.segmentation.SegmentationUpid.{SegmentationUpid}
use Rattle.descriptor.proofs.Parts.{ends_inside, bit_at, restrictions_there}
use Rattle.std.proofs.Common.{Ok, Err, Option, Result}
use Rattle.descriptor.specs.declared.Descriptor.{Descriptor}
use Rattle.descriptor.specs.declared.segmentation.DeliveryRestrictions.{DeliveryRestrictions}

-- ---- from the flags, which are byte i, to the UPID
pub no_flags : (s : List ℕ) (i : ℕ) → length s ≤ i → parse front (bits_of s) (i * 8) ≡ short 0 0
unfolding front
no_flags s i h =
    let z : (length s * 8 - i * 8) / 8 ≡ 0 = omega arith in
    lacks_flag s (i * 8) _ _ (omega arith) ∙ ap (short 0) z

module _ (s : List ℕ) (i : ℕ) (there : i < length s) (byte : get_or s i 0 < 256) where
  abbrev pub program : Bool
  program = eqb (get_or s i 0 / 128 % 2) 1

  abbrev pub lasting : Bool
  lasting = eqb (get_or s i 0 / 64 % 2) 1

  abbrev free : Bool
  free = eqb (get_or s i 0 / 32 % 2) 1

  flagged : parse front (bits_of s) (i * 8) ≡ parse (parts program lasting free) (bits_of s) (i * 8 + 3)
  unfolding front
  flagged =
      let z : i * 8 + 1 + 1 + 1 ≡ i * 8 + 3 = omega arith in
      takes_flag s (i * 8) program _ _ (omega arith) (bit_at s i there byte (i * 8) 0 7 (sym (add-zero (i * 8))) refl)
      ∙ takes_flag s (i * 8 + 1) lasting _ _ (omega arith) (bit_at s i there byte (i * 8 + 1) 1 6 refl refl)
      ∙ takes_flag s (i * 8 + 1 + 1) free _ _ (omega arith) (bit_at s i there byte (i * 8 + 1 + 1) 2 5 (omega arith) refl)
      ∙ ap (parse (parts program lasting free) (bits_of s)) z

  pub no_mode : (x a : ℕ) → parse (mode program) (bits_of s) ((i + 1) * 8) ≡ short x a → parse front (bits_of s) (i * 8) ≡ short x a
  unfolding parts
  no_mode x a e =
      flagged ∙ takes_in (delivery_restrictions free) _ _ (bits_of s) (i * 8 + 3) _ ((i + 1) * 8) (restrictions_there s i there byte)
      ∙ lacks_in (mode program) _ _ (bits_of s) ((i + 1) * 8) x a e

  module _ (m : Moded) (j : ℕ) (em : parse (mode program) (bits_of s) ((i + 1) * 8) ≡ got m j) where
    pub no_lasting : (x a : ℕ) → parse (duration lasting) (bits_of s) j ≡ short x a → parse front (bits_of s) (i * 8) ≡ short x a
    unfolding parts
    no_lasting x a e =
        flagged ∙ takes_in (delivery_restrictions free) _ _ (bits_of s) (i * 8 + 3) _ ((i + 1) * 8) (restrictions_there s i there byte)
        ∙ takes_in (mode program) _ _ (bits_of s) ((i + 1) * 8) m j em
        ∙ lacks_in (duration lasting) _ _ (bits_of s) j x a e

    module _ (d : Option ℕ) (k : ℕ) (ed : parse (duration lasting) (bits_of s) j ≡ got d k) where
      pub no_upid : (x a : ℕ) → parse written_upid (bits_of s) k ≡ short x a → parse front (bits_of s) (i * 8) ≡ short x a
      unfolding parts
      no_upid x a e =
          flagged ∙ takes_in (delivery_restrictions free) _ _ (bits_of s) (i * 8 + 3) _ ((i + 1) * 8) (restrictions_there s i there byte)
          ∙ takes_in (mode program) _ _ (bits_of s) ((i + 1) * 8) m j em
          ∙ takes_in (duration lasting) _ _ (bits_of s) j d k ed
          ∙ lacks_in written_upid _ _ (bits_of s) k x a e

      pub front_is : (r : Option DeliveryRestrictions) → r ≡ restrictions_in (get_or s i 0) → (u : SegmentationUpid) (l : ℕ) → parse written_upid (bits_of s) k ≡ got u l
          → parse front (bits_of s) (i * 8) ≡ got (record {
            front = record {
              program_segmentation_flag = program;
              segmentation_duration_flag = lasting;
              delivery_not_restricted_flag = free;
              delivery_restrictions = r;
              segmentation_mode = m.mode;
              segmentation_duration = d;
              segmentation_upid = u;
            };
            components = m.components;
          }) l
      unfolding parts
      front_is r er u l e =
          rw er
          (flagged ∙ takes_in (delivery_restrictions free) _ _ (bits_of s) (i * 8 + 3) _ ((i + 1) * 8) (restrictions_there s i there byte)
          ∙ takes_in (mode program) _ _ (bits_of s) ((i + 1) * 8) m j em
          ∙ takes_in (duration lasting) _ _ (bits_of s) j d k ed
          ∙ takes_in written_upid _ _ (bits_of s) k u l e)

-- what is read ends within the payload
pub front_inside : (s : List ℕ) (i n : ℕ) (x : ListedFront) → parse front (bits_of s) (i * 8) ≡ got x (n * 8) → n ≤ length s
unfolding front
front_inside s i n x e =
    let h = (reads_flag s (i * 8) _ _ x (n * 8) e).0 in
    ends_inside front s i n x (omega arith) e

-- ---- a UPID that is checked
module _ (s : List ℕ) (u : SegmentationUpid) (b : List ℕ) (a : Result ℕ Refusal) (eb : b ≡ viewed s u.bytes) (ea : a ≡ check_of u.upid_type b) where
  answered : upid_checked s u ≡ upid_answer a u.bytes
  unfolding upid_checked
  answered = rw (← eb, ← ea)

  pub upid_fine : (k : ℕ) (v : SegmentationUpid) → a ≡ Ok k → v ≡ reported_upid k u.bytes → Ok v ≡ upid_checked s u
  upid_fine k v e ev = rw ev (sym (answered ∙ ap (λ x. upid_answer x u.bytes) e))

  pub upid_refused_lem : (r q : Refusal) → a ≡ Err r → q ≡ moved_refusal u.bytes.at r → Err q ≡ upid_checked s u
  upid_refused_lem r q e eq = rw eq (sym (answered ∙ ap (λ x. upid_answer x u.bytes) e))

  -- its text lies in the payload
  pub text_fits : (k : ℕ) (t : View) → a ≡ Err (Refusal.InvalidUpidContent k t) → u.bytes.at + t.at ≤ length s
  unfolding viewed check_of
  text_fits k t e =
      text (leb (u.bytes.at + u.bytes.len) (length s)) refl (eb ∙ viewing)
    where
      viewing : viewed s u.bytes ≡ pick (leb (u.bytes.at + u.bytes.len) (length s)) (take u.bytes.len (drop u.bytes.at s)) []
      viewing = refl

      inside : t.at + t.len ≤ length b
      inside = view_of_24_lies_inside u.upid_type b k t (sym ea ∙ e)

      none : b ≡ [] → ⊥
      none z = let w : Err (Refusal.InvalidUpidContent k t) ≡ Ok 0 = sym e ∙ ea ∙ ap (check_of u.upid_type) z in zero_one cc

      text : (x : Bool) → leb (u.bytes.at + u.bytes.len) (length s) ≡ x → b ≡ pick x (take u.bytes.len (drop u.bytes.at s)) [] → u.bytes.at + t.at ≤ length s
      text true h z = omega (arith, inside, ap length z, length-take u.bytes.len (drop u.bytes.at s), leb-true (u.bytes.at + u.bytes.len) (length s) h)
      text false h z = absurd (none z)

checked_is : (a : Result ℕ Refusal) (v : View) (k : SegmentationUpid → Result Descriptor Refusal) (u : SegmentationUpid) → Ok u ≡ upid_answer a v → if_fine a v k ≡ k u
checked_is (Ok upid_type_number) v k u e = let z : u ≡ reported_upid upid_type_number v = cc in rw z
checked_is (Err r) v k u e = zero_one cc

checked_refused : (a : Result ℕ Refusal) (v : View) (k : SegmentationUpid → Result Descriptor Refusal) (r : Refusal) → Err r ≡ upid_answer a v → Err r ≡ if_fine a v k
checked_refused (Ok upid_type_number) v k r e = zero_one cc
checked_refused (Err q) v k r e = let z : r ≡ moved_refusal v.at q = cc in rw z

-- ---- what follows the head, step by step
module _ (s : List ℕ) (event at : ℕ) where
  pub no_front : (x : Short) → parse front (bits_of s) at ≡ short x.expected x.actual → lacking x ≡ active_of s event at
  unfolding active_of lacking
  no_front x e = rw e

  module _ (f : Front) (cs : List SegmentationComponent) (j : ℕ) (ef : parse front (bits_of s) at ≡ got (record { front = f; components = cs }) j) where
    abbrev after : SegmentationUpid → Result Descriptor Refusal
    after upid = parse back (bits_of s) j and_then λ b at. active_with event f upid b

    abbrev bytes : View
    bytes = f.segmentation_upid.bytes

    abbrev verdict : Result ℕ Refusal
    verdict = check_of f.segmentation_upid.upid_type (viewed s bytes)

    fronted : active_of s event at ≡ if_fine verdict bytes after
    unfolding active_of
    fronted = rw ef

    pub bad_upid : (r : Refusal) → Err r ≡ upid_checked s f.segmentation_upid → Err r ≡ active_of s event at
    unfolding upid_checked
    bad_upid r e = checked_refused verdict bytes after r e ∙ sym fronted

    module _ (u : SegmentationUpid) (eu : Ok u ≡ upid_checked s f.segmentation_upid) where
      checked : active_of s event at ≡ after u
      unfolding upid_checked
      checked = fronted ∙ checked_is verdict bytes after u eu

      pub no_back : (x : Short) → parse back (bits_of s) j ≡ short x.expected x.actual → lacking x ≡ active_of s event at
      unfolding lacking
      no_back x e = sym (checked ∙ rw e)

      pub active_is : (b : Back) (m : ℕ) → parse back (bits_of s) j ≡ got b m → active_with event f u b ≡ active_of s event at
      active_is b m e = sym (checked ∙ rw e)

-- ---- the head
module _ (s : List ℕ) where
  pub no_event : length s < 4 → parse head (bits_of s) 0 ≡ short 4 (length s)
  unfolding head
  no_event h =
      let z : (length s * 8 - 0) / 8 ≡ length s = omega arith in
      lacks_number s 0 32 _ _ (omega arith) ∙ ap (short 4) z

  pub no_cancel : 4 ≤ length s → length s < 5 → parse head (bits_of s) 0 ≡ short 0 0
  unfolding head
  no_cancel h k =
      let z : (length s * 8 - 32) / 8 ≡ 0 = omega arith in
      takes_number s 0 32 _ _ _ (omega arith) refl ∙ lacks_flag s 32 _ _ (omega arith) ∙ ap (short 0) z

  pub head_is : 5 ≤ length s → get_or s 4 0 < 256 → (v : ℕ) → v ≡ field (bits_of s) 0 32
      → parse head (bits_of s) 0 ≡ got (record { event = v; cancel = eqb (get_or s 4 0 / 128 % 2) 1 }) 40
  unfolding head
  head_is h byte v e =
      takes_number s 0 32 v _ _ (omega arith) e
      ∙ takes_flag s 32 (eqb (get_or s 4 0 / 128 % 2) 1) _ _ (omega arith) (bit_at s 4 (omega arith) byte 32 0 7 refl refl)
      ∙ takes_ones s 33 7 _ (omega arith)

  -- ---- and what follows it
  pub no_head : (x : Short) → parse head (bits_of s) 0 ≡ short x.expected x.actual → lacking x ≡ segmentation_of s
  unfolding segmentation_of lacking
  no_head x e = rw e

  module _ (h : Head) (eh : parse head (bits_of s) 0 ≡ got h 40) where
    headed : segmentation_of s ≡ pick h.cancel (Ok (Segmentation (record { segmentation_event_id = h.event; descriptor_detail = Cancel }))) (active_of s h.event 40)
    unfolding segmentation_of
    headed = rw eh

    pub cancel_is : h.cancel ≡ true → Ok (Segmentation (record { segmentation_event_id = h.event; descriptor_detail = Cancel })) ≡ segmentation_of s
    cancel_is on = sym (headed ∙ rw on)

    pub detail_from_lem : h.cancel ≡ false → active_of s h.event 40 ≡ segmentation_of s
    detail_from_lem off = sym (headed ∙ rw off)
