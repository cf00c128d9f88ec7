-- What a writer of values says of its view and its numbers, refusals 31 and 32; and what then is made of words.
use Prim.Native.Nat.{ℕ, ◌+◌, ◌^◌, ◌<◌, ◌≤◌}
use mathlib.Core.Bool.{Bool, true, false, ◌&&◌}
use mathlib.Core.List.{List}
use mathlib.Core.Path.{◌≡◌, refl, ap, sym}
use native.Mathlib.Omega.{arith}
use lib.Dec.{ltb, leb}
use lib.ListN.{length, take}
use borrow.Author.Tests.{ltb-true, ltb-false, lt-ltb}
use Rattle.descriptor.specs.Segmentation.{agrees, by_program, count_of, lasting, unrestricted, writable_detail, writable_front, ticks}
use Rattle.descriptor.specs.declared.segmentation.SegmentationComponent.{SegmentationComponent}
use Rattle.descriptor.specs.declared.segmentation.SegmentationDescriptor.{SegmentationDescriptor}
use Rattle.descriptor.specs.declared.segmentation.DescriptorDetail.{DescriptorDetail}
use Rattle.descriptor.specs.declared.segmentation.SegmentationDetail.{SegmentationDetail}
use Rattle.descriptor.specs.declared.segmentation.SegmentationMode.{SegmentationMode}
use Rattle.descriptor.specs.declared.full.Beside.{Beside}
use Rattle.descriptor_measure.proofs.Making.{made_zero}
use Rattle.descriptor_measure.proofs.Refusals as refusals
use Rattle.descriptor_measure.specs.Private.{components_fields, mode_fields, duration_fields, sub_fields, numbers_fit}
use Rattle.descriptor_measure.specs.Writing.{enveloped, enveloped_made, all_zero, writable_upid, segmentation_made}
use Rattle.c_command_writer.specs.Words.{refusal_of, lowest, no_less}
use Rattle.names.specs.Segmentation.{segmentation_number}
use Rattle.table.proofs.Lists.{zero_one}
use Rattle.table.specs.Bits.{pick, bytes_of}
use Rattle.table.specs.Writing as writing
use Rattle.table.specs.Writing.{Made, made, refused, Field, seen, contents, print, make_of, refusal_in}
use Rattle.table.specs.declared.View.{View}
use Rattle.c_descriptor_writer.proofs.Typed.{TypedMode, TypedSubs, TypedActive}
use Rattle.std.proofs.Common.{Some, None, Option}
use Rattle.descriptor.specs.declared.segmentation.SubSegment.{SubSegment}

-- ---- what a writer of values says of 31 and 32: are the views seen, and do the numbers fit?
pub data Told : Bool → Bool → Made → Type 0 where
  unseen : {fit : Bool} → Told false fit (refused 31)
  wide : Told true false (refused 32)
  unwritable : Told true true (refused 33)
  done : {b : List ℕ} → Told true true (made b)

pub make_told : (writable : Bool) (l : List ℕ) (fs : List Field) → Told (seen l fs) (writing.within fs) (make_of writable l fs)
make_told writable l fs = go (seen l fs) (writing.within fs) writable
  where
    go : (s w f : Bool) → Told s w (pick s (pick w (pick f (made (bytes_of (print (contents l fs)))) (refused 33)) (refused 32)) (refused 31))
    go false w f = unseen
    go true false f = wide
    go true true false = unwritable
    go true true true = done

refused_so : (m : Made) (n : ℕ) → n ≡ refusal_in m → 0 < n → m ≡ refused n
refused_so (made b) n e h = absurd (omega arith)
refused_so (refused k) n e h = ap refused (sym e)

-- its envelope, and the words' own refusal
pub enveloped_told : (tag : ℕ) (id : List ℕ) (s fit : Bool) (m : Made) → Told s fit m → (fits own view : Bool) → (fits ≡ true → fit ≡ view)
    → no_less (refusal_of fits own) (enveloped_made tag id m) ≡ pick s (pick (fits && view) (pick own (enveloped_made tag id m) (refused 33)) (refused 32)) (refused 31)
unfolding no_less enveloped_made
enveloped_told tag id s fit m unseen false own view t = refl
enveloped_told tag id s fit m unseen true true view t = refl
enveloped_told tag id s fit m unseen true false view t = refl
enveloped_told tag id s fit m wide false own view t = refl
enveloped_told tag id s fit m wide true true view t = rw (← t refl)
enveloped_told tag id s fit m wide true false view t = rw (← t refl)
enveloped_told tag id s fit m unwritable false own view t = refl
enveloped_told tag id s fit m unwritable true true view t = rw (← t refl)
enveloped_told tag id s fit m unwritable true false view t = rw (← t refl)
enveloped_told tag id s fit m (done {b}) false own view t = go (leb (length b + 4) 254)
  where
    go : (c : Bool) → refused (lowest 32 (pick c (made (enveloped tag id b)) (refused 34))) ≡ refused 32
    go true = refl
    go false = refl
enveloped_told tag id s fit m (done {b}) true true view t = rw (← t refl)
enveloped_told tag id s fit m (done {b}) true false view t = rw (← t refl) (go (leb (length b + 4) 254))
  where
    go : (c : Bool) → refused (lowest 33 (pick c (made (enveloped tag id b)) (refused 34))) ≡ refused 33
    go true = refl
    go false = refl

-- whatever it says, 31 of the words comes first
pub enveloped_31 : (tag : ℕ) (id : List ℕ) {s fit : Bool} {m : Made} → Told s fit m → no_less 31 (enveloped_made tag id m) ≡ refused 31
unfolding no_less enveloped_made
enveloped_31 tag id unseen = refl
enveloped_31 tag id wide = refl
enveloped_31 tag id unwritable = refl
enveloped_31 tag id (done {b}) = go (leb (length b + 4) 254)
  where
    go : (c : Bool) → refused (lowest 31 (pick c (made (enveloped tag id b)) (refused 34))) ≡ refused 31
    go true = refl
    go false = refl

pub enveloped_unseen : (tag : ℕ) (id : List ℕ) {s fit : Bool} {m : Made} → Told s fit m → s ≡ false → enveloped_made tag id m ≡ refused 31
unfolding enveloped_made
enveloped_unseen tag id unseen e = refl
enveloped_unseen tag id wide e = zero_one cc
enveloped_unseen tag id unwritable e = zero_one cc
enveloped_unseen tag id done e = zero_one cc

pub told_as : {s t f g : Bool} {m : Made} → Told s f m → s ≡ t → f ≡ g → Told t g m
told_as x e h = rw (e, h) at x

-- ---- an active segmentation of its types
fits_mode : (m : SegmentationMode) (cs : List SegmentationComponent) → TypedMode m → writing.within (components_fields cs) ≡ true → writing.within (mode_fields m cs) ≡ true
fits_mode SegmentationMode.Program cs h e = refl
fits_mode (SegmentationMode.Component n) cs h e = rw (lt-ltb n 256 h, e)

fits_duration : (d : Option ℕ) → ticks d < 2 ^ 40 → writing.within (duration_fields d) ≡ true
fits_duration None h = refl
fits_duration (Some n) h = rw (lt-ltb n (2 ^ 40) h)

fits_subs : (s : Option SubSegment) → TypedSubs s → writing.within (sub_fields s) ≡ true
fits_subs None h = refl
fits_subs (Some x) h = rw (lt-ltb x.sub_segment_num 256 h.0, lt-ltb x.sub_segments_expected 256 h.1)

pub mode_count : (m : SegmentationMode) → TypedMode m → count_of m < 256
mode_count SegmentationMode.Program h = omega arith
mode_count (SegmentationMode.Component n) h = h

agrees_same : (b : Bool) → agrees b b ≡ true
agrees_same true = refl
agrees_same false = refl

pub writable_active : (i : SegmentationDetail) → TypedActive i → writable_detail (DescriptorDetail.Active i) ≡ true
unfolding writable_detail writable_front
writable_active i t =
    rw (
      t.program_flag,
      t.duration_flag,
      t.free_flag,
      agrees_same (by_program i.segmentation_mode),
      agrees_same (lasting i.segmentation_duration),
      agrees_same (unrestricted i.delivery_restrictions),
      t.type_writable,
    )

module _ (event : ℕ) (i : SegmentationDetail) (id : List ℕ) (b : Beside) (lent : List ℕ) (many : length b.components ≡ 255) (twelve : length b.eidr ≡ 12) (ev : event < 2 ^ 32) (t : TypedActive i) where
  abbrev x : SegmentationDescriptor
  x = record { segmentation_event_id = event; descriptor_detail = DescriptorDetail.Active i }

  abbrev view : View
  view = i.segmentation_upid.bytes

  abbrev listed : List SegmentationComponent
  listed = take (count_of i.segmentation_mode) b.components

  abbrev active_made : Made
  active_made = segmentation_made x id b lent

  pub active_fit : ticks i.segmentation_duration < 2 ^ 40 → writing.within (components_fields listed) ≡ true → numbers_fit i listed ≡ true
  unfolding numbers_fit
  active_fit d c =
      rw (
        fits_mode i.segmentation_mode listed t.mode c,
        fits_duration i.segmentation_duration d,
        lt-ltb (segmentation_number i.segmentation_type_id) 256 t.type_number,
        lt-ltb i.segment_num 256 t.num,
        lt-ltb i.segments_expected 256 t.expected,
        fits_subs i.sub_segments t.subs,
      )

  few : count_of i.segmentation_mode < 256
  few = mode_count i.segmentation_mode t.mode

  -- the tests in their order: the view, its length, the numbers, the identifier, the flags, the UPID
  module _ (e : leb (view.at + view.len) (length lent) ≡ true) (l : view.len ≤ 255) (n : numbers_fit i listed ≡ true) where
    upid_told : all_zero id ≡ true → writable_detail (DescriptorDetail.Active i) ≡ true → (g : Bool) → writable_upid i.segmentation_upid b.eidr lent ≡ g → Told true true active_made
    upid_told z f false g = rw (refused_so active_made 33 (refusals.unwritable_upid event i id b.components b.eidr lent true (sym e) refl l many twelve ev t.upid true (sym n, few) refl true (sym z) refl true (sym f) refl false (sym g) refl) (omega arith)) unwritable
    upid_told z f true g = rw (made_zero x id b lent (omega (arith, few)) (sym (refusals.no_refusal event i id b.components b.eidr lent true (sym e) refl l many twelve ev t.upid true (sym n, few) refl true (sym z) refl true (sym f) refl true (sym g) refl))) done

    writable_told : (z : Bool) → all_zero id ≡ z → Told true true active_made
    writable_told false z = rw (refused_so active_made 33 (refusals.with_identifier event i id b.components b.eidr lent true (sym e) refl l many twelve ev t.upid true (sym n, few) refl false (sym z) refl) (omega arith)) unwritable
    writable_told true z = upid_told z (writable_active i t) (writable_upid i.segmentation_upid b.eidr lent) refl

  pub active_told : Told (leb (view.at + view.len) (length lent)) (ltb view.len 256 && numbers_fit i listed) active_made
  active_told = seen_told (leb (view.at + view.len) (length lent)) refl
    where
      numbers_told : leb (view.at + view.len) (length lent) ≡ true → view.len ≤ 255 → (n : Bool) → numbers_fit i listed ≡ n → Told true n active_made
      numbers_told e l false n = rw (refused_so active_made 32 (refusals.numbers_over event i id b.components b.eidr lent true (sym e) refl l many twelve ev t.upid false (sym n, few) refl) (omega arith)) wide
      numbers_told e l true n = writable_told e l n (all_zero id) refl

      length_told : leb (view.at + view.len) (length lent) ≡ true → (c : Bool) → ltb view.len 256 ≡ c → Told true (c && numbers_fit i listed) active_made
      length_told e false c = rw (refused_so active_made 32 (refusals.upid_long event i id b.components b.eidr lent true (sym e) refl (ltb-false view.len 256 c)) (omega arith)) wide
      length_told e true c = numbers_told e (omega (arith, ltb-true view.len 256 c)) (numbers_fit i listed) refl

      seen_told : (s : Bool) → leb (view.at + view.len) (length lent) ≡ s → Told s (ltb view.len 256 && numbers_fit i listed) active_made
      seen_told false e = rw (refused_so active_made 31 (refusals.view_out event i id b.components b.eidr lent false (sym e) refl) (omega arith)) unseen
      seen_told true e = length_told e (ltb view.len 256) refl

module _ (event : ℕ) (id : List ℕ) (b : Beside) (lent : List ℕ) (ev : event < 2 ^ 32) where
  abbrev y : SegmentationDescriptor
  y = record { segmentation_event_id = event; descriptor_detail = DescriptorDetail.Cancel }

  abbrev cancel_made : Made
  cancel_made = segmentation_made y id b lent

  pub cancel_told : Told true true cancel_made
  cancel_told = identifier_told (all_zero id) refl
    where
      eidr_told : all_zero id ≡ true → (w : Bool) → all_zero b.eidr ≡ w → Told true true cancel_made
      eidr_told z false w = rw (refused_so cancel_made 33 (refusals.cancel_eidr y id b.components b.eidr lent refl ev true (sym z) refl false (sym w) refl) (omega arith)) unwritable
      eidr_told z true w = rw (made_zero y id b lent (omega arith) (sym (refusals.cancel_writable y id b.components b.eidr lent refl ev true (sym z) refl true (sym w) refl))) done

      identifier_told : (z : Bool) → all_zero id ≡ z → Told true true cancel_made
      identifier_told false z = rw (refused_so cancel_made 33 (refusals.cancel_identifier y id b.components b.eidr lent refl ev false (sym z) refl) (omega arith)) unwritable
      identifier_told true z = eidr_told z (all_zero b.eidr) refl
