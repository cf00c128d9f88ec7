-- The value that words make is of its types: what is asked of a descriptor that is handed in (`Handed`) is met.
use Prim.Native.Nat.{ℕ, zero, suc, ◌<◌, ◌≤◌}
use mathlib.Core.Bool.{true}
use mathlib.Core.List.{List}
use mathlib.Core.Path.{◌≡◌, ap, sym, subst, ◌∙◌}
use native.Mathlib.Nat.{mod-lt}
use native.Mathlib.Omega.{arith}
use lib.Dec.{lit<}
use lib.ListN.{length, drop, get_or, replicate}
use lib.Seq.{get_or-drop}
use Rattle.c_command_writer.proofs.Given.{same_at}
use Rattle.c_command_writer.specs.Words.{within, same, places_of}
use Rattle.c_descriptor_writer.proofs.Own.{step_small, bytes_are, filled_length}
use Rattle.c_descriptor_writer.specs.ItemGiven.{byte_from}
use Rattle.c_descriptor_writer.specs.ItemWords.{item_words, item_widths, eidr_in, places_given, places_within, beside_within, view_fits, item_fits, DescriptorIs}
use Rattle.c_items.specs.FlatItem.{flat_descriptor, segmentation_item, active_segmentation}
use Rattle.descriptor.specs.Segmentation.{count_of, front_of}
use Rattle.descriptor.specs.declared.Descriptor.{Descriptor}
use Rattle.descriptor.specs.declared.segmentation.DescriptorDetail.{DescriptorDetail}
use Rattle.descriptor.specs.declared.segmentation.SegmentationComponent.{SegmentationComponent}
use Rattle.descriptor.specs.declared.full.Beside.{Beside}
use Rattle.descriptor_measure.specs.Writing.{count_beside}
use Rattle.descriptor_round_trips.specs.Trips.{Handed}
use Rattle.table.proofs.Bits.{length_big_endian}
use Rattle.table.proofs.Lists.{and_true}
use Rattle.table.specs.Bits.{AllBytes}

placed : (n : ℕ) (words : List ℕ) → AllBytes (places_of byte_from 1 n words)
unfolding places_of
placed zero words = tt
placed (suc n) words = (mod-lt (get_or words 0 0) (lit< tt), placed n (drop 1 words))

-- the count of components is a word of eight bits
module _ (words : List ℕ) (w : within item_widths (drop 5 words) ≡ true) where
  few_in : (event : ℕ) (e : DescriptorDetail) → same (item_words (segmentation_item event e)) (drop 6 words) ≡ true → count_of (front_of e).segmentation_mode ≤ 255
  unfolding item_words item_widths segmentation_item active_segmentation
  few_in event DescriptorDetail.Cancel is = omega arith
  few_in event (DescriptorDetail.Active i) is =
      let z : get_or words 18 0 ≡ count_of i.segmentation_mode =
      sym (get_or-drop 6 words 12 0) ∙ same_at (item_words (segmentation_item event (DescriptorDetail.Active i))) (drop 6 words) is 12 (lit< tt) in
      let n : get_or words 18 0 < 256 = step_small words w 13 (lit< tt) in
      omega (arith, z, n)

  few : (d : Descriptor) → same (item_words (flat_descriptor d)) (drop 6 words) ≡ true → count_beside d ≤ 255
  unfolding flat_descriptor
  few (Descriptor.Avail x) is = omega arith
  few (Descriptor.Dtmf x) is = omega arith
  few (Descriptor.Segmentation x) is = few_in x.segmentation_event_id x.descriptor_detail is
  few (Descriptor.Time x) is = omega arith
  few (Descriptor.Reserved tag v) is = omega arith

pub words_handed : (words beside lent : List ℕ) (d : Descriptor) (identifier : List ℕ) (b : Beside) → AllBytes lent → item_fits words beside ≡ true → DescriptorIs words beside d identifier b
    → Handed d identifier b lent
unfolding item_fits beside_within
words_handed words beside lent d identifier b a fits is =
    let f = and_true (within item_widths (drop 5 words)) _ fits in
    let v = and_true (view_fits words) _ f.1 in
    let e = and_true (places_within (places_given words) beside) (within (replicate 12 8) (eidr_in beside)) v.1 in
    let n : count_beside d ≤ 255 = few words f.0 d is.item in
    record {
      four = ap length is.identifies ∙ length_big_endian 4 (get_or words 5 0);
      twelve = is.twelve;
      held = subst AllBytes (bytes_are 12 b.eidr (eidr_in beside) is.twelve is.eidr e.1) (placed 12 (eidr_in beside));
      places = ap (λ (l : List SegmentationComponent). length l) is.components ∙ filled_length is.listed (omega (arith, is.count, n));
      count = n;
      are = a;
    }
