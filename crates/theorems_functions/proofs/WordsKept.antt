-- What is read of what was written over C keeps the words that were handed in.
--     private_again       a private command's bytes
--     components_again    the components of an insert
--     descriptor_written  a descriptor that was written of words
--     item_again          its words, where it stands in a loop
--     beside_again        and those of what stands beside it
use Prim.Native.Nat.{ℕ, zero, suc, ◌+◌, ◌^◌, ◌≤◌, ◌<◌}
use mathlib.Core.Bool.{Bool, true, false}
use mathlib.Core.List.{List, [], ◌∷◌, ◌++◌, map, append-nil}
use mathlib.Core.Path.{◌≡◌, refl, ap, ap₂, sym, subst, ◌∙◌}
use native.Mathlib.Omega.{arith}
use lib.Dec.{leb, lit<}
use lib.ListN.{length, take, drop, length-take, length-drop, length-map, take-append-drop}
use lib.Seq.{get_or-drop}
use Rattle.bit_stores.specs.Written.{answer_of, later_of}
use Rattle.c_command_writer.proofs.Given.{same_at}
use Rattle.c_command_writer.specs.CommandWords.{command_words, places_words, insert_components_in, CommandIs}
use Rattle.c_command_writer.specs.Words.{word, within, same, flat_written}
use Rattle.c_command_writer.specs.declared.FlatWritten.{FlatWritten}
use Rattle.c_descriptor_writer.proofs.Own.{step_small}
use Rattle.c_descriptor_writer.specs.ItemGiven.{descriptor_words_made}
use Rattle.c_descriptor_writer.specs.ItemWords.{item_words, item_widths, item_fits, places_in, eidr_in, tags_and_offsets, DescriptorIs, DescriptorAnswer}
use Rattle.c_items.specs.FlatItem as items
use Rattle.c_items.specs.FlatItem.{segmentation_head, active_segmentation, segmentation_item, flat_descriptor, flat_item, refusal_in, flat_step, flat_beside}
use Rattle.c_items.specs.declared.beside.FlatBeside.{FlatBeside}
use Rattle.c_items.specs.declared.beside.FlatSegmentationComponent.{FlatSegmentationComponent}
use Rattle.c_items.specs.declared.descriptors.FlatItem.{FlatItem}
use Rattle.c_items.specs.declared.steps.FlatStep.{FlatStep}
use Rattle.c_section.specs.Flat.{flat_view}
use Rattle.c_section.specs.FlatCommand.{flat_mode, active_insert, insert_head, flat_detail, flat_insertion, no_command, flat_command, flat_component, flat_insert_components}
use Rattle.c_section.specs.declared.FlatView.{FlatView}
use Rattle.c_section.specs.declared.components.FlatInsertComponents.{FlatInsertComponents}
use Rattle.canonical_form.specs.Descriptor.{canonical_descriptor}
use Rattle.canonical_form.specs.Same.{without_place, without_places, placeless_upid, bytes_of_views, ItemBack}
use Rattle.command.proofs.Arrays.{array_take}
use Rattle.command.specs.Command.{type_of, command_of, components_of, count_in, insert_count, array, with_view}
use Rattle.command.specs.Insert.{count}
use Rattle.command.specs.declared.SpliceCommand.{SpliceCommand}
use Rattle.command.specs.declared.components.InsertComponent.{InsertComponent}
use Rattle.command.specs.declared.insert.SpliceDetail.{SpliceDetail}
use Rattle.command.specs.declared.insert.SpliceMode.{SpliceMode}
use Rattle.descriptor.specs.Segmentation.{detail_count}
use Rattle.descriptor.specs.Views.{without_view, detail_views, descriptor_views, with_upids}
use Rattle.descriptor.specs.declared.Descriptor.{Descriptor}
use Rattle.descriptor.specs.declared.full.Beside.{Beside}
use Rattle.descriptor.specs.declared.segmentation.DescriptorDetail.{DescriptorDetail}
use Rattle.descriptor.specs.declared.segmentation.SegmentationComponent.{SegmentationComponent}
use Rattle.descriptor_loop.specs.Items.{step_of, reading_of, listed}
use Rattle.descriptor_loop.specs.declared.reading.Reading.{Reading}
use Rattle.descriptor_measure.specs.Writing.{count_beside, descriptor_made}
use Rattle.descriptor_round_trips.proofs.Alike.{detail_view, DetailTold, NoneTold, made_told, size_is}
use Rattle.descriptor_round_trips.proofs.SegmentBack.{counted_again}
use Rattle.descriptor_round_trips.proofs.Theorems.{descriptor_write_read}
use Rattle.descriptor_round_trips.specs.Making.{view_in, DescriptorMakes}
use Rattle.descriptor_round_trips.specs.Trips.{Handed}
use Rattle.loop_round_trips.proofs.Loops.{given_at}
use Rattle.loop_round_trips.proofs.Pieces.{At, said, at_piece}
use Rattle.loop_round_trips.proofs.Places.{viewed_there}
use Rattle.section.specs.Section.{command_length, command_type, command_bytes, moved, private_view, section_of}
use Rattle.section.specs.declared.Section.{Section}
use Rattle.section_writer.proofs.Numbers.{number_at}
use Rattle.table.proofs.Lists.{zero_one, and_true}
use Rattle.table.specs.Bits.{pick, bits_of, field, big_endian, AllBytes}
use Rattle.table.specs.Lent.{placeless, shifted, viewed}
use Rattle.table.specs.Writing.{Made, made, refused}
use Rattle.table.specs.declared.View.{View}
use Rattle.theorems_c.proofs.Theorems as over_c
use Rattle.theorems_c.specs.OverC.{pairs_words}
use Rattle.theorems_reader.proofs.Framed.{laid, says, private_in}
use Rattle.theorems_reader.proofs.Runs.{length_viewed}
use Rattle.theorems_writer.proofs.Theorems as writing
use Rattle.theorems_writer.specs.Making.{CommandPayload}
use Rattle.theorems_functions.specs.Words.{command_view, item_view, SameBytes, ComponentsAgain, ItemAgain, BesideAgain}
use Rattle.theorems_functions.proofs.Slices.{nothing_viewed}
use Rattle.theorems_functions.proofs.WrittenOverC.{accepted_write, moved_command, same_take}
use Rattle.std.proofs.Common.{Ok, None, Option, Result}
use Rattle.command.specs.declared.CommandRefusal.{CommandRefusal}
use Rattle.descriptor_loop.specs.declared.ItemRefusal.{ItemRefusal}

-- ---- lists and views

take_map : {A B : Type 0} (f : A → B) (n : ℕ) (l : List A) → take n (map f l) ≡ map f (take n l)
take_map f zero l = refl
take_map f (suc n) [] = refl
take_map {B = B} f (suc n) (x ∷ l) = ap (λ (k : List B). f x ∷ k) (take_map f n l)

-- so many are there where so many are taken
taken_there : {A : Type 0} (n : ℕ) (l : List A) → length (take n l) ≡ n → n ≤ length l
taken_there n l e = omega (arith, length-take n l)

-- a view that hands back as many bytes as it says hands back those from its place on
viewed_all : (s : List ℕ) (v : View) → length (viewed s v) ≡ v.len → viewed s v ≡ take v.len (drop v.at s)
unfolding viewed
viewed_all s v e = go (leb (v.at + v.len) (length s)) e
  where
    go : (t : Bool) → length (pick t (take v.len (drop v.at s)) []) ≡ v.len → pick t (take v.len (drop v.at s)) [] ≡ take v.len (drop v.at s)
    go true e = refl
    go false e = ap (λ (n : ℕ). take n (drop v.at s)) e

viewed_empty : (s : List ℕ) (v : View) → v.len ≡ 0 → viewed s v ≡ []
unfolding viewed
viewed_empty s v e = go (leb (v.at + v.len) (length s))
  where
    go : (t : Bool) → pick t (take v.len (drop v.at s)) [] ≡ []
    go true = ap (λ (n : ℕ). take n (drop v.at s)) e
    go false = refl

abbrev view_with : ℕ → ℕ → FlatView
view_with place size = record { at = place; len = size }

-- views that hand back the same, the second as many bytes as it says
same_bytes : (s : List ℕ) (v : View) (r : List ℕ) (w : View) → v.len ≡ w.len → viewed s v ≡ viewed r w → length (viewed r w) ≡ w.len → SameBytes s (flat_view v) r (flat_view w)
same_bytes s v r w n e k =
    let m : length (viewed s v) ≡ v.len = ap length e ∙ k ∙ sym n in
    let a : viewed s v ≡ take v.len (drop v.at s) = viewed_all s v m in
    record { size = n; whole = ap length (sym a) ∙ m; bytes = sym a ∙ e ∙ viewed_all r w k }

-- ---- a private command's bytes

flat_private : (c : SpliceCommand) → (flat_command c).private_bytes ≡ flat_view (private_view c)
unfolding flat_command no_command
flat_private SpliceCommand.SpliceNull = refl
flat_private (SpliceCommand.SpliceInsert i) = refl
flat_private (SpliceCommand.TimeSignal t) = refl
flat_private SpliceCommand.BandwidthReservation = refl
flat_private (SpliceCommand.PrivateCommand p) = refl

own_private : (c : SpliceCommand) (command : List ℕ) → same (command_words (flat_command c)) command ≡ true → command_view command ≡ flat_view (private_view c)
unfolding command_words
own_private c command e =
    let w : (i : ℕ) → i < 21 → word command i ≡ word (command_words (flat_command c)) i = same_at (command_words (flat_command c)) command e in
    ap₂ view_with (w 19 (omega arith)) (w 20 (omega arith)) ∙ flat_private c

-- how many bytes a view has does not go by its place
view_size : (f : View → View) → ((v : View) → (f v).len ≡ v.len) → (c : SpliceCommand) → (private_view (with_view f c)).len ≡ (private_view c).len
view_size f h SpliceCommand.SpliceNull = refl
view_size f h (SpliceCommand.SpliceInsert i) = refl
view_size f h (SpliceCommand.TimeSignal t) = refl
view_size f h SpliceCommand.BandwidthReservation = refl
view_size f h (SpliceCommand.PrivateCommand p) = h p.private_bytes

module _ (b : List ℕ) (x : Section) (e : section_of b ≡ Ok x) where
  -- they lie in the payload, and this in the section from byte 14 on
  private_there : (k : ℕ) (c : SpliceCommand) → command_of k (command_bytes b) ≡ Ok c
      → (viewed b (private_view (moved 14 c)) ≡ viewed (command_bytes b) (private_view c)) × (length (viewed (command_bytes b) (private_view c)) ≡ (private_view c).len)
  unfolding moved command_bytes
  private_there k SpliceCommand.SpliceNull f = (nothing_viewed b ∙ sym (nothing_viewed (command_bytes b)), ap length (nothing_viewed (command_bytes b)))
  private_there k (SpliceCommand.SpliceInsert i) f = (nothing_viewed b ∙ sym (nothing_viewed (command_bytes b)), ap length (nothing_viewed (command_bytes b)))
  private_there k (SpliceCommand.TimeSignal t) f = (nothing_viewed b ∙ sym (nothing_viewed (command_bytes b)), ap length (nothing_viewed (command_bytes b)))
  private_there k SpliceCommand.BandwidthReservation f = (nothing_viewed b ∙ sym (nothing_viewed (command_bytes b)), ap length (nothing_viewed (command_bytes b)))
  private_there k (SpliceCommand.PrivateCommand p) f =
      let h = private_in (command_bytes b) k p f in
      (sym (viewed_there b 14 (command_length b) (omega (arith, (laid b x e).fits)) p.private_bytes h), length_viewed (command_bytes b) p.private_bytes h)

  pub private_again : (command components : List ℕ) (c : SpliceCommand) (cs places : List InsertComponent) (lent : List ℕ) → CommandIs command components c cs → command_type b ≡ type_of c → CommandPayload c places lent (command_bytes b)
      → SameBytes b (flat_command x.command).private_bytes lent (command_view command)
  unfolding moved
  private_again command components c cs places lent is type p =
      let g : SpliceCommand = p.again in
      let t = private_there (type_of c) g p.reading in
      let moves : x.command ≡ moved 14 g =
      moved_command g (command_of (command_type b) (command_bytes b)) x.command (ap (λ (k : ℕ). command_of k (command_bytes b)) type ∙ p.reading) (says b x e).1 in
      let n : (private_view g).len ≡ (private_view c).len = sym (view_size placeless (λ v. refl) g) ∙ ap (λ (d : SpliceCommand). (private_view d).len) p.values ∙ view_size placeless (λ v. refl) c in
      let s : SameBytes b (flat_view (private_view (moved 14 g))) lent (flat_view (private_view c)) =
      same_bytes b (private_view (moved 14 g)) lent (private_view c) (view_size (shifted 14) (λ v. refl) g ∙ n) (t.0 ∙ p.view) (ap length (sym p.view) ∙ t.1 ∙ n) in
      rw (moves, flat_private (moved 14 g), own_private c command is.own) s

-- ---- the components of an insert

type_word : (c : SpliceCommand) → (flat_command c).splice_command_type ≡ type_of c
unfolding flat_command no_command
type_word SpliceCommand.SpliceNull = refl
type_word (SpliceCommand.SpliceInsert i) = refl
type_word (SpliceCommand.TimeSignal t) = refl
type_word SpliceCommand.BandwidthReservation = refl
type_word (SpliceCommand.PrivateCommand p) = refl

count_word : (c : SpliceCommand) → (flat_command c).insert.mode.component_count ≡ count_in c
unfolding flat_command no_command flat_insertion active_insert insert_head flat_mode
count_word SpliceCommand.SpliceNull = refl
count_word (SpliceCommand.SpliceInsert i) = detail i.splice_event_id i.reserved i.splice_detail
  where
    mode : (m : SpliceMode) → (flat_mode m).component_count ≡ count m
    mode (SpliceMode.Program t) = refl
    mode (SpliceMode.Components n) = refl

    detail : (event kept : ℕ) (d : SpliceDetail) → (flat_detail event kept d).mode.component_count ≡ insert_count d
    detail event kept SpliceDetail.Cancel = refl
    detail event kept (SpliceDetail.Insert j) = mode j.splice_mode
count_word (SpliceCommand.TimeSignal t) = refl
count_word SpliceCommand.BandwidthReservation = refl
count_word (SpliceCommand.PrivateCommand p) = refl

placeless_count : (c : SpliceCommand) → count_in (without_place c) ≡ count_in c
placeless_count SpliceCommand.SpliceNull = refl
placeless_count (SpliceCommand.SpliceInsert i) = refl
placeless_count (SpliceCommand.TimeSignal t) = refl
placeless_count SpliceCommand.BandwidthReservation = refl
placeless_count (SpliceCommand.PrivateCommand p) = refl

pub components_again : (command components : List ℕ) (c : SpliceCommand) (cs : List InsertComponent) (lent p : List ℕ) (f : FlatInsertComponents) → CommandIs command components c cs
    → CommandPayload c (array cs) lent p → word command 1 ≡ 0x05 → f ≡ flat_insert_components (command_of 0x05 p) (components_of p) → ComponentsAgain command components f
unfolding command_words flat_insert_components
components_again command components c cs lent p f is k five e =
    let w : (i : ℕ) → i < 21 → word command i ≡ word (command_words (flat_command c)) i = same_at (command_words (flat_command c)) command is.own in
    let type : type_of c ≡ 0x05 = sym (w 1 (omega arith) ∙ type_word c) ∙ five in
    let read : command_of 0x05 p ≡ Ok k.again = ap (λ (n : ℕ). command_of n p) (sym type) ∙ k.reading in
    let g : f ≡ flat_insert_components (Ok k.again) (components_of p) = e ∙ ap (λ (r : Result SpliceCommand CommandRefusal). flat_insert_components r (components_of p)) read in
    let n : count_in k.again ≡ count_in c = sym (placeless_count k.again) ∙ ap count_in k.values ∙ placeless_count c in
    let own : take (count_in k.again) (components_of p) ≡ cs = k.components ∙ array_take cs (count_in c) is.counts in
    let enough : count_in k.again ≤ length (components_of p) = taken_there (count_in k.again) (components_of p) (ap length own ∙ is.counts ∙ sym n) in
    let words : places_words (take (count_in k.again) (map flat_component (components_of p))) ≡ places_words (map flat_component cs) =
    ap places_words (take_map flat_component (count_in k.again) (components_of p) ∙ ap (map flat_component) own) in
    record {
      accepted = ap (λ (v : FlatInsertComponents). v.refusal) g;
      counted = ap (λ (v : FlatInsertComponents). v.count) g ∙ n ∙ sym (w 9 (omega arith) ∙ count_word c);
      there = rw g (omega (arith, enough, length-map (components_of p) flat_component));
      places =
          ap (λ (v : FlatInsertComponents). same (places_words (take v.count v.components)) (insert_components_in components)) g
          ∙ ap (λ (l : List ℕ). same l (insert_components_in components)) words ∙ is.places;
    }

-- ---- a descriptor that was written of words

pub record DescriptorOf (step beside lent b : List ℕ) : Type 0 where
  pub own : Descriptor
  pub identifier : List ℕ
  pub others : Beside
  pub fits : item_fits step beside ≡ true
  pub is : DescriptorIs step beside own identifier others
  pub handed : Handed own identifier others lent
  pub written : descriptor_made own identifier others lent ≡ made b

makes_some : (d : Descriptor) (identifier : List ℕ) (beside : Beside) (lent : List ℕ) {m : Made} → DescriptorMakes d identifier beside lent m → (n : ℕ) → m ≡ refused n → n ≡ 0 → ⊥
makes_some d identifier beside lent (DescriptorMakes.outside f) n e z = let q : 31 ≡ n = cc in omega arith
makes_some d identifier beside lent (DescriptorMakes.over f g) n e z = let q : 32 ≡ n = cc in omega arith
makes_some d identifier beside lent (DescriptorMakes.nobodys f g h) n e z = let q : 33 ≡ n = cc in omega arith
makes_some d identifier beside lent (DescriptorMakes.long f tag id p h o) n e z = let q : 34 ≡ n = cc in omega arith
makes_some d identifier beside lent (DescriptorMakes.its f tag id p h o) n e z = zero_one cc

module _ (step beside lent : List ℕ) (a : AllBytes lent) where
  -- a refusal has a number
  answers_some : {m : Made} → DescriptorAnswer step beside lent m → (n : ℕ) → m ≡ refused n → n ≡ 0 → ⊥
  answers_some (DescriptorAnswer.outside f) n e z = let q : 31 ≡ n = cc in omega arith
  answers_some (DescriptorAnswer.over f g) n e z = let q : 32 ≡ n = cc in omega arith
  answers_some (DescriptorAnswer.nobodys f g h) n e z = let q : 33 ≡ n = cc in omega arith
  answers_some (DescriptorAnswer.its d id others fits is) n e z =
      makes_some d id others lent (writing.what_is_made_of_a_descriptor_is_told_by_what_is_read d id others lent (over_c.the_value_that_words_make_is_handed step beside lent d id others a fits is)) n e z

  descriptor_of_lem : {m : Made} → DescriptorAnswer step beside lent m → (b : List ℕ) → m ≡ made b → DescriptorOf step beside lent b
  descriptor_of_lem (DescriptorAnswer.outside f) b e = zero_one cc
  descriptor_of_lem (DescriptorAnswer.over f g) b e = zero_one cc
  descriptor_of_lem (DescriptorAnswer.nobodys f g h) b e = zero_one cc
  descriptor_of_lem (DescriptorAnswer.its d id others fits is) b e =
      record { own = d; identifier = id; others = others; fits = fits; is = is; handed = over_c.the_value_that_words_make_is_handed step beside lent d id others a fits is; written = e }

  pub descriptor_written : (target : List ℕ) (answer : FlatWritten) (later : List ℕ) → answer ≡ flat_written (answer_of (descriptor_words_made step beside lent) target)
      → later ≡ later_of (descriptor_words_made step beside lent) target → answer.refusal ≡ 0
      → DescriptorOf step beside lent (take answer.«length» later) × (length (take answer.«length» later) ≡ answer.«length»)
  descriptor_written target answer later ea el z =
      let m : Made = descriptor_words_made step beside lent in
      let told = over_c.descriptor_words_are_answered step beside lent in
      let w = accepted_write m target (answers_some told) (ap (λ (v : FlatWritten). v.refusal) (sym ea) ∙ z) in
      let b : take answer.«length» later ≡ w.0 = ap (λ (v : FlatWritten). take v.«length» later) ea ∙ ap (take (flat_written (answer_of m target)).«length») el ∙ w.2 in
      (subst (DescriptorOf step beside lent) (sym b) (descriptor_of_lem told w.0 w.1), ap length b ∙ w.3 ∙ sym (ap (λ (v : FlatWritten). v.«length») ea))

-- ---- the words of a descriptor, but for its view's place

placeless_words : (d : Descriptor) → take 25 (item_words (flat_descriptor (without_places d))) ≡ take 25 (item_words (flat_descriptor d))
unfolding item_words flat_descriptor segmentation_item active_segmentation
placeless_words (Descriptor.Avail x) = refl
placeless_words (Descriptor.Dtmf x) = refl
placeless_words (Descriptor.Segmentation x) = detail x.segmentation_event_id x.descriptor_detail
  where
    detail : (event : ℕ) (d : DescriptorDetail) → take 25 (item_words (segmentation_item event (with_upids placeless_upid d))) ≡ take 25 (item_words (segmentation_item event d))
    detail event DescriptorDetail.Cancel = refl
    detail event (DescriptorDetail.Active i) = refl
placeless_words (Descriptor.Time x) = refl
placeless_words (Descriptor.Reserved tag v) = refl

flat_view_lem : (d : Descriptor) → (flat_descriptor d).bytes ≡ flat_view (view_in d)
unfolding flat_descriptor segmentation_item
flat_view_lem (Descriptor.Avail x) = refl
flat_view_lem (Descriptor.Dtmf x) = refl
flat_view_lem (Descriptor.Segmentation x) = detail x.segmentation_event_id x.descriptor_detail
  where
    detail : (event : ℕ) (d : DescriptorDetail) → (segmentation_item event d).bytes ≡ flat_view (detail_view d)
    detail event DescriptorDetail.Cancel = refl
    detail event (DescriptorDetail.Active i) = refl
flat_view_lem (Descriptor.Time x) = refl
flat_view_lem (Descriptor.Reserved tag v) = refl

flat_count : (d : Descriptor) → (flat_descriptor d).segmentation.component_count ≡ count_beside d
unfolding flat_descriptor segmentation_item segmentation_head active_segmentation
flat_count (Descriptor.Avail x) = refl
flat_count (Descriptor.Dtmf x) = refl
flat_count (Descriptor.Segmentation x) = detail x.segmentation_event_id x.descriptor_detail
  where
    detail : (event : ℕ) (d : DescriptorDetail) → (segmentation_item event d).segmentation.component_count ≡ detail_count d
    detail event DescriptorDetail.Cancel = refl
    detail event (DescriptorDetail.Active i) = refl
flat_count (Descriptor.Time x) = refl
flat_count (Descriptor.Reserved tag v) = refl

placeless_beside : (d : Descriptor) → count_beside (without_places d) ≡ count_beside d
placeless_beside (Descriptor.Avail x) = refl
placeless_beside (Descriptor.Dtmf x) = refl
placeless_beside (Descriptor.Segmentation x) = detail x.descriptor_detail
  where
    detail : (d : DescriptorDetail) → detail_count (with_upids placeless_upid d) ≡ detail_count d
    detail DescriptorDetail.Cancel = refl
    detail (DescriptorDetail.Active i) = refl
placeless_beside (Descriptor.Time x) = refl
placeless_beside (Descriptor.Reserved tag v) = refl

-- ---- the bytes of its view: of None and EIDR there are none, whatever the place

placeless_told : (d : Descriptor) → NoneTold d → NoneTold (without_places d)
placeless_told (Descriptor.Avail x) t = tt
placeless_told (Descriptor.Dtmf x) t = tt
placeless_told (Descriptor.Segmentation x) t = detail x.descriptor_detail t
  where
    detail : (d : DescriptorDetail) → DetailTold d → DetailTold (with_upids placeless_upid d)
    detail DescriptorDetail.Cancel t = tt
    detail (DescriptorDetail.Active i) t = t
placeless_told (Descriptor.Time x) t = tt
placeless_told (Descriptor.Reserved tag v) t = tt

first : List (List ℕ) → List ℕ
first [] = []
first (b ∷ bs) = b

shown : (s : List ℕ) (d : Descriptor) → NoneTold (without_places d) → viewed s (view_in d) ≡ first (bytes_of_views s (descriptor_views d))
unfolding first
shown s (Descriptor.Avail x) t = nothing_viewed s
shown s (Descriptor.Dtmf x) t = refl
shown s (Descriptor.Segmentation x) t = detail x.descriptor_detail t
  where
    detail : (d : DescriptorDetail) → DetailTold (with_upids placeless_upid d) → viewed s (detail_view d) ≡ first (bytes_of_views s (detail_views d))
    detail DescriptorDetail.Cancel t = nothing_viewed s
    detail (DescriptorDetail.Active i) t = go (without_view i.segmentation_upid.upid_type) refl
      where
        go : (k : Bool) → without_view i.segmentation_upid.upid_type ≡ k
            → viewed s i.segmentation_upid.bytes ≡ first (bytes_of_views s (pick k [] (i.segmentation_upid.bytes ∷ [])))
        go true e = viewed_empty s i.segmentation_upid.bytes (t e)
        go false e = refl
shown s (Descriptor.Time x) t = nothing_viewed s
shown s (Descriptor.Reserved tag v) t = refl

-- two descriptors with equal readings, of the second of which something is written
view_again : (s r : List ℕ) (d e : Descriptor) → without_places d ≡ without_places e → bytes_of_views s (descriptor_views d) ≡ bytes_of_views r (descriptor_views e)
    → ((view_in e).at + (view_in e).len ≤ length r) × NoneTold e → SameBytes s (flat_descriptor d).bytes r (flat_view (view_in e))
view_again s r d e values held told =
    let t : NoneTold (without_places e) = placeless_told e told.1 in
    let n : (view_in d).len ≡ (view_in e).len = sym (size_is d) ∙ ap (λ (y : Descriptor). (view_in y).len) values ∙ size_is e in
    let v : viewed s (view_in d) ≡ viewed r (view_in e) = shown s d (subst NoneTold (sym values) t) ∙ ap first held ∙ sym (shown r e t) in
    rw (flat_view_lem d) (same_bytes s (view_in d) r (view_in e) n v (length_viewed r (view_in e) told.0))

-- the words of components, one after the other
pairs_words_lem : (cs : List SegmentationComponent) → pairs_words (map items.flat_component cs) ≡ tags_and_offsets cs
unfolding items.flat_component
pairs_words_lem [] = refl
pairs_words_lem (c ∷ cs) = ap (λ (l : List ℕ). c.component_tag ∷ c.pts_offset ∷ l) (pairs_words_lem cs)

-- ---- a descriptor that stands in a loop

module _ (step beside lent b : List ℕ) (w : DescriptorOf step beside lent b) where
  pub canonical_of : canonical_descriptor b ≡ true
  canonical_of = (descriptor_write_read w.own w.identifier w.others lent b w.handed w.written).1

  pub short_of : length b ≤ 256
  short_of = let z = said b canonical_of in omega (arith, z.1, z.2)

  -- the item's words, by their place among the step's
  own_word : (i : ℕ) → i < 27 → word step (6 + i) ≡ word (item_words (flat_descriptor w.own)) i
  unfolding item_words
  own_word i h = sym (get_or-drop 6 step i 0) ∙ same_at (item_words (flat_descriptor w.own)) (drop 6 step) w.is.item i h

  own_view : item_view step ≡ flat_view (view_in w.own)
  unfolding item_words
  own_view = ap₂ view_with (own_word 25 (omega arith)) (own_word 26 (omega arith)) ∙ flat_view_lem w.own

  own_number : field (bits_of (big_endian 4 (word step 5))) 0 32 ≡ word step 5
  unfolding item_fits item_widths
  own_number =
      let small : word step 5 < 2 ^ 32 = step_small step (and_true (within item_widths (drop 5 step)) _ w.fits).0 0 (lit< tt) in
      ap (λ (l : List ℕ). field (bits_of l) 0 32) (sym (append-nil (big_endian 4 (word step 5)))) ∙ number_at [] [] 0 4 (word step 5) refl small

  module _ (loop : List ℕ) (fits : length loop ≤ 4076) (offset : ℕ) (stands : take (length b) (drop offset loop) ≡ b) where
    piece : At loop offset b
    piece =
        let behind : List ℕ = drop (length b) (drop offset loop) in
        let is : drop offset loop ≡ b ++ behind = sym (take-append-drop (length b) (drop offset loop)) ∙ ap (λ (l : List ℕ). l ++ behind) stands in
        at_piece loop fits offset b behind (omega (arith, (said b canonical_of).0, length-take (length b) (drop offset loop), length-drop offset loop, ap length stands)) is canonical_of

    back : ItemBack loop (listed loop offset) (record { descriptor = w.own; identifier = w.identifier; beside = w.others; lent = lent })
    back =
        given_at loop offset b piece (record { descriptor = w.own; identifier = w.identifier; beside = w.others; lent = lent })
        (descriptor_write_read w.own w.identifier w.others lent b w.handed w.written).0

    pub item_again : (f : FlatStep) → f ≡ flat_step (step_of loop offset) → ItemAgain step lent loop (offset + length b) f
    unfolding flat_step flat_item refusal_in reading_of
    item_again f e =
        let d : Descriptor = back.again in
        let it : f.item ≡ flat_descriptor d = ap (λ (v : FlatStep). v.item) e ∙ ap flat_item back.is in
        let values : without_places d ≡ without_places w.own = back.same.values in
        let words : take 25 (item_words (flat_descriptor d)) ≡ take 25 (item_words (flat_descriptor w.own)) =
        sym (placeless_words d) ∙ ap (λ (y : Descriptor). take 25 (item_words (flat_descriptor y))) values ∙ placeless_words w.own in
        let told = made_told lent b w.identifier w.others w.own (omega (arith, w.handed.count, w.handed.places)) w.written in
        record {
          accepted = ap (λ (v : FlatStep). v.refusal) e ∙ ap refusal_in back.is;
          ends = ap (λ (v : FlatStep). v.next) e ∙ ap (λ (r : Reading). r.step.next) piece.reading;
          identified = ap (λ (v : FlatStep). v.identifier) e ∙ ap (λ (l : List ℕ). field (bits_of l) 0 32) (back.same.identifiers ∙ w.is.identifies) ∙ own_number;
          words =
              ap (λ (v : FlatItem). same (take 25 (item_words v)) (drop 6 step)) it ∙ ap (λ (l : List ℕ). same l (drop 6 step)) words
              ∙ same_take 25 (item_words (flat_descriptor w.own)) (drop 6 step) w.is.item;
          view = rw (it, own_view) (view_again loop lent d w.own values back.same.bytes told);
        }

    pub beside_again : (f : FlatBeside) → f ≡ flat_beside (reading_of loop offset) → BesideAgain step beside f
    unfolding flat_beside flat_item refusal_in reading_of item_words
    beside_again f e =
        let cs : List SegmentationComponent = (reading_of loop offset).beside.components in
        let n : ℕ = count_beside back.again in
        let count : f.count ≡ n = ap (λ (v : FlatBeside). v.count) e ∙ ap (λ (i : Option (Result Descriptor ItemRefusal)). (flat_item i).segmentation.component_count) back.is ∙ flat_count back.again in
        let alike : n ≡ count_beside w.own = sym (placeless_beside back.again) ∙ ap count_beside back.same.values ∙ placeless_beside w.own in
        let own : take n cs ≡ w.is.listed =
        back.same.components ∙ ap (λ (l : List SegmentationComponent). take (count_beside w.own) l) w.is.components ∙ counted_again (count_beside w.own) w.is.listed w.is.count in
        let enough : n ≤ length cs = taken_there n cs (ap length own ∙ w.is.count ∙ sym alike) in
        let all : f.components ≡ map items.flat_component cs = ap (λ (v : FlatBeside). v.components) e in
        let words : pairs_words (take f.count f.components) ≡ tags_and_offsets w.is.listed =
        ap₂ (λ (k : ℕ) (l : List FlatSegmentationComponent). pairs_words (take k l)) count all ∙ ap pairs_words (take_map items.flat_component n cs ∙ ap (map items.flat_component) own)
        ∙ pairs_words_lem w.is.listed in
        let held : f.eidr ≡ w.others.eidr = ap (λ (v : FlatBeside). v.eidr) e ∙ back.same.eidrs in
        record {
          accepted = ap (λ (v : FlatBeside). v.refusal) e ∙ ap refusal_in back.is;
          counted = count ∙ alike ∙ sym (own_word 12 (omega arith) ∙ flat_count w.own);
          there = rw (count, all) (omega (arith, enough, length-map cs items.flat_component));
          places = ap (λ (l : List ℕ). same l (places_in beside)) words ∙ w.is.places;
          twelve = ap length held ∙ w.is.twelve;
          eidr = ap (λ (l : List ℕ). same l (eidr_in beside)) held ∙ w.is.eidr;
        }
