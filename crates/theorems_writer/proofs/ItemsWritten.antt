-- A section's loop, written of its items.
--     loop_written      each item of a canonical section's loop is written as its own bytes, which joined are the loop
--     keeps_upids       each of its items keeps its UPID
--     one_loop          two canonical sections with the same items have equal loops
--     one_of_items      and are equal, if they say the same around them
--     items_read        descriptors that are written, joined and put in a section are its items
use Prim.Native.Nat.{ℕ, ◌+◌, ◌≤◌}
use mathlib.Core.Bool.{Bool, true, false}
use mathlib.Core.List.{List, [], ◌∷◌, map}
use mathlib.Core.Path.{◌≡◌, refl, ap, ap₂, sym, subst, ◌∙◌}
use lib.Dec.{leb}
use lib.ListN.{length, take, drop}
use Rattle.descriptor.specs.declared.Descriptor.{Descriptor}
use Rattle.descriptor.specs.declared.segmentation.DescriptorDetail.{DescriptorDetail}
use Rattle.descriptor.specs.declared.full.Beside.{Beside}
use Rattle.canonical_form.specs.Descriptor.{canonical_loop}
use Rattle.descriptor_round_trips.proofs.Alike.{SameView, detail_view}
use Rattle.descriptor_round_trips.specs.Making.{view_in}
use Rattle.descriptor_round_trips.specs.Trips.{full_in, Handed}
use Rattle.descriptor_loop.specs.Cover.{joined, run_of}
use Rattle.descriptor_loop.specs.Items.{Listed, listed, items_of}
use Rattle.descriptor_loop.specs.Place.{moved_descriptor}
use Rattle.descriptor_loop.specs.Private.{moved_detail}
use Rattle.loop_round_trips.proofs.Loops.{all_pieces, back_at, beside_is, written_at, every_item}
use Rattle.loop_round_trips.proofs.Pieces.{At, run_is, items_cut}
use Rattle.descriptor_loop.proofs.Places.{type_stays}
use Rattle.loop_round_trips.proofs.Theorems.{cut, loop_read_write, loop_one, loop_write_read}
use Rattle.loop_round_trips.specs.Loops.{WrittenAgain, given_made}
use Rattle.canonical_form.specs.Same.{Given, Pairs, ItemBack, SameItem}
use Rattle.section.specs.Section.{loop_bytes, section_of, loop_in}
use Rattle.section.specs.declared.Section.{Section}
use Rattle.section_writer.proofs.Theorems.{canonical_parts, section_one}
use Rattle.canonical_form.specs.Section.{canonical_section}
use Rattle.section_writer.specs.Private.{SameAround}
use Rattle.table.specs.Bits.{pick, AllBytes}
use Rattle.table.specs.Lent.{viewed}
use Rattle.table.specs.Writing.{made}
use Rattle.table.specs.declared.View.{View}
use Rattle.table.proofs.Structure.{bytes_take, bytes_drop}
use Rattle.upid.specs.Cover.{All}
use Rattle.upid.specs.Upid.{upid_of, parts_in}
use Rattle.theorems_reader.specs.Identifiers.{detail_upids, upids_of}
use Rattle.theorems_writer.specs.Written.{UpidHeld, held_in, KeepsUpid}
use Rattle.theorems_reader.proofs.Framed.{laid}
use Rattle.theorems_reader.proofs.Sections.{loop_short}
use Rattle.std.proofs.Common.{Ok, Some, Option, Result}
use Rattle.descriptor_loop.specs.declared.ItemRefusal.{ItemRefusal}

-- ---- the loop of a section

pub all_viewed : (s : List ℕ) (v : View) → AllBytes s → AllBytes (viewed s v)
unfolding viewed
all_viewed s v a = go (leb (v.at + v.len) (length s))
  where
    go : (t : Bool) → AllBytes (pick t (take v.len (drop v.at s)) [])
    go true = bytes_take v.len (drop v.at s) (bytes_drop v.at s a)
    go false = tt

module _ (s : List ℕ) (x : Section) (e : section_of s ≡ Ok x) where
  loop_here : loop_in s x ≡ loop_bytes s
  loop_here = ap (viewed s) (laid s x e).place

  module _ (a : AllBytes s) (c : canonical_section s ≡ true) where
    pub here_canonical : canonical_loop (loop_in s x) ≡ true
    here_canonical = ap canonical_loop loop_here ∙ (canonical_parts s c).loop

    pub loop_written : All (WrittenAgain (loop_in s x)) (items_of (loop_in s x)) × (joined (map (run_of (loop_in s x)) (items_of (loop_in s x))) ≡ loop_in s x)
    loop_written = loop_read_write (loop_in s x) (all_viewed s x.descriptors a) (loop_short s x e) here_canonical

-- ---- each item keeps its UPID

module _ (p loop : List ℕ) (base : ℕ) where
  detail_held : (d : DescriptorDetail) → SameView p (detail_view d) loop (detail_view (moved_detail base d)) → map (held_in p) (detail_upids d) ≡ map (held_in loop) (detail_upids (moved_detail base d))
  detail_held DescriptorDetail.Cancel h = refl
  detail_held (DescriptorDetail.Active i) h = ap (λ (u : UpidHeld). u ∷ []) (ap₂ held (sym (type_stays base i.segmentation_upid)) h.bytes)
    where
      held : ℕ → List ℕ → UpidHeld
      held k b = record { upid_type = k; bytes = b; parts = parts_in (upid_of k b) }

  descriptor_held : (d : Descriptor) → SameView p (view_in d) loop (view_in (moved_descriptor base d)) → map (held_in p) (upids_of (Some (Ok d))) ≡ map (held_in loop) (upids_of (Some (Ok (moved_descriptor base d))))
  descriptor_held (Descriptor.Avail x) h = refl
  descriptor_held (Descriptor.Dtmf x) h = refl
  descriptor_held (Descriptor.Segmentation x) h = detail_held x.descriptor_detail h
  descriptor_held (Descriptor.Time x) h = refl
  descriptor_held (Descriptor.Reserved tag own) h = refl

keeps_upid : (loop : List ℕ) → length loop ≤ 4076 → (offset : ℕ) (t : List ℕ) → At loop offset t → AllBytes t → KeepsUpid loop (listed loop offset)
keeps_upid loop fits offset t a all =
    let b = back_at loop offset t a all in
    let r : run_of loop (listed loop offset) ≡ t = run_is loop fits offset t a in
    record {
      written = written_at loop fits offset t a all;
      again = b.own;
      reading = ap (λ (p : List ℕ). (full_in p).read) r ∙ b.alone;
      upids =
          ap (λ (p : List ℕ). map (held_in (drop 6 p)) (upids_of (Some (Ok b.own)))) r
          ∙ descriptor_held (drop 6 t) loop (offset + 6) b.own b.view ∙ ap (λ (i : Option (Result Descriptor ItemRefusal)). map (held_in loop) (upids_of i)) (sym (b.is ∙ ap (λ x. Some (Ok x)) b.moves));
      eidr = ap (λ (p : List ℕ). (full_in p).beside.eidr) r ∙ sym (ap (λ (c : Beside). c.eidr) (beside_is loop offset t a));
    }

-- what holds of each item where a canonical descriptor stands holds of all of a canonical section
pub each_item : {P : Listed → Type 0} (s : List ℕ) (x : Section) → AllBytes s → section_of s ≡ Ok x → canonical_section s ≡ true
    → ((o : ℕ) (t : List ℕ) → At (loop_in s x) o t → AllBytes t → P (listed (loop_in s x) o)) → All P (items_of (loop_in s x))
each_item s x a e c f =
    let loop : List ℕ = loop_in s x in
    let t = cut loop (here_canonical s x e a c) in
    every_item loop (loop_short s x e) (items_cut loop (loop_short s x e) t.1 t.2) (all_pieces t.0 (subst AllBytes (sym t.2) (all_viewed s x.descriptors a))) f

pub keeps_upids : (s : List ℕ) (x : Section) → AllBytes s → section_of s ≡ Ok x → canonical_section s ≡ true → All (KeepsUpid (loop_in s x)) (items_of (loop_in s x))
keeps_upids s x a e c = each_item s x a e c (keeps_upid (loop_in s x) (loop_short s x e))

-- ---- equal readings

pub one_loop : (s r : List ℕ) (x y : Section) → AllBytes s → AllBytes r → section_of s ≡ Ok x → section_of r ≡ Ok y → canonical_section s ≡ true → canonical_section r ≡ true
    → Pairs (SameItem (loop_in s x) (loop_in r y)) (items_of (loop_in s x)) (items_of (loop_in r y)) → loop_bytes s ≡ loop_bytes r
one_loop s r x y a b e f c d items =
    let l : loop_in s x ≡ loop_in r y =
    loop_one (loop_in s x) (loop_in r y) (all_viewed s x.descriptors a) (all_viewed r y.descriptors b) (loop_short s x e) (loop_short r y f)
    (here_canonical s x e a c) (here_canonical r y f b d) items in
    sym (loop_here s x e) ∙ l ∙ loop_here r y f

pub one_of_items : (s r : List ℕ) (x y : Section) → AllBytes s → AllBytes r → section_of s ≡ Ok x → section_of r ≡ Ok y → canonical_section s ≡ true → canonical_section r ≡ true
    → SameAround s r → Pairs (SameItem (loop_in s x) (loop_in r y)) (items_of (loop_in s x)) (items_of (loop_in r y)) → s ≡ r
one_of_items s r x y a b e f c d around items = section_one s r x y a b e f c d around (one_loop s r x y a b e f c d items)

-- ---- written of descriptors, then read

pub items_read : (gs : List Given) (bs : List (List ℕ)) (b : List ℕ) → All (λ (g : Given). Handed g.descriptor g.identifier g.beside g.lent) gs → Pairs (λ (g : Given) (b : List ℕ). given_made g ≡ made b) gs bs
    → (x : Section) → section_of b ≡ Ok x → loop_bytes b ≡ joined bs → Pairs (ItemBack (loop_bytes b)) (items_of (loop_bytes b)) gs
items_read gs bs b types m x e l =
    let fits : length (joined bs) ≤ 4076 = subst (λ (l : List ℕ). length l ≤ 4076) (loop_here b x e ∙ l) (loop_short b x e) in
    subst (λ (l : List ℕ). Pairs (ItemBack l) (items_of l) gs) (sym l) (loop_write_read gs bs types fits m).1
