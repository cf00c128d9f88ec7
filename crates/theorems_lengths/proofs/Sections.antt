-- A section that is read is written again, in no more bytes.
--     section_shorter    if none of its items is refused, and its insert, if it is one, has 127 in its reserved bits
--     only_such          and only then
--     canonical_such     as of every canonical section
use Prim.Native.Nat.{ℕ, ◌+◌, ◌≤◌}
use mathlib.Core.Bool.{Bool, true, false}
use mathlib.Core.List.{List, [], ◌∷◌}
use mathlib.Core.Path.{◌≡◌, refl, ap, sym, subst, ◌∙◌}
use native.Mathlib.Omega.{arith}
use lib.Dec.{eqb}
use lib.ListN.{length, length-append}
use borrow.Author.Tests.{eqb-true, le-leb}
use Rattle.command.specs.Command.{components_of, type_of}
use Rattle.command.specs.Writable.{unmixed, writable_insert}
use Rattle.command.specs.Insert.{insert}
use Rattle.command.specs.declared.SpliceCommand.{SpliceCommand}
use Rattle.command.specs.declared.components.InsertComponent.{InsertComponent}
use Rattle.command.specs.declared.insert.SpliceInsert.{SpliceInsert}
use Rattle.command_measure.specs.Made.{counted, times_fit, insert_made, command_made}
use Rattle.descriptor.specs.declared.Descriptor.{Descriptor}
use Rattle.descriptor_loop.proofs.Lists.{walked}
use Rattle.descriptor_loop.proofs.Places.{all_into}
use Rattle.descriptor_loop.specs.Cover.{joined, Follow, done, follows}
use Rattle.descriptor_loop.specs.Items.{reading_of, Listed, listed, items_of}
use Rattle.canonical_form.specs.Descriptor.{canonical_loop}
use Rattle.descriptor_round_trips.specs.Trips.{Handed}
use Rattle.loop_round_trips.proofs.Theorems.{loop_write_read}
use Rattle.canonical_form.specs.Same.{Given, Pairs, over, pair, ItemBack, SameItem}
use Rattle.loop_round_trips.specs.Loops.{given_made}
use Rattle.section.specs.Section.{command_bytes, loop_length, loop_place, section_of, section_length, loop_in}
use Rattle.section.specs.declared.Section.{Section}
use Rattle.section_writer.proofs.Frames.{length_frame}
use Rattle.canonical_form.specs.Section.{canonical_section}
use Rattle.section_writer.specs.Frame.{frame}
use Rattle.section_writer.specs.Writing.{section_made}
use Rattle.table.proofs.Lists.{zero_one, and_true}
use Rattle.table.proofs.Structure.{wrote}
use Rattle.table.specs.Bits.{pick, AllBytes}
use Rattle.table.specs.Writing.{walk, Made, made, refused, make}
use Rattle.table.specs.declared.View.{View}
use Rattle.theorems_writer.proofs.CommandsMade.{made_if_read}
use Rattle.theorems_reader.proofs.Framed.{laid}
use Rattle.theorems_writer.proofs.ItemsWritten.{all_viewed, items_read, loop_written}
use Rattle.theorems_reader.proofs.Runs.{length_run}
use Rattle.theorems_writer.proofs.SectionsMade.{section_reads_as}
use Rattle.theorems_reader.proofs.Sections.{each_item, loop_run, loop_short, items_cover}
use Rattle.theorems_writer.proofs.Writable.{can_be_written}
use Rattle.theorems_writer.proofs.WritableInserts.{every_command_written, places_255, count_byte}
use Rattle.theorems_writer.proofs.WritableSections.{made_around, header_fits, header_writable, section_written}
use Rattle.theorems_writer.proofs.WrittenBack.{section_back}
use Rattle.theorems_reader.specs.Identifiers.{in_section}
use Rattle.theorems_writer.specs.Making.{SectionBytes, CommandPayload}
use Rattle.upid.specs.Cover.{All, none, more}
use Rattle.theorems_lengths.specs.Lengths.{Readable, given_of, ItemAs, WrittenShorter}
use Rattle.theorems_lengths.proofs.Commands.{command_shorter}
use Rattle.theorems_lengths.proofs.Items.{bytes_both, item_shorter}
use Rattle.std.proofs.Common.{Ok, Some}

-- ---- one item

-- what is written of an item that is read as d
record One (loop : List ℕ) (y : Listed) (d : Descriptor) : Type 0 where
  handed : Handed d y.step.identifier (reading_of loop y.offset).beside loop
  bytes : List ℕ
  writes : given_made (given_of loop y d) ≡ made bytes
  are : AllBytes bytes
  item : ItemAs loop y bytes

abbrev Makes : List ℕ → Listed → Type 0
Makes loop y = (d : Descriptor) → y.step.item ≡ Some (Ok d) → One loop y d

makes_at : (loop : List ℕ) → AllBytes loop → (o : ℕ) → Makes loop (listed loop o)
unfolding reading_of
makes_at loop a o d e =
    let w = can_be_written loop a o d e in
    let i = item_shorter loop a o d e w.bytes w.writes in
    record {
      handed = w.handed;
      bytes = w.bytes;
      writes = w.writes;
      are = i.0;
      item = record { descriptor = d; is = e; writes = w.writes; form = w.form; shorter = omega (arith, i.1) };
    }

-- ---- all of them

-- g is what the writer is handed of the item y
abbrev Gives : List ℕ → Listed → Given → Type 0
Gives loop y g = (d : Descriptor) × (y.step.item ≡ Some (Ok d)) × (g ≡ given_of loop y d)

record Rewrote (loop : List ℕ) (ys : List Listed) : Type 0 where
  given : List Given
  pieces : List (List ℕ)
  gives : Pairs (Gives loop) ys given
  types : All (λ (g : Given). Handed g.descriptor g.identifier g.beside g.lent) given
  makes : Pairs (λ (g : Given) (b : List ℕ). given_made g ≡ made b) given pieces
  items : Pairs (ItemAs loop) ys pieces
  are : AllBytes (joined pieces)
  size : (at end : ℕ) → Follow at end ys → at + length (joined pieces) ≤ end

follow_none : (at end : ℕ) → Follow at end [] → at ≤ end
follow_none at end done = omega arith

follow_more : {y : Listed} {ys : List Listed} (at end : ℕ) → Follow at end (y ∷ ys) → Follow (at + y.used) end ys
follow_more at end (follows e f) = f

rewrote : (loop : List ℕ) {ys : List Listed} → All (Makes loop) ys → All Readable ys → Rewrote loop ys
unfolding joined
rewrote loop none none =
    record { given = []; pieces = []; gives = over; types = none; makes = over; items = over; are = tt; size = λ at end f. omega (arith, follow_none at end f) }
rewrote loop (more {x = y} m ms) (more r rs) =
    let o = m r.descriptor r.is in
    let t = rewrote loop ms rs in
    record {
      given = given_of loop y r.descriptor ∷ t.given;
      pieces = o.bytes ∷ t.pieces;
      gives = pair (r.descriptor, r.is, refl) t.gives;
      types = more o.handed t.types;
      makes = pair o.writes t.makes;
      items = pair o.item t.items;
      are = bytes_both o.bytes (joined t.pieces) o.are t.are;
      size = λ at end f. omega (arith, length-append o.bytes (joined t.pieces), o.item.shorter, t.size (at + y.used) end (follow_more at end f));
    }

-- items that are read as what was handed in, which other items gave
same_items : {new loop : List ℕ} {xs ys : List Listed} {gs : List Given} → Pairs (ItemBack new) xs gs → Pairs (Gives loop) ys gs → Pairs (SameItem new loop) xs ys
same_items over over = over
same_items {new} (pair {x = x} b bs) (pair g gs) = pair (record { that = g.0; is = g.1; back = subst (ItemBack new x) g.2 b }) (same_items bs gs)

-- ---- the section

made_one : (b c : List ℕ) → made b ≡ made c → b ≡ c
made_one b c e = cc

module _ (s : List ℕ) (x : Section) (a : AllBytes s) (e : section_of s ≡ Ok x) where
  abbrev loop : List ℕ
  loop = loop_in s x

  abbrev command : Made
  command = command_made x.command (components_of (command_bytes s)) s

  abbrev upid_type_number : ℕ
  upid_type_number = type_of x.command

  loop_length_lem : length loop ≡ loop_length s
  unfolding loop_place
  loop_length_lem = length_run s (in_section s x.descriptors) (loop_run s x e) ∙ ap (λ (v : View). v.len) (laid s x e).place

  all_made : All (Makes loop) (items_of loop)
  all_made = each_item (λ o inside. makes_at loop (all_viewed s x.descriptors a) o) (walked loop (loop_short s x e))

  module _ (h : (i : SpliceInsert) → x.command ≡ SpliceCommand.SpliceInsert i → i.reserved ≡ 127) (r : Rewrote loop (items_of loop)) where
    abbrev new : List ℕ
    new = joined r.pieces

    small : length new ≤ length loop
    small = omega (arith, r.size 0 (length loop) (items_cover s x e).follow)

    canonical : canonical_loop new ≡ true
    canonical = (loop_write_read r.given r.pieces r.types (omega (arith, small, loop_short s x e)) r.makes).0

    fits : (p : List ℕ) → command ≡ made p → section_length (length p) (length new) ≤ length s
    fits p w = omega (arith, command_shorter s x e p w, small, loop_length_lem, (laid s x e).fits)

    no_longer : (b : List ℕ) → section_made x.header command upid_type_number new ≡ made b → length b ≤ length s
    no_longer b m =
        let c = every_command_written s x a e h in
        let p : List ℕ = c.0 in
        let f : section_made x.header command upid_type_number new ≡ made (frame x.header upid_type_number p new) =
        ap (λ (n : Made). section_made x.header n upid_type_number new) c.1
        ∙ made_around x.header p upid_type_number new (header_fits s x a e) (header_writable s x a e) canonical (omega (arith, fits p c.1, (laid s x e).short)) in
        let z : b ≡ frame x.header upid_type_number p new = made_one b (frame x.header upid_type_number p new) (sym m ∙ f) in
        omega (arith, ap length z, length_frame x.header upid_type_number p new, fits p c.1)

    shorter_by : (b : List ℕ) → section_made x.header command upid_type_number new ≡ made b → SectionBytes x.header x.command (components_of (command_bytes s)) s new b → WrittenShorter s x
    shorter_by b m w = record {
      pieces = r.pieces;
      items = r.items;
      bytes = b;
      writes = m;
      around = w;
      back = same_items (items_read r.given r.pieces b r.types r.makes w.header.reading w.header.reads w.loops) r.gives;
      shorter = omega (arith, no_longer b m);
    }

    rewritten : WrittenShorter s x
    rewritten =
        let w = section_written s x a e h new r.are canonical (λ p m. omega (arith, fits p m, (laid s x e).short)) in
        shorter_by w.0 w.1 w.2

  pub section_shorter : ((i : SpliceInsert) → x.command ≡ SpliceCommand.SpliceInsert i → i.reserved ≡ 127) → All Readable (items_of loop) → WrittenShorter s x
  section_shorter h readable = rewritten h (rewrote loop all_made readable)

-- ---- and no other

all_readable : {loop : List ℕ} {ys : List Listed} {bs : List (List ℕ)} → Pairs (ItemAs loop) ys bs → All Readable ys
all_readable over = none
all_readable (pair i is) = more (record { descriptor = i.descriptor; is = i.is }) (all_readable is)

insert_writable : (i : SpliceInsert) (places : List InsertComponent) (lent p : List ℕ) → command_made (SpliceCommand.SpliceInsert i) places lent ≡ made p → i.reserved ≡ 127
unfolding command_made insert_made writable_insert
insert_writable i places lent p e = go (times_fit (counted i places).components) e
  where
    go : (b : Bool) → pick b (make insert (writable_insert (counted i places)) [] (counted i places)) (refused 32) ≡ made p → i.reserved ≡ 127
    go true f =
        let w = wrote (writable_insert (counted i places)) [] (walk insert (counted i places) 0).fields p f in
        eqb-true i.reserved 127 (and_true (eqb i.reserved 127) (unmixed (counted i places).components) w.fit).0
    go false f = zero_one cc

-- a command of which a canonical payload is written
has_127 : (c : SpliceCommand) (places : List InsertComponent) (s p : List ℕ) → CommandPayload c places s p → (i : SpliceInsert) → c ≡ SpliceCommand.SpliceInsert i → i.reserved ≡ 127
has_127 c places s p q i e =
    let r : CommandPayload (SpliceCommand.SpliceInsert i) places s p = subst (λ (d : SpliceCommand). CommandPayload d places s p) e q in
    insert_writable i places s p (made_if_read (SpliceCommand.SpliceInsert i) places s p (le-leb 0 (length s) (omega arith)) r)

pub only_such : (s : List ℕ) (x : Section) → WrittenShorter s x → ((i : SpliceInsert) → x.command ≡ SpliceCommand.SpliceInsert i → i.reserved ≡ 127) × All Readable (items_of (loop_in s x))
only_such s x w = (has_127 x.command (components_of (command_bytes s)) s (command_bytes w.bytes) w.around.command, all_readable w.items)

-- a canonical section is such
pub canonical_such : (s : List ℕ) (x : Section) → AllBytes s → section_of s ≡ Ok x → canonical_section s ≡ true
    → ((i : SpliceInsert) → x.command ≡ SpliceCommand.SpliceInsert i → i.reserved ≡ 127) × All Readable (items_of (loop_in s x))
canonical_such s x a e c =
    let b = section_reads_as x.header x.command (components_of (command_bytes s)) s (loop_in s x) (places_255 (command_bytes s)) (count_byte s x a e) a (all_viewed s x.descriptors a) s (section_back s x a e c) in (
      has_127 x.command (components_of (command_bytes s)) s (command_bytes s) b.command,
      all_into (λ y w. record { descriptor = w.descriptor; is = w.is }) (loop_written s x e a c).0,
    )
