-- What is written of the words of a value's flat form is what is written of the value.
use Prim.Native.Nat.{ℕ, zero, suc, ◌^◌, ◌<◌, ◌≤◌}
use mathlib.Core.Bool.{Bool, true, false}
use mathlib.Core.List.{List, [], ◌∷◌, ◌++◌, map}
use mathlib.Core.Path.{◌≡◌, refl, ap, sym, ◌∙◌}
use native.Mathlib.Omega.{arith}
use lib.Dec.{ltb}
use lib.ListN.{length, take}
use lib.Seq.{length-take-le}
use borrow.Author.Tests.{ltb-false, eq-eqb}
use Rattle.command.specs.Command.{array, count_in}
use Rattle.command.specs.declared.SpliceCommand.{SpliceCommand}
use Rattle.command.specs.declared.components.InsertComponent.{InsertComponent}
use Rattle.command_measure.specs.Made.{insert_made, command_made}
use Rattle.c_section.specs.Flat.{flat_header}
use Rattle.c_section.specs.FlatCommand.{flat_command, flat_component, flat_insert_components}
use Rattle.c_section_writer.proofs.Answers as section
use Rattle.c_section_writer.specs.SectionGiven.{section_words_made}
use Rattle.c_section_writer.specs.SectionWords as section_words
use Rattle.c_section_writer.specs.SectionWords.{header_words}
use Rattle.c_command_writer.proofs.Answers as command
use Rattle.command.proofs.Arrays.{array_take}
use Rattle.c_command_writer.proofs.Given.{same_append}
use Rattle.c_command_writer.specs.CommandGiven.{command_words_made}
use Rattle.c_command_writer.specs.CommandWords as command_words_lem
use Rattle.c_command_writer.specs.CommandWords.{command_words, component_words, places_words, CommandIs}
use Rattle.c_command_writer.specs.Words.{same, refusal_of, no_less}
use Rattle.header.specs.declared.header.SpliceInfoHeader.{SpliceInfoHeader}
use Rattle.names.specs.Algorithm.{writable_algorithm}
use Rattle.section_writer.specs.Writing.{section_made, type_of}
use Rattle.table.specs.Bits.{pick}
use Rattle.table.specs.Table.{flag_number}
use Rattle.table.specs.Writing.{Made, made, refused}
use Rattle.theorems_c.specs.OverC.{insert_components_words}
use Rattle.std.proofs.Common.{Ok}

-- ---- words that are a value's own are not refused for themselves
pub same_self : (words : List ℕ) → same words words ≡ true
unfolding same
same_self [] = refl
same_self (x ∷ words) = rw (eq-eqb x x refl) (same_self words)

-- the value itself is refused with 31 or 32
abbrev pub Wide : Made → Type 0
Wide (made b) = ⊥
Wide (refused n) = (31 ≤ n) × (n ≤ 32)

lowest_is : (n : ℕ) → n ≤ 32 → pick (ltb n 32) n 32 ≡ n
lowest_is n h = go (ltb n 32) refl
  where
    go : (b : Bool) → ltb n 32 ≡ b → pick b n 32 ≡ n
    go true e = refl
    go false e = omega (arith, ltb-false n 32 e)

-- their own refusal can be 32 alone, and that of the value is then no higher
pub taken : (fits own : Bool) (m : Made) → own ≡ true → (fits ≡ false → Wide m) → no_less (refusal_of fits own) m ≡ m
unfolding no_less
taken fits own m e w = rw e (go fits m w)
  where
    go : (fits : Bool) (m : Made) → (fits ≡ false → Wide m) → no_less (refusal_of fits true) m ≡ m
    go true m w = refl
    go false (made b) w = absurd (w refl)
    go false (refused n) w = ap refused (lowest_is n (w refl).1)

pub flag_within : (b : Bool) → ltb (flag_number b) 2 ≡ true
flag_within true = refl
flag_within false = refl

-- ---- the words of components, in an array of which a command counts the first
same_front : (own words : List ℕ) → same own (own ++ words) ≡ true
unfolding same
same_front [] words = refl
same_front (x ∷ own) words = rw (eq-eqb x x refl) (same_front own words)

places_front : (n : ℕ) (cs : List InsertComponent) → same (places_words (map flat_component (take n cs))) (places_words (map flat_component cs)) ≡ true
unfolding same component_words
places_front zero cs = refl
places_front (suc n) [] = refl
places_front (suc n) (c ∷ cs) =
    let own = component_words (flat_component c) in
    let words = places_words (map flat_component cs) in
    same_append own (places_words (map flat_component (take n cs))) (own ++ words) ∙ rw (same_front own words) (places_front n cs)

module _ (places : List InsertComponent) (lent : List ℕ) (short : length lent < 2 ^ 64) (c : SpliceCommand) (there : count_in c ≤ length places) where
  abbrev beside : List ℕ
  beside = insert_components_words (flat_insert_components (Ok c) places)

  own_words : CommandIs (command_words (flat_command c)) beside c (take (count_in c) places)
  unfolding flat_insert_components
  own_words = record { own = same_self (command_words (flat_command c)); counts = length-take-le (count_in c) places there; places = places_front (count_in c) places }

  -- the components that a command counts are all that is looked at
  same_made : (c : SpliceCommand) (others : List InsertComponent) → take (count_in c) others ≡ take (count_in c) places → command_made c others lent ≡ command_made c places lent
  unfolding command_made
  same_made SpliceCommand.SpliceNull others e = refl
  same_made (SpliceCommand.SpliceInsert x) others e = ap (λ (cs : List InsertComponent). insert_made (record { value = x; components = cs })) e
  same_made (SpliceCommand.TimeSignal t) others e = refl
  same_made SpliceCommand.BandwidthReservation others e = refl
  same_made (SpliceCommand.PrivateCommand p) others e = refl

  counted_made : command_made c (array (take (count_in c) places)) lent ≡ command_made c places lent
  counted_made = same_made c (array (take (count_in c) places)) (array_take (take (count_in c) places) (count_in c) (length-take-le (count_in c) places there))

  pub command_taken : command_words_made (command_words (flat_command c)) beside lent ≡ command_made c places lent
  command_taken = sym (command.answer_is (command_words (flat_command c)) beside lent short _ (command_words_lem.its c (take (count_in c) places) own_words)) ∙ counted_made

  pub section_taken : (h : SpliceInfoHeader) → writable_algorithm h.encryption_algorithm ≡ true → (loop : List ℕ)
      → section_words_made (header_words (flat_header h)) (command_words (flat_command c)) beside lent loop ≡ section_made h (command_made c places lent) (type_of c) loop
  section_taken h writable loop =
      sym (section.answer_is (header_words (flat_header h)) (command_words (flat_command c)) beside lent loop short _
      (section_words.its h c (take (count_in c) places) (record { own = same_self (header_words (flat_header h)); writable = writable }) own_words))
      ∙ ap (λ (m : Made). section_made h m (type_of c) loop) counted_made
