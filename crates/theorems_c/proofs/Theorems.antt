-- What is proved over the C boundary, over the definitions. A reader needs specs/OverC.antt and the definitions of `c_command_writer`, `c_section_writer` and `c_descriptor_writer`.
-- The proofs stand in the other files of this folder.
use Prim.Native.Nat.{ℕ, ◌^◌, ◌<◌}
use mathlib.Core.Bool.{true}
use mathlib.Core.List.{List}
use mathlib.Core.Path.{◌≡◌}
use lib.ListN.{length}
use Rattle.c_section.specs.FlatSection.{flat_section_read}
use Rattle.c_descriptor_writer.proofs.Answered as answered
use Rattle.c_descriptor_writer.specs.ItemGiven.{descriptor_words_made}
use Rattle.c_descriptor_writer.specs.ItemWords.{item_fits, DescriptorIs, DescriptorAnswer}
use Rattle.c_section_writer.proofs.Answers as section_answers
use Rattle.c_section_writer.specs.SectionGiven.{section_words_made}
use Rattle.c_section_writer.specs.SectionWords.{header_words, SectionAnswer}
use Rattle.c_command_writer.proofs.Answers as command_answers
use Rattle.c_command_writer.specs.CommandGiven.{command_words_made}
use Rattle.c_command_writer.specs.CommandWords.{command_words, places_given, CommandAnswer}
use Rattle.descriptor.specs.declared.Descriptor.{Descriptor}
use Rattle.descriptor.specs.declared.full.Beside.{Beside}
use Rattle.descriptor_loop.specs.Cover.{run_of}
use Rattle.descriptor_loop.specs.Items.{items_of}
use Rattle.descriptor_round_trips.specs.Trips.{Handed}
use Rattle.section.specs.Section.{section_of, loop_in}
use Rattle.section.specs.declared.Section.{Section}
use Rattle.canonical_form.specs.Section.{canonical_section}
use Rattle.table.specs.Bits.{AllBytes}
use Rattle.table.specs.Writing.{Made, made}
use Rattle.upid.specs.Cover.{All}
use Rattle.theorems_c.specs.OverC.{components_answered, insert_components_words, words_made_at}
use Rattle.theorems_c.proofs.HandedOverC as handed_over_c
use Rattle.theorems_c.proofs.LoopsOverC as loops_over_c
use Rattle.theorems_c.proofs.SectionsOverC as sections_over_c
use Rattle.std.proofs.Common.{Ok}

-- ---- over the C boundary

-- What the writers over C answer, of whatever words: what `CommandAnswer` and `SectionAnswer` say (c_command_writer/specs/CommandWords.antt,
-- c_section_writer/specs/SectionWords.antt), and no other answer is such. So the words of a value's flat form, as a reader over C
-- answers them, are written as the value is written, or refused with the same number; those of a refusal are 33. (A slice has fewer than 2 ^ 64 bytes.)
pub command_words_are_answered : (words components lent : List ℕ) → CommandAnswer words components lent (command_words_made words components lent)
command_words_are_answered = command_answers.answered

pub command_answers_are_one : (words components lent : List ℕ) → length lent < 2 ^ 64 → (m n : Made) → CommandAnswer words components lent m → CommandAnswer words components lent n → m ≡ n
command_answers_are_one = command_answers.one_answer

pub section_words_are_answered : (header command components lent loop : List ℕ) → SectionAnswer header command components lent loop (section_words_made header command components lent loop)
section_words_are_answered = section_answers.answered

pub section_answers_are_one : (header command components lent loop : List ℕ) → length lent < 2 ^ 64 → (m n : Made)
    → SectionAnswer header command components lent loop m → SectionAnswer header command components lent loop n → m ≡ n
section_answers_are_one = section_answers.one_answer

-- Demand 2 over C: writing the words that are read of a canonical section gives its bytes: its header's and its command's, as `scte35_read_section` answers them
-- (without the header's last two, the command's length and type, which are not looked at), those of its components, as `scte35_read_insert_components` answers them, and its loop as it stands in the section
pub a_canonical_section_is_what_is_written_of_its_words : (s : List ℕ) (x : Section) → AllBytes s → section_of s ≡ Ok x → canonical_section s ≡ true
    → section_words_made (header_words (flat_section_read (section_of s)).header) (command_words (flat_section_read (section_of s)).command)
    (insert_components_words (components_answered s)) s (loop_in s x) ≡ made s
a_canonical_section_is_what_is_written_of_its_words = sections_over_c.section_again

-- (The words of components matter for a command that counts some, an insert by components.)
pub uncounted_components_are_not_looked_at : (header command v w lent loop : List ℕ) → places_given command ≡ 0
    → section_words_made header command v lent loop ≡ section_words_made header command w lent loop
uncounted_components_are_not_looked_at = sections_over_c.uncounted

-- What is made of the words of any step, with those of what stands beside it: 31 where its view lies outside, 32 where a word is over its field, 33 where the words are no
-- descriptor's, and else what is made of the descriptor that they are (`DescriptorAnswer`, c_descriptor_writer/specs/ItemWords.antt)
pub descriptor_words_are_answered : (words beside lent : List ℕ) → DescriptorAnswer words beside lent (descriptor_words_made words beside lent)
descriptor_words_are_answered = answered.descriptor_words_are_answered

-- and that leaves one answer
pub descriptor_answers_are_one : (words beside lent : List ℕ) (m n : Made) → DescriptorAnswer words beside lent m → DescriptorAnswer words beside lent n → m ≡ n
descriptor_answers_are_one words beside lent m n = answered.descriptor_answers_are_one words beside lent

-- The value that words make is of its types, so that what is proved of a descriptor that is handed in (`Handed`) holds of it: 33 where no canonical payload reads as it, and else that payload
pub the_value_that_words_make_is_handed : (words beside lent : List ℕ) (d : Descriptor) (identifier : List ℕ) (b : Beside) → AllBytes lent → item_fits words beside ≡ true
    → DescriptorIs words beside d identifier b → Handed d identifier b lent
the_value_that_words_make_is_handed = handed_over_c.words_handed

-- and by items: each item of a canonical section is written of its words as its own bytes, which joined are its loop (`a_canonical_section_is_what_is_written_of_its_items`)
pub the_items_of_a_canonical_section_are_written_of_their_words : (s : List ℕ) (x : Section) → AllBytes s → section_of s ≡ Ok x → canonical_section s ≡ true
    → All (λ y. words_made_at (loop_in s x) y ≡ made (run_of (loop_in s x) y)) (items_of (loop_in s x))
the_items_of_a_canonical_section_are_written_of_their_words = loops_over_c.items_again
