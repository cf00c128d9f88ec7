-- The words of three structs of C: an insert's components, a step over a loop, and what stands beside an item.
use Rattle.std.specs.Prelude.{ℕ, ◌+◌, List, [], ◌∷◌, ◌++◌, take, drop}
use Rattle.command.specs.Command.{command_of, components_of}
use Rattle.c_section.specs.FlatCommand.{flat_insert_components}
use Rattle.c_section.specs.declared.components.FlatInsertComponents.{FlatInsertComponents}
use Rattle.c_descriptor_writer.specs.ItemGiven.{descriptor_words_made}
use Rattle.c_descriptor_writer.specs.ItemWords.{item_words}
use Rattle.c_items.specs.FlatItem.{flat_step, flat_beside}
use Rattle.c_items.specs.declared.beside.FlatBeside.{FlatBeside}
use Rattle.c_items.specs.declared.beside.FlatSegmentationComponent.{FlatSegmentationComponent}
use Rattle.c_items.specs.declared.steps.FlatStep.{FlatStep}
use Rattle.c_command_writer.specs.CommandWords.{places_words}
use Rattle.descriptor_loop.specs.Items.{reading_of, Listed}
use Rattle.section.specs.Section.{command_length}
use Rattle.table.specs.Writing.{Made}
use Rattle.theorems_reader.specs.Identifiers.{each}

-- struct scte35_insert_components: refusal, count, and three words of each component
abbrev pub insert_components_words : FlatInsertComponents → List ℕ
insert_components_words s = s.refusal ∷ s.count ∷ places_words s.components

-- what `scte35_read_insert_components` answers, at byte 14, of a section's bytes up to its command's end
abbrev pub components_answered : List ℕ → FlatInsertComponents
components_answered s =
    let payload : List ℕ = drop 14 (take (14 + command_length s) s) in
    flat_insert_components (command_of 0x05 payload) (components_of payload)

-- struct scte35_step: refusal, values, next, identifier, and the item
abbrev pub step_words : FlatStep → List ℕ
step_words s = s.refusal ∷ s.values ++ (s.next ∷ s.identifier ∷ item_words s.item)

-- struct scte35_segmentation_components: refusal, values, count, two words of each component, and the EIDR
abbrev pub pairs_words : List FlatSegmentationComponent → List ℕ
pairs_words cs = each (λ c. c.component_tag ∷ c.pts_offset ∷ []) cs

abbrev pub beside_words : FlatBeside → List ℕ
beside_words b = b.refusal ∷ b.values ++ (b.count ∷ pairs_words b.components ++ b.eidr)

-- what is written over C of an item of a loop: of the words of its step, and of those that stand beside it
abbrev pub words_made_at : List ℕ → Listed → Made
words_made_at loop y = descriptor_words_made (step_words (flat_step y.step)) (beside_words (flat_beside (reading_of loop y.offset))) loop
