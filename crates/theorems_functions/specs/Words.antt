-- What was written over C, read over C again: which words of the answers are those that were handed in. A view's place is another, its bytes are the same.
use Rattle.std.specs.Prelude.{ℕ, ◌≤◌, true, List, ◌≡◌, length, take, drop}
use Rattle.c_command_writer.specs.CommandWords.{insert_components_in, places_words}
use Rattle.c_command_writer.specs.Words.{word, same}
use Rattle.c_descriptor_writer.specs.ItemWords.{item_words, places_in, eidr_in}
use Rattle.c_items.specs.declared.beside.FlatBeside.{FlatBeside}
use Rattle.c_items.specs.declared.steps.FlatStep.{FlatStep}
use Rattle.c_section.specs.declared.FlatView.{FlatView}
use Rattle.c_section.specs.declared.components.FlatInsertComponents.{FlatInsertComponents}
use Rattle.theorems_c.specs.OverC.{pairs_words}
use Rattle.theorems_functions.specs.Flat.{taken}

-- ---- views: the last two words of a command, and of a step
abbrev pub command_view : List ℕ → FlatView
command_view command = record { at = word command 19; len = word command 20 }

abbrev pub item_view : List ℕ → FlatView
item_view step = record { at = word step 31; len = word step 32 }

-- the view v of the bytes s and the view w of the bytes r: as many bytes, which are all there, and the same
pub record SameBytes (s : List ℕ) (v : FlatView) (r : List ℕ) (w : FlatView) : Type 0 where
  pub size : v.len ≡ w.len
  pub whole : length (taken s v) ≡ v.len
  pub bytes : taken s v ≡ taken r w

-- ---- struct scte35_insert_components: as many as the command's word 9 says, and three words of each
pub record ComponentsAgain (command components : List ℕ) (f : FlatInsertComponents) : Type 0 where
  pub accepted : f.refusal ≡ 0
  pub counted : f.count ≡ word command 9
  pub there : f.count ≤ length f.components
  pub places : same (places_words (take f.count f.components)) (insert_components_in components) ≡ true

-- ---- struct scte35_step, of an item that ends at `end` of the loop: its identifier, the item's words up to its view, and this
pub record ItemAgain (step lent loop : List ℕ) (end : ℕ) (f : FlatStep) : Type 0 where
  pub accepted : f.refusal ≡ 0
  pub ends : f.next ≡ end
  pub identified : f.identifier ≡ word step 5
  pub words : same (take 25 (item_words f.item)) (drop 6 step) ≡ true
  pub view : SameBytes loop f.item.bytes lent (item_view step)

-- ---- struct scte35_segmentation_components: as many as the step's word 18 says, two words of each, and the EIDR's twelve
pub record BesideAgain (step beside : List ℕ) (f : FlatBeside) : Type 0 where
  pub accepted : f.refusal ≡ 0
  pub counted : f.count ≡ word step 18
  pub there : f.count ≤ length f.components
  pub places : same (pairs_words (take f.count f.components)) (places_in beside) ≡ true
  pub twelve : length f.eidr ≡ 12
  pub eidr : same f.eidr (eidr_in beside) ≡ true
