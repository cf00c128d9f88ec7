-- `c_descriptor_writer::beside::places_from`: the first places stand in the array.
use mathlib.Core.Path.{◌≡◌}
use lib.ListN.{length, replicate}
use lib.Seq.{paste}
use Rattle.descriptor.specs.Segmentation.{blank_component}
use Rattle.c_command_writer.specs.Words.{places_of}
use Rattle.c_descriptor_writer.specs.ItemGiven.{place_from}
use Rattle.c_descriptor_writer.specs.ItemWords.{places_in}
use Rattle.c_descriptor_writer.proofs.beside.places_from.Given as goal

abbrev pub invariant-loop-i : goal.invariant-loop-i
invariant-loop-i l = (length l.out ≡ 255) × (l.out ≡ paste (replicate 255 blank_component) 0 (places_of place_from 2 l.count (places_in l.words)) l.i)
