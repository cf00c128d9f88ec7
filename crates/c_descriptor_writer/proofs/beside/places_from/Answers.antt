-- `c_descriptor_writer::beside::places_from`: the first places stand in the array.
use Prim.Native.Nat.{◌*◌}
use mathlib.Core.Path.{ap, sym, ◌∙◌}
use native.Mathlib.Omega.{arith}
use lib.ListN.{replicate, length-replicate, length-set}
use lib.Seq.{paste-zero, drop-drop}
use Rattle.descriptor.specs.Segmentation.{blank_component}
use Rattle.descriptor.specs.Full.{filled, blank_beside}
use Rattle.descriptor.specs.declared.full.Beside.{Beside}
use Rattle.c_section.proofs.Arrays.{filled_turn}
use Rattle.c_command_writer.specs.Words.{places_of}
use Rattle.c_descriptor_writer.specs.ItemGiven.{place_from, places_from}
use Rattle.c_descriptor_writer.specs.ItemWords.{places_in}
use Rattle.c_command_writer.proofs.Words.{places_length, places_at, filled_front}
use Rattle.c_descriptor_writer.proofs.beside.places_from.Goals as goal

pub loop-i-init : goal.loop-i-init
unfolding blank_beside filled
loop-i-init c =
    let a = c.args in
    let e = ap (λ (b : Beside). b.components) c.blank_beside-blank.ensures in
    (rw e (length-replicate 255 blank_component), e ∙ paste-zero (replicate 255 blank_component) 0 (places_of place_from 2 a.count (places_in a.words.now)))

pub loop-i-preserved : goal.loop-i-preserved
loop-i-preserved c =
    let a = c.args in
    let p = drop-drop (c.loop-i.i * 2) 5 a.words.now in
    let e = c.place_from.ensures ∙ ap place_from (c.words_from.ensures ∙ sym p) ∙ places_at place_from 2 a.count (places_in a.words.now) c.loop-i.i blank_component (omega arith) in
    (length-set c.loop-i.out c.loop-i.i _ ∙ c.loop-i.invariant.0, filled_turn (replicate 255 blank_component) (places_of place_from 2 a.count (places_in a.words.now)) c.loop-i.out c.loop-i.i _ blank_component (omega (arith, length-replicate 255 blank_component)) (omega (arith, places_length place_from 2 a.count (places_in a.words.now))) e c.loop-i.invariant.1)

pub returns : goal.returns
unfolding places_from filled
returns c =
    let a = c.args in
    filled_front 255 blank_component c.loop-i.out (places_of place_from 2 a.count (places_in a.words.now)) c.loop-i.i a.count (places_length place_from 2 a.count (places_in a.words.now)) (omega arith) c.loop-i.invariant.1
