-- `c_command_writer::insert_components::components_from`: the first places stand in the array.
use Prim.Native.Nat.{◌*◌}
use mathlib.Core.List.{[]}
use mathlib.Core.Path.{ap, sym, ◌∙◌}
use native.Mathlib.Omega.{arith}
use lib.ListN.{length-set}
use lib.Seq.{drop-drop}
use Rattle.command.specs.Command.{array}
use Rattle.command.specs.Insert.{blank}
use Rattle.command.proofs.Filling.{blank_length}
use Rattle.c_section.proofs.Arrays.{filled_turn}
use Rattle.c_command_writer.specs.Words.{places_of}
use Rattle.c_command_writer.specs.CommandGiven.{component_from, components_from}
use Rattle.c_command_writer.specs.CommandWords.{insert_components_in}
use Rattle.c_command_writer.proofs.Words.{places_length, places_at}
use Rattle.c_command_writer.proofs.Components.{filled_array}
use Rattle.c_command_writer.proofs.insert_components.components_from.Goals as goal

pub loop-i-preserved : goal.loop-i-preserved
loop-i-preserved c =
    let a = c.args in
    let s = places_of component_from 3 a.count (insert_components_in a.words.now) in
    let p = drop-drop (c.loop-i.i * 3) 2 a.words.now in
    let e = c.component_from.ensures ∙ ap component_from (c.words_from.ensures ∙ sym p) ∙ places_at component_from 3 a.count (insert_components_in a.words.now) c.loop-i.i blank (omega arith) in
    (length-set c.loop-i.out c.loop-i.i _ ∙ c.loop-i.invariant.0, filled_turn (array []) s c.loop-i.out c.loop-i.i _ blank (omega (arith, blank_length)) (omega (arith, places_length component_from 3 a.count (insert_components_in a.words.now))) e c.loop-i.invariant.1)

pub returns : goal.returns
unfolding components_from
returns c =
    let a = c.args in
    filled_array c.loop-i.out (places_of component_from 3 a.count (insert_components_in a.words.now)) c.loop-i.i a.count (places_length component_from 3 a.count (insert_components_in a.words.now)) (omega arith) c.loop-i.invariant.1
