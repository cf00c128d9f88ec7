-- `c_command_writer::insert_components::own_insert_components`: all places, by their numbers.
use Rattle.std.proofs.Common.{ℕ, ◌+◌, ◌*◌, ◌∙◌, refl, drop, arith, rules, tests}
use Rattle.std.proofs.lemmas.Iterator.{YieldsList-from_range}
use Rattle.std.proofs.lemmas.Iterator.Search.{all_from_yields_List}
use Rattle.c_command_writer.specs.CommandGiven.{own_component, own_insert_components}
use Rattle.c_command_writer.proofs.Words.{all_places}
use Rattle.c_command_writer.proofs.insert_components.own_insert_components.Goals as goal

pub returns : goal.returns
unfolding own_insert_components
returns c =
    let a = c.args in
    all_from_yields_List (λ (i : ℕ). own_component (drop (2 + i * 3) a.words.now)) _ _ _ c.all.ensures.ran (YieldsList-from_range 0 a.count a.count refl (omega arith)) (λ x b q k. search (rules, tests)) ∙ all_places own_component 3 2 a.count 0 a.words.now
