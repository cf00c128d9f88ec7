-- `c_command_writer::are_within`: all words beside their places.
use Rattle.std.proofs.Common.{ℕ, ◌^◌, ◌∙◌, rules, tests}
use Rattle.std.proofs.lemmas.Iterator.{YieldsList-from_slice}
use Rattle.std.proofs.lemmas.Iterator.Consumers.{YieldsList-from_enumerate}
use Rattle.std.proofs.lemmas.Iterator.Search.{all_from_yields_List}
use lib.Dec.{ltb}
use lib.ListN.{get_or}
use Rattle.c_command_writer.proofs.Words.{all_within}
use Rattle.c_command_writer.proofs.are_within.Goals as goal

pub returns : goal.returns
returns c =
    let a = c.args in
    all_from_yields_List (λ (p : ℕ × ℕ). ltb (get_or a.words.now p.0 0) (2 ^ p.1)) _ _ _ c.all.ensures.ran (YieldsList-from_enumerate (YieldsList-from_slice a.widths.now cc) cc) (λ x b q k. search (rules, tests))
    ∙ all_within a.widths.now a.words.now 0
