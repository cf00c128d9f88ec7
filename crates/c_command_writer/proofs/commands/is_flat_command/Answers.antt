-- `c_command_writer::commands::is_flat_command`, four words at a time.
use Prim.Native.Nat.{ℕ}
use mathlib.Core.Bool.{Bool, true, ◌&&◌}
use mathlib.Core.List.{List, [], ◌∷◌}
use mathlib.Core.Path.{◌≡◌, ap, sym, ◌∙◌}
use lib.ListN.{drop}
use borrow.Author.Tests.{not-true, not-false}
use Rattle.c_section.specs.declared.commands.FlatCommand.{FlatCommand}
use Rattle.c_command_writer.specs.CommandWords.{command_words}
use Rattle.c_command_writer.specs.Words.{same}
use Rattle.c_command_writer.proofs.Words.{same_next}
use Rattle.c_command_writer.proofs.commands.is_flat_command.Goals as goal

abbrev part_1 : FlatCommand → List ℕ
part_1 c = c.refusal ∷ c.splice_command_type ∷ c.insert.splice_event_id ∷ c.insert.splice_event_cancel_indicator ∷ []

abbrev part_2 : FlatCommand → List ℕ
part_2 c = c.insert.reserved ∷ c.insert.out_of_network_indicator ∷ c.insert.mode.program_splice_flag ∷ c.insert.mode.splice_time.kind ∷ []

by_fours : (c : FlatCommand) (words : List ℕ) → same (command_words c) words ≡ same (part_1 c) words && (same (part_2 c) (drop 4 words) && same (drop 8 (command_words c)) (drop 8 words))
unfolding command_words
by_fours c words =
    same_next c.refusal c.splice_command_type c.insert.splice_event_id c.insert.splice_event_cancel_indicator _ words 0 ∙ ap (λ (b : Bool). same (part_1 c) words && b) (same_next c.insert.reserved c.insert.out_of_network_indicator c.insert.mode.program_splice_flag c.insert.mode.splice_time.kind _ words 4)

pub returns-then-not-are_four_same : goal.returns-then-not-are_four_same
returns-then-not-are_four_same c =
    let a = c.args in
    rw (by_fours a.c a.words.now, sym c.are_four_same.ensures ∙ not-true _ c.if-not-are_four_same.true-raw)

pub returns-then-not-are_four_same-2 : goal.returns-then-not-are_four_same-2
returns-then-not-are_four_same-2 c =
    let passed_1 : let a = c.args in same (part_1 a.c) a.words.now ≡ true = sym c.are_four_same.ensures ∙ not-false _ c.if-not-are_four_same.false-raw in
    let a = c.args in
    rw (by_fours a.c a.words.now, passed_1, sym (c.are_four_same-2.ensures ∙ ap (same (part_2 a.c)) c.words_from.ensures) ∙ not-true _ c.if-not-are_four_same-2.true-raw)

pub returns : goal.returns
returns c =
    let passed_1 : let a = c.args in same (part_1 a.c) a.words.now ≡ true = sym c.are_four_same.ensures ∙ not-false _ c.if-not-are_four_same.false-raw in
    let passed_2 : let a = c.args in same (part_2 a.c) (drop 4 a.words.now) ≡ true = sym (c.are_four_same-2.ensures ∙ ap (same (part_2 c.args.c)) c.words_from.ensures) ∙ not-false _ c.if-not-are_four_same-2.false-raw in
    let a = c.args in
    rw (by_fours a.c a.words.now, passed_1, passed_2) c.is_flat_behind.ensures
