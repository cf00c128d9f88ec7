-- `c_command_writer::commands::is_flat_behind`, four words at a time.
use Prim.Native.Nat.{ℕ}
use mathlib.Core.Bool.{Bool, true, ◌&&◌}
use mathlib.Core.List.{List, [], ◌∷◌}
use mathlib.Core.Path.{◌≡◌, ap, sym, ◌∙◌}
use lib.ListN.{drop}
use borrow.Author.Tests.{not-true, not-false}
use lib.Dec.{eqb}
use Rattle.c_section.specs.declared.commands.FlatCommand.{FlatCommand}
use Rattle.c_command_writer.specs.CommandWords.{command_words}
use Rattle.c_command_writer.specs.Words.{same}
use Rattle.c_command_writer.proofs.Words.{same_next, same_last}
use Rattle.c_command_writer.proofs.commands.is_flat_behind.Goals as goal

abbrev part_1 : FlatCommand → List ℕ
part_1 c = c.insert.mode.splice_time.ticks ∷ c.insert.mode.component_count ∷ c.insert.break_duration.duration_flag ∷ c.insert.break_duration.auto_return ∷ []

abbrev part_2 : FlatCommand → List ℕ
part_2 c = c.insert.break_duration.duration ∷ c.insert.unique_program_id ∷ c.insert.avail_num ∷ c.insert.avails_expected ∷ []

abbrev part_3 : FlatCommand → List ℕ
part_3 c = c.splice_time.kind ∷ c.splice_time.ticks ∷ c.identifier ∷ c.private_bytes.at ∷ []

by_fours : (c : FlatCommand) (words : List ℕ) → same (drop 8 (command_words c)) (drop 8 words) ≡ same (part_1 c) (drop 8 words) && (same (part_2 c) (drop 12 words) && (same (part_3 c) (drop 16 words) && same (c.private_bytes.len ∷ []) (drop 20 words)))
unfolding command_words
by_fours c words =
    same_next c.insert.mode.splice_time.ticks c.insert.mode.component_count c.insert.break_duration.duration_flag c.insert.break_duration.auto_return _ words 8 ∙ ap (λ (b : Bool). same (part_1 c) (drop 8 words) && b) (same_next c.insert.break_duration.duration c.insert.unique_program_id c.insert.avail_num c.insert.avails_expected _ words 12 ∙ ap (λ (b : Bool). same (part_2 c) (drop 12 words) && b) (same_next c.splice_time.kind c.splice_time.ticks c.identifier c.private_bytes.at _ words 16))

pub returns-then-not-are_four_same : goal.returns-then-not-are_four_same
returns-then-not-are_four_same c =
    let a = c.args in
    rw (by_fours a.c a.words.now, sym (c.are_four_same.ensures ∙ ap (same (part_1 a.c)) c.words_from.ensures) ∙ not-true _ c.if-not-are_four_same.true-raw)

pub returns-then-not-are_four_same-2 : goal.returns-then-not-are_four_same-2
returns-then-not-are_four_same-2 c =
    let passed_1 : let a = c.args in same (part_1 a.c) (drop 8 a.words.now) ≡ true = sym (c.are_four_same.ensures ∙ ap (same (part_1 c.args.c)) c.words_from.ensures) ∙ not-false _ c.if-not-are_four_same.false-raw in
    let a = c.args in
    rw (by_fours a.c a.words.now, passed_1, sym (c.are_four_same-2.ensures ∙ ap (same (part_2 a.c)) c.words_from-2.ensures) ∙ not-true _ c.if-not-are_four_same-2.true-raw)

pub returns-then-not-are_four_same-3 : goal.returns-then-not-are_four_same-3
returns-then-not-are_four_same-3 c =
    let passed_1 : let a = c.args in same (part_1 a.c) (drop 8 a.words.now) ≡ true = sym (c.are_four_same.ensures ∙ ap (same (part_1 c.args.c)) c.words_from.ensures) ∙ not-false _ c.if-not-are_four_same.false-raw in
    let passed_2 : let a = c.args in same (part_2 a.c) (drop 12 a.words.now) ≡ true = sym (c.are_four_same-2.ensures ∙ ap (same (part_2 c.args.c)) c.words_from-2.ensures) ∙ not-false _ c.if-not-are_four_same-2.false-raw in
    let a = c.args in
    rw (by_fours a.c a.words.now, passed_1, passed_2, sym (c.are_four_same-3.ensures ∙ ap (same (part_3 a.c)) c.words_from-3.ensures) ∙ not-true _ c.if-not-are_four_same-3.true-raw)

pub returns : goal.returns
returns c =
    let passed_1 : let a = c.args in same (part_1 a.c) (drop 8 a.words.now) ≡ true = sym (c.are_four_same.ensures ∙ ap (same (part_1 c.args.c)) c.words_from.ensures) ∙ not-false _ c.if-not-are_four_same.false-raw in
    let passed_2 : let a = c.args in same (part_2 a.c) (drop 12 a.words.now) ≡ true = sym (c.are_four_same-2.ensures ∙ ap (same (part_2 c.args.c)) c.words_from-2.ensures) ∙ not-false _ c.if-not-are_four_same-2.false-raw in
    let passed_3 : let a = c.args in same (part_3 a.c) (drop 16 a.words.now) ≡ true = sym (c.are_four_same-3.ensures ∙ ap (same (part_3 c.args.c)) c.words_from-3.ensures) ∙ not-false _ c.if-not-are_four_same-3.false-raw in
    let a = c.args in
    rw (by_fours a.c a.words.now, passed_1, passed_2, passed_3) (ap (λ (x : ℕ). eqb x a.c.private_bytes.len) c.word_at.ensures ∙ same_last a.c.private_bytes.len a.words.now 20)
