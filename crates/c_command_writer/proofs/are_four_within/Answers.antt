-- `c_command_writer::are_four_within`, word by word.
use Prim.Native.Nat.{◌^◌}
use mathlib.Core.Bool.{true}
use mathlib.Core.Path.{◌≡◌, sym, ◌∙◌}
use lib.Dec.{ltb}
use lib.ListN.{get_or}
use borrow.Author.Tests.{not-true, not-false}
use Rattle.c_command_writer.proofs.Words.{and_unit, within_four}
use Rattle.c_command_writer.proofs.are_four_within.Goals as goal

pub returns-then-not-is_within : goal.returns-then-not-is_within
returns-then-not-is_within c =
    let a = c.args in
    rw (within_four a.a a.b a.c a.d a.words.now, sym c.is_within.ensures ∙ not-true _ c.if-not-is_within.true-raw)

pub returns-then-not-is_within-2 : goal.returns-then-not-is_within-2
returns-then-not-is_within-2 c =
    let fits_1 : let a = c.args in ltb (get_or a.words.now 0 0) (2 ^ a.a) ≡ true = sym c.is_within.ensures ∙ not-false _ c.if-not-is_within.false-raw in
    let a = c.args in
    rw (within_four a.a a.b a.c a.d a.words.now, fits_1, sym c.is_within-2.ensures ∙ not-true _ c.if-not-is_within-2.true-raw)

pub returns-then-not-is_within-3 : goal.returns-then-not-is_within-3
returns-then-not-is_within-3 c =
    let fits_1 : let a = c.args in ltb (get_or a.words.now 0 0) (2 ^ a.a) ≡ true = sym c.is_within.ensures ∙ not-false _ c.if-not-is_within.false-raw in
    let fits_2 : let a = c.args in ltb (get_or a.words.now 1 0) (2 ^ a.b) ≡ true = sym c.is_within-2.ensures ∙ not-false _ c.if-not-is_within-2.false-raw in
    let a = c.args in
    rw (within_four a.a a.b a.c a.d a.words.now, fits_1, fits_2, sym c.is_within-3.ensures ∙ not-true _ c.if-not-is_within-3.true-raw)

pub returns : goal.returns
returns c =
    let fits_1 : let a = c.args in ltb (get_or a.words.now 0 0) (2 ^ a.a) ≡ true = sym c.is_within.ensures ∙ not-false _ c.if-not-is_within.false-raw in
    let fits_2 : let a = c.args in ltb (get_or a.words.now 1 0) (2 ^ a.b) ≡ true = sym c.is_within-2.ensures ∙ not-false _ c.if-not-is_within-2.false-raw in
    let fits_3 : let a = c.args in ltb (get_or a.words.now 2 0) (2 ^ a.c) ≡ true = sym c.is_within-3.ensures ∙ not-false _ c.if-not-is_within-3.false-raw in
    let a = c.args in
    rw (within_four a.a a.b a.c a.d a.words.now, fits_1, fits_2, fits_3) (c.is_within-4.ensures ∙ and_unit _)
