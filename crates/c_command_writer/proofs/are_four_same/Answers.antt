-- `c_command_writer::are_four_same`, word by word.
use mathlib.Core.Bool.{true}
use mathlib.Core.Path.{◌≡◌}
use lib.Dec.{eqb}
use lib.ListN.{get_or}
use borrow.Author.Tests.{eq-eqb, ne_eqb}
use Rattle.c_command_writer.proofs.Words.{and_unit, same_four}
use Rattle.c_command_writer.proofs.are_four_same.Goals as goal

pub returns-then-words-a : goal.returns-then-words-a
returns-then-words-a c =
    let a = c.args in
    rw (same_four a.a a.b a.c a.d a.words.now, ne_eqb _ _ c.if-words-a.true)

pub returns-then-words-b : goal.returns-then-words-b
returns-then-words-b c =
    let is_1 : let a = c.args in eqb (get_or a.words.now 0 0) a.a ≡ true = eq-eqb _ _ c.if-words-a.false in
    let a = c.args in
    rw (same_four a.a a.b a.c a.d a.words.now, is_1, ne_eqb _ _ c.if-words-b.true)

pub returns-then-words-c : goal.returns-then-words-c
returns-then-words-c c =
    let is_1 : let a = c.args in eqb (get_or a.words.now 0 0) a.a ≡ true = eq-eqb _ _ c.if-words-a.false in
    let is_2 : let a = c.args in eqb (get_or a.words.now 1 0) a.b ≡ true = eq-eqb _ _ c.if-words-b.false in
    let a = c.args in
    rw (same_four a.a a.b a.c a.d a.words.now, is_1, is_2, ne_eqb _ _ c.if-words-c.true)

pub returns : goal.returns
returns c =
    let is_1 : let a = c.args in eqb (get_or a.words.now 0 0) a.a ≡ true = eq-eqb _ _ c.if-words-a.false in
    let is_2 : let a = c.args in eqb (get_or a.words.now 1 0) a.b ≡ true = eq-eqb _ _ c.if-words-b.false in
    let is_3 : let a = c.args in eqb (get_or a.words.now 2 0) a.c ≡ true = eq-eqb _ _ c.if-words-c.false in
    let a = c.args in
    rw (same_four a.a a.b a.c a.d a.words.now, is_1, is_2, is_3) (and_unit _)
