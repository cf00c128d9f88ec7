-- `c_command_writer::insert_components::is_own_component`, by tag and kind.
use mathlib.Core.Path.{ap, sym, ◌∙◌}
use native.Mathlib.Omega.{arith}
use Rattle.c_command_writer.proofs.Components.{own_wide, own_timed, own_none}
use Prim.Native.Nat.{ℕ}
use lib.Dec.{eqb}
use Rattle.c_command_writer.proofs.Components.{own_blank}
use Rattle.c_command_writer.proofs.insert_components.is_own_component.Goals as goal

pub returns-then-word_at-gt255 : goal.returns-then-word_at-gt255
returns-then-word_at-gt255 c = own_wide c.args.words.now (rw (← c.word_at.ensures) c.if-word_at-gt255.true)

pub returns-in-3 : goal.returns-in-3
returns-in-3 c = own_timed c.args.words.now (rw (← c.word_at.ensures) c.if-word_at-gt255.false) (sym c.word_at-2.ensures ∙ c.in-3.is)

pub returns-in-1 : goal.returns-in-1
returns-in-1 c =
    let a = c.args in
    let k = c.word_at-2.ensures in
    ap (λ (x : ℕ). eqb x 0) c.word_at-in-1.ensures ∙ own_blank a.words.now (rw (← c.word_at.ensures) c.if-word_at-gt255.false) (rw (← k) c.in-1.if-this-lt1-own.false) (rw (← k) c.in-1.if-this-lt3-own.true)

pub returns-in_default : goal.returns-in_default
returns-in_default c =
    let k = c.word_at-2.ensures in
    own_none c.args.words.now (rw (← c.word_at.ensures) c.if-word_at-gt255.false) (λ e. omega arith) (λ e. omega arith) (λ e. omega arith)

pub returns-in_default-2 : goal.returns-in_default-2
returns-in_default-2 c =
    let k = c.word_at-2.ensures in
    own_none c.args.words.now (rw (← c.word_at.ensures) c.if-word_at-gt255.false) (λ e. omega arith) (λ e. omega arith) (λ e. c.in_default.in_default-own.rest.1 (k ∙ e))
