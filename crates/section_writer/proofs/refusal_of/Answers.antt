-- `section_writer::refusal_of`, refusal by refusal.
use mathlib.Core.Path.{sym, ◌∙◌}
use native.Mathlib.Omega.{arith}
use borrow.Author.Tests.{not-true, not-false}
use Rattle.section_writer.proofs.Refusals.{outside, command_wide, header_wide, command_unwritable, header_unwritable, too_long, uncanonical, no_refusal}
use Rattle.section_writer.proofs.refusal_of.Goals as goal

pub returns-then-r-eq31 : goal.returns-then-r-eq31
returns-then-r-eq31 c =
    let a = c.args in
    outside a.header a.r a.size a.extent a.canonical c.if-r-eq31.true

pub returns-then-r-eq32 : goal.returns-then-r-eq32
returns-then-r-eq32 c =
    let a = c.args in
    command_wide a.header a.r a.size a.extent a.canonical c.if-r-eq32.true

pub returns-then-not-numbers_fit : goal.returns-then-not-numbers_fit
returns-then-not-numbers_fit c =
    let a = c.args in
    header_wide a.header a.r a.size a.extent a.canonical c.if-r-eq31.false c.if-r-eq32.false (sym (not-true _ c.if-not-numbers_fit.true-raw) ∙ c.numbers_fit.ensures)

pub returns-then-r-eq33 : goal.returns-then-r-eq33
returns-then-r-eq33 c =
    let a = c.args in
    command_unwritable a.header a.r a.size a.extent a.canonical c.if-r-eq31.false c.if-r-eq32.false (sym (not-false _ c.if-not-numbers_fit.false-raw) ∙ c.numbers_fit.ensures) c.if-r-eq33.true

pub returns-then-not-is_writable_head : goal.returns-then-not-is_writable_head
returns-then-not-is_writable_head c =
    let a = c.args in
    header_unwritable a.header a.r a.size a.extent a.canonical c.if-r-eq31.false c.if-r-eq32.false (sym (not-false _ c.if-not-numbers_fit.false-raw) ∙ c.numbers_fit.ensures) c.if-r-eq33.false (sym (not-true _ c.if-not-is_writable_head.true-raw) ∙ c.is_writable_head.ensures)

pub returns-then-size-gt-MAX_INSIDE : goal.returns-then-size-gt-MAX_INSIDE
returns-then-size-gt-MAX_INSIDE c =
    let a = c.args in
    too_long a.header a.r a.size a.extent a.canonical c.if-r-eq31.false c.if-r-eq32.false (sym (not-false _ c.if-not-numbers_fit.false-raw) ∙ c.numbers_fit.ensures) c.if-r-eq33.false (sym (not-false _ c.if-not-is_writable_head.false-raw) ∙ c.is_writable_head.ensures) (omega arith)

pub returns-then-size-extent : goal.returns-then-size-extent
returns-then-size-extent c =
    let a = c.args in
    too_long a.header a.r a.size a.extent a.canonical c.if-r-eq31.false c.if-r-eq32.false (sym (not-false _ c.if-not-numbers_fit.false-raw) ∙ c.numbers_fit.ensures) c.if-r-eq33.false (sym (not-false _ c.if-not-is_writable_head.false-raw) ∙ c.is_writable_head.ensures) (omega arith)

pub returns-then-not-canonical : goal.returns-then-not-canonical
returns-then-not-canonical c =
    let a = c.args in
    uncanonical a.header a.r a.size a.extent a.canonical c.if-r-eq31.false c.if-r-eq32.false (sym (not-false _ c.if-not-numbers_fit.false-raw) ∙ c.numbers_fit.ensures) c.if-r-eq33.false (sym (not-false _ c.if-not-is_writable_head.false-raw) ∙ c.is_writable_head.ensures) (omega arith) (not-true _ c.if-not-canonical.true-raw)

pub returns : goal.returns
returns c =
    let a = c.args in
    no_refusal a.header a.r a.size a.extent a.canonical c.if-r-eq31.false c.if-r-eq32.false (sym (not-false _ c.if-not-numbers_fit.false-raw) ∙ c.numbers_fit.ensures) c.if-r-eq33.false (sym (not-false _ c.if-not-is_writable_head.false-raw) ∙ c.is_writable_head.ensures) (omega arith) (not-false _ c.if-not-canonical.false-raw)
