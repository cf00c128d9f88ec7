-- `section::test_frame`, refusal by refusal.
use mathlib.Core.Path.{sym, ◌∙◌}
use Rattle.section.proofs.Framing.{is_short, is_long, is_other, is_wrong, is_headless, is_framed}
use Rattle.section.proofs.test_frame.Goals as goal

pub returns-then-section-lt3 : goal.returns-then-section-lt3
returns-then-section-lt3 c =
    let a = c.args in
    is_short a.section.now c.if-section-lt3.true

pub returns-then-section-gt-MAX_SECTION : goal.returns-then-section-gt-MAX_SECTION
returns-then-section-gt-MAX_SECTION c =
    let a = c.args in
    is_long a.section.now c.if-section-lt3.false c.if-section-gt-MAX_SECTION.true

pub returns-then-section : goal.returns-then-section
returns-then-section c =
    let a = c.args in
    is_other a.section.now c.if-section-lt3.false c.if-section-gt-MAX_SECTION.false c.if-section.true

pub returns-then-crc32-ne0 : goal.returns-then-crc32-ne0
returns-then-crc32-ne0 c =
    let a = c.args in
    is_wrong a.section.now c.if-section-lt3.false c.if-section-gt-MAX_SECTION.false c.if-section.false (λ e. c.if-crc32-ne0.true (c.crc32.ensures ∙ e))

pub returns-then-section-lt-LEAST_WITH_HEADER : goal.returns-then-section-lt-LEAST_WITH_HEADER
returns-then-section-lt-LEAST_WITH_HEADER c =
    let a = c.args in
    is_headless a.section.now c.if-section-lt3.false c.if-section-gt-MAX_SECTION.false c.if-section.false (sym c.crc32.ensures ∙ c.if-crc32-ne0.false) c.if-section-lt-LEAST_WITH_HEADER.true

pub returns : goal.returns
returns c =
    let a = c.args in
    is_framed a.section.now c.if-section-lt3.false c.if-section-gt-MAX_SECTION.false c.if-section.false (sym c.crc32.ensures ∙ c.if-crc32-ne0.false) _ c.if-section-lt-LEAST_WITH_HEADER.false c.read_layout.ensures
