-- `c_section_writer::header_refusal`, test by test.
use mathlib.Core.Path.{◌≡◌, ap, sym, ◌∙◌}
use borrow.Author.Tests.{not-true, not-false}
use Rattle.c_section.specs.Flat.{flat_header, flat_header_read}
use Rattle.c_command_writer.specs.Words.{within, same}
use Rattle.c_section_writer.specs.SectionGiven.{header_from, header_refusal}
use Rattle.c_section_writer.specs.SectionWords.{header_words, header_widths}
use mathlib.Core.List.{List}
use Prim.Native.Nat.{ℕ}
use Rattle.c_section_writer.proofs.header_refusal.Goals as goal

pub returns-then-not-are_within : goal.returns-then-not-are_within
unfolding header_refusal header_widths
returns-then-not-are_within c =
    let fits : c.are_within.result ≡ within header_widths c.args.words.now = c.are_within.ensures in
    rw (sym fits ∙ not-true _ c.if-not-are_within.true-raw)

pub returns-then-not-are_same : goal.returns-then-not-are_same
unfolding header_refusal header_widths flat_header_read
returns-then-not-are_same c =
    let fits : c.are_within.result ≡ within header_widths c.args.words.now = c.are_within.ensures in
    let own : let a = c.args in c.are_same.result ≡ same (header_words (flat_header (header_from a.words.now))) a.words.now = let e = c.flat_header_read.ensures ∙ ap flat_header c.header_from.ensures in c.are_same.ensures ∙ ap (λ (l : List ℕ). same l c.args.words.now) (c.header_words-own.ensures ∙ ap header_words e) in
    rw (sym fits ∙ not-false _ c.if-not-are_within.false-raw, sym own ∙ not-true _ c.if-not-are_same.true-raw)

pub returns : goal.returns
unfolding header_refusal header_widths flat_header_read
returns c =
    let fits : c.are_within.result ≡ within header_widths c.args.words.now = c.are_within.ensures in
    let own : let a = c.args in c.are_same.result ≡ same (header_words (flat_header (header_from a.words.now))) a.words.now = let e = c.flat_header_read.ensures ∙ ap flat_header c.header_from.ensures in c.are_same.ensures ∙ ap (λ (l : List ℕ). same l c.args.words.now) (c.header_words-own.ensures ∙ ap header_words e) in
    rw (sym fits ∙ not-false _ c.if-not-are_within.false-raw, sym own ∙ not-false _ c.if-not-are_same.false-raw)
