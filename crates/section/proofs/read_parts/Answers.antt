-- `section::read_parts`: the header and the command, each read as a part of the section.
use Rattle.std.proofs.Common.{Err}
use mathlib.Core.Path.{◌≡◌, sym, ◌∙◌, ap}
use native.Mathlib.Omega.{arith}
use Rattle.section.specs.Section.{accepted}
use Rattle.section.proofs.Framing.{command_read, no_header, section_is, size_at, header_at, command_at, within_four, is_moved, unknown_moved, malformed_moved}
use Rattle.section.proofs.read_parts.Goals as goal

pub returns-in-None : goal.returns-in-None
returns-in-None c =
    let a = c.args in
    no_header _ _ _ (sym (header_at a.section.now) ∙ sym c.read_header.ensures ∙ c.in-None.is)

pub overflow_add-end : goal.overflow_add-end
overflow_add-end c =
    let a = c.args in
    omega (arith, size_at a.section.now a.frame c.requires.0)

pub slice_bounds-read_command-count : goal.slice_bounds-read_command-count
slice_bounds-read_command-count c =
    let a = c.args in
    omega (arith, size_at a.section.now a.frame c.requires.0, c.requires.1)

pub slice_bounds-read_command-start : goal.slice_bounds-read_command-start
slice_bounds-read_command-start c =
    let a = c.args in
    omega (arith, size_at a.section.now a.frame c.requires.0, c.requires.1)

pub slice_bounds-read_command-end : goal.slice_bounds-read_command-end
slice_bounds-read_command-end c =
    let a = c.args in
    omega (arith, size_at a.section.now a.frame c.requires.0, c.requires.1)

pub move_command-requires : goal.move_command-requires
move_command-requires c =
    (within_four _ _ _ (sym c.read_command.ensures ∙ c.in-Ok.is), omega arith)

pub returns-in-Ok : goal.returns-in-Ok
unfolding accepted
returns-in-Ok c =
    let a = c.args in
    let read : command_read a.section.now ≡ _ = sym (command_at a.section.now a.frame c.requires.0) ∙ sym c.read_command.ensures ∙ c.in-Ok.is in
    section_is a.section.now a.frame _ _ (sym (header_at a.section.now) ∙ sym c.read_header.ensures ∙ c.in-Some.is) (is_moved _ _ _ read c.move_command.ensures) c.requires.0

pub returns-in-Err-UnknownType : goal.returns-in-Err-UnknownType
unfolding accepted
returns-in-Err-UnknownType c =
    let a = c.args in
    let read : command_read a.section.now ≡ _ = sym (command_at a.section.now a.frame c.requires.0) ∙ sym c.read_command.ensures ∙ (rw c.in-Err-UnknownType.field-0-is at c.in-Err-UnknownType.is) in
    section_is a.section.now a.frame _ _ (sym (header_at a.section.now) ∙ sym c.read_header.ensures ∙ c.in-Some.is) (unknown_moved _ read) c.requires.0

pub returns-in-Err-Malformed : goal.returns-in-Err-Malformed
unfolding accepted
returns-in-Err-Malformed c =
    let a = c.args in
    let read : command_read a.section.now ≡ _ = sym (command_at a.section.now a.frame c.requires.0) ∙ sym c.read_command.ensures ∙ (rw c.in-Err-Malformed.field-0-is at c.in-Err-Malformed.is) in
    section_is a.section.now a.frame _ _ (sym (header_at a.section.now) ∙ sym c.read_header.ensures ∙ c.in-Some.is) (malformed_moved _ read) c.requires.0
