-- `c_command_writer::commands::command_refusal`: 31, and then the words' own.
use mathlib.Core.Path.{sym, ◌∙◌}
use borrow.Author.Tests.{not-true, not-false}
use Rattle.c_command_writer.specs.CommandGiven.{command_refusal}
use Rattle.c_command_writer.proofs.commands.command_refusal.Goals as goal

pub returns-then-not-is_command_seen : goal.returns-then-not-is_command_seen
unfolding command_refusal
returns-then-not-is_command_seen c = rw (sym c.is_command_seen.ensures ∙ not-true _ c.if-not-is_command_seen.true-raw)

pub returns : goal.returns
unfolding command_refusal
returns c = rw (sym c.is_command_seen.ensures ∙ not-false _ c.if-not-is_command_seen.false-raw) c.words_refusal.ensures
