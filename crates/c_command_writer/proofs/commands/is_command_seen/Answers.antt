-- `c_command_writer::commands::is_command_seen`: the view that the last two words are.
use mathlib.Core.Path.{◌∙◌}
use Rattle.c_command_writer.specs.CommandWords.{command_seen}
use Rattle.c_command_writer.proofs.commands.is_command_seen.Goals as goal

pub returns : goal.returns
unfolding command_seen
returns c = c.lies_in.ensures ∙ rw (c.word_at-2.ensures, c.word_at.ensures)
