-- The words of a command are refused with no number over 33.
use Prim.Native.Nat.{ℕ, ◌≤◌}
use mathlib.Core.Bool.{Bool, true, false, ◌&&◌}
use mathlib.Core.List.{List}
use native.Mathlib.Omega.{arith}
use Rattle.command.specs.declared.SpliceCommand.{SpliceCommand}
use Rattle.c_section.specs.FlatCommand.{flat_command}
use Rattle.command.specs.Command.{count_in}
use Rattle.c_command_writer.specs.CommandGiven.{insert_components_within, own_insert_components, words_refusal, command_refusal}
use Rattle.c_command_writer.specs.CommandWords.{command_words, command_widths, command_seen}
use Rattle.c_command_writer.specs.Words.{within, same, seen_first}
use Rattle.c_command_writer.proofs.Words.{refusal_small}

pub seen_small : (seen : Bool) (n : ℕ) → n ≤ 33 → seen_first seen n ≤ 33
seen_small true n h = h
seen_small false n h = omega arith

pub command_small : (c : SpliceCommand) (words components lent : List ℕ) → command_refusal c words components lent ≤ 33
unfolding command_refusal words_refusal
command_small c words components lent =
    seen_small (command_seen words lent) _
    (refusal_small (within command_widths words && insert_components_within (count_in c) components) (same (command_words (flat_command c)) words && own_insert_components (count_in c) components))
