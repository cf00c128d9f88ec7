-- `command::components::blanks`: the blank component, 255 times.
use mathlib.Core.Path.{refl}
use Rattle.command.specs.Command.{array}
use Rattle.command.proofs.components.blanks.Goals as goal

pub returns : goal.returns
unfolding array
returns c = refl
