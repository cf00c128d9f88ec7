-- `c_section::components::no_components` meets its contract.
use mathlib.Core.Path.{refl}
use Rattle.c_section.specs.FlatCommand.{no_components}
use Rattle.c_section.proofs.components.no_components.Goals as goal

pub returns : goal.returns
unfolding no_components
returns c = refl
