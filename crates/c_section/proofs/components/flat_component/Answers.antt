-- `c_section::components::flat_component` meets its contract.
use Rattle.c_section.specs.FlatCommand.{flat_component}
use Rattle.c_section.proofs.components.flat_component.Goals as goal

pub returns : goal.returns
unfolding flat_component
returns c = rw c.flat_time.ensures
