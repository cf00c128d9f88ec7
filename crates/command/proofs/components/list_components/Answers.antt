-- `command::components::list_components`: the components lie from byte 7 on, as many as the command says.
use Rattle.command.proofs.Filling.{all_components}
use Rattle.command.proofs.components.list_components.Goals as goal

pub returns : goal.returns
returns c =
    let a = c.args in
    all_components a.payload.now _ _ _ _ c.read_other.ensures c.count_of-count.ensures c.bits.ensures c.fill.ensures
