-- `relabel_found::upid_head`.
use Rattle.relabel_found.proofs.Walks.{head_is}
use Rattle.relabel_found.proofs.upid_head.Goals as goal

pub returns : goal.returns
returns c =
    head_is _ _ _ _ _ c.byte-flags.ensures c.byte.ensures c.components_size.ensures.0 c.duration_size.ensures.0
