-- `scte35::scte35_read_upid` meets its contract.
use mathlib.Core.Path.{ap, ◌∙◌}
use Rattle.upid.specs.Upid.{upid_of}
use Rattle.c_items.specs.FlatUpid.{flat_upid}
use Rattle.scte35.proofs.scte35_read_upid.Goals as goal

pub returns : goal.returns
returns c = c.flat_upid.ensures ∙ ap flat_upid (c.read_upid.ensures ∙ ap (upid_of c.args.upid_type) c.rest.ensures)
