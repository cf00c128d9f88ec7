-- `attribute_list::bytes::same_bytes`: std's test.
use Rattle.std.proofs.Common.{◌∙◌}
use Rattle.attribute_list.proofs.Runs.{same_is}
use Rattle.attribute_list.proofs.bytes.same_bytes.Goals as goal

pub returns : goal.returns
returns c = c.eq.ensures ∙ same_is _ _
