-- `command_canonical::is_canonical_time`: a splice_time() that takes all of the payload.
use mathlib.Core.Path.{◌∙◌}
use Rattle.splice_time.specs.Time.{splice_time}
use Rattle.command_canonical.proofs.Walks.{exact_is}
use Rattle.command_canonical.proofs.is_canonical_time.Goals as goal

pub returns : goal.returns
returns c =
    c.is_exact.ensures ∙ exact_is splice_time c.args.s.now c.pass_time.result c.pass_time.ensures
