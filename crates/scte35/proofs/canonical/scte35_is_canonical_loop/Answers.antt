-- `scte35::canonical::scte35_is_canonical_loop` meets its contract.
use mathlib.Core.Path.{ap, ◌∙◌}
use Rattle.canonical_form.specs.Descriptor.{canonical_loop}
use Rattle.scte35.proofs.canonical.scte35_is_canonical_loop.Goals as goal

pub returns : goal.returns
returns c = c.is_canonical_loop.ensures ∙ ap canonical_loop c.rest.ensures
