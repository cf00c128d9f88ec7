-- `scte35::canonical::scte35_is_canonical_descriptor` meets its contract.
use mathlib.Core.Path.{ap, ◌∙◌}
use Rattle.canonical_form.specs.Descriptor.{canonical_descriptor}
use Rattle.scte35.proofs.canonical.scte35_is_canonical_descriptor.Goals as goal

pub returns : goal.returns
returns c = c.is_canonical_descriptor.ensures ∙ ap canonical_descriptor c.rest.ensures
