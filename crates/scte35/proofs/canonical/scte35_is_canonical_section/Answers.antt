-- `scte35::canonical::scte35_is_canonical_section` meets its contract.
use mathlib.Core.Path.{ap, ◌∙◌}
use Rattle.canonical_form.specs.Section.{canonical_section}
use Rattle.scte35.proofs.canonical.scte35_is_canonical_section.Goals as goal

pub returns : goal.returns
returns c = c.is_canonical_section.ensures ∙ ap canonical_section c.rest.ensures
