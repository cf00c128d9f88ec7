-- `scte35::scte35_crc` meets its contract.
use mathlib.Core.Path.{ap, ◌∙◌}
use Rattle.crc.specs.Crc.{crc_of}
use Rattle.scte35.proofs.scte35_crc.Goals as goal

pub returns : goal.returns
returns c = c.crc32.ensures ∙ ap crc_of c.rest.ensures
