-- `c_section::headers::flat_header` meets its contract.
use Rattle.c_section.specs.Flat.{flat_header}
use Rattle.c_section.proofs.headers.flat_header.Goals as goal

pub returns : goal.returns
unfolding flat_header
returns c = rw (c.flat_flag.ensures, c.from.ensures, c.from-2.ensures)
