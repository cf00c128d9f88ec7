-- `c_section::headers::flat_header_read` meets its contract.
use Rattle.c_section.specs.Flat.{flat_header_read}
use Rattle.c_section.proofs.headers.flat_header_read.Goals as goal

pub returns-in-Some : goal.returns-in-Some
unfolding flat_header_read
returns-in-Some c = rw c.in-Some.is c.flat_header.ensures

pub returns-in-None : goal.returns-in-None
unfolding flat_header_read
returns-in-None c = rw c.in-None.is c.no_header.ensures
