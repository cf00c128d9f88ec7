-- `c_section::sections::no_section`: its number, and nothing else.
use Rattle.c_section.specs.FlatSection.{flat_section_read}
use Rattle.c_section.proofs.sections.no_section.Goals as goal

pub returns : goal.returns
unfolding flat_section_read
returns c = rw (c.number.ensures, c.no_header.ensures, c.no_command.ensures)
