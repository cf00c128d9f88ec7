-- `section_writer::last_number`: no sum wraps, since each number is below 2 to the bits of its field.
use Rattle.section_writer.specs.Private.{last_number}
use Rattle.section_writer.proofs.last_number.Goals as goal

pub returns : goal.returns
unfolding last_number
returns c = rw (c.wide.ensures.0, c.wide-2.ensures.0)
