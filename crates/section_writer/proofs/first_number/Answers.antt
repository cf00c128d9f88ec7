-- `section_writer::first_number`: no sum wraps, since each number is below 2 to the bits of its field.
use native.Mathlib.Omega.{arith}
use Rattle.section_writer.specs.Private.{first_number}
use Rattle.section_writer.proofs.Heads.{fitting}
use Rattle.section_writer.proofs.first_number.Goals as goal

pub overflow_add-result-2 : goal.overflow_add-result-2
overflow_add-result-2 c = omega (arith, (fitting c.args.header c.requires).adjustment)

pub returns : goal.returns
unfolding first_number
returns c = rw (c.wide.ensures.0, c.wide-2.ensures.0, c.into.ensures)
