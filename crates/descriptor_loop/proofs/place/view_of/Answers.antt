-- `descriptor_loop::place::view_of` meets its contract, case by case.
use Rattle.std.proofs.Common.{Some}
use mathlib.Core.Path.{ap, ◌∙◌}
use Rattle.descriptor_loop.proofs.place.view_of.Goals as goal

pub returns-in-None : goal.returns-in-None
returns-in-None c = rw c.in-None.is

pub returns-in-InvalidDescriptorLength : goal.returns-in-InvalidDescriptorLength
returns-in-InvalidDescriptorLength c = rw (c.in-Some-Err.is, rw c.in-Some-Err.is at c.in-Some-Err.field-0-is, c.in-InvalidDescriptorLength.is)
