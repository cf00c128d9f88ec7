-- `c_section::headers::flat_adjusted` meets its contract.
use Rattle.std.proofs.Common.{Ok}
use mathlib.Core.Path.{ap, ◌∙◌}
use Rattle.c_section.specs.Flat.{flat_adjusted}
use Rattle.c_section.proofs.headers.flat_adjusted.Goals as goal

pub returns-in-Ok-Some : goal.returns-in-Ok-Some
unfolding flat_adjusted
returns-in-Ok-Some c = rw (c.in-Ok-Some.is, rw c.in-Ok-Some.is at c.in-Ok-Some.field-0-is)

pub returns-in-Ok-None : goal.returns-in-Ok-None
unfolding flat_adjusted
returns-in-Ok-None c = rw (c.in-Ok-None.is, rw c.in-Ok-None.is at c.in-Ok-None.field-0-is)

pub returns-in-Err : goal.returns-in-Err
unfolding flat_adjusted
returns-in-Err c = rw c.in-Err.is
