-- `descriptor_measure::segment::count_fits`: a byte fits.
use native.Mathlib.Omega.{arith}
use Rattle.descriptor_measure.proofs.Tests.{count_none, count_byte}
use Rattle.descriptor_measure.proofs.segment.count_fits.Goals as goal

pub returns-in-Program : goal.returns-in-Program
returns-in-Program c = count_none _ c.in-Program.is

pub returns-in-Component : goal.returns-in-Component
returns-in-Component c = count_byte _ _ _ c.in-Component.is c.wide.ensures.0 (omega arith)
