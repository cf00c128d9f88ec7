-- `descriptor_measure::segment::mode_fits`, by cases.
use native.Mathlib.Omega.{arith}
use Rattle.descriptor_measure.proofs.Tests.{mode_none, mode_byte}
use Rattle.descriptor_measure.proofs.segment.mode_fits.Goals as goal

pub returns-in-Program : goal.returns-in-Program
returns-in-Program c = mode_none _ _ c.in-Program.is

pub returns-in-Component : goal.returns-in-Component
returns-in-Component c = mode_byte _ c.in-Component.n _ _ c.in-Component.is (omega arith) c.components_fit.ensures
