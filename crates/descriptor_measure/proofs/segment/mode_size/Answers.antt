-- `descriptor_measure::segment::mode_size`, by cases.
use Prim.Native.Nat.{◌+◌, ◌*◌, ◌<◌}
use native.Mathlib.Omega.{arith}
use Rattle.descriptor_measure.proofs.segment.mode_size.Goals as goal

pub returns-in-Component : goal.returns-in-Component
returns-in-Component c = (rw c.in-Component.is, (let z : 1 + c.in-Component.n * 6 < 1532 = omega arith in z))
