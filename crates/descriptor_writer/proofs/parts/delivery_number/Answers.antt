-- `descriptor_writer::parts::delivery_number`, by cases.
use mathlib.Core.Path.{refl, ◌∙◌}
use native.Mathlib.Omega.{arith}
use Rattle.descriptor_writer.proofs.Joining.{device_small, delivery_none, delivery_bits}
use Rattle.descriptor_writer.proofs.parts.delivery_number.Goals as goal

pub returns-in-None : goal.returns-in-None
returns-in-None c = (omega arith, λ from. delivery_none from _ c.in-None.is)

pub returns-in-Some : goal.returns-in-Some
returns-in-Some c =
    let v = c.wide.ensures.0 ∙ c.into.ensures in (
      omega (arith, c.flag_number-web.ensures.1, c.flag_number-blackout.ensures.1, c.flag_number-archive.ensures.1, v, device_small c.in-Some.r.device_restrictions),
      λ from. delivery_bits from _ _ _ _ _ _ _ c.in-Some.is c.flag_number-web.ensures c.flag_number-blackout.ensures c.flag_number-archive.ensures v refl,
    )
