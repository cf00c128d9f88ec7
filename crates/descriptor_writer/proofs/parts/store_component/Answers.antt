-- `descriptor_writer::parts::store_component`: tag, reserved bits and offset as one number.
use mathlib.Core.Path.{refl}
use Rattle.descriptor_writer.proofs.Storing.{put_joined}
use Rattle.descriptor_writer.proofs.Joining.{component_bits}
use Rattle.descriptor_writer.proofs.parts.store_component.Goals as goal

pub returns : goal.returns
returns c =
    λ from. put_joined _ _ _ _ _ 48 _ (component_bits from c.args.component _ _ c.wide-tag.ensures.0 refl) c.put_bits.ensures
