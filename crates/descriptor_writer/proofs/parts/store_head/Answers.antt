-- `descriptor_writer::parts::store_head`: event, cancel bit and reserved bits as one number.
use mathlib.Core.Path.{refl}
use Rattle.descriptor_writer.proofs.Storing.{put_joined}
use Rattle.descriptor_writer.proofs.Joining.{head_bits}
use Rattle.descriptor_writer.proofs.parts.store_head.Goals as goal

pub returns : goal.returns
returns c =
    let a = c.args in
    λ from. put_joined _ _ _ _ _ 40 _ (head_bits from a.event a.cancel _ _ c.flag_number.ensures refl) c.put_bits.ensures
