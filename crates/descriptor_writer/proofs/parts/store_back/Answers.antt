-- `descriptor_writer::parts::store_back`, field by field.
use Rattle.descriptor_writer.proofs.Storing.{number_then}
use mathlib.Core.Path.{◌∙◌}
use Rattle.descriptor_writer.proofs.parts.store_back.Goals as goal

pub returns : goal.returns
returns c =
    λ from. number_then _ _ _ _ _ _ _ 8 _ _ (c.wide.ensures.0 ∙ c.into.ensures) c.put_bits-second.ensures
    (number_then _ _ _ _ _ _ _ 8 _ _ c.wide-2.ensures.0 c.put_bits-third.ensures
    (number_then _ _ _ _ _ _ _ 8 _ _ c.wide-3.ensures.0 c.put_bits-fourth.ensures
    (c.store_sub_segments.ensures from)))
