-- `descriptor_writer::parts::store_flags`: three flags and the five bits behind them are one byte.
use mathlib.Core.Path.{refl}
use Rattle.descriptor_writer.proofs.Storing.{put_joined}
use Rattle.descriptor_writer.proofs.Joining.{flags_bits}
use Rattle.descriptor_writer.proofs.parts.store_flags.Goals as goal

pub returns : goal.returns
returns c =
    let a = c.args in
    λ from. put_joined _ _ _ _ _ 8 _ (flags_bits from a.program a.lasts a.free a.delivery _ _ _ _ _ c.flag_number-first.ensures c.flag_number-second.ensures c.flag_number-third.ensures c.delivery_number-rest.ensures.0 (c.delivery_number-rest.ensures.1 from) refl) c.put_bits.ensures
