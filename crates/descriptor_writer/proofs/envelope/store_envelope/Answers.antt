-- `descriptor_writer::envelope::store_envelope`, field by field.
use Rattle.descriptor_writer.proofs.Storing.{number_then, put_bytes}
use mathlib.Core.Path.{refl}
use Rattle.table.proofs.Bits.{bytes_all}
use native.Mathlib.Omega.{arith}
use Rattle.descriptor_writer.proofs.envelope.store_envelope.Goals as goal

pub returns : goal.returns
returns c = (
  number_then _ _ _ _ _ _ _ 8 _ _ c.wide.ensures.0 c.put_bits-second.ensures
      (number_then _ _ _ _ _ _ _ 8 _ _ refl c.put_bits-third.ensures
      (put_bytes _ _ _ _ _ c.put_run.ensures)),
  (omega (arith, c.wide.ensures.1), (omega arith, bytes_all c.args.identifier.now (λ k. (c.type_inv.identifier k).fits))),
  bytes_all c.args.out.now (λ k. (c.slice_known-1.given k).fits),
)
