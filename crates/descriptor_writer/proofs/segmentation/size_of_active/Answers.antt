-- `descriptor_writer::segmentation::size_of_active`, part by part.
use native.Mathlib.Omega.{arith}
use Rattle.descriptor_writer.proofs.Segmenting.{written_len, size_sum, count_small}
use Rattle.descriptor_writer.proofs.segmentation.size_of_active.Goals as goal

pub overflow_add-result-3 : goal.overflow_add-result-3
overflow_add-result-3 c = omega (arith, c.upid_size.ensures, written_len c.args.i.segmentation_upid c.requires)

pub overflow_add-result-5 : goal.overflow_add-result-5
overflow_add-result-5 c = omega (arith, c.upid_size.ensures, written_len c.args.i.segmentation_upid c.requires)

pub returns : goal.returns
returns c = (size_sum _ _ _ _ _ c.mode_size.ensures.0 c.duration_size.ensures.0 c.upid_size.ensures c.sub_size.ensures.0, count_small c.args.i.segmentation_mode _ c.mode_size.ensures.0 c.mode_size.ensures.1)
