-- `descriptor_writer::parts::store_sub_segments`, by cases.
use Rattle.descriptor_writer.proofs.Storing.{number_then, put_same, put_none, count_then}
use Rattle.descriptor_writer.proofs.parts.store_sub_segments.Goals as goal

pub returns-in-None : goal.returns-in-None
returns-in-None c = λ from. rw c.in-None.is (count_then _ _ _ _ 0 _ (put_none _ _ _ _ c.put_bits.ensures))

pub returns-in-Some : goal.returns-in-Some
returns-in-Some c =
    λ from. rw c.in-Some.is (count_then _ _ _ _ 2 _ (number_then _ _ _ _ _ _ _ 8 _ _ c.wide.ensures.0 c.put_bits-second.ensures
    (put_same _ _ _ _ 8 _ _ c.wide-in-Some.ensures.0 c.put_bits-in-Some.ensures)))
