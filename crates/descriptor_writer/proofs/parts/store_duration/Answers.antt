-- `descriptor_writer::parts::store_duration`, by cases.
use Rattle.descriptor_writer.proofs.Storing.{put_same, put_none}
use mathlib.Core.Path.{refl}
use Rattle.descriptor_writer.proofs.parts.store_duration.Goals as goal

pub returns-in-None : goal.returns-in-None
returns-in-None c = λ from. rw c.in-None.is (put_none _ _ _ _ c.put_bits.ensures)

pub returns-in-Some : goal.returns-in-Some
returns-in-Some c = λ from. rw c.in-Some.is (put_same _ _ _ _ 40 _ _ refl c.put_bits-in-Some.ensures)
