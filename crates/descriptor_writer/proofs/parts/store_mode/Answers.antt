-- `descriptor_writer::parts::store_mode`, by cases.
use Rattle.descriptor_writer.proofs.Storing.{number_then, put_bytes, put_none}
use Rattle.descriptor_writer.proofs.Listing.{listed_stores}
use Rattle.descriptor_writer.proofs.parts.store_mode.Goals as goal

pub returns-in-Program : goal.returns-in-Program
returns-in-Program c = λ from cs e. rw c.in-Program.is (put_none _ _ _ _ c.put_bits.ensures)

pub returns-in-Component : goal.returns-in-Component
returns-in-Component c =
    λ from cs e. rw c.in-Component.is (number_then _ _ _ _ _ _ _ 8 _ _ c.wide.ensures.0 c.put_bits-second.ensures
    (listed_stores from cs _ _ _ _ _ e (put_bytes _ _ _ _ _ c.put_run.ensures)))
