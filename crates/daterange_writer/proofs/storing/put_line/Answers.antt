-- `daterange_writer::storing::put_line`: each piece stands behind the one before.
use Rattle.daterange_writer.proofs.Stored.{section_stored}
use Rattle.daterange_writer.proofs.storing.put_line.Goals as goal

pub returns : goal.returns
returns c = section_stored _ _ _ _ _ _ _ _ _ _ _ c.requires c.put_bytes.ensures c.put_bytes-2.ensures c.put_bytes-3.ensures c.put_bytes-4.ensures c.put_bytes-5.ensures c.encode.ensures
