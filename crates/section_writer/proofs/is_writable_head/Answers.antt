-- `section_writer::is_writable_head`: not encrypted, and then as the algorithm is.
use Rattle.names.specs.Algorithm.{writable_algorithm}
use Rattle.section_writer.proofs.Stored.{is_encrypted, is_clear}
use Rattle.section_writer.proofs.is_writable_head.Goals as goal

pub returns-then-header : goal.returns-then-header
returns-then-header c = is_encrypted c.args.header c.if-header.true

pub returns : goal.returns
unfolding writable_algorithm
returns c = is_clear c.args.header _ c.if-header.false c.writable.ensures
