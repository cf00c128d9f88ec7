-- `daterange_writer::storing::store_line`: no room, or the whole line.
use Rattle.std.proofs.Common.{sym, ◌∙◌}
use borrow.Author.Tests.{leb-true}
use Rattle.daterange_writer.proofs.Stored.{store_short, store_all}
use Rattle.daterange_writer.proofs.storing.store_line.Goals as goal

pub returns-then-not-has_room : goal.returns-then-not-has_room
returns-then-not-has_room c = store_short _ _ _ _ _ (sym c.has_room.ensures ∙ c.if-not-has_room.true)

pub put_line-requires : goal.put_line-requires
put_line-requires c = leb-true _ _ (sym c.has_room.ensures ∙ c.if-not-has_room.false)

pub returns : goal.returns
returns c = store_all _ _ _ _ _ _ (sym c.has_room.ensures ∙ c.if-not-has_room.false) c.put_line.ensures
