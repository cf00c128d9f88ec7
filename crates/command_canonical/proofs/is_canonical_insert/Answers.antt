-- `command_canonical::is_canonical_insert`: an insert that takes all of the payload.
use mathlib.Core.Path.{◌∙◌}
use Rattle.command.specs.Insert.{insert}
use Rattle.command_canonical.proofs.Inserts.{no_cancel, insert_reserved, a_cancel, an_insert}
use Rattle.command_canonical.proofs.Walks.{by_table, not_by_table, exact_is}
use Rattle.command_canonical.proofs.is_canonical_insert.Goals as goal

pub returns-then-s-lt5 : goal.returns-then-s-lt5
returns-then-s-lt5 c = let s = c.args.s.now in not_by_table insert s (no_cancel s c.if-s-lt5.true)

pub returns-then-s : goal.returns-then-s
returns-then-s c =
    let s = c.args.s.now in
    by_table insert s 5 (a_cancel s c.if-s-lt5.false (c.type_inv.s 4).fits c.if-s.true)

pub returns-then-s-ne127 : goal.returns-then-s-ne127
returns-then-s-ne127 c =
    let s = c.args.s.now in
    not_by_table insert s (insert_reserved s c.if-s-lt5.false (c.shared_slice_known-2-1.given 4).fits c.if-s.false c.if-s-ne127.true)

pub returns : goal.returns
returns c =
    let s = c.args.s.now in
    c.is_exact.ensures
    ∙ exact_is insert s c.pass_active.result (an_insert s c.if-s-lt5.false (c.shared_slice_known-2-1.given 4).fits c.pass_active.result c.if-s-ne127.false c.pass_active.ensures)
