-- `lent::lies_in`: the difference is taken where it does not wrap.
use Prim.Native.Nat.{◌+◌}
use mathlib.Core.Path.{sym}
use lib.ListN.{length}
use native.Mathlib.Omega.{arith}
use borrow.Author.Tests.{lt-leb}
use Rattle.table.proofs.Lists.{leb_sum}
use Rattle.table.proofs.lent.lies_in.Goals as goal

pub returns-then-lent-at : goal.returns-then-lent-at
returns-then-lent-at c =
    let a = c.args in
    sym (lt-leb (a.v.at + a.v.len) (length a.lent.now) (omega arith))

pub returns : goal.returns
returns c =
    let a = c.args in
    leb_sum a.v.at a.v.len (length a.lent.now) (omega arith)
