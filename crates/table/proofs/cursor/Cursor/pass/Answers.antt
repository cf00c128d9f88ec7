-- `table::cursor::Cursor::pass`: the reading of one run, by how many bytes are left.
use native.Mathlib.Omega.{arith}
use Rattle.table.proofs.Steppings.{pass_lacks, pass_got}
use Rattle.table.proofs.cursor.Cursor.pass.Goals as goal

pub returns-then-s-byte : goal.returns-then-s-byte
returns-then-s-byte c = let a = c.args in pass_lacks a.s.now a.self a.n (omega arith)

pub returns-then-present-n : goal.returns-then-present-n
returns-then-present-n c = let a = c.args in pass_lacks a.s.now a.self a.n (omega arith)

pub returns-then-present-n-2 : goal.returns-then-present-n-2
returns-then-present-n-2 c = let a = c.args in pass_lacks a.s.now a.self a.n (omega arith)

pub returns : goal.returns
returns c =
    let a = c.args in
    pass_got a.s.now a.self a.n _ _ _ (omega arith) (omega arith) (omega arith) (omega arith)
