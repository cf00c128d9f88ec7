-- `table::cursor::Cursor::left` meets its contract.
use native.Mathlib.Omega.{arith}
use Rattle.table.proofs.Steppings.{left_is}
use Rattle.table.proofs.cursor.Cursor.left.Goals as goal

pub returns-then-s-byte : goal.returns-then-s-byte
returns-then-s-byte c = let a = c.args in left_is a.s.now a.self 0 (omega arith)

pub returns-then-s-byte-2 : goal.returns-then-s-byte-2
returns-then-s-byte-2 c = let a = c.args in left_is a.s.now a.self 0 (omega arith)

pub returns : goal.returns
returns c = let a = c.args in left_is a.s.now a.self _ (omega arith)
