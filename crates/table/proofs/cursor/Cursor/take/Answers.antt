-- `table::cursor::Cursor::take`: the reading of one number, by how many bits are left.
use Prim.Native.Nat.{◌+◌, ◌*◌, ◌/◌, ◌%◌}
use mathlib.Core.Path.{◌≡◌}
use native.Mathlib.Omega.{arith}
use Rattle.table.proofs.Steppings.{left_is, take_lacks, take_got}
use Rattle.table.proofs.cursor.Cursor.take.Goals as goal

pub returns-then-s-byte : goal.returns-then-s-byte
returns-then-s-byte c = let a = c.args in take_lacks a.s.now a.self a.w 0 (omega arith) (left_is a.s.now a.self 0 (omega arith))

pub returns-then-s-byte-2 : goal.returns-then-s-byte-2
returns-then-s-byte-2 c = let a = c.args in take_lacks a.s.now a.self a.w 0 (omega arith) (left_is a.s.now a.self 0 (omega arith))

pub returns-then-s-i : goal.returns-then-s-i
returns-then-s-i c =
    let a = c.args in
    take_lacks a.s.now a.self a.w c.left-actual.result (omega arith) c.left-actual.ensures

pub returns : goal.returns
returns c =
    let a = c.args in
    let e : (a.self.byte + a.self.bit / 8) * 8 + a.self.bit % 8 ≡ a.self.byte * 8 + a.self.bit = omega arith in
    take_got a.s.now a.self a.w _ _ _ (omega arith) (rw e at c.bits-value.ensures) (omega arith) (omega arith)
