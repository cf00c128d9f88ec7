-- `table::numbers::time33`: five bytes by their powers of 256; where fewer are there, by `bits`.
use Prim.Native.Nat.{ℕ, ◌+◌, ◌*◌}
use mathlib.Core.Path.{◌∙◌}
use native.Mathlib.Omega.{arith}
use Rattle.table.proofs.Reading.{field_exact, field_none, five_bytes}
use Rattle.table.proofs.numbers.time33.Goals as goal

-- src/numbers.rt:86:9
pub returns-then-s-at : goal.returns-then-s-at
returns-then-s-at c =
    let a = c.args in
    field_none a.s.now (a.at * 8 + 7) 33 (omega arith)

-- src/numbers.rt:89:9
pub returns-then-s-at-lt5 : goal.returns-then-s-at-lt5
returns-then-s-at-lt5 c =
    let a = c.args in
    c.bits.ensures ∙ field_exact a.s.now (a.at * 8 + 7) 33 (omega arith)

-- src/numbers.rt:82:1
pub returns : goal.returns
returns c =
    let a = c.args in
    rw (c.wide.ensures.0, c.wide-2.ensures.0, c.wide-3.ensures.0, c.wide-4.ensures.0, c.wide-5.ensures.0)
    (five_bytes a.s.now a.at (omega arith) (λ (j : ℕ). (c.type_inv.s j).fits))
