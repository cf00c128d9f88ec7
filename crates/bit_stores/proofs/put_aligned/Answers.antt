-- `bit_stores::put_aligned`: a number's bytes are its bits.
use Prim.Native.Nat.{◌*◌}
use mathlib.Core.Path.{◌∙◌}
use native.Mathlib.Omega.{arith}
use Rattle.table.specs.Bits.{bits_of_num}
use Rattle.table.proofs.Bits.{length_num, bytes_all}
use Rattle.bit_stores.proofs.Turns.{pens_none, pens_number}
use Rattle.bit_stores.proofs.put_aligned.Goals as goal

pub returns-then-out-at : goal.returns-then-out-at
returns-then-out-at c =
    let a = c.args in
    pens_none a.out.now (record { byte = a.at; bit = 0 }) (bits_of_num (a.n * 8) a.v) (omega (arith, length_num (a.n * 8) a.v))

pub returns-then-out-at-2 : goal.returns-then-out-at-2
returns-then-out-at-2 c =
    let a = c.args in
    pens_none a.out.now (record { byte = a.at; bit = 0 }) (bits_of_num (a.n * 8) a.v) (omega (arith, length_num (a.n * 8) a.v))

pub returns : goal.returns
returns c =
    let a = c.args in
    let r = pens_number a.out.now a.at a.n a.v (bytes_all a.out.now (λ k. (c.slice_known-1.given k).fits)) (omega arith) in
    record { bytes = c.put_number.ensures ∙ r.bytes; cursor = r.cursor }
