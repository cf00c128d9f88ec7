-- `bit_stores::put_across`: of the field, w - ahead bits are stored, and the byte `at` goes on where they end.
use Prim.Native.Nat.{ℕ, ◌+◌, ◌-◌, ◌*◌, ◌/◌, ◌^◌, ◌≤◌, ◌<◌}
use mathlib.Core.List.{List}
use mathlib.Core.Path.{◌≡◌, ap, sym, ◌∙◌}
use native.Mathlib.Nat.{sub-zero, div-one, mod-lt}
use native.Mathlib.Omega.{arith}
use lib.ListN.{length, get_or}
use lib.Pow.{pow_pos}
use Rattle.bit_stores.specs.Private.{with_bits}
use Rattle.table.specs.Bits.{bits_of_num}
use Rattle.table.proofs.Bits.{length_num, bytes_all}
use Rattle.bit_stores.specs.Pen.{penned}
use Rattle.bit_stores.proofs.Penned.{length_penned, penned_nil}
use Rattle.bit_stores.proofs.Turns.{inside_is, ends_at, turned, turn, pens_none, pens_all}
use Rattle.bit_stores.proofs.put_across.Goals as goal

-- with `ahead` bits ahead: the target has kept its length, and the byte that is next lies in it
module _ (t out : List ℕ) (p w ahead v : ℕ) (so_far : out ≡ penned t p (bits_of_num (w - ahead) (v / 2 ^ ahead))) where
  kept : length out ≡ length t
  kept = ap length so_far ∙ length_penned t p (bits_of_num (w - ahead) (v / 2 ^ ahead))

  inside : (at behind : ℕ) → ahead ≤ w → 0 < ahead → at * 8 + behind ≡ p + (w - ahead) → p + w ≤ length t * 8 → at < length out
  inside at behind h k e r = rw kept (inside_is at behind p w ahead (length t) h k e r)

pub returns-then-out-byte : goal.returns-then-out-byte
returns-then-out-byte c =
    let a = c.args in
    pens_none a.out.now a.c (bits_of_num a.w a.v) (omega (arith, length_num a.w a.v))

pub returns-then-out-byte-2 : goal.returns-then-out-byte-2
returns-then-out-byte-2 c =
    let a = c.args in
    pens_none a.out.now a.c (bits_of_num a.w a.v) (omega (arith, length_num a.w a.v))

pub returns-then-out-at : goal.returns-then-out-at
returns-then-out-at c =
    let a = c.args in
    pens_none a.out.now a.c (bits_of_num a.w a.v) (omega (arith, length_num a.w a.v))

pub loop-ahead-init : goal.loop-ahead-init
loop-ahead-init c =
    let a = c.args in
    let z : a.w - a.w ≡ 0 = omega arith in
    let b = bytes_all a.out.now (λ k. (c.type_inv.out k).fits) in
    (omega arith, omega arith, omega arith, rw z (sym (penned_nil a.out.now (a.c.byte * 8 + a.c.bit) b)))

pub bounds-out-at : goal.bounds-out-at
bounds-out-at c =
    let a = c.args in
    let i = c.loop-ahead.invariant in
    inside a.out.now _ _ _ _ _ i.3 _ _ i.0 c.loop-ahead-test.true i.2 (omega arith)

pub with_bits-requires : goal.with_bits-requires
with_bits-requires c =
    let n = c.min-n.result in
    (omega arith, rw c.digits.ensures (mod-lt _ (pow_pos n)))

pub bounds-out-at-in-loop-ahead : goal.bounds-out-at-in-loop-ahead
bounds-out-at-in-loop-ahead c =
    let a = c.args in
    let i = c.loop-ahead.invariant in
    inside a.out.now _ _ _ _ _ i.3 _ _ i.0 c.loop-ahead-test.true i.2 (omega arith)

pub overflow_add-at-in-loop-ahead-2 : goal.overflow_add-at-in-loop-ahead-2
overflow_add-at-in-loop-ahead-2 c =
    let a = c.args in
    let i = c.loop-ahead.invariant in
    let k = kept _ _ _ _ _ _ i.3 in
    let h = inside a.out.now _ _ _ _ _ i.3 _ _ i.0 c.loop-ahead-test.true i.2 (omega arith) in
    omega (arith, k, h)

pub loop-ahead-preserved : goal.loop-ahead-preserved
loop-ahead-preserved c =
    let a = c.args in
    let n = c.min-n.result in
    let p = a.c.byte * 8 + a.c.bit in
    let out = c.loop-ahead.out in
    let q = c.loop-ahead.at in
    let is = c.with_bits.ensures ∙ ap (with_bits (get_or out q 0) c.loop-ahead.behind n) c.digits.ensures in
    let z : a.w - (c.loop-ahead.ahead - n) ≡ a.w - c.loop-ahead.ahead + n = omega arith in
    let i = c.loop-ahead.invariant in
    let r : a.c.byte * 8 + a.c.bit + a.w ≤ length a.out.now * 8 = omega arith in
    let t = turn a.out.now out p (a.w - c.loop-ahead.ahead) c.loop-ahead.ahead a.v c.loop-ahead.invariant.3 q c.loop-ahead.behind n c.with_bits.result
    (bytes_all out (λ k. (c.slice_known-in-loop-ahead-1.given k).fits)) (inside a.out.now _ _ _ _ _ i.3 _ _ i.0 c.loop-ahead-test.true i.2 r) (c.slice_known-in-loop-ahead-1.given q).fits is (omega arith) (omega arith) c.loop-ahead.invariant.2 (turned p a.w c.loop-ahead.ahead n _ (omega arith) c.loop-ahead.invariant.0 r) in
    (omega arith, omega arith, omega arith, rw z t)

pub shape_of-out : goal.shape_of-out
shape_of-out c = kept _ _ _ _ _ _ c.loop-ahead.invariant.3

pub returns : goal.returns
returns c =
    let a = c.args in
    let z : c.loop-ahead.ahead ≡ 0 = omega arith in
    let p = a.c.byte * 8 + a.c.bit in
    let n = length_num a.w a.v in
    let i = c.loop-ahead.invariant in
    let e : c.loop-ahead.at * 8 + c.loop-ahead.behind ≡ p + length (bits_of_num a.w a.v) = i.2 ∙ rw (z, n, sub-zero) in
    let ends = ends_at c.loop-ahead.at c.loop-ahead.behind p (length (bits_of_num a.w a.v)) i.1 e in
    pens_all a.out.now a.c (bits_of_num a.w a.v) c.loop-ahead.out _ _ (rw n (omega arith)) (i.3 ∙ rw (z, sub-zero, div-one)) ends.0 ends.1
