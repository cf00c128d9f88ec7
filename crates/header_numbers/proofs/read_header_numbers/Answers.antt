-- `header_numbers::read_header_numbers`: each number is in the bits of its place.
use Prim.Native.Nat.{◌≤◌}
use lib.ListN.{length}
use mathlib.Core.Path.{sym}
use native.Mathlib.Omega.{arith}
use Rattle.table.proofs.Fields.{byte_field}
use Rattle.table.proofs.Reading.{first_bit, field_lt}
use Rattle.header_numbers.proofs.Places.{too_short, numbers_are, algorithm_of_lem, high_part, low_part}
use Rattle.header_numbers.proofs.read_header_numbers.Goals as goal

pub returns-then-s-lt11 : goal.returns-then-s-lt11
returns-then-s-lt11 c = too_short c.args.s.now c.if-s-lt11.true

pub overflow_cast-result-2 : goal.overflow_cast-result-2
overflow_cast-result-2 c =
    let s = c.args.s.now in
    let tier = high_part s 56 12 4 c.big_endian.result (omega arith) (omega (arith, c.if-s-lt11.false)) c.big_endian.ensures in
    omega (arith, tier, field_lt s 56 12)

pub returns : goal.returns
returns c =
    let s = c.args.s.now in
    let long : 11 ≤ length s = c.if-s-lt11.false in
    numbers_are s _ _ _ _ _ _ _ _ long
    (sym (byte_field s 0 (omega (arith, long)) (c.type_inv.s 0).fits))
    (first_bit s 1 c.wide-flags.result (omega (arith, long)) c.wide-flags.ensures.0 c.wide-flags.ensures.1)
    (algorithm_of_lem s 1 c.wide-flags.result (omega (arith, long)) c.wide-flags.ensures.0 c.wide-flags.ensures.1)
    c.time33.ensures
    (sym (byte_field s 6 (omega (arith, long)) (c.type_inv.s 6).fits))
    (high_part s 56 12 4 c.big_endian.result (omega arith) (omega (arith, long)) c.big_endian.ensures)
    (low_part s 64 4 12 c.big_endian-2.result (omega arith) (omega (arith, long)) c.big_endian-2.ensures)
    (sym (byte_field s 10 (omega (arith, long)) (c.type_inv.s 10).fits))
