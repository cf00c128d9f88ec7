-- `command_writer::insert::store_break`: a flag, reserved bits and the duration are one number.
use Prim.Native.Nat.{◌+◌, ◌*◌, ◌%◌}
use mathlib.Core.Path.{◌∙◌}
use native.Mathlib.Omega.{arith}
use Rattle.command_measure.specs.Fields.{break_fields}
use Rattle.command_writer.proofs.Storing.{pens_all, break_bits, return_bit}
use Rattle.command_writer.proofs.insert.store_break.Goals as goal
use Rattle.std.proofs.Common.{Some}

pub returns : goal.returns
returns c =
    let a = c.args in
    let e = c.wide-returns.ensures.0 ∙ c.into.ensures ∙ return_bit a.d.return_mode in
    let y = c.wide-returns.result * 0x8000000000 + 0x7E00000000 + a.d.duration % 0x200000000 in
    pens_all a.out.now a.c _ _ (break_fields (Some a.d)) 40 y (break_bits a.d y (omega (arith, e))) c.put_bits.ensures
