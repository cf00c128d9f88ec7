-- `command_writer::insert::store_flags`: four flags and reserved bits are one byte.
use Prim.Native.Nat.{◌+◌, ◌*◌}
use mathlib.Core.Path.{ap, ◌∙◌}
use native.Mathlib.Omega.{arith}
use Rattle.command.specs.Insert.{out_of_network, by_program}
use Rattle.splice_time.specs.Break.{lasting}
use Rattle.table.specs.Table.{flag_number}
use Rattle.command_measure.specs.Fields.{insert_flags}
use Rattle.command_writer.proofs.Storing.{pens_all, flags_bits, network_bit}
use Rattle.command_writer.proofs.insert.store_flags.Goals as goal

pub returns : goal.returns
returns c =
    let a = c.args in
    let i = a.insert in
    let e₁ = c.wide-first.ensures.0 ∙ c.into.ensures ∙ network_bit i.network_indicator in
    let e₂ = c.flag_number-second.ensures.0 ∙ ap flag_number c.is_program.ensures in
    let e₃ = c.flag_number-third.ensures.0 ∙ ap flag_number c.lasts.ensures in
    let e₄ = c.flag_number-fourth.ensures.0 in
    let y = c.wide-first.result * 128 + c.flag_number-second.result * 64 + c.flag_number-third.result * 32 + c.flag_number-fourth.result * 16 + 15 in
    pens_all a.out.now a.c _ _ (insert_flags i a.at_once) 8 y
    (flags_bits (out_of_network i.network_indicator) (by_program i.splice_mode) (lasting i.duration) a.at_once y (omega (arith, e₁, e₂, e₃, e₄))) c.put_bits.ensures
