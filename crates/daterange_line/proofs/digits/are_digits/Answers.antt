-- `daterange_line::digits::are_digits`: one byte more.
use Rattle.std.proofs.Common.{arith, sym}
use Rattle.attribute_list.specs.Grammar.{hex_byte}
use Rattle.daterange_line.proofs.Octets.{all_none, all_next}
use Rattle.daterange_line.proofs.digits.are_digits.Goals as goal

pub loop-b-init : goal.loop-b-init
loop-b-init c = all_none hex_byte c.args.s.now

pub loop-b-preserved : goal.loop-b-preserved
loop-b-preserved c = rw (c.loop-b.invariant, c.in_hex-good.ensures) (sym (all_next hex_byte c.args.s.now c.loop-b.b-index (omega arith)))
