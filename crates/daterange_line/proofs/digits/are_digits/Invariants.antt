-- `daterange_line::digits::are_digits`: those passed are digits.
use Rattle.std.proofs.Common.{◌≡◌, take}
use Rattle.attribute_list.specs.Grammar.{all, hex_byte}
use Rattle.daterange_line.proofs.digits.are_digits.Given as goal

abbrev pub invariant-loop-b : goal.invariant-loop-b
invariant-loop-b l = l.good ≡ all hex_byte (take l.b-index l.s)
