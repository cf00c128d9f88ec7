-- `daterange_line::digits::decode`: the bytes of the digits passed stand in the target.
use Rattle.std.proofs.Common.{◌≡◌, ◌*◌, take}
use Rattle.table.specs.Lent.{stored}
use Rattle.daterange_line.specs.Reading.{octets}
use Rattle.daterange_line.proofs.digits.decode.Given as goal

abbrev pub invariant-loop-i : goal.invariant-loop-i
invariant-loop-i l = l.target ≡ stored l.initial.target 0 (octets (take (l.i * 2) l.digits))
