-- `daterange_writer::encoding::encode`: the digits of the bytes passed stand in the target.
use Rattle.std.proofs.Common.{◌≡◌, take}
use Rattle.table.specs.Lent.{stored}
use Rattle.daterange_writer.specs.Writing.{hex_of}
use Rattle.daterange_writer.proofs.encoding.encode.Given as goal

abbrev pub invariant-loop-i : goal.invariant-loop-i
invariant-loop-i l = l.target ≡ stored l.initial.target l.at (hex_of (take l.i l.section))
