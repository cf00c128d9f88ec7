-- `bit_stores::put_shifted`: the bytes that are behind are stored.
use lib.ListN.{take}
use Rattle.table.specs.Bits.{bits_of}
use Rattle.bit_stores.specs.Pen.{Pens}
use Rattle.bit_stores.proofs.put_shifted.Given as goal

abbrev pub invariant-loop-b : goal.invariant-loop-b
invariant-loop-b l = Pens l.initial.out l.initial.next (bits_of (take l.b-index l.src)) l.out l.next
