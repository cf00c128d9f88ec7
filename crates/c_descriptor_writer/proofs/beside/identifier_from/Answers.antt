-- `c_descriptor_writer::beside::identifier_from` meets its contract.
use native.Mathlib.Nat.{div-one}
use Rattle.c_descriptor_writer.specs.ItemGiven.{identifier_from}
use Rattle.c_descriptor_writer.proofs.beside.identifier_from.Goals as goal

pub returns : goal.returns
unfolding identifier_from
returns c = rw (c.word_at-number.ensures, div-one)
