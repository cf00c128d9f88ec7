-- `daterange_writer::encoding::encode`: the digits of the bytes passed stand in the target.
use Rattle.std.proofs.Common.{arith, ap, sym, ◌∙◌, List, ℕ, take_all}
use Rattle.table.specs.Lent.{stored}
use Rattle.table.proofs.Stores.{stored_nil}
use Rattle.daterange_writer.specs.Writing.{hex_of}
use Rattle.daterange_writer.proofs.Digits.{hex_store}
use Rattle.daterange_writer.proofs.encoding.encode.Goals as goal

pub loop-i-init : goal.loop-i-init
unfolding hex_of
loop-i-init c = sym (stored_nil c.args.target.now c.args.at)

pub loop-i-preserved : goal.loop-i-preserved
loop-i-preserved c = rw c.loop-i.invariant (hex_store c.args.section.now c.loop-i.i (omega arith) c.args.target.now c.args.at _ _ c.requires c.capital.ensures c.capital-in-loop-i.ensures)

pub returns : goal.returns
returns c = c.loop-i.invariant ∙ ap (λ (s : List ℕ). stored c.args.target.now c.args.at (hex_of s)) (take_all c.loop-i.i c.args.section.now (omega arith))
