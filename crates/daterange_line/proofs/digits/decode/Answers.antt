-- `daterange_line::digits::decode`: the bytes of the digits passed stand in the target.
use Rattle.std.proofs.Common.{◌*◌, ◌+◌, arith, ap, sym, ◌∙◌}
use Rattle.table.specs.Lent.{stored}
use Rattle.table.proofs.Stores.{stored_nil}
use Rattle.attribute_list.specs.Grammar.{hex_byte}
use Rattle.daterange_line.specs.Reading.{octets}
use Rattle.daterange_line.proofs.Octets.{all_at, octets_store, octets_all}
use Rattle.daterange_line.proofs.digits.decode.Goals as goal

pub loop-i-init : goal.loop-i-init
unfolding octets
loop-i-init c = sym (stored_nil c.args.target.now 0)

pub pair-requires : goal.pair-requires
pair-requires c = (all_at hex_byte c.args.digits.now (c.loop-i.i * 2) c.requires.0 (omega arith), all_at hex_byte c.args.digits.now (c.loop-i.i * 2 + 1) c.requires.0 (omega arith))

pub loop-i-preserved : goal.loop-i-preserved
loop-i-preserved c = rw c.loop-i.invariant (octets_store c.args.digits.now c.loop-i.i (omega arith) c.args.target.now _ (omega arith) c.pair.ensures)

pub returns : goal.returns
returns c = c.loop-i.invariant ∙ ap (stored c.args.target.now 0) (octets_all c.args.digits.now c.loop-i.i c.requires.1 (omega arith))
