-- `header::header::read_header`: what the numbers name.
use mathlib.Core.Path.{sym, ◌∙◌}
use Rattle.header.proofs.Headers.{header_named, header_missing}
use Rattle.header.proofs.header.read_header.Goals as goal

pub returns : goal.returns
returns c =
    rw (c.from.ensures, c.from-2.ensures) (header_named c.args.s.now _ (sym c.in_ok-n.was ∙ c.read_header_numbers.ensures))

pub returns-in_err-n : goal.returns-in_err-n
returns-in_err-n c = rw c.from_residual.ensures (header_missing c.args.s.now (sym c.in_err-n.was ∙ c.read_header_numbers.ensures))
