-- `c_section::headers::read_flat_header`: each field the number of the header's, as it stands.
use mathlib.Core.Path.{sym, ◌∙◌}
use Rattle.c_section.proofs.Numbers.{flat_too_short, flat_numbers}
use Rattle.c_section.proofs.headers.read_flat_header.Goals as goal

pub returns : goal.returns
returns c =
    flat_numbers c.args.s.now _ _ (sym c.in-Some.is ∙ c.read_header_numbers.ensures) c.flat_flag.ensures

pub returns-in-None : goal.returns-in-None
returns-in-None c =
    flat_too_short c.args.s.now _ (sym c.in-None.is ∙ c.read_header_numbers.ensures) c.no_header.ensures
