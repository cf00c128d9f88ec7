-- `c_section::headers::no_header` meets its contract.
use mathlib.Core.Path.{refl}
use Rattle.c_section.specs.Flat.{no_header}
use Rattle.c_section.proofs.headers.no_header.Goals as goal

pub returns : goal.returns
unfolding no_header
returns c = refl
