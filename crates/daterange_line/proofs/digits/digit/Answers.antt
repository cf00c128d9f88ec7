-- `daterange_line::digits::digit` meets its contract.
use Rattle.daterange_line.proofs.Octets.{digit_is}
use Rattle.daterange_line.proofs.digits.digit.Goals as goal

pub returns : goal.returns
returns c = digit_is _ c.requires
