-- `command_canonical::is_exact`, by the two cases.
use Rattle.std.proofs.Common.{ℕ}
use mathlib.Core.Path.{ap, sym}
use lib.ListN.{length}
use Rattle.command_canonical.specs.Private.{exact}
use Rattle.command_canonical.proofs.is_exact.Goals as goal
use Rattle.std.proofs.Common.{Option}

pub returns-in-Some : goal.returns-in-Some
returns-in-Some c =
    sym (ap (λ (f : Option ℕ). exact f (length c.args.s.now)) c.in-Some.is)
