-- `section_writer::numbers_fit`, number by number: those of a byte fit their fields by their type.
use native.Mathlib.Omega.{arith}
use Rattle.section_writer.proofs.Stored.{is_fitting, not_fitting}
use Rattle.section_writer.proofs.numbers_fit.Goals as goal

pub returns-then-from-gt63 : goal.returns-then-from-gt63
returns-then-from-gt63 c = not_fitting c.args.header (λ f. omega (arith, f.algorithm, c.from.ensures))

pub returns-then-header-gt8589934591 : goal.returns-then-header-gt8589934591
returns-then-header-gt8589934591 c = not_fitting c.args.header (λ f. omega (arith, f.adjustment))

pub returns-then-header-gt4095 : goal.returns-then-header-gt4095
returns-then-header-gt4095 c = not_fitting c.args.header (λ f. omega (arith, f.tiers))

pub returns : goal.returns
returns c =
    is_fitting c.args.header
    (record { version = omega arith; algorithm = omega (arith, c.from.ensures); adjustment = omega arith; index = omega arith; tiers = omega arith })
