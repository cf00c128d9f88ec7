-- `bit_stores::digits`: what the shift leaves of the number.
use lib.Pow.{pow_pos}
use Rattle.table.proofs.Reading.{mask}
use Rattle.bit_stores.proofs.Turns.{no_digits}
use borrow.Author.Rules.{rules}
use Rattle.bit_stores.proofs.digits.Goals as goal

pub returns-then-k-ge64 : goal.returns-then-k-ge64
returns-then-k-ge64 c = let a = c.args in no_digits a.v a.k a.n (search rules) (search rules)

pub nonzero_rem-result : goal.nonzero_rem-result
nonzero_rem-result c = let n = c.args.n in rw (mask n c.requires) (pow_pos n)

pub returns : goal.returns
returns c = let n = c.args.n in rw (mask n c.requires)
