-- `upid::text::first` meets its contract: the rows before the byte's own lie below it.
use mathlib.Core.List.{[]}
use native.Mathlib.Omega.{arith}
use lib.ListN.{take, drop}
use Rattle.upid.specs.Text.{characters}
use Rattle.upid.proofs.Ranges.{row, gap}
use Rattle.upid.proofs.text.first.Goals as goal

pub returns-in-224 : goal.returns-in-224
returns-in-224 c = row (take 2 characters) (drop 3 characters) _ _ _ _ (omega arith) (omega arith) (omega arith)

pub returns-in-237 : goal.returns-in-237
returns-in-237 c = row (take 4 characters) (drop 5 characters) _ _ _ _ (omega arith) (omega arith) (omega arith)

pub returns-in-240 : goal.returns-in-240
returns-in-240 c = row (take 6 characters) (drop 7 characters) _ _ _ _ (omega arith) (omega arith) (omega arith)

pub returns-in-244 : goal.returns-in-244
returns-in-244 c = row (take 8 characters) (drop 9 characters) _ _ _ _ (omega arith) (omega arith) (omega arith)

pub returns-in-0-to-127 : goal.returns-in-0-to-127
returns-in-0-to-127 c = row (take 0 characters) (drop 1 characters) _ _ _ _ (omega arith) (omega arith) (omega arith)

pub returns-in-194-to-223 : goal.returns-in-194-to-223
returns-in-194-to-223 c = row (take 1 characters) (drop 2 characters) _ _ _ _ (omega arith) (omega arith) (omega arith)

pub returns-in-225-to-236 : goal.returns-in-225-to-236
returns-in-225-to-236 c = row (take 3 characters) (drop 4 characters) _ _ _ _ (omega arith) (omega arith) (omega arith)

pub returns-in-238-to-239 : goal.returns-in-238-to-239
returns-in-238-to-239 c = row (take 5 characters) (drop 6 characters) _ _ _ _ (omega arith) (omega arith) (omega arith)

pub returns-in-241-to-243 : goal.returns-in-241-to-243
returns-in-241-to-243 c = row (take 7 characters) (drop 8 characters) _ _ _ _ (omega arith) (omega arith) (omega arith)

pub returns-in_default : goal.returns-in_default
returns-in_default c = gap (take 1 characters) (drop 1 characters) _ (omega arith) (omega arith)

pub returns-in_default-2 : goal.returns-in_default-2
returns-in_default-2 c = gap characters [] _ (omega arith) (omega arith)
