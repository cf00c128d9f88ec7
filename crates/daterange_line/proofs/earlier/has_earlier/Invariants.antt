-- `daterange_line::earlier::has_earlier`: the search from `at` on answers what the whole search answers.
use Rattle.std.proofs.Common.{◌≡◌, ◌-◌, length}
use Rattle.daterange_line.specs.Private.{earlier}
use Rattle.daterange_line.proofs.earlier.has_earlier.Given as goal

abbrev pub invariant-loop : goal.invariant-loop
invariant-loop l = earlier (length l.line) l.line l.place l.name 17 ≡ earlier (length l.line - l.counter) l.line l.place l.name l.at
