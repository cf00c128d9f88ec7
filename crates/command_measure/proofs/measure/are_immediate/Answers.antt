-- `command_measure::measure::are_immediate`: the first of 255 places, if any counts.
use Prim.Native.Nat.{◌<◌}
use mathlib.Core.Path.{◌≡◌, ap, ◌∙◌}
use native.Mathlib.Omega.{arith}
use lib.ListN.{length}
use borrow.Author.Tests.{lt-ltb}
use Rattle.command.specs.Insert.{immediate, blank}
use Rattle.command.specs.declared.components.InsertComponent.{InsertComponent}
use Rattle.splice_time.specs.declared.SpliceTime.TheVariants.{Immediate}
use Rattle.command_measure.proofs.Making.{get_d_any}
use borrow.Author.Rules.{rules}
use Rattle.command_measure.proofs.measure.are_immediate.Goals as goal

pub returns-then-n-eq0 : goal.returns-then-n-eq0
returns-then-n-eq0 c = rw c.if-n-eq0.true

pub returns : goal.returns
returns c =
    let d : InsertComponent = record { component_tag = 0; splice_time = Immediate } in
    let some : 0 < c.args.n = omega arith in
    rw (lt-ltb 0 c.args.n some) (c.is_immediate.ensures ∙ ap (λ (x : InsertComponent). immediate x.splice_time) (get_d_any c.args.components 0 d blank (omega (arith, (let it : length c.args.components ≡ 255 = search rules in it)))))
