-- `command::components::skim`: what is ahead gives what the whole gives.
use Rattle.std.proofs.Common.{◌≡◌, suc, ◌+◌, ◌*◌, ◌-◌, sym, ◌∙◌, arith}
use Rattle.std.proofs.lemmas.Result.{err_from_is_err_and}
use Rattle.command.proofs.Walking.{turn, turn_lacks, all_skimmed}
use Rattle.command.proofs.components.skim.Goals as goal

pub loop-init : goal.loop-init
loop-init c = let z : c.args.count - 0 ≡ c.args.count = omega arith in rw z

pub returns-in_err-component : goal.returns-in_err-component
returns-in_err-component c =
    let p = err_from_is_err_and c.from_residual.result c.from_residual.ensures.1 in
    let a = c.args in
    let n : a.count - c.loop.counter ≡ suc (a.count - (c.loop.counter + 1)) = omega arith in
    rw (p.1, p.2) (turn_lacks a.s.now a.immediate (a.count - (c.loop.counter + 1)) (c.loop.at * 8) _ (sym c.in_err-component.was ∙ c.read_component.ensures) ∙ rw n at c.loop.invariant)

pub loop-preserved : goal.loop-preserved
loop-preserved c =
    let a = c.args in
    let n : a.count - c.loop.counter ≡ suc (a.count - (c.loop.counter + 1)) = omega arith in
    turn a.s.now a.immediate (a.count - (c.loop.counter + 1)) c.loop.at _ (sym c.in_ok-component.was ∙ c.read_component.ensures) ∙ rw n at c.loop.invariant

pub returns : goal.returns
returns c =
    let a = c.args in
    let n : a.count - c.loop.counter ≡ 0 = omega arith in
    all_skimmed a.s.now a.immediate c.loop.at ∙ rw n at c.loop.invariant
