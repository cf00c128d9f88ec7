-- `command_canonical::pass_components`: what is ahead says what the whole says.
use Rattle.std.proofs.Common.{◌≡◌, ◌≤◌, suc, ◌+◌, ◌-◌, arith}
use Rattle.command_canonical.proofs.Inserts.{no_tag, no_component, a_component, all_ahead, stops, goes_on_lem, none_ahead}
use Rattle.command_canonical.proofs.Walks.{told_ends, told_other}
use Rattle.command_canonical.proofs.pass_components.Goals as goal

pub loop-init : goal.loop-init
loop-init c = let z : c.args.count - 0 ≡ c.args.count = omega arith in rw z (all_ahead _ _ _ _)

pub returns-then-s-next : goal.returns-then-s-next
returns-then-s-next c =
    let a = c.args in
    let n : a.count - c.loop.counter ≡ suc (a.count - (c.loop.counter + 1)) = omega arith in
    stops _ _ _ _ _ _ (rw n at c.loop.invariant) (no_tag a.s.now c.loop.next a.immediate c.if-s-next.true)

pub returns-in_err-next : goal.returns-in_err-next
returns-in_err-next c =
    let a = c.args in
    let n : a.count - c.loop.counter ≡ suc (a.count - (c.loop.counter + 1)) = omega arith in
    rw c.from_residual.ensures (stops _ _ _ _ _ _ (rw n at c.loop.invariant) (no_component a.s.now c.loop.next a.immediate (told_other _ _ _ _ c.pass_time_unless.ensures c.in_err-next.was)))

pub loop-preserved : goal.loop-preserved
loop-preserved c =
    let a = c.args in
    let n : a.count - c.loop.counter ≡ suc (a.count - (c.loop.counter + 1)) = omega arith in
    goes_on_lem _ _ _ _ _ _ (rw n at c.loop.invariant) _ (a_component a.s.now c.loop.next a.immediate _ c.if-s-next.false (told_ends _ _ _ _ _ c.pass_time_unless.ensures c.in_ok-next.was))

pub returns : goal.returns
returns c = let z : c.args.count - c.loop.counter ≤ 0 = omega arith in none_ahead _ _ _ _ _ _ c.loop.invariant z
