-- `command::components::fill`: what is ahead, stored behind what is there, gives what the whole gives.
use Rattle.std.proofs.Common.{◌≡◌, suc, ◌+◌, ◌*◌, ◌-◌, sym, ◌∙◌, length-set, arith}
use Rattle.command.proofs.Filling.{fill_start, fill_turn, fill_lacks, fill_end, blank_length}
use Rattle.command.proofs.components.fill.Goals as goal

pub loop-i-init : goal.loop-i-init
loop-i-init c =
    let a = c.args in
    let z : a.count - 0 ≡ a.count = omega arith in
    (rw c.blanks-out.ensures blank_length, rw (c.blanks-out.ensures, z))

pub returns-in-Err : goal.returns-in-Err
returns-in-Err c =
    let a = c.args in
    let n : a.count - c.loop-i.i ≡ suc (a.count - (c.loop-i.i + 1)) = omega arith in
    c.blanks.ensures ∙ fill_lacks a.s.now a.immediate c.loop-i.out c.loop-i.i (a.count - (c.loop-i.i + 1)) (c.loop-i.at * 8) _ (sym c.in-Err.is ∙ c.read_component.ensures)
    ∙ rw n at c.loop-i.invariant.1 ∙ fill_start a.s.now a.immediate a.count (a.first * 8) c.requires

pub loop-i-preserved : goal.loop-i-preserved
loop-i-preserved c =
    let a = c.args in
    let n : a.count - c.loop-i.i ≡ suc (a.count - (c.loop-i.i + 1)) = omega arith in (
      length-set c.loop-i.out c.loop-i.i _ ∙ c.loop-i.invariant.0,
      fill_turn a.s.now a.immediate c.loop-i.out c.loop-i.i (a.count - (c.loop-i.i + 1)) c.loop-i.at _ (sym c.in-Ok.is ∙ c.read_component.ensures) ∙ rw n at c.loop-i.invariant.1,
    )

pub returns : goal.returns
returns c =
    let a = c.args in
    let n : a.count - c.loop-i.i ≡ 0 = omega arith in
    fill_end a.s.now a.immediate c.loop-i.out c.loop-i.i (c.loop-i.at * 8) ∙ rw n at c.loop-i.invariant.1 ∙ fill_start a.s.now a.immediate a.count (a.first * 8) c.requires
