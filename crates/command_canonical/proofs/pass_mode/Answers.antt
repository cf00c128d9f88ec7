-- `command_canonical::pass_mode`, return by return.
use native.Mathlib.Omega.{arith}
use Rattle.command_canonical.proofs.Inserts.{by_program_lem, no_count, immediate_none, timed_none, by_components}
use Rattle.command_canonical.proofs.pass_mode.Goals as goal

pub returns-then-program : goal.returns-then-program
returns-then-program c =
    let a = c.args in
    by_program_lem a.s.now a.at a.program a.immediate c.pass_time_unless.result c.if-program.true c.pass_time_unless.ensures

pub returns-then-s-at : goal.returns-then-s-at
returns-then-s-at c =
    let a = c.args in
    no_count a.s.now a.at a.program a.immediate c.if-program.false c.if-s-at.true

pub returns-then-immediate : goal.returns-then-immediate
returns-then-immediate c =
    let a = c.args in
    immediate_none a.s.now a.at a.program a.immediate c.if-program.false c.if-s-at.false (c.type_inv.s a.at).fits c.if-s-at-eq0.true c.if-immediate.true

pub returns-then-s-at-eq0 : goal.returns-then-s-at-eq0
returns-then-s-at-eq0 c =
    let a = c.args in
    timed_none a.s.now a.at a.program a.immediate c.if-program.false c.if-s-at.false (c.type_inv.s a.at).fits c.if-s-at-eq0.true c.if-immediate.false

pub overflow_cast-s : goal.overflow_cast-s
overflow_cast-s c =
    let a = c.args in
    omega (arith, (c.shared_slice_known-2-1.given a.at).fits)

pub returns : goal.returns
returns c =
    let a = c.args in
    by_components a.s.now a.at a.program a.immediate c.if-program.false c.if-s-at.false (c.shared_slice_known-2-1.given a.at).fits c.pass_components.result (omega (arith, c.if-s-at-eq0.false)) c.pass_components.ensures
