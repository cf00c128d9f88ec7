-- `command_measure::measure::measure_insert_without_components`: cancelled, or as the survey of blanks says.
use Prim.Native.Nat.{◌^◌, ◌<◌}
use mathlib.Core.List.{[]}
use mathlib.Core.Path.{ap, ◌∙◌}
use native.Mathlib.Omega.{arith}
use Rattle.command.specs.Command.{array}
use Rattle.command_measure.specs.Survey.{active_measured}
use Rattle.command_measure.specs.declared.measure.Survey.{Survey}
use Rattle.command_measure.proofs.Making.{cancel_count, active_count, insert_cancelled, blanks_active, blanks_bytes}
use Rattle.command_measure.proofs.measure.measure_insert_without_components.Goals as goal

pub returns-in-Cancel : goal.returns-in-Cancel
returns-in-Cancel c =
    let e : c.args.i.splice_event_id < 2 ^ 32 = omega arith in
    (c.verdict.ensures ∙ insert_cancelled c.args.i (array []) c.in-Cancel.is e, cancel_count c.args.i.splice_detail c.in-Cancel.is)

pub measure_active-requires : goal.measure_active-requires
measure_active-requires c = rw c.blanks_of-s.ensures.0 (blanks_bytes _ c.blanks_of-s.ensures.1)

pub returns : goal.returns
returns c =
    let a = c.args in
    let insert = c.in-Insert.x in
    let event : a.i.splice_event_id < 2 ^ 32 = omega arith in
    let bounds = c.measure_active.ensures in (
      bounds.0 ∙ ap (λ (y : Survey). active_measured a.i.reserved insert.splice_mode insert.duration y) c.blanks_of-s.ensures.0
          ∙ blanks_active a.i insert c.in-Insert.is c.blanks_of-s.ensures.1 event bounds.1 bounds.2 bounds.3,
      active_count a.i.splice_detail insert c.in-Insert.is c.blanks_of-s.ensures.1,
    )
