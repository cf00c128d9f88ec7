-- `command_measure::measure::measure_insert`: cancelled or by program as without components, or as the survey of its components says.
use mathlib.Core.List.{[]}
use mathlib.Core.Path.{◌≡◌, ap, ap₂, sym, ◌∙◌}
use native.Mathlib.Omega.{arith}
use Prim.Native.Nat.{ℕ, ◌^◌, ◌<◌, ◌≤◌}
use mathlib.Core.Bool.{Bool}
use lib.ListN.{length, take}
use lib.Seq.{length-take-le}
use Rattle.command.specs.Command.{array}
use Rattle.command.specs.Insert.{WithComponents, count}
use Rattle.command.specs.declared.insert.SpliceInsert.{SpliceInsert}
use Rattle.command_measure.specs.Fields.{immediate_in}
use Rattle.command_measure.specs.Made.{insert_made, measured_of}
use Rattle.command_measure.specs.Survey.{surveyed, active_measured}
use Rattle.command_measure.specs.declared.measure.Survey.{Survey}
use Rattle.command_measure.proofs.Making.{active_count, insert_active, listed_now, none_counted, cancel_none, program_none}
use Rattle.command_measure.proofs.Surveys.{survey_bytes}
use borrow.Author.Rules.{rules}
use Rattle.command_measure.proofs.measure.measure_insert.Goals as goal

pub returns-in-Cancel : goal.returns-in-Cancel
returns-in-Cancel c =
    let a = c.args in
    let e = none_counted a.i (array []) a.components (cancel_none a.i.splice_detail c.in-Cancel.is) in
    (c.measure_insert_without_components.ensures.0 ∙ ap (λ (x : WithComponents SpliceInsert). measured_of (insert_made x)) e, c.measure_insert_without_components.ensures.1)

pub returns-in-Program : goal.returns-in-Program
returns-in-Program c =
    let a = c.args in
    let e = none_counted a.i (array []) a.components (program_none a.i.splice_detail _ _ c.in-Insert.is c.in-Program.is) in
    (c.measure_insert_without_components-in-Program.ensures.0 ∙ ap (λ (c : WithComponents SpliceInsert). measured_of (insert_made c)) e, c.measure_insert_without_components-in-Program.ensures.1)

pub measure_active-requires : goal.measure_active-requires
measure_active-requires c =
    let n = c.in-Components.k in
    let most : n ≤ 255 = omega arith in
    let l : length (take n c.args.components) ≡ n = length-take-le n c.args.components (omega (arith, (let it : length c.args.components ≡ 255 = search rules in it), most)) in
    rw c.look-s.ensures.0 (omega (arith, l, most, survey_bytes c.are_immediate-at_once.result (take n c.args.components)))

pub returns : goal.returns
returns c =
    let a = c.args in
    let insert = c.in-Insert.x in
    let mode = insert.splice_mode in
    let n = c.in-Components.k in
    let most : n ≤ 255 = omega arith in
    let z : n ≡ count mode = sym (ap count c.in-Components.is) in
    let b : c.are_immediate-at_once.result ≡ immediate_in insert (take (count mode) a.components) = c.are_immediate-at_once.ensures ∙ listed_now mode n a.components c.in-Components.is in
    let y : c.look-s.result ≡ surveyed (immediate_in insert (take (count mode) a.components)) (take (count mode) a.components) =
    c.look-s.ensures.0 ∙ ap₂ (λ (b : Bool) (n : ℕ). surveyed b (take n a.components)) b z in
    let event : a.i.splice_event_id < 2 ^ 32 = omega arith in
    let bounds = c.measure_active.ensures in (
      bounds.0 ∙ ap (λ (y : Survey). active_measured a.i.reserved mode insert.duration y) y
          ∙ insert_active a.i insert a.components c.in-Insert.is (omega (arith, (let it : length c.args.components ≡ 255 = search rules in it), z, most)) event (omega (arith, z, most)) bounds.1 bounds.2 bounds.3 (rw z at c.look-s.ensures.1),
      active_count a.i.splice_detail insert c.in-Insert.is (omega (arith, z, most)),
    )
