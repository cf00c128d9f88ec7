-- `command_measure::measure::look`: the survey of the components from i on.
use Rattle.std.proofs.Common.{ℕ, ◌≡◌, suc, ◌-◌, ◌<◌, [], length, take, drop, get_or, ap, ap₂, sym, ◌∙◌, drop_of_length-le, arith, rules}
use Rattle.std.proofs.lemmas.List.{length-drop, length-take-le, get_or-take}
use Rattle.command.specs.declared.components.InsertComponent.{InsertComponent}
use Rattle.splice_time.specs.declared.SpliceTime.TheVariants.{Immediate}
use Rattle.command_measure.specs.Survey.{adding, surveyed}
use Rattle.command_measure.specs.declared.measure.Survey.{Survey}
use Rattle.command_measure.proofs.Surveys.{surveyed_nil, surveyed_at, tags_at, survey_bytes}
use Rattle.command_measure.proofs.measure.look.Goals as goal

pub loop-i-init : goal.loop-i-init
loop-i-init c =
    let a = c.args in
    let full : length a.components ≡ 255 = search rules in
    let n : length (take a.count a.components) ≡ a.count = length-take-le a.count a.components (omega arith) in
    let z : drop a.count (take a.count a.components) ≡ [] = drop_of_length-le (take a.count a.components) {i = a.count} (omega arith) in
    (rw z (surveyed_nil a.at_once), rw z tt)

pub add_component-s-requires : goal.add_component-s-requires
add_component-s-requires c =
    let a = c.args in
    let full : length a.components ≡ 255 = search rules in
    let cs = take a.count a.components in
    let n : length cs ≡ a.count = length-take-le a.count a.components (omega arith) in
    let k : length (drop c.loop-i.i cs) ≡ a.count - c.loop-i.i = length-drop c.loop-i.i cs ∙ ap (λ (k : ℕ). k - c.loop-i.i) n in
    rw c.loop-i.invariant.0 (omega (arith, survey_bytes a.at_once (drop c.loop-i.i cs)))

pub loop-i-preserved : goal.loop-i-preserved
loop-i-preserved c =
    let a = c.args in
    let j = c.loop-i.i - 1 in
    let cs = take a.count a.components in
    let full : length a.components ≡ 255 = search rules in
    let n : length cs ≡ a.count = length-take-le a.count a.components (omega arith) in
    let d : InsertComponent = record { component_tag = 0; splice_time = Immediate } in
    let z : suc j ≡ c.loop-i.i = omega arith in
    let h : j < length cs = omega arith in
    let same : get_or cs j d ≡ get_or a.components j d = get_or-take a.count a.components j d (omega arith) in
    let one = c.add_component-s.ensures in
    let s : c.add_component-s.result ≡ surveyed a.at_once (drop j cs) =
    one.0
    ∙ ap₂ (λ (x : InsertComponent) (y : Survey). adding a.at_once x.splice_time y) (sym same) (c.loop-i.invariant.0 ∙ ap (λ (k : ℕ). surveyed a.at_once (drop k cs)) (sym z))
    ∙ surveyed_at a.at_once cs j d h in
    (s, tags_at cs j d h (rw same one.1) (rw z c.loop-i.invariant.1))

pub returns : goal.returns
returns c =
    let z : c.loop-i.i ≡ 0 = omega arith in
    (rw z at c.loop-i.invariant.0, rw z at c.loop-i.invariant.1)
