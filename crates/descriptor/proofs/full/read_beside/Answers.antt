-- `descriptor::full::read_beside`: the table's parts in turn, then its components from their first byte on.
use mathlib.Core.Path.{ap, ◌∙◌}
use native.Mathlib.Omega.{arith}
use Rattle.upid.specs.Upid.{eidr_of}
use Rattle.descriptor.specs.Private.{mode_and_upid_read, back_read, head_read}
use Rattle.descriptor.proofs.Besides.{components_from_lem, eidr_as, beside_no_head, beside_cancelled, beside_no_front, beside_no_back, beside_program, beside_components}
use Rattle.descriptor.proofs.Parts.{told}
use Rattle.descriptor.proofs.Segmentations.{front_inside}
use Rattle.descriptor.proofs.full.read_beside.Goals as goal

pub returns-in-Err : goal.returns-in-Err
returns-in-Err c =
    let a = c.args in
    c.blank_beside.ensures ∙ beside_no_head a.payload.now _ (told head_read _ _ _ c.in-Err.is c.read_head.ensures)

pub returns-then-head : goal.returns-then-head
returns-then-head c =
    let a = c.args in
    c.blank_beside-then-head.ensures ∙ beside_cancelled a.payload.now _ (told head_read _ _ _ c.in-Ok.is c.read_head.ensures) c.if-head.true

pub returns-in-None : goal.returns-in-None
returns-in-None c =
    let a = c.args in
    c.blank_beside-in-None.ensures ∙ beside_no_front a.payload.now _ (told head_read _ _ _ c.in-Ok.is c.read_head.ensures) c.if-head.false _ _ (told mode_and_upid_read _ _ _ c.in-None.is c.read_mode_and_upid.ensures).2

pub read_back-requires : goal.read_back-requires
read_back-requires c =
    let a = c.args in
    let g = told mode_and_upid_read _ _ _ c.in-Some.is c.read_mode_and_upid.ensures in
    front_inside a.payload.now 5 _ _ g.2

pub returns-in-Err-read_back : goal.returns-in-Err-read_back
returns-in-Err-read_back c =
    let a = c.args in
    let g = told mode_and_upid_read _ _ _ c.in-Some.is c.read_mode_and_upid.ensures in
    c.blank_beside-in-Err-read_back.ensures ∙ beside_no_back a.payload.now _ (told head_read _ _ _ c.in-Ok.is c.read_head.ensures) c.if-head.false _ _ _ g.2 _ (told back_read _ _ _ c.in-Err-read_back.is c.read_back.ensures)

pub list_components-requires : goal.list_components-requires
list_components-requires c =
    let a = c.args in
    let g = told mode_and_upid_read _ _ _ c.in-Some.is c.read_mode_and_upid.ensures in
    omega (arith, components_from_lem a.payload.now _ _ _ g.2 _ (g.3 ∙ c.in-Component.is))

pub returns-in-Program : goal.returns-in-Program
returns-in-Program c =
    let a = c.args in
    let g = told mode_and_upid_read _ _ _ c.in-Some.is c.read_mode_and_upid.ensures in
    beside_program a.payload.now _ (told head_read _ _ _ c.in-Ok.is c.read_head.ensures) c.if-head.false _ _ _ g.2 _ _ (told back_read _ _ _ c.in-Ok-read_back.is c.read_back.ensures).1 _ (c.eidr-eidr.ensures ∙ ap (eidr_of _) c.view-part.ensures ∙ eidr_as a.payload.now g.4) (g.3 ∙ c.in-Program.is) _ c.no_components.ensures

pub returns-in-Component : goal.returns-in-Component
returns-in-Component c =
    let a = c.args in
    let g = told mode_and_upid_read _ _ _ c.in-Some.is c.read_mode_and_upid.ensures in
    beside_components a.payload.now _ (told head_read _ _ _ c.in-Ok.is c.read_head.ensures) c.if-head.false _ _ _ g.2 _ _ (told back_read _ _ _ c.in-Ok-read_back.is c.read_back.ensures).1 _ (c.eidr-eidr.ensures ∙ ap (eidr_of _) c.view-part.ensures ∙ eidr_as a.payload.now g.4) _ (g.3 ∙ c.in-Component.is) _ c.list_components.ensures
