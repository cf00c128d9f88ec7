-- `command_writer::insert::store_components`: the components that are behind are stored.
use Rattle.std.proofs.Common.{◌+◌, take, take_all, arith}
use Rattle.command.specs.declared.components.InsertComponent.{InsertComponent}
use Rattle.splice_time.specs.declared.SpliceTime.TheVariants.{Immediate}
use Rattle.bit_stores.proofs.Tables.{pens_nil}
use Rattle.command_writer.proofs.Storing.{component_more, pens_length, fits_fewer}
use Rattle.command_writer.proofs.insert.store_components.Goals as goal

pub loop-component-init : goal.loop-component-init
loop-component-init c = pens_nil c.args.out.now c.args.c c.requires.1 c.requires.2 (omega (arith, c.requires.3))

pub store_component-next-requires : goal.store_component-next-requires
store_component-next-requires c =
    let a = c.args in
    let cs = take a.count a.components in
    let i = c.loop-component.component-index in
    let d : InsertComponent = record { component_tag = 0; splice_time = Immediate } in
    (component_more a.out.now a.c c.loop-component.out c.loop-component.next a.at_once cs i d c.loop-component.out c.loop-component.next c.loop-component-test.true
    (fits_fewer a.out.now a.c a.at_once cs (i + 1) c.requires.3) c.loop-component.invariant).0

pub loop-component-preserved : goal.loop-component-preserved
loop-component-preserved c =
    let a = c.args in
    let cs = take a.count a.components in
    let i = c.loop-component.component-index in
    let d : InsertComponent = record { component_tag = 0; splice_time = Immediate } in
    (component_more a.out.now a.c c.loop-component.out c.loop-component.next a.at_once cs i d _ _ c.loop-component-test.true
    (fits_fewer a.out.now a.c a.at_once cs (i + 1) c.requires.3) c.loop-component.invariant).1 c.store_component-next.ensures

pub shape_of-out : goal.shape_of-out
shape_of-out c = pens_length c.args.out.now c.args.c c.loop-component.out c.loop-component.next _ c.loop-component.invariant

pub returns : goal.returns
returns c = rw (take_all c.loop-component.component-index (take c.args.count c.args.components) c.loop-component-test.false) at c.loop-component.invariant
