-- `command_writer::insert::store_component`: the tag, then the time unless all is immediate.
use Rattle.bit_stores.proofs.Tables.{Goes}
use Rattle.command_measure.specs.Fields.{ink, time_fields, component_fields}
use Rattle.command_writer.proofs.Storing.{component_now, component_timed}
use Rattle.command_writer.proofs.insert.store_component.Goals as goal

pub returns-then-at_once : goal.returns-then-at_once
returns-then-at_once c =
    let a = c.args in
    component_now a.out.now a.c _ _ a.at_once a.component _ c.if-at_once.true c.wide.ensures.0 c.put_bits-c.ensures

pub store_time-requires : goal.store_time-requires
store_time-requires c =
    let next : let a = c.args in Goes a.out.now a.c (ink (component_fields a.at_once a.component)) c.put_bits-c.new.out c.put_bits-c.result (ink (time_fields a.component.splice_time)) = component_timed c.args.out.now c.args.c _ _ c.args.at_once c.args.component _ c.if-at_once.false c.wide.ensures.0 c.requires c.put_bits-c.ensures in
    next.room

pub returns : goal.returns
returns c =
    let next : let a = c.args in Goes a.out.now a.c (ink (component_fields a.at_once a.component)) c.put_bits-c.new.out c.put_bits-c.result (ink (time_fields a.component.splice_time)) = component_timed c.args.out.now c.args.c _ _ c.args.at_once c.args.component _ c.if-at_once.false c.wide.ensures.0 c.requires c.put_bits-c.ensures in
    next.both _ _ c.store_time.ensures
