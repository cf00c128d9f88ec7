-- `command_writer::insert::store_end`: the duration, if there is one, and three numbers.
use Rattle.command_measure.specs.Fields.{tail_fields}
use Rattle.command_writer.proofs.Storing.{break_none, break_goes, break_fits, tail_fits}
use Rattle.command_writer.proofs.insert.store_end.Goals as goal

pub store_tail-requires : goal.store_tail-requires
store_tail-requires c = tail_fits c.args.out.now c.args.c c.args.insert.duration _ c.in-None.is c.requires

pub store_break-c-requires : goal.store_break-c-requires
store_break-c-requires c = break_fits c.args.out.now c.args.c c.args.insert.duration _ _ c.in-Some.is c.requires

pub store_tail-requires-in-Some : goal.store_tail-requires-in-Some
store_tail-requires-in-Some c =
    let i = c.args.insert in
    (break_goes c.args.out.now c.args.c _ _ i.duration _ (tail_fields i.unique_program_id i.avail_num i.avails_expected) c.in-Some.is c.requires c.store_break-c.ensures).room

pub returns-in-None : goal.returns-in-None
returns-in-None c = break_none c.args.out.now c.args.c _ _ c.args.insert.duration _ c.in-None.is c.store_tail.ensures

pub returns-in-Some : goal.returns-in-Some
returns-in-Some c =
    let i = c.args.insert in
    (break_goes c.args.out.now c.args.c _ _ i.duration _ (tail_fields i.unique_program_id i.avail_num i.avails_expected) c.in-Some.is c.requires c.store_break-c.ensures
    ).both _ _ c.store_tail-in-Some.ensures
