-- `command_writer::time::store_time`, by the kind of the time.
use Rattle.command_writer.proofs.Storing.{time_open, time_now, time_at}
use Rattle.command_writer.proofs.time.store_time.Goals as goal

pub returns-in-Unspecified : goal.returns-in-Unspecified
returns-in-Unspecified c = time_open c.args.out.now c.args.c _ _ c.args.time c.in-Unspecified.is c.put_bits.ensures

pub returns-in-Immediate : goal.returns-in-Immediate
returns-in-Immediate c = time_now c.args.out.now c.args.c _ _ c.args.time c.in-Immediate.is c.put_bits-in-Immediate.ensures

pub returns : goal.returns
returns c =
    time_at c.args.out.now c.args.c _ _ c.args.time _ c.in-At.is c.put_bits-2.ensures
