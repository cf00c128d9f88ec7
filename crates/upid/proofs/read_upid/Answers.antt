-- `upid::read_upid` meets its contract: what was accepted has at most 255 bytes, and as a MID it was read as one, which is what its list asks.
use Rattle.upid.specs.Private.{Accepted}
use Rattle.upid.specs.Upid.{check_of}
use Rattle.upid.proofs.Walks.{check_short, check_mid, answer_refused, answer_fine}
use Rattle.upid.proofs.read_upid.Goals as goal

pub list_parts-requires : goal.list_parts-requires
list_parts-requires c =
    let a : Accepted (check_of c.args.upid_type c.args.upid.now) = rw (← c.check_upid-read.ensures, c.in-Ok.is) tt in
    record {
      accepted = λ e. rw e (check_mid _ (rw e at a));
      short = check_short _ _ a;
    }

pub returns-in-Err : goal.returns-in-Err
returns-in-Err c = answer_refused _ _ _ _ _ c.check_upid-read.ensures c.eidr-held.ensures _ c.in-Err.is c.blank.ensures

pub returns-in-Ok : goal.returns-in-Ok
returns-in-Ok c = answer_fine _ _ _ _ _ c.check_upid-read.ensures c.eidr-held.ensures _ c.in-Ok.is c.list_parts.ensures
