-- `daterange::write_daterange`: the section's line, or its refusal.
use Rattle.daterange.proofs.Made.{refused_line, written_line}
use Rattle.daterange.proofs.write_daterange.Goals as goal

pub read_section-requires : goal.read_section-requires
read_section-requires c = tt

pub cue_for-requires : goal.cue_for-requires
cue_for-requires c = tt

pub write_line-requires : goal.write_line-requires
write_line-requires c = tt

pub returns-in-Ok : goal.returns-in-Ok
returns-in-Ok c =
    let a = c.args in record { answer = (written_line a.section.now a.id.now a.date.now a.target.now _ c.read_section.ensures _ _ _ _ c.in-Ok.is c.cue_for.ensures c.write_line.ensures.answer c.write_line.ensures.bytes).0; bytes = (written_line a.section.now a.id.now a.date.now a.target.now _ c.read_section.ensures _ _ _ _ c.in-Ok.is c.cue_for.ensures c.write_line.ensures.answer c.write_line.ensures.bytes).1 }

pub number-requires : goal.number-requires
number-requires c = tt

pub returns-in-Err : goal.returns-in-Err
returns-in-Err c =
    let a = c.args in record { answer = (refused_line a.section.now a.id.now a.date.now a.target.now _ c.read_section.ensures _ _ c.in-Err.is c.number.ensures).0; bytes = (refused_line a.section.now a.id.now a.date.now a.target.now _ c.read_section.ensures _ _ c.in-Err.is c.number.ensures).1 }
