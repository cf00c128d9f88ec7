-- `section_writer::is_canonical_frame`: a section that has no frame is not accepted.
use mathlib.Core.Path.{sym, ◌∙◌}
use Rattle.section.proofs.Framing.{is_refused}
use Rattle.section_writer.proofs.Forms.{not_accepted}
use Rattle.section_writer.proofs.is_canonical_frame.Goals as goal

pub is_canonical_around-requires : goal.is_canonical_around-requires
is_canonical_around-requires c = sym c.in-Ok.is ∙ c.read_frame.ensures

pub returns-in-Ok : goal.returns-in-Ok
returns-in-Ok c = c.is_canonical_around.ensures

pub returns-in-Err : goal.returns-in-Err
returns-in-Err c =
    let s = c.args.section.now in
    not_accepted s _ (sym (is_refused s _ (sym c.in-Err.is ∙ c.read_frame.ensures)))
