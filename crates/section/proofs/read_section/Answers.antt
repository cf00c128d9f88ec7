-- `section::read_section`: a frame that is refused refuses the section.
use Rattle.std.proofs.lemmas.Result.{err_from_is_err_and}
use mathlib.Core.Path.{ap, sym, ◌∙◌}
use native.Mathlib.Omega.{arith}
use Rattle.section.specs.Section.{accepted}
use Rattle.section.proofs.Framing.{framed, is_accepted, is_refused}
use Rattle.section.proofs.read_section.Goals as goal

pub read_parts-requires : goal.read_parts-requires
read_parts-requires c =
    let s = c.args.section.now in
    let f = framed s _ (sym c.in_ok-frame.was ∙ c.read_frame.ensures) in
    (f.place, omega (arith, f.fits))

pub returns : goal.returns
returns c =
    let s = c.args.section.now in
    let laid = sym c.in_ok-frame.was ∙ c.read_frame.ensures in
    is_accepted s _ _ laid (c.read_parts.ensures ∙ ap (accepted _ _) (sym (framed s _ laid).place))

pub returns-in_err-frame : goal.returns-in_err-frame
returns-in_err-frame c =
    let p = err_from_is_err_and c.from_residual.result c.from_residual.ensures.1 in
    let s = c.args.section.now in
    rw (p.1, p.2) (is_refused s _ (sym c.in_err-frame.was ∙ c.read_frame.ensures))
