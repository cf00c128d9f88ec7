-- `relabel::relabel`: by the section's frame and its command.
use Rattle.std.proofs.Common.{Err}
use mathlib.Core.Path.{ap, sym, ◌∙◌}
use native.Mathlib.Omega.{arith}
use Rattle.bit_stores.proofs.Writes.{refused_answer}
use Rattle.bit_stores.specs.Written.{answer_of, later_of}
use Rattle.section.proofs.Framing.{framed, command_at}
use Rattle.table.specs.Writing.{Made}
use Rattle.relabel.proofs.Mades.{frame_refused, command_unknown, command_malformed, command_is_lem, frame_len}
use Rattle.relabel.proofs.relabel.Goals as goal

pub returns-in-Err : goal.returns-in-Err
returns-in-Err c =
    let a = c.args in record { answer = (refused_answer _ a.target.now _ (frame_refused a.section.now a.offset a.part a.upid_type a.new.now _ _ (sym c.in-Err.is ∙ c.read_frame.ensures) c.number.ensures)).0; bytes = (refused_answer _ a.target.now _ (frame_refused a.section.now a.offset a.part a.upid_type a.new.now _ _ (sym c.in-Err.is ∙ c.read_frame.ensures) c.number.ensures)).1 }

pub overflow_add-end : goal.overflow_add-end
overflow_add-end c =
    let w = framed _ _ (sym c.in-Ok.is ∙ c.read_frame.ensures) in
    omega (arith, w.size, w.short, w.fits)

pub bounds-section-13 : goal.bounds-section-13
bounds-section-13 c =
    let w = framed _ _ (sym c.in-Ok.is ∙ c.read_frame.ensures) in
    omega (arith, w.size, w.long, w.fits)

pub slice_bounds-read_command-count : goal.slice_bounds-read_command-count
slice_bounds-read_command-count c =
    let w = framed _ _ (sym c.in-Ok.is ∙ c.read_frame.ensures) in
    omega (arith, w.size, w.long, w.fits)

pub slice_bounds-read_command-start : goal.slice_bounds-read_command-start
slice_bounds-read_command-start c =
    let w = framed _ _ (sym c.in-Ok.is ∙ c.read_frame.ensures) in
    omega (arith, w.size, w.long, w.fits)

pub slice_bounds-read_command-end : goal.slice_bounds-read_command-end
slice_bounds-read_command-end c =
    let w = framed _ _ (sym c.in-Ok.is ∙ c.read_frame.ensures) in
    omega (arith, w.size, w.long, w.fits)

pub returns-in-Err-UnknownType : goal.returns-in-Err-UnknownType
returns-in-Err-UnknownType c =
    let a = c.args in
    let s = a.section.now in
    let e = sym c.in-Ok.is ∙ c.read_frame.ensures in
    let read = sym (command_at s _ (framed s _ e).place) ∙ sym c.read_command.ensures in record { answer = (refused_answer _ a.target.now _ (command_unknown s a.offset a.part a.upid_type a.new.now _ e _ c.number-in-Err-UnknownType.ensures (read ∙ (rw c.in-Err-UnknownType.field-0-is at c.in-Err-UnknownType.is)))).0; bytes = (refused_answer _ a.target.now _ (command_unknown s a.offset a.part a.upid_type a.new.now _ e _ c.number-in-Err-UnknownType.ensures (read ∙ (rw c.in-Err-UnknownType.field-0-is at c.in-Err-UnknownType.is)))).1 }

pub returns-in-Err-Malformed : goal.returns-in-Err-Malformed
returns-in-Err-Malformed c =
    let a = c.args in
    let s = a.section.now in
    let e = sym c.in-Ok.is ∙ c.read_frame.ensures in
    let read = sym (command_at s _ (framed s _ e).place) ∙ sym c.read_command.ensures in record { answer = (refused_answer _ a.target.now _ (command_malformed s a.offset a.part a.upid_type a.new.now _ e _ c.number-in-Err-Malformed.ensures (read ∙ (rw c.in-Err-Malformed.field-0-is at c.in-Err-Malformed.is)))).0; bytes = (refused_answer _ a.target.now _ (command_malformed s a.offset a.part a.upid_type a.new.now _ e _ c.number-in-Err-Malformed.ensures (read ∙ (rw c.in-Err-Malformed.field-0-is at c.in-Err-Malformed.is)))).1 }

pub relabel_in-requires : goal.relabel_in-requires
relabel_in-requires c =
    let a = c.args in
    let s = a.section.now in
    let e = sym c.in-Ok.is ∙ c.read_frame.ensures in
    let w = framed s _ e in
    (w.at, frame_len s _ e, w.fits, w.short)

pub returns : goal.returns
returns c =
    let a = c.args in
    let s = a.section.now in
    let e = sym c.in-Ok.is ∙ c.read_frame.ensures in
    let is = command_is_lem s a.offset a.part a.upid_type a.new.now _ e _ (sym (command_at s _ (framed s _ e).place) ∙ sym c.read_command.ensures ∙ c.in-Ok-read_command.is) in record { answer = c.relabel_in.ensures.answer ∙ ap (λ (m : Made). answer_of m a.target.now) (sym is); bytes = c.relabel_in.ensures.bytes ∙ ap (λ (m : Made). later_of m a.target.now) (sym is) }
