-- `daterange_writer::write_line`: 53, or the line by its cue.
use Rattle.std.proofs.Common.{sym, ◌∙◌}
use Rattle.bit_stores.proofs.Writes.{refused_answer}
use Rattle.daterange_line.specs.declared.Cue.TheVariants.{Cmd, Out, In}
use Rattle.daterange_writer.proofs.Stored.{made_line, made_not_id, made_not_date}
use Rattle.daterange_writer.proofs.write_line.Goals as goal
use Rattle.daterange_writer.proofs.write_line.Goals.{then-not-is_quotable-via-then-not-is_quotable, then-not-is_quotable-via-else-not-is_quotable+then-not-is_quotable-2}

pub returns-then-not-is_quotable : goal.returns-then-not-is_quotable
returns-then-not-is_quotable c = elim c.then-not-is_quotable.branch [
  | then-not-is_quotable-via-then-not-is_quotable w ↦
      let p = refused_answer _ _ 53 (made_not_id _ _ _ _ (sym c.is_quotable.ensures ∙ w.if-not-is_quotable.true)) in record { answer = p.0; bytes = p.1 }
  | then-not-is_quotable-via-else-not-is_quotable+then-not-is_quotable-2 w ↦
      let p = refused_answer _ _ 53 (made_not_date _ _ _ _ (sym c.is_quotable.ensures ∙ w.if-not-is_quotable.false) (sym w.is_quotable-else-not-is_quotable.ensures ∙ w.if-not-is_quotable-2.true)) in record { answer = p.0; bytes = p.1 }
]

pub returns-in-Cmd : goal.returns-in-Cmd
returns-in-Cmd c =
    let line = made_line c.args.section.now Cmd c.args.id.now c.args.date.now (sym c.is_quotable.ensures ∙ c.if-not-is_quotable.false) (sym c.is_quotable-else-not-is_quotable.ensures ∙ c.if-not-is_quotable-2.false) in
    record { answer = rw (c.in-Cmd.is, line) c.store_line.ensures.0; bytes = rw (c.in-Cmd.is, line) c.store_line.ensures.1 }

pub returns-in-Out : goal.returns-in-Out
returns-in-Out c =
    let line = made_line c.args.section.now Out c.args.id.now c.args.date.now (sym c.is_quotable.ensures ∙ c.if-not-is_quotable.false) (sym c.is_quotable-else-not-is_quotable.ensures ∙ c.if-not-is_quotable-2.false) in
    record { answer = rw (c.in-Out.is, line) c.store_line-in-Out.ensures.0; bytes = rw (c.in-Out.is, line) c.store_line-in-Out.ensures.1 }

pub returns-in-In : goal.returns-in-In
returns-in-In c =
    let line = made_line c.args.section.now In c.args.id.now c.args.date.now (sym c.is_quotable.ensures ∙ c.if-not-is_quotable.false) (sym c.is_quotable-else-not-is_quotable.ensures ∙ c.if-not-is_quotable-2.false) in
    record { answer = rw (c.in-In.is, line) c.store_line-in-In.ensures.0; bytes = rw (c.in-In.is, line) c.store_line-in-In.ensures.1 }
