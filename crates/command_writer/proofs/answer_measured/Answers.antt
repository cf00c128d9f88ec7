-- `command_writer::answer_measured`, test by test.
use native.Mathlib.Omega.{arith}
use borrow.Author.Tests.{le-leb, lt-leb, eq-eqb, ne_eqb}
use Rattle.command_writer.proofs.answer_measured.Goals as goal

pub returns-then-refusal-gt0 : goal.returns-then-refusal-gt0
returns-then-refusal-gt0 c = rw (ne_eqb c.args.measured.refusal 0 (λ e. omega (arith, e, c.if-refusal-gt0.true)))

pub returns-then-room-size : goal.returns-then-room-size
returns-then-room-size c = let a = c.args in rw (eq-eqb a.measured.refusal 0 (omega arith), lt-leb a.measured.size a.room (omega arith))

pub returns : goal.returns
returns c = let a = c.args in rw (eq-eqb a.measured.refusal 0 (omega arith), le-leb a.measured.size a.room (omega arith))
