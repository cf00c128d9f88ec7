-- `command_writer::has_room`, test by test.
use Prim.Native.Nat.{◌+◌}
use native.Mathlib.Omega.{arith}
use borrow.Author.Tests.{le-leb, lt-leb, eq-eqb, ne_eqb}
use Rattle.command_writer.proofs.has_room.Goals as goal

pub returns-then-measured-gt0 : goal.returns-then-measured-gt0
returns-then-measured-gt0 c = rw (ne_eqb c.args.measured.refusal 0 (λ e. omega (arith, e, c.if-measured-gt0.true)))

pub returns-then-room-at : goal.returns-then-room-at
returns-then-room-at c = let a = c.args in rw (eq-eqb a.measured.refusal 0 (omega arith), lt-leb (a.at + a.measured.size) a.room (omega arith))

pub returns-then-room-at-2 : goal.returns-then-room-at-2
returns-then-room-at-2 c = let a = c.args in rw (eq-eqb a.measured.refusal 0 (omega arith), lt-leb (a.at + a.measured.size) a.room (omega arith))

pub returns : goal.returns
returns c = let a = c.args in rw (eq-eqb a.measured.refusal 0 (omega arith), le-leb (a.at + a.measured.size) a.room (omega arith))
