-- `take`: no section begins in the packet, or one that is too long.
use mathlib.Core.Path.{sym, ◌∙◌}
use Rattle.transport.proofs.Answers.{at_none, taken_next}
use Rattle.transport.proofs.Assembler.take.Goals as goal

pub returns-in-Nothing : goal.returns-in-Nothing
returns-in-Nothing c =
    let x = c.args in
    let a = x.self.now in
    let p = x.packet.now in
    let b = x.buffer.now in
    at_none a p b c.next_at.result c.next_at.ensures c.in-Nothing.is ∙ taken_next a p b (sym c.complete_in.ensures ∙ c.in_default.is)
