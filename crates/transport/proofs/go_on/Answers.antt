-- `go_on`: the two ways out with nothing stored, whose facts the search does not find in time.
use mathlib.Core.Bool.{false}
use mathlib.Core.Path.{◌≡◌, sym, ◌∙◌}
use native.Mathlib.Omega.{arith}
use lib.ListN.{take, drop, length-drop}
use Rattle.transport_packet.specs.Sections.{cut}
use Rattle.transport.specs.Step.{before}
use Rattle.transport.proofs.Answers.{by_cut, ends_before}
use Rattle.transport.proofs.go_on.Goals as goal

pub returns-then-first-lt188 : goal.returns-then-first-lt188
returns-then-first-lt188 c =
    let a = c.args in
    let b = a.buffer.now in
    let p = a.packet.now in
    let x = a.payload in
    let short : (cut (drop c.args.payload.first c.args.packet.now)).long ≡ false = sym c.any_long.ensures ∙ c.if-any_long.false in
    rw (← c.held_for-held.ensures.1) (by_cut a.a x.counter x.first (take c.held_for-held.result b) (before p x.at x.first) (drop x.first p) b short (sym c.next_on.ensures ∙ c.in-Part.is) (λ z. omega (arith, length-drop x.first p)))

pub returns-then-size-held : goal.returns-then-size-held
returns-then-size-held c =
    let a = c.args in
    let b = a.buffer.now in
    let p = a.packet.now in
    let x = a.payload in
    let short : (cut (drop c.args.payload.first c.args.packet.now)).long ≡ false = sym c.any_long.ensures ∙ c.if-any_long.false in
    rw (← c.held_for-held.ensures.1) (ends_before b p c.held_for-held.result x.at x.first c.held_for-held.ensures.0 (omega arith) (omega arith) a.a x.counter short _ (sym c.next_on.ensures ∙ c.in-Complete.is) c.if-size-held.true)
