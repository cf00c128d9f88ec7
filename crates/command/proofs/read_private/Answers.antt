-- `command::read_private`: four bytes, and the rest behind them.
use native.Mathlib.Omega.{arith}
use Rattle.command.proofs.Payloads.{no_identifier, identifier_is, identified}
use Rattle.command.proofs.read_private.Goals as goal

pub returns-then-payload-lt4 : goal.returns-then-payload-lt4
returns-then-payload-lt4 c = no_identifier c.args.payload.now c.if-payload-lt4.true

pub overflow_cast-identifier : goal.overflow_cast-identifier
overflow_cast-identifier c =
    let s = c.args.payload.now in
    omega (arith, (identifier_is s _ c.big_endian-identifier.ensures).1)

pub returns : goal.returns
returns c =
    let s = c.args.payload.now in
    identified s _ c.if-payload-lt4.false (identifier_is s _ c.big_endian-identifier.ensures).0
