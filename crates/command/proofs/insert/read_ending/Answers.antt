-- `command::insert::read_ending`: by how many bytes are left after the duration, whichever components stand beside the mode.
use Rattle.std.proofs.lemmas.Result.{err_from_is_err_and}
use Prim.Native.Nat.{◌*◌}
use mathlib.Core.Path.{refl, sym, ◌∙◌}
use native.Mathlib.Omega.{arith}
use Rattle.table.proofs.Reading.{bits_are}
use Rattle.splice_time.proofs.Breaks.{break_within}
use Rattle.command.proofs.Walking.{no_ending, no_program_id, no_avails, an_ending}
use Rattle.command.proofs.insert.read_ending.Goals as goal

pub returns-in_err-broken : goal.returns-in_err-broken
returns-in_err-broken c cs =
    let p = err_from_is_err_and c.from_residual.result c.from_residual.ensures.1 in
    let a = c.args in
    rw (p.1, p.2) (no_ending a.payload.now a.at c.requires a.out _ a.flagged _ (sym c.in_err-broken.was ∙ c.read_break.ensures))

pub overflow_sub-left : goal.overflow_sub-left
overflow_sub-left c =
    let a = c.args in
    let ed = (sym c.in_ok-broken.was ∙ c.read_break.ensures) in
    break_within a.payload.now a.at c.requires a.flagged _ ed

pub returns-then-left-lt2 : goal.returns-then-left-lt2
returns-then-left-lt2 c cs =
    let a = c.args in
    let ed = (sym c.in_ok-broken.was ∙ c.read_break.ensures) in
    no_program_id a.payload.now a.at c.requires a.out _ a.flagged _ ed _ refl c.if-left-lt2.true

pub returns-then-left-lt4 : goal.returns-then-left-lt4
returns-then-left-lt4 c cs =
    let a = c.args in
    let ed = (sym c.in_ok-broken.was ∙ c.read_break.ensures) in
    no_avails a.payload.now a.at c.requires a.out _ a.flagged _ ed _ refl c.if-left-lt2.false c.if-left-lt4.true

pub overflow_cast-result : goal.overflow_cast-result
overflow_cast-result c =
    let s = c.args.payload.now in
    omega (arith, (bits_are s (c.in_ok-broken.broken.next * 8) 16 _ (omega arith) c.big_endian.ensures).1)

pub returns : goal.returns
returns c cs =
    let a = c.args in
    let ed = (sym c.in_ok-broken.was ∙ c.read_break.ensures) in
    let w = break_within a.payload.now a.at c.requires a.flagged _ ed in
    an_ending a.payload.now a.at c.requires a.out _ a.flagged _ ed c.big_endian.result c.indicator.result (omega (arith, c.if-left-lt4.false, w))
    (bits_are a.payload.now (c.in_ok-broken.broken.next * 8) 16 _ (omega arith) c.big_endian.ensures).0 (c.type_inv.payload _).fits (c.type_inv.payload _).fits c.indicator.ensures
