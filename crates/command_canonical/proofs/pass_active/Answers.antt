-- `command_canonical::pass_active`, return by return.
use native.Mathlib.Omega.{arith}
use Rattle.command_canonical.proofs.Inserts.{no_flags, flags_reserved, no_mode, no_active_lem, lacks_active, an_active}
use Rattle.command_canonical.proofs.Walks.{told_ends, told_other}
use Rattle.command_canonical.proofs.pass_active.Goals as goal

pub returns-then-s-le5 : goal.returns-then-s-le5
returns-then-s-le5 c = no_flags c.args.s.now c.if-s-le5.true

pub returns-then-flags-ne15 : goal.returns-then-flags-ne15
returns-then-flags-ne15 c =
    flags_reserved c.args.s.now c.if-s-le5.false (c.type_inv.s 5).fits c.if-flags-ne15.true

pub returns-in_err-moded : goal.returns-in_err-moded
returns-in_err-moded c =
    rw c.from_residual.ensures (no_mode c.args.s.now c.if-s-le5.false (c.type_inv.s 5).fits (told_other _ _ 6 _ c.pass_mode.ensures c.in_err-moded.was))

pub returns-in_err-broken : goal.returns-in_err-broken
returns-in_err-broken c =
    rw c.from_residual-in_err-broken.ensures
    (no_active_lem c.args.s.now c.if-s-le5.false (c.type_inv.s 5).fits _ (told_ends _ _ 6 _ _ c.pass_mode.ensures c.in_ok-moded.was)
    (told_other _ _ _ _ c.pass_break.ensures c.in_err-broken.was))

pub returns-then-s-broken : goal.returns-then-s-broken
returns-then-s-broken c =
    lacks_active c.args.s.now c.if-s-le5.false (c.type_inv.s 5).fits _ (told_ends _ _ 6 _ _ c.pass_mode.ensures c.in_ok-moded.was)
    _ (told_ends _ _ _ _ _ c.pass_break.ensures c.in_ok-broken.was) (omega (arith, c.if-s-broken.true))

pub returns-then-s-broken-lt4 : goal.returns-then-s-broken-lt4
returns-then-s-broken-lt4 c =
    lacks_active c.args.s.now c.if-s-le5.false (c.type_inv.s 5).fits _ (told_ends _ _ 6 _ _ c.pass_mode.ensures c.in_ok-moded.was)
    _ (told_ends _ _ _ _ _ c.pass_break.ensures c.in_ok-broken.was) (omega (arith, c.if-s-broken-lt4.true, c.if-s-broken.false))

pub returns : goal.returns
returns c =
    an_active c.args.s.now c.if-s-le5.false (c.type_inv.s 5).fits _ (told_ends _ _ 6 _ _ c.pass_mode.ensures c.in_ok-moded.was)
    _ (told_ends _ _ _ _ _ c.pass_break.ensures c.in_ok-broken.was) c.if-flags-ne15.false (omega (arith, c.if-s-broken-lt4.false, c.if-s-broken.false))
