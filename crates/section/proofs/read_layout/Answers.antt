-- `section::read_layout`, refusal by refusal.
use Rattle.section.proofs.Framing.{extent_is, is_encrypted, is_command_long, is_loopless, is_loop_long, is_laid}
use Rattle.section.proofs.read_layout.Goals as goal

pub returns-then-section-ge128 : goal.returns-then-section-ge128
returns-then-section-ge128 c =
    is_encrypted c.args.section.now c.requires.0 (c.type_inv.section 4).fits c.if-section-ge128.true

pub returns-then-section-size : goal.returns-then-section-size
returns-then-section-size c =
    is_command_long c.args.section.now c.requires.0 (c.type_inv.section 4).fits c.if-section-ge128.false _ c.command_length-size.ensures.0 c.if-section-size.true

pub returns-then-room-lt2 : goal.returns-then-room-lt2
returns-then-room-lt2 c =
    is_loopless c.args.section.now c.requires.0 (c.type_inv.section 4).fits c.if-section-ge128.false _ c.command_length-size.ensures.0 c.if-section-size.false c.if-room-lt2.true

pub returns-then-room-extent : goal.returns-then-room-extent
returns-then-room-extent c =
    let s = c.args.section.now in
    is_loop_long s c.requires.0 (c.type_inv.section 4).fits c.if-section-ge128.false _ c.command_length-size.ensures.0 c.if-section-size.false c.if-room-lt2.false _ (extent_is s _ _ c.command_length-size.ensures.0 c.two_bytes-extent.ensures.0) c.if-room-extent.true

pub returns : goal.returns
returns c =
    let s = c.args.section.now in
    is_laid s c.requires.0 (c.type_inv.section 4).fits c.if-section-ge128.false _ c.command_length-size.ensures.0 c.if-section-size.false c.if-room-lt2.false _ (extent_is s _ _ c.command_length-size.ensures.0 c.two_bytes-extent.ensures.0) c.if-room-extent.false
