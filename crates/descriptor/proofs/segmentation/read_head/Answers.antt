-- `descriptor::segmentation::read_head`: four bytes, and the first bit of the next.
use Rattle.descriptor.proofs.Segmentations.{no_event, no_cancel, head_is}
use Rattle.descriptor.proofs.segmentation.read_head.Goals as goal

pub returns-then-left-lt4 : goal.returns-then-left-lt4
returns-then-left-lt4 c = let a = c.args in no_event a.payload.now c.if-left-lt4.true

pub returns-then-left-lt5 : goal.returns-then-left-lt5
returns-then-left-lt5 c =
    let a = c.args in
    no_cancel a.payload.now c.if-left-lt4.false c.if-left-lt5.true

pub returns : goal.returns
returns c =
    let a = c.args in
    head_is a.payload.now c.if-left-lt5.false (c.type_inv.payload 4).fits _ c.number32.ensures.0
