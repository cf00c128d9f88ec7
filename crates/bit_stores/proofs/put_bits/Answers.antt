-- `bit_stores::put_bits`: whole bytes at once where a byte begins.
use Rattle.bit_stores.proofs.Turns.{pens_aligned}
use Rattle.bit_stores.proofs.put_bits.Goals as goal

pub returns-then-w-eq0 : goal.returns-then-w-eq0
returns-then-w-eq0 c =
    let a = c.args in
    pens_aligned a.out.now a.c a.w a.v _ _ c.if-c-eq0.true c.if-w-eq0.true c.put_aligned.ensures
