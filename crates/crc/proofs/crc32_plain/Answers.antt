-- `crc::crc32_plain` meets its contract: the register, taken on over the bytes that are left, is the CRC of the whole.
use Rattle.std.proofs.Common.{ℕ, ◌+◌, drop, sym, ap, ◌∙◌}
use Rattle.crc.specs.Private.{crc_bytes}
use Rattle.crc.proofs.Bytes.{past_none, past_one, past_all}
use Rattle.crc.proofs.crc32_plain.Goals as goal

pub loop-byte-init : goal.loop-byte-init
loop-byte-init c = past_none _

pub loop-byte-preserved : goal.loop-byte-preserved
loop-byte-preserved c =
    let s = c.args.s.now in
    let l = c.loop-byte in
    ap (λ (z : ℕ). crc_bytes z (drop (l.byte-index + 1) s)) c.take_byte-z.ensures ∙ sym (past_one s l.z l.byte-index c.loop-byte-test.true) ∙ l.invariant

pub returns : goal.returns
returns c = sym (past_all _ _ _ c.loop-byte-test.false) ∙ c.loop-byte.invariant
