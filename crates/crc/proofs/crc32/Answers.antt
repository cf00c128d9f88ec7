-- `crc::crc32` meets its contract.
use Rattle.std.proofs.Common.{◌≡◌, ℕ, ◌+◌, ◌*◌, ◌<◌, List, get_or, take, drop, arith, sym, ap, ◌∙◌, [], add-one}
use Rattle.std.specs.Int.{w32, from_le_bytes}
use lib.Bits.{bit_xor}
use lib.Seq.{drop-cons, get_or-drop}
use Rattle.crc_table.specs.Turns.{reversed}
use Rattle.crc.specs.Private.{crc_bytes}
use Rattle.crc.proofs.Bytes.{past_none, past_all}
use Rattle.crc.proofs.Turns.{turned_lt, reversed_twice}
use Rattle.crc.proofs.Words.{byte_next, word_next, chunk_of}
use Rattle.crc.proofs.crc32.Goals as goal

pub loop-word-init : goal.loop-word-init
unfolding reversed
loop-word-init c = past_none _

pub loop-word-preserved : goal.loop-word-preserved
loop-word-preserved c =
    let s : List ℕ = c.args.s.now in
    let l = c.loop-word in
    let at : ℕ = l.word-index * 4 in
    let y : ℕ = bit_xor l.y c.from_le_bytes.result in
    let w : get_or c.as_chunks.result.0.now l.word-index [] ≡ take 4 (drop at s) =
    ap (λ (ws : List (List ℕ)). get_or ws l.word-index []) c.as_chunks.ensures.front ∙ chunk_of _ l.word-index s (omega arith)
    in
    let e : c.from_le_bytes.result ≡ from_le_bytes w32 (take 4 (drop at s)) = c.from_le_bytes.ensures ∙ ap (from_le_bytes w32) w in
    let next : (l.word-index + 1) * 4 ≡ at + 4 = omega arith in
    ap (λ (i : ℕ). crc_bytes (reversed c.take_word-y.result) (drop i s)) next
    ∙ ap (λ (z : ℕ). crc_bytes z (drop (at + 4) s)) (ap reversed c.take_word-y.ensures ∙ reversed_twice _ (turned_lt 31 (reversed y)))
    ∙ word_next s (λ k. (c.type_inv.s k).fits) at l.y c.from_le_bytes.result (omega arith) e
    ∙ l.invariant

pub loop-byte-preserved : goal.loop-byte-preserved
loop-byte-preserved c =
    let rest : List ℕ = c.as_chunks.result.1.now in
    let l = c.loop-byte in
    let b : ℕ = get_or rest l.byte-index 0 in
    let fits : b < 256 = rw (c.as_chunks.ensures.back, get_or-drop) (c.type_inv.s _).fits in
    byte_next l.y b c.turned.result (drop (l.byte-index + 1) rest) (omega arith) fits c.turned.ensures
    ∙ ap (crc_bytes (reversed l.y)) (sym (rw add-one (drop-cons rest l.byte-index 0 c.loop-byte-test.true)))
    ∙ l.invariant

pub returns : goal.returns
returns c = c.reverse.ensures ∙ sym (past_all _ _ _ c.loop-byte-test.false) ∙ c.loop-byte.invariant
