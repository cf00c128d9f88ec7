-- The register with its bytes in the other order, as the fast form holds it.
--     reversed_lt   it stays below 2 ^ 32
--     byte_next     a byte comes in
--     word_next     four bytes come in, as the number that a load makes of them
--     chunk_of      which bytes a word of a message is
use Rattle.std.proofs.Common.{◌≡◌, ℕ, zero, suc, ◌+◌, ◌*◌, ◌/◌, ◌%◌, ◌^◌, ◌<◌, ◌≤◌, List, [], ◌∷◌, length, get_or, take, drop, refl, sym, ap, ◌∙◌, arith, add-one, add_assoc, drop-drop}
use Rattle.std.specs.Int.{w32, from_le_bytes}
use Rattle.std.specs.Simd.{first_chunks}
use lib.Seq.{drop-cons}
use lib.Bits.{bit_xor, xor_assoc, xor_lt, xor_mod}
use native.Mathlib.Nat.{mod-eq_of_lt}
use Rattle.crc_table.specs.Turns.{turn, turns, reversed}
use Rattle.crc_table.proofs.Order.{reversed_sum}
use Rattle.crc.specs.Private.{crc_bytes}
use Rattle.crc.proofs.Bytes.{four, four_in, byte_in, bytes_append}
use Rattle.crc.proofs.Linear.{same_lin, xor_lin, after_lin, shr_lin, mod_lin, agree}
use Rattle.crc.proofs.Turns.{turns_lin, turned_lt, reversed_lin, reversed_twice}

pub reversed_lt : (z : ℕ) → reversed z < 2 ^ 32
unfolding reversed
reversed_lt z =
    let a = xor_lt 32 (z % 256 * 2 ^ 24) (z / 2 ^ 8 % 256 * 2 ^ 16) (omega arith) (omega arith) in
    let b = xor_lt 32 (z / 2 ^ 16 % 256 * 2 ^ 8) (z / 2 ^ 24 % 256) (omega arith) (omega arith) in
    xor_lt 32 _ _ a b

-- ---- a byte

-- eight steps are a byte less, and what the lowest byte, which is the register's first, leaves
eight : (y : ℕ) → y < 2 ^ 32 → bit_xor (reversed (y / 2 ^ 8)) (turns 32 (y % 2 ^ 8)) ≡ turns 8 (reversed y)
unfolding reversed turns turn
eight =
    agree (λ y. bit_xor (reversed (y / 2 ^ 8)) (turns 32 (y % 2 ^ 8))) (λ y. turns 8 (reversed y))
    (xor_lin (after_lin (shr_lin same_lin 8) reversed_lin) (after_lin (mod_lin same_lin 8) (turns_lin 32))) (after_lin reversed_lin (turns_lin 8)) refl 32 refl

pub byte_next : (y b r : ℕ) (s : List ℕ) → y < 2 ^ 32 → b < 256 → r ≡ reversed (turns 32 (bit_xor y b % 256))
    → crc_bytes (reversed (bit_xor (y / 2 ^ 8) r)) s ≡ crc_bytes (reversed y) (b ∷ s)
byte_next y b r s hy hb e =
    let low : turns 32 (bit_xor y b % 2 ^ 8) ≡ bit_xor (turns 32 (y % 2 ^ 8)) (turns 32 b) =
    ap (turns 32) (xor_mod y b 8 ∙ ap (bit_xor (y % 2 ^ 8)) (mod-eq_of_lt hb)) ∙ (turns_lin 32).at (y % 2 ^ 8) b
    in
    let whole : reversed (bit_xor (y / 2 ^ 8) r) ≡ bit_xor (turns 8 (reversed y)) (turns 32 b) =
    reversed_lin.at (y / 2 ^ 8) r
    ∙ ap (bit_xor (reversed (y / 2 ^ 8))) (ap reversed e ∙ reversed_twice _ (turned_lt 31 (bit_xor y b % 256)) ∙ low)
    ∙ sym (xor_assoc (reversed (y / 2 ^ 8)) (turns 32 (y % 2 ^ 8)) (turns 32 b))
    ∙ ap (λ (k : ℕ). bit_xor k (turns 32 b)) (eight y hy)
    in
    ap (λ (k : ℕ). crc_bytes k s) whole ∙ sym (byte_in (reversed y) b s (reversed_lt y) hb)

-- ---- four bytes

-- the number that a load makes of them is theirs in the other order
four_lt : (a b c d : ℕ) → a < 256 → b < 256 → c < 256 → d < 256 → four a b c d < 2 ^ 32
four_lt a b c d ha hb hc hd = omega arith

loaded : (a b c d : ℕ) → a < 256 → b < 256 → c < 256 → d < 256 → a + b * 256 + c * 65536 + d * 16777216 ≡ reversed (four a b c d)
loaded a b c d ha hb hc hd = omega (arith, reversed_sum (four a b c d))

bytes_four : (s : List ℕ) (i : ℕ) → i + 4 ≤ length s
    → drop i s ≡ get_or s i 0 ∷ get_or s (i + 1) 0 ∷ get_or s (i + 2) 0 ∷ get_or s (i + 3) 0 ∷ drop (i + 4) s
bytes_four s i h =
    let next : (k : ℕ) → k < length s → drop k s ≡ get_or s k 0 ∷ drop (k + 1) s = λ k l. rw add-one (drop-cons s k 0 l) in
    next i (omega arith)
    ∙ ap (λ (x : List ℕ). get_or s i 0 ∷ x) (next (i + 1) (omega arith))
    ∙ ap (λ (x : List ℕ). get_or s i 0 ∷ get_or s (i + 1) 0 ∷ x) (next (i + 1 + 1) (omega arith))
    ∙ ap (λ (x : List ℕ). get_or s i 0 ∷ get_or s (i + 1) 0 ∷ get_or s (i + 1 + 1) 0 ∷ x) (next (i + 1 + 1 + 1) (omega arith))
    ∙ simp add_assoc

pub word_next : (s : List ℕ) → ((k : ℕ) → get_or s k 0 < 256) → (i y n : ℕ) → i + 4 ≤ length s → n ≡ from_le_bytes w32 (take 4 (drop i s))
    → crc_bytes (turns 32 (reversed (bit_xor y n))) (drop (i + 4) s) ≡ crc_bytes (reversed y) (drop i s)
word_next s bytes i y n h e =
    let a : ℕ = get_or s i 0 in
    let b : ℕ = get_or s (i + 1) 0 in
    let c : ℕ = get_or s (i + 2) 0 in
    let d : ℕ = get_or s (i + 3) 0 in
    let f : drop i s ≡ a ∷ b ∷ c ∷ d ∷ drop (i + 4) s = bytes_four s i h in
    let g : reversed n ≡ four a b c d =
    ap reversed (e ∙ ap (λ (x : List ℕ). from_le_bytes w32 (take 4 x)) f ∙ loaded a b c d (bytes i) (bytes (i + 1)) (bytes (i + 2)) (bytes (i + 3)))
    ∙ reversed_twice (four a b c d) (four_lt a b c d (bytes i) (bytes (i + 1)) (bytes (i + 2)) (bytes (i + 3)))
    in
    ap (λ (k : ℕ). crc_bytes (turns 32 k) (drop (i + 4) s)) (reversed_lin.at y n ∙ ap (bit_xor (reversed y)) g)
    ∙ ap (λ (k : ℕ). crc_bytes k (drop (i + 4) s)) (sym (four_in (reversed y) a b c d (reversed_lt y) (bytes i) (bytes (i + 1)) (bytes (i + 2)) (bytes (i + 3))))
    ∙ sym (bytes_append (reversed y) (a ∷ b ∷ c ∷ d ∷ []) (drop (i + 4) s))
    ∙ ap (crc_bytes (reversed y)) (sym f)

-- ---- the words of a message

pub chunk_of : (m k : ℕ) (s : List ℕ) → k < m → get_or (first_chunks 4 m s) k [] ≡ take 4 (drop (k * 4) s)
chunk_of zero k s h = absurd (omega arith)
chunk_of (suc m) zero s h = refl
chunk_of (suc m) (suc k) s h =
    let e : 4 + k * 4 ≡ suc k * 4 = omega arith in
    chunk_of m k (drop 4 s) (omega arith) ∙ ap (take 4) (drop-drop (k * 4) 4 s ∙ ap (λ (i : ℕ). drop i s) e)
