-- What the tables hold: computed once for all rows.
use Rattle.std.proofs.Common.{◌≡◌, ℕ, zero, suc, ◌+◌, ◌*◌, ◌%◌, ◌<◌, Bool, true, ◌&&◌, List, [], ◌∷◌, length, get_or, nat_eq, arith, sym, ap, ◌∙◌, add-zero, zero-add}
use Rattle.std.proofs.lemmas.Bool.{and_parts, eqb-true}
use Rattle.crc_table.specs.Turns.{turns, reversed}

-- each row, from that of the byte b on, is what the byte leaves after n steps
unfoldable pub rows_from : ℕ → ℕ → List ℕ → Bool
rows_from n b [] = true
rows_from n b (r ∷ rs) = nat_eq r (reversed (turns n b)) && rows_from n (b + 1) rs

-- each table has 256 rows, the first after n steps, each next after eight more
unfoldable pub tables_from : ℕ → List (List ℕ) → Bool
tables_from n [] = true
tables_from n (t ∷ ts) = nat_eq (length t) 256 && (rows_from n 0 t && tables_from (n + 8) ts)

row : (n b : ℕ) (rs : List ℕ) (i : ℕ) → i < length rs → rows_from n b rs ≡ true → get_or rs i 0 ≡ reversed (turns n (b + i))
unfolding rows_from
row n b [] i h t = absurd (omega arith)
row n b (r ∷ rs) zero h t = eqb-true _ _ (and_parts _ _ t).0 ∙ ap (λ (k : ℕ). reversed (turns n k)) (sym (add-zero b))
row n b (r ∷ rs) (suc i) h t =
    let e : b + 1 + i ≡ b + suc i = omega arith in
    row n (b + 1) rs i (omega arith) (and_parts _ _ t).1 ∙ ap (λ (k : ℕ). reversed (turns n k)) e

table : (n : ℕ) (ts : List (List ℕ)) (k i : ℕ) → k < length ts → i < 256 → tables_from n ts ≡ true → get_or (get_or ts k []) i 0 ≡ reversed (turns (n + 8 * k) i)
unfolding tables_from
table n [] k i h l t = absurd (omega arith)
table n (r ∷ rs) zero i h l t =
    let full : length r ≡ 256 = eqb-true _ _ (and_parts _ _ t).0 in
    rw add-zero (row n 0 r i (omega arith) (and_parts _ _ (and_parts _ _ t).1).0 ∙ ap (λ (m : ℕ). reversed (turns n m)) (zero-add i))
table n (r ∷ rs) (suc k) i h l t =
    let e : n + 8 + 8 * k ≡ n + 8 * suc k = omega arith in
    table (n + 8) rs k i (omega arith) l (and_parts _ _ (and_parts _ _ t).1).1 ∙ ap (λ (m : ℕ). reversed (turns m i)) e

-- of four tables that pass the test, any row
pub row_of : (n : ℕ) (ts : List (List ℕ)) → length ts ≡ 4 → tables_from n ts ≡ true
    → (k i : ℕ) → get_or (get_or ts (k % 4) []) (i % 256) 0 ≡ reversed (turns (n + 8 * (k % 4)) (i % 256))
row_of n ts e t k i = table n ts (k % 4) (i % 256) (omega arith) (omega arith) t
