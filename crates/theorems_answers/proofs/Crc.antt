-- Refusal 4, and the last four bytes of an accepted section, by the CRC.
use Prim.Native.Nat.{ℕ, suc, ◌-◌, ◌≤◌}
use mathlib.Core.Bool.{Bool, true, false, not}
use mathlib.Core.List.{List, [], ◌∷◌, ◌++◌}
use mathlib.Core.Path.{◌≡◌, refl, ap, ◌∙◌}
use native.Mathlib.Omega.{arith}
use lib.Dec.{eqb, ltb}
use lib.ListN.{length, take, drop, get_or}
use lib.Seq.{drop_at, length-take-le}
use borrow.Author.Tests.{eq-eqb, ne_eqb, le-ltb}
use Rattle.crc.proofs.Laws.{crc_last}
use Rattle.crc.specs.Crc.{crc_of, crc_bytes_of}
use Rattle.section.proofs.Parts.{parts_of_lem}
use Rattle.section.specs.Section.{conditions, first, section_of}
use Rattle.section.specs.declared.Section.{Section}
use Rattle.table.proofs.Bits.{byte_in}
use Rattle.table.specs.Bits.{AllBytes}
use Rattle.std.proofs.Common.{Ok}

-- a refusal that comes later has a higher number
late : (n : ℕ) (bs : List Bool) → 4 ≤ n → eqb (first (suc n) bs) 4 ≡ false
late n [] h = refl
late n (true ∷ bs) h = ne_eqb (suc n) 4 (λ e. omega arith)
late n (false ∷ bs) h = late (suc n) bs (omega arith)

fourth : (a b c e : Bool) (bs : List Bool) → a ≡ false → b ≡ false → c ≡ false → eqb (first 1 (a ∷ b ∷ c ∷ e ∷ bs)) 4 ≡ e
fourth a b c true bs x y z = rw (x, y, z)
fourth a b c false bs x y z = rw (x, y, z) (late 4 bs (omega arith))

pub by_crc : (s : List ℕ) → 3 ≤ length s → length s ≤ 4096 → get_or s 0 0 ≡ 0xfc → eqb (first 1 (conditions s)) 4 ≡ not (eqb (crc_of s) 0)
by_crc s three most table =
    fourth (ltb (length s) 3) (ltb 4096 (length s)) (not (eqb (get_or s 0 0) 0xfc)) (not (eqb (crc_of s) 0)) (drop 4 (conditions s))
    (le-ltb (length s) 3 three) (le-ltb 4096 (length s) most) (ap not (eq-eqb (get_or s 0 0) 0xfc table))

pub last_four : (s : List ℕ) (x : Section) → AllBytes s → section_of s ≡ Ok x → drop (length s - 4) s ≡ crc_bytes_of (take (length s - 4) s)
last_four s x a e =
    let p = parts_of_lem s x e in
    let k : ℕ = length s - 4 in
    let q : s ≡ take k s ++ crc_bytes_of (take k s) = crc_last s k (omega (arith, p.long)) (byte_in s a) p.crc in
    ap (drop k) q ∙ drop_at (take k s) (crc_bytes_of (take k s)) k (length-take-le k s (omega arith))
