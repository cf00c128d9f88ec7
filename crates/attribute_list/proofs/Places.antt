-- A cut by the places of a line: what the code tests there is what the definition tests behind the name.
use Prim.Native.Nat.{ℕ, ◌+◌, ◌-◌, ◌<◌}
use mathlib.Core.Bool.{Bool, true}
use mathlib.Core.List.{List}
use mathlib.Core.Path.{◌≡◌, ap, sym, ◌∙◌}
use native.Mathlib.Omega.{arith}
use native.Mathlib.Nat.{add-zero}
use lib.Dec.{eqb}
use lib.ListN.{drop, get_or}
use lib.Seq.{get_or-drop, drop-drop}
use borrow.Author.Tests.{ne_eqb}
use Rattle.table.specs.Bits.{pick}
use Rattle.std.specs.List.{prefix_len}
use Rattle.attribute_list.specs.Grammar.{name_byte}
use Rattle.attribute_list.specs.Cutting.{quoted_of, plain_of, cut_of}

-- behind a name, which ends at a place, and its `=`
pub cut_behind : (line : List ℕ) (at end : ℕ) (q : Bool) → end ≡ at + prefix_len name_byte (drop at line) → at < end → true ≡ eqb (get_or line end 0) 0x3D
    → q ≡ eqb (get_or line (end + 1) 0) 0x22 → cut_of (drop at line) ≡ pick q (quoted_of (end - at) (drop (end + 1 + 1) line)) (plain_of (end - at) (drop (end + 1) line))
unfolding cut_of
cut_behind line at end q e some equals quote =
    let k = prefix_len name_byte (drop at line) in
    let size : end - at ≡ k = omega arith in
    let next : at + (k + 1) ≡ end + 1 = omega arith in
    let first : get_or (drop at line) k 0 ≡ get_or line end 0 = get_or-drop at line k 0 ∙ ap (λ (i : ℕ). get_or line i 0) (sym e) in
    let rest : drop (k + 1) (drop at line) ≡ drop (end + 1) line = drop-drop (k + 1) at line ∙ ap (λ (i : ℕ). drop i line) next in
    let byte : get_or (drop (end + 1) line) 0 0 ≡ get_or line (end + 1) 0 = get_or-drop (end + 1) line 0 0 ∙ ap (λ (i : ℕ). get_or line i 0) (add-zero (end + 1)) in
    let inside : drop 1 (drop (end + 1) line) ≡ drop (end + 1 + 1) line = drop-drop 1 (end + 1) line in
    rw (first, rest, byte, inside, ne_eqb k 0 (λ z. omega arith), sym equals, sym quote, size)
