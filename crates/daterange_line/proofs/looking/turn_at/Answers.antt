-- `daterange_line::looking::turn_at`: an attribute, and a byte behind it.
use Rattle.std.proofs.Common.{◌≡◌, ℕ, true, false, ◌+◌, ◌-◌, ◌<◌, Option, Some, Ok, List, arith, ap, sym, ◌∙◌, length, take, drop, length-drop, drop-drop}
use Rattle.std.specs.Prelude.{eqb}
use native.Mathlib.Nat.{add-sub_cancel_left}
use borrow.Author.Tests.{ne_eqb}
use Rattle.attribute_list.specs.Cutting.{cut_of, value_from, end_of, value_in}
use Rattle.attribute_list.specs.declared.cutting.Cut.{Cut}
use Rattle.daterange_line.specs.Reading.{known_of, fits_for}
use Rattle.daterange_line.specs.Private.{earlier, noted, turn_of}
use Rattle.daterange_line.specs.declared.Known.{Known}
use Rattle.daterange_line.specs.declared.looking.Found.{Found}
use Rattle.daterange_line.specs.declared.looking.Turn.TheVariants.{More}
use Rattle.daterange_line.proofs.looking.turn_at.Goals as goal

more_behind : (line : List ℕ) (at : ℕ) (f : Found) (o : Option Cut) (c : Cut) → o ≡ cut_of (drop at line) → o ≡ Some c
    → earlier (length line) line at (take (at + c.name - at) (drop at line)) 17 ≡ false
    → (word : Known) → word ≡ known_of (take (at + c.name - at) (drop at line))
    → (from : ℕ) → from ≡ value_from c.name c.quoted
    → fits_for word (value_in c.quoted (take (at + from + c.value - (at + from)) (drop (at + from) line))) ≡ true
    → (found : Found) → found ≡ noted f word (record { at = at + from; len = c.value })
    → (size : ℕ) → size ≡ end_of c.name c.quoted c.value → at + size < length line
    → Ok (More found (at + (size + 1))) ≡ turn_of line at f
unfolding turn_of
more_behind line at f o c e g early word hw from hv fit found hn size hs l =
    let part : take (at + c.name - at) (drop at line) ≡ take c.name (drop at line) = ap (λ (i : ℕ). take i (drop at line)) (add-sub_cancel_left at c.name) in
    let value : take (at + from + c.value - (at + from)) (drop (at + from) line) ≡ take c.value (drop (value_from c.name c.quoted) (drop at line)) =
    ap (λ (i : ℕ). take i (drop (at + from) line)) (add-sub_cancel_left (at + from) c.value)
    ∙ ap (take c.value) (ap (λ (i : ℕ). drop (at + i) line) hv ∙ sym (drop-drop (value_from c.name c.quoted) at line)) in
    let late : earlier (length line) line at (take c.name (drop at line)) 17 ≡ false = rw part at early in
    let known : word ≡ known_of (take c.name (drop at line)) = rw part at hw in
    let fits : fits_for (known_of (take c.name (drop at line))) (value_in c.quoted (take c.value (drop (value_from c.name c.quoted) (drop at line)))) ≡ true = rw (← known, ← value) fit in
    let noting : found ≡ noted f (known_of (take c.name (drop at line))) (record { at = at + value_from c.name c.quoted; len = c.value }) =
    hn ∙ ap (λ (i : ℕ). noted f word (record { at = at + i; len = c.value })) hv
    ∙ ap (λ (w : Known). noted f w (record { at = at + value_from c.name c.quoted; len = c.value })) known in
    let rest : eqb (length (drop (end_of c.name c.quoted c.value) (drop at line))) 0 ≡ false =
    ne_eqb (length (drop (end_of c.name c.quoted c.value) (drop at line))) 0 (λ z. omega (arith, length-drop (end_of c.name c.quoted c.value) (drop at line), length-drop at line)) in
    rw (← e, g, late, fits, rest, noting, hs)

pub returns : goal.returns
returns c =
    let some : c.cut_at.result ≡ Some c.in_ok-cut.cut = grind arith in
    more_behind _ _ _ _ c.in_ok-cut.cut c.cut_at.ensures.cut some (sym c.has_earlier.ensures ∙ c.if-has_earlier.false)
    _ c.known_as-word.ensures _ c.value_from.ensures (sym c.is_fit.ensures ∙ c.if-not-is_fit.false) _ c.note-g.ensures _ c.size-end.ensures c.if-line-at.false
