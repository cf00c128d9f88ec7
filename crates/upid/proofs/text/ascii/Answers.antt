-- `upid::text::ascii` meets its contract: what is left of the bytes, read on from between two characters, gives what all of them give.
use Rattle.std.proofs.Common.{ℕ, ◌≡◌, ◌+◌, ◌≤◌, ◌<◌, List, [], length, drop, get_or, add-one, refl, ap, sym, ◌∙◌, arith}
use mathlib.Core.List.{foldl}
use lib.Seq.{drop-cons}
use Rattle.upid.specs.Text.{State, wants, step}
use Rattle.upid.proofs.Ranges.{hit}
use Rattle.upid.proofs.text.ascii.Goals as goal

-- a byte of ASCII is a character
stays : (b : ℕ) → b ≤ 0x7F → step (wants []) b ≡ wants []
unfolding step
stays b h = rw (hit 0x00 0x7F b (omega arith) h)

one_byte : (s : List ℕ) (i : ℕ) (next : State) → i < length s → next ≡ step (wants []) (get_or s i 0) → foldl step (wants []) (drop i s) ≡ foldl step next (drop (i + 1) s)
one_byte s i next h e = rw (add-one, drop-cons s i 0, e)

past_one : (s : List ℕ) (i : ℕ) → i < length s → get_or s i 0 ≤ 0x7F → foldl step (wants []) (drop i s) ≡ foldl step (wants []) (drop (i + 1) s)
past_one s i h a = one_byte s i (wants []) h (sym (stays _ a))

pub loop-i-init : goal.loop-i-init
loop-i-init c = refl

pub returns-then-s-i-gt127 : goal.returns-then-s-i-gt127
returns-then-s-i-gt127 c = (omega arith, c.loop-i.invariant)

pub loop-i-preserved : goal.loop-i-preserved
loop-i-preserved c = c.loop-i.invariant ∙ past_one c.args.s.now c.loop-i.i (omega arith) (omega arith)

pub returns : goal.returns
returns c =
    let e : c.loop-i.i ≡ length c.args.s.now = omega arith in
    (omega arith, c.loop-i.invariant ∙ ap (λ (i : ℕ). foldl step (wants []) (drop i c.args.s.now)) e)
