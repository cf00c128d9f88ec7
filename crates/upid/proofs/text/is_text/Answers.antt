-- `upid::text::is_text` meets its contract: what is left of the bytes, read on from `t`, gives what all of them give.
use Rattle.std.proofs.Common.{ℕ, ◌≡◌, ◌+◌, ◌≤◌, ◌<◌, List, [], length, get_or, drop, drop_of_length-le, sym, ap, ◌∙◌, add-one}
use Rattle.std.proofs.lemmas.List.{take_rest}
use Rattle.std.proofs.Math.Seq.{drop-cons}
use mathlib.Core.List.{foldl}
use Rattle.upid.specs.declared.text.Stand.{Stand}
use Rattle.upid.specs.Text.{State, wants, step, done, text_of}
use Rattle.upid.specs.Private.{meaning}
use Rattle.upid.proofs.text.is_text.Goals as goal

-- one byte more
one_byte : (s : List ℕ) (i : ℕ) (t next : State) → i < length s → next ≡ step t (get_or s i 0) → foldl step t (drop i s) ≡ foldl step next (drop (i + 1) s)
one_byte s i t next h e = rw (add-one, drop-cons s i 0, e)

-- no byte is left
at_end : (s rest : List ℕ) (i : ℕ) (t : State) → length rest ≤ i → foldl step (wants []) s ≡ foldl step t (drop i rest) → text_of s ≡ done t
unfolding text_of
at_end s rest i t h e = rw (e, drop_of_length-le rest h)

pub loop-b-init : goal.loop-b-init
loop-b-init c = rw take_rest c.ascii.ensures.1

pub loop-b-preserved : goal.loop-b-preserved
loop-b-preserved c = c.loop-b.invariant ∙ one_byte _ _ _ _ c.loop-b-test.true c.next-t.ensures

pub returns-in-Between : goal.returns-in-Between
unfolding done
returns-in-Between c = sym (at_end _ _ _ _ c.loop-b-test.false c.loop-b.invariant ∙ ap (λ (x : Stand). done (meaning x)) c.in-Between.is)

pub returns-in-Want : goal.returns-in-Want
unfolding done
returns-in-Want c = sym (at_end _ _ _ _ c.loop-b-test.false c.loop-b.invariant ∙ ap (λ (x : Stand). done (meaning x)) c.in-Want.is)

pub returns-in-Broken : goal.returns-in-Broken
unfolding done
returns-in-Broken c = sym (at_end _ _ _ _ c.loop-b-test.false c.loop-b.invariant ∙ ap (λ (x : Stand). done (meaning x)) c.in-Broken.is)
