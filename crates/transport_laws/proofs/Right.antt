-- Every section given has the length that its own section_length says.
use Prim.Native.Nat.{ℕ, zero, suc, ◌+◌, ◌≤◌}
use mathlib.Core.Bool.{Bool, true, false}
use mathlib.Core.List.{List, [], ◌∷◌, ◌++◌}
use mathlib.Core.Path.{◌≡◌, refl, ap, sym, ◌∙◌}
use native.Mathlib.Omega.{arith}
use lib.Dec.{eqb}
use lib.ListN.{length, take, drop, get_or, length-take}
use lib.Seq.{length-take-le, take-take}
use Rattle.std.specs.Prelude.{Some, None, Ok, Err, Option}
use Rattle.table.specs.Bits.{pick}
use Rattle.table.specs.Lent.{stored}
use Rattle.transport_packet.specs.declared.sections.Next.{Next}
use Rattle.transport_packet.specs.declared.sections.Next.TheVariants.{Nothing, Long, Part, Complete}
use Rattle.transport.specs.declared.Assembler.{Assembler}
use Rattle.transport_packet.specs.Packet.{Head, head_of}
use Rattle.transport_packet.specs.Sections.{section_length, next_of, Cut, cut_from, Right, Each}
use Rattle.transport.specs.Step.{State, told, follows, goes_on, cut_of, before, tells_of, step_of}
use Rattle.transport.specs.Step.Told.{took}
use Rattle.transport.specs.Assembler.{at_rest, holding, TakenTo, giving, taken_from, taken_of}
use Rattle.transport_laws.specs.Runs.{sections_in}
use Rattle.transport_packet.proofs.Next.{IsComplete, complete_shown, complete_itself}
use Rattle.transport.proofs.Buffer.{taken_back}
use Rattle.transport.proofs.Answers.{goes_complete, from_nothing, from_long, from_part, from_complete, taken_nothing, taken_long, taken_part, taken_complete}

pub each_append : (xs ys : List (List ℕ)) → Each Right xs → Each Right ys → Each Right (xs ++ ys)
each_append [] ys p q = q
each_append (x ∷ xs) ys p q = (p.0, each_append xs ys p.1 q)

pub right_complete : (s : List ℕ) (size : ℕ) → next_of s ≡ Complete size → Right (take size s)
right_complete s size e =
    let w : IsComplete (length (take size s)) (get_or (take size s) 0 0) (section_length (take size s)) size = complete_shown (take size s) size (complete_itself s size e) in
    let n : length (take size s) ≡ size = length-take-le size s (complete_shown s size e).fits in
    record { size = n ∙ w.is; short = w.short }

cut_right : (n : ℕ) (s : List ℕ) → Each Right (cut_from n s).sections
unfolding cut_from
cut_right zero s = tt
cut_right (suc n) s = go (λ size. cut_right n (drop size s)) (next_of s) refl
  where
    go : ((size : ℕ) → Each Right (cut_from n (drop size s)).sections) → (k : Next) → next_of s ≡ k → Each Right (cut_from (suc n) s).sections
    go less Nothing e = rw e tt
    go less Long e = rw e tt
    go less Part e = rw e tt
    go less (Complete size) e = rw e (right_complete s size e, less size)

of_right : (under x from : List ℕ) → Each Right (cut_of under x from).sections
unfolding cut_of
of_right under x from = go (goes_on under x) refl (eqb (length from) 0) refl
  where
    go : (k : Next) → goes_on under x ≡ k → (f : Bool) → eqb (length from) 0 ≡ f → Each Right (cut_of under x from).sections
    go Nothing e f h = rw e (cut_right (length from) from)
    go Long e f h = rw e tt
    go Part e true h = rw (e, h) tt
    go Part e false h = rw (e, h) (cut_right (length from) from)
    go (Complete size) e f h = rw e (right_complete (under ++ x) size (goes_complete under x size e), cut_right (length from) from)

told_right : (counter : ℕ) (c : Cut) → Each Right c.sections → Each Right (sections_in (told counter c))
told_right counter c k = go c.long refl
  where
    go : (l : Bool) → c.long ≡ l → Each Right (sections_in (told counter c))
    go true l = rw l tt
    go false l = rw l k

pub step_right : (pid : ℕ) (s : State) (p : List ℕ) → Each Right (sections_in (step_of pid s p))
unfolding tells_of
step_right pid s p = go (head_of pid p) refl
  where
    go : (k : Head) → head_of pid p ≡ k → Each Right (sections_in (step_of pid s p))
    go (Err r) h = rw h tt
    go (Ok None) h = rw h tt
    go (Ok (Some x)) h = rw h (by_repeat (eqb x.counter s.counter) refl)
      where
        by_repeat : (f : Bool) → eqb x.counter s.counter ≡ f
            → Each Right (sections_in (pick (eqb x.counter s.counter) (took s []) (told x.counter (cut_of (pick (follows s.counter x.counter) s.under []) (before p x.at x.first) (drop x.first p)))))
        by_repeat true f = rw f tt
        by_repeat false f = rw f (told_right x.counter (cut_of (pick (follows s.counter x.counter) s.under []) (before p x.at x.first) (drop x.first p)) (of_right (pick (follows s.counter x.counter) s.under []) (before p x.at x.first) (drop x.first p)))

-- and so has every section that `take` hands out, from any state
pub taken_right : (a later : Assembler) (p b : List ℕ) (size : ℕ) → 4096 ≤ length b → (taken_of a p b).answer ≡ (Some size, later) → Right (take size (taken_of a p b).buffer)
taken_right a later p b size r e = go (next_of (take a.held b)) refl
  where
    other : (n : ℕ) (x : Assembler) (b' : List ℕ) → taken_of a p b ≡ giving (Some n, x) b' → Right (take n b') → Right (take size (taken_of a p b).buffer)
    other n x b' q k = let w : Some n ≡ Some size = sym (ap (λ (y : TakenTo). y.answer.0) q) ∙ ap (λ (y : Option ℕ × Assembler). y.0) e in let z : n ≡ size = cc in rw (q, ← z) k

    ended : (x : Assembler) (b' : List ℕ) → taken_of a p b ≡ giving (None, x) b' → Right (take size (taken_of a p b).buffer)
    ended x b' q = let w : None ≡ Some size = sym (ap (λ (y : TakenTo). y.answer.0) q) ∙ ap (λ (y : Option ℕ × Assembler). y.0) e in absurd cc

    from : taken_of a p b ≡ taken_from a (drop a.at p) b → (k : Next) → next_of (drop a.at p) ≡ k → Right (take size (taken_of a p b).buffer)
    from q Nothing f = ended (at_rest a) b (q ∙ from_nothing a (drop a.at p) b f)
    from q Long f = ended (at_rest a) b (q ∙ from_long a (drop a.at p) b f)
    from q Part f = ended (holding a (length (drop a.at p)) 188) (stored b 0 (drop a.at p)) (q ∙ from_part a (drop a.at p) b f)
    from q (Complete n) f =
        let w : IsComplete (length (drop a.at p)) (get_or (drop a.at p) 0 0) (section_length (drop a.at p)) n = complete_shown (drop a.at p) n f in
        let k : length (take n (drop a.at p)) ≡ n = length-take-le n (drop a.at p) w.fits in
        let y : take n (stored b 0 (take n (drop a.at p))) ≡ take n (drop a.at p) = rw k at (taken_back b (take n (drop a.at p)) (omega (arith, k, w.is, w.short))) in
        other n (holding a 0 (a.at + n)) (stored b 0 (take n (drop a.at p))) (q ∙ from_complete a (drop a.at p) b n f) (rw y (right_complete (drop a.at p) n f))

    go : (k : Next) → next_of (take a.held b) ≡ k → Right (take size (taken_of a p b).buffer)
    go Nothing f = from (taken_nothing a p b f) (next_of (drop a.at p)) refl
    go Long f = from (taken_long a p b f) (next_of (drop a.at p)) refl
    go Part f = from (taken_part a p b f) (next_of (drop a.at p)) refl
    go (Complete n) f =
        let w : IsComplete (length (take a.held b)) (get_or (take a.held b) 0 0) (section_length (take a.held b)) n = complete_shown (take a.held b) n f in
        let m : n ≤ a.held = omega (arith, w.fits, length-take a.held b) in
        other n (holding a 0 a.at) b (taken_complete a p b n f) (rw (take-take n a.held b m) at (right_complete (take a.held b) n f))
