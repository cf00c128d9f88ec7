-- `feed`, and `take` until it is done, are the step.
use Prim.Native.Nat.{ℕ, zero, suc, ◌+◌, ◌≤◌, ◌<◌}
use mathlib.Core.Bool.{Bool, true, false}
use mathlib.Core.List.{List, [], ◌∷◌, ◌++◌}
use mathlib.Core.Path.{◌≡◌, refl, ap, ap₂, sym, ◌∙◌}
use native.Mathlib.Omega.{arith}
use lib.Dec.{eqb}
use lib.ListN.{length, take, drop, get_or, length-drop}
use lib.Seq.{length-take-le, drop-drop}
use borrow.Author.Tests.{eqb-true}
use Rattle.std.specs.Prelude.{Some, None}
use Rattle.table.specs.Lent.{stored}
use Rattle.table.proofs.Stores.{length_stored}
use Rattle.transport_packet.specs.declared.sections.Next.{Next}
use Rattle.transport_packet.specs.declared.sections.Next.TheVariants.{Nothing, Long, Part, Complete}
use Rattle.transport.specs.declared.Assembler.{Assembler}
use Rattle.transport_packet.specs.Sections.{section_length, next_by, next_of, Cut, under_way, and_then, cut}
use Rattle.transport.specs.Step.{goes_on, cut_of, Settled}
use Rattle.transport.specs.Step.Settled.{none, going}
use Rattle.transport.specs.Assembler.{kept, at_rest, holding, giving, taken_from, taken_of}
use Rattle.transport_laws.specs.Takes.{Takes, takes_of}
use Rattle.transport_packet.proofs.Next.{IsComplete, complete_shown, part_shown, complete_itself}
use Rattle.transport_packet.proofs.Cuts.{cut_nothing, cut_long, cut_part, cut_complete}
use Rattle.transport.proofs.Buffer.{taken_back}
use Rattle.transport.proofs.Answers.{from_nothing, from_part, from_complete, taken_nothing, taken_part, taken_complete, goes_part, goes_complete}

-- what is left says the same as the cut
pub record Leaves (t : Takes) (a : Assembler) (b : List ℕ) (c : Cut) : Type 0 where
  pub sections : t.sections ≡ c.sections
  pub under : take t.assembler.held t.buffer ≡ c.under
  pub counter : t.assembler.counter ≡ a.counter
  pub pid : t.assembler.pid ≡ a.pid
  pub room : length t.buffer ≡ length b

never : true ≡ false → ⊥
never e = cc

-- ---- one `take`

module _ (n : ℕ) (a : Assembler) (p b : List ℕ) where
  pub takes_done : (later : Assembler) (b' : List ℕ) → taken_of a p b ≡ giving (None, later) b' → takes_of (suc n) a p b ≡ record { sections = []; assembler = later; buffer = b' }
  unfolding takes_of
  takes_done later b' e = rw e

  pub takes_gives : (size : ℕ) (later : Assembler) (b' : List ℕ) → taken_of a p b ≡ giving (Some size, later) b'
      → takes_of (suc n) a p b
      ≡ record { sections = take size b' ∷ (takes_of n later p b').sections; assembler = (takes_of n later p b').assembler; buffer = (takes_of n later p b').buffer }
  unfolding takes_of
  takes_gives size later b' e = rw e

-- nothing in the buffer
empty_taken : (a : Assembler) (p b : List ℕ) → a.held ≡ 0 → taken_of a p b ≡ taken_from a (drop a.at p) b
unfolding next_by
empty_taken a p b h = taken_nothing a p b (rw h)

-- ---- the sections that begin in the packet

pub takes_from : (n : ℕ) (a : Assembler) (p b : List ℕ) → a.held ≡ 0 → length (drop a.at p) < n → 4096 ≤ length b → (cut (drop a.at p)).long ≡ false
    → Leaves (takes_of n a p b) a b (cut (drop a.at p))
takes_from zero a p b h f r l = absurd (omega arith)
takes_from (suc n) a p b h f r l = go (λ size e. takes_from n (holding a 0 (a.at + size)) p (stored b 0 (take size (drop a.at p))) refl) (next_of (drop a.at p)) refl
  where
    s : List ℕ
    s = drop a.at p

    go :
        ((size : ℕ) → next_of (drop a.at p) ≡ Complete size → length (drop (a.at + size) p) < n → 4096 ≤ length (stored b 0 (take size (drop a.at p)))
        → (cut (drop (a.at + size) p)).long ≡ false
        → Leaves (takes_of n (holding a 0 (a.at + size)) p (stored b 0 (take size (drop a.at p)))) (holding a 0 (a.at + size)) (stored b 0 (take size (drop a.at p))) (cut (drop (a.at + size) p)))
        → (k : Next) → next_of (drop a.at p) ≡ k → Leaves (takes_of (suc n) a p b) a b (cut (drop a.at p))
    go less Nothing e =
        rw (takes_done n a p b (at_rest a) b (empty_taken a p b h ∙ from_nothing a (drop a.at p) b e), cut_nothing (drop a.at p) e)
        (record { sections = refl; under = rw h; counter = refl; pid = refl; room = refl })
    go less Long e = absurd (never (ap (λ (c : Cut). c.long) (sym (cut_long (drop a.at p) e)) ∙ l))
    go less Part e =
        let q : length (drop a.at p) ≤ length b = omega (arith, (part_shown (drop a.at p) e).few) in
        rw (takes_done n a p b (holding a (length (drop a.at p)) 188) (stored b 0 (drop a.at p)) (empty_taken a p b h ∙ from_part a (drop a.at p) b e), cut_part (drop a.at p) e)
        (record { sections = refl; under = taken_back b (drop a.at p) q; counter = refl; pid = refl; room = length_stored b 0 (drop a.at p) })
    go less (Complete size) e =
        let t = take size (drop a.at p) in
        let w : IsComplete (length (drop a.at p)) (get_or (drop a.at p) 0 0) (section_length (drop a.at p)) size = complete_shown (drop a.at p) size e in
        let k : length (take size (drop a.at p)) ≡ size = length-take-le size (drop a.at p) w.fits in
        let d : drop (a.at + size) p ≡ drop size (drop a.at p) = sym (drop-drop size a.at p) in
        let c : cut (drop a.at p) ≡ and_then (take size (drop a.at p)) (cut (drop (a.at + size) p)) = cut_complete (drop a.at p) size e ∙ ap (λ (x : List ℕ). and_then (take size (drop a.at p)) (cut x)) (sym d) in
        let m : length (stored b 0 (take size (drop a.at p))) ≡ length b = length_stored b 0 (take size (drop a.at p)) in
        let i = less size e (omega (arith, ap length d, length-drop size (drop a.at p), w.is, w.fits)) (omega (arith, m)) (ap (λ (x : Cut). x.long) (sym c) ∙ l) in
        let y : take size (stored b 0 (take size (drop a.at p))) ≡ take size (drop a.at p) = rw k at (taken_back b (take size (drop a.at p)) (omega (arith, k, w.is, w.short))) in
        rw (takes_gives n a p b size (holding a 0 (a.at + size)) (stored b 0 (take size (drop a.at p))) (empty_taken a p b h ∙ from_complete a (drop a.at p) b size e), c)
        (record { sections = ap₂ (λ (x : List ℕ) (xs : List (List ℕ)). x ∷ xs) y i.sections; under = i.under; counter = i.counter; pid = i.pid; room = i.room ∙ m })

-- ---- after `feed`

none_next : (s : List ℕ) → length s ≡ 0 → next_of s ≡ Nothing
unfolding next_by
none_next [] h = refl
none_next (x ∷ s) h = absurd (omega arith)

-- a state at rest gives nothing, and stays
pub rests : (n : ℕ) (a : Assembler) (p b : List ℕ) → Settled (take a.held b) → length p ≡ 188 → takes_of (suc n) (at_rest a) p b ≡ record { sections = []; assembler = at_rest a; buffer = b }
rests n a p b k h = takes_done n (at_rest a) p b (at_rest a) b (go (take a.held b) refl k ∙ from_nothing (at_rest a) (drop 188 p) b (none_next (drop 188 p) (omega (arith, length-drop 188 p))))
  where
    go : (u : List ℕ) → take a.held b ≡ u → Settled u → taken_of (at_rest a) p b ≡ taken_from (at_rest a) (drop 188 p) b
    go [] e none = taken_nothing (at_rest a) p b (ap next_of e ∙ none_next [] refl)
    go u e (going f) = taken_part (at_rest a) p b (ap next_of e ∙ f)

module _ (a : Assembler) (counter first : ℕ) (under x p b : List ℕ) (f : length (drop first p) < 189) (r : 4096 ≤ length b) where
  abbrev fed_to : List ℕ → Assembler
  fed_to bytes = record { pid = a.pid; counter = counter; held = length bytes; at = first }

  -- nothing was kept
  drops : (cut (drop first p)).long ≡ false → Leaves (takes_of 190 (fed_to []) p (stored b 0 [])) (fed_to []) b (cut (drop first p))
  drops l =
      let m : length (stored b 0 []) ≡ length b = length_stored b 0 [] in
      let i = takes_from 190 (fed_to []) p (stored b 0 []) refl (omega arith) (omega (arith, m)) l in
      record { sections = i.sections; under = i.under; counter = i.counter; pid = i.pid; room = i.room ∙ m }

  keeps : (s : List ℕ) → next_of s ≡ Part → length (drop first p) ≡ 0 → Leaves (takes_of 190 (fed_to s) p (stored b 0 s)) (fed_to s) b (under_way s)
  keeps s e n =
      let y : take (length s) (stored b 0 s) ≡ s = taken_back b s (omega (arith, (part_shown s e).few)) in
      let t : taken_of (fed_to s) p (stored b 0 s) ≡ giving (None, at_rest (fed_to s)) (stored b 0 s) =
      taken_part (fed_to s) p (stored b 0 s) (ap next_of y ∙ e) ∙ from_nothing (fed_to s) (drop first p) (stored b 0 s) (none_next (drop first p) n) in
      rw (takes_done 189 (fed_to s) p (stored b 0 s) (at_rest (fed_to s)) (stored b 0 s) t)
      (record { sections = refl; under = y; counter = refl; pid = refl; room = length_stored b 0 s })

  ended : (s : List ℕ) (size : ℕ) → next_of s ≡ Complete size → length s ≡ size → (cut (drop first p)).long ≡ false
      → Leaves (takes_of 190 (fed_to s) p (stored b 0 s)) (fed_to s) b (and_then s (cut (drop first p)))
  ended s size e n l =
      let w : IsComplete (length s) (get_or s 0 0) (section_length s) size = complete_shown s size e in
      let y : take (length s) (stored b 0 s) ≡ s = taken_back b s (omega (arith, w.is, w.short)) in
      let z : take size (stored b 0 s) ≡ s = rw n at y in
      let m : length (stored b 0 s) ≡ length b = length_stored b 0 s in
      let i = takes_from 189 (holding (fed_to s) 0 first) p (stored b 0 s) refl f (omega (arith, m)) l in
      rw (takes_gives 189 (fed_to s) p (stored b 0 s) size (holding (fed_to s) 0 first) (stored b 0 s) (taken_complete (fed_to s) p (stored b 0 s) size (ap next_of y ∙ e)))
      (record { sections = ap₂ (λ (v : List ℕ) (vs : List (List ℕ)). v ∷ vs) z i.sections; under = i.under; counter = i.counter; pid = i.pid; room = i.room ∙ m })

  pub kept_taken_lem : (cut_of under x (drop first p)).long ≡ false
      → Leaves (takes_of 190 (fed_to (kept under x (drop first p))) p (stored b 0 (kept under x (drop first p)))) (fed_to (kept under x (drop first p))) b (cut_of under x (drop first p))
  unfolding cut_of kept
  kept_taken_lem l = go (goes_on under x) refl (eqb (length (drop first p)) 0) refl
    where
      go : (k : Next) → goes_on under x ≡ k → (g : Bool) → eqb (length (drop first p)) 0 ≡ g
          → Leaves (takes_of 190 (fed_to (kept under x (drop first p))) p (stored b 0 (kept under x (drop first p)))) (fed_to (kept under x (drop first p))) b (cut_of under x (drop first p))
      go Nothing e g h = rw e (drops (rw e at l))
      go Long e g h = absurd (never (rw e at l))
      go Part e true h = rw (e, h) (keeps (under ++ x) (goes_part under x e) (eqb-true _ _ h))
      go Part e false h = rw (e, h) (drops (rw (e, h) at l))
      go (Complete size) e g h =
          let q : next_of (under ++ x) ≡ Complete size = goes_complete under x size e in
          rw e (ended (take size (under ++ x)) size (complete_itself (under ++ x) size q) (length-take-le size (under ++ x) (complete_shown (under ++ x) size q).fits) (rw e at l))
