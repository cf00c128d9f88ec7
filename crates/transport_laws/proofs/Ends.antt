-- `take` says that it is done, from any state, and what it gives until then is one thing.
use Prim.Native.Nat.{ℕ, zero, suc, ◌+◌, ◌<◌}
use mathlib.Core.List.{List}
use mathlib.Core.Path.{◌≡◌, refl, ap, sym, ◌∙◌}
use native.Mathlib.Omega.{arith}
use lib.ListN.{length, take, drop, get_or, length-drop}
use lib.Seq.{drop-drop}
use Rattle.std.specs.Prelude.{Some, None}
use Rattle.table.specs.Lent.{stored}
use Rattle.transport_packet.specs.declared.sections.Next.{Next}
use Rattle.transport_packet.specs.declared.sections.Next.TheVariants.{Nothing, Long, Part, Complete}
use Rattle.transport.specs.declared.Assembler.{Assembler}
use Rattle.transport_packet.specs.Sections.{section_length, next_by, next_of}
use Rattle.transport.specs.Assembler.{at_rest, holding, TakenTo, giving, taken_from, taken_of}
use Rattle.transport_laws.specs.Takes.{Takes, takes_of, Ends}
use Rattle.transport_laws.specs.Takes.Ends.{done, gives}
use Rattle.transport_packet.proofs.Next.{IsComplete, complete_shown}
use Rattle.transport.proofs.Answers.{from_nothing, from_long, from_part, from_complete, taken_nothing, taken_long, taken_part, taken_complete}
use Rattle.transport_laws.proofs.Takes.{takes_done, takes_gives}

module _ (n : ℕ) (a later : Assembler) (p b b' : List ℕ) where
  is_done : taken_of a p b ≡ giving (None, later) b' → Ends a p b (takes_of (suc n) a p b)
  is_done e = rw (takes_done n a p b later b' e) (done e)

  goes : (size : ℕ) → taken_of a p b ≡ giving (Some size, later) b' → Ends later p b' (takes_of n later p b') → Ends a p b (takes_of (suc n) a p b)
  goes size e more = rw (takes_gives n a p b size later b' e) (gives e more)

-- what is left of the packet is shorter after a section of it
shorter : (p : List ℕ) (at size n : ℕ) → next_of (drop at p) ≡ Complete size → length (drop at p) < suc n → length (drop (at + size) p) < n
shorter p at size n e h =
    let w : IsComplete (length (drop at p)) (get_or (drop at p) 0 0) (section_length (drop at p)) size = complete_shown (drop at p) size e in
    omega (arith, ap length (drop-drop size at p), length-drop size (drop at p), w.is, w.fits)

-- the rest of the packet, once the buffer holds no whole section
module _ (n : ℕ) (a : Assembler) (p b : List ℕ) (t : taken_of a p b ≡ taken_from a (drop a.at p) b) where
  ends_from : ((size : ℕ) → next_of (drop a.at p) ≡ Complete size
      → Ends (holding a 0 (a.at + size)) p (stored b 0 (take size (drop a.at p))) (takes_of n (holding a 0 (a.at + size)) p (stored b 0 (take size (drop a.at p)))))
      → Ends a p b (takes_of (suc n) a p b)
  ends_from more = go (next_of (drop a.at p)) refl
    where
      go : (k : Next) → next_of (drop a.at p) ≡ k → Ends a p b (takes_of (suc n) a p b)
      go Nothing e = is_done n a (at_rest a) p b b (t ∙ from_nothing a (drop a.at p) b e)
      go Long e = is_done n a (at_rest a) p b b (t ∙ from_long a (drop a.at p) b e)
      go Part e = is_done n a (holding a (length (drop a.at p)) 188) p b (stored b 0 (drop a.at p)) (t ∙ from_part a (drop a.at p) b e)
      go (Complete size) e = goes n a (holding a 0 (a.at + size)) p b (stored b 0 (take size (drop a.at p))) size (t ∙ from_complete a (drop a.at p) b size e) (more size e)

ends_empty : (n : ℕ) (a : Assembler) (p b : List ℕ) → a.held ≡ 0 → length (drop a.at p) < n → Ends a p b (takes_of n a p b)
unfolding next_by
ends_empty zero a p b h f = absurd (omega arith)
ends_empty (suc n) a p b h f =
    ends_from n a p b (taken_nothing a p b (rw h))
    (λ size e. ends_empty n (holding a 0 (a.at + size)) p (stored b 0 (take size (drop a.at p))) refl (shorter p a.at size n e f))

-- with one call more than the packet has bytes, and one for the section that the buffer may hold
pub take_ends : (n : ℕ) (a : Assembler) (p b : List ℕ) → length (drop a.at p) < n → Ends a p b (takes_of (suc n) a p b)
take_ends n a p b f = go (next_of (take a.held b)) refl
  where
    rest : taken_of a p b ≡ taken_from a (drop a.at p) b → Ends a p b (takes_of (suc n) a p b)
    rest t =
        ends_from n a p b t
        (λ size e. ends_empty n (holding a 0 (a.at + size)) p (stored b 0 (take size (drop a.at p))) refl (omega (arith, shorter p a.at size n e (omega arith))))

    go : (k : Next) → next_of (take a.held b) ≡ k → Ends a p b (takes_of (suc n) a p b)
    go Nothing e = rest (taken_nothing a p b e)
    go Long e = rest (taken_long a p b e)
    go Part e = rest (taken_part a p b e)
    go (Complete size) e = goes n a (holding a 0 a.at) p b b size (taken_complete a p b size e) (ends_empty n (holding a 0 a.at) p b refl f)

-- ---- what it gives is one thing

not_done : {x y : Assembler} {n : ℕ} {b c : List ℕ} → giving (None, x) b ≡ giving (Some n, y) c → ⊥
not_done {x = x} {y = y} {n = n} e = let q : None ≡ Some n = ap (λ (k : TakenTo). k.answer.0) e in cc

pub ends_one : {a : Assembler} {p b : List ℕ} {t u : Takes} → Ends a p b t → Ends a p b u → t ≡ u
ends_one (done {later = l} {b' = c} e) (done {later = k} {b' = d} f) =
    let x : l ≡ k = ap (λ (k : TakenTo). k.answer.1) (sym e ∙ f) in
    let y : c ≡ d = ap (λ (k : TakenTo). k.buffer) (sym e ∙ f) in
    rw (x, y)
ends_one (done e) (gives f y) = absurd (not_done (sym e ∙ f))
ends_one (gives e x) (done f) = absurd (not_done (sym f ∙ e))
ends_one {p = p} (gives {later = l} {b' = c} {size = n} {t = t} e x) (gives {later = k} {b' = d} {size = m} {t = u} f y) =
    let q : Some n ≡ Some m = ap (λ (k : TakenTo). k.answer.0) (sym e ∙ f) in
    let g : n ≡ m = cc in
    let h : l ≡ k = ap (λ (k : TakenTo). k.answer.1) (sym e ∙ f) in
    let i : c ≡ d = ap (λ (k : TakenTo). k.buffer) (sym e ∙ f) in
    let z : Ends l p c u = rw (h, i) y in
    rw (g, i, ends_one x z)
