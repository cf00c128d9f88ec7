-- The assembler's cutting, packet by packet, is the cutting of the runs between pointers.
use Prim.Native.Nat.{ℕ, zero, suc, ◌≤◌}
use mathlib.Core.Bool.{Bool, true, false}
use mathlib.Core.List.{List, [], ◌∷◌, ◌++◌, append_assoc}
use mathlib.Core.Path.{◌≡◌, refl, ap}
use native.Mathlib.Omega.{arith}
use lib.Dec.{eqb}
use lib.ListN.{length, take, drop, length-append, drop_of_length-le}
use lib.Seq.{take-append-le}
use borrow.Author.Tests.{eqb-true, eqb-false, eq-eqb, ne_eqb}
use Rattle.transport_packet.specs.declared.sections.Next.{Next}
use Rattle.transport_packet.specs.declared.sections.Next.TheVariants.{Nothing, Long, Part, Complete}
use Rattle.transport_packet.specs.Sections.{next_of, by_next, nothing_cut, cut_from, cut}
use Rattle.transport.specs.Step.{goes_on, cut_of}
use Rattle.transport_laws.specs.Concatenation.{sections_from}
use Rattle.transport_packet.proofs.Next.{complete_shown, complete_longer, nothing_longer, part_longer}
use Rattle.transport_packet.proofs.Cuts.{left_shorter}

-- the section under way, if the bytes behind it finish it
abbrev pub finish : List ℕ → List ℕ → List (List ℕ)
finish under rest = by_next (goes_on under rest) [] [] [] (λ size. take size (under ++ rest) ∷ [])

never : true ≡ false → ⊥
never e = cc

-- ---- more bytes behind

module _ (under x rest : List ℕ) where
  begun : (k : Next) → goes_on under x ≡ k → (Nothing ≡ k → ⊥) → (eqb (length under) 0 ≡ false) × (next_of (under ++ x) ≡ k)
  begun k e n = go (eqb (length under) 0) refl
    where
      go : (f : Bool) → eqb (length under) 0 ≡ f → (eqb (length under) 0 ≡ false) × (next_of (under ++ x) ≡ k)
      go true f = absurd (n (rw f at e))
      go false f = (f, rw f at e)

  more_nothing : goes_on under x ≡ Nothing → goes_on under (x ++ rest) ≡ Nothing
  more_nothing e = go (eqb (length under) 0) refl
    where
      go : (f : Bool) → eqb (length under) 0 ≡ f → goes_on under (x ++ rest) ≡ Nothing
      go true f = rw f
      go false f =
          let h : length under ≡ 0 → ⊥ = eqb-false _ _ f in
          rw (f, ← append_assoc under x rest) (nothing_longer (under ++ x) rest (omega (arith, length-append under x)) (rw f at e))

  more_complete : (size : ℕ) → goes_on under x ≡ Complete size → goes_on under (x ++ rest) ≡ Complete size
  more_complete size e =
      let b = begun (Complete size) e (λ n. cc) in
      rw (b.0, ← append_assoc under x rest) (complete_longer (under ++ x) rest size b.1)

  pub finish_nothing : goes_on under x ≡ Nothing → finish under (x ++ rest) ≡ []
  finish_nothing e = rw (more_nothing e)

  pub finish_complete : (size : ℕ) → goes_on under x ≡ Complete size → finish under (x ++ rest) ≡ take size (under ++ x) ∷ []
  finish_complete size e =
      let b = begun (Complete size) e (λ n. cc) in
      rw (more_complete size e, ← append_assoc under x rest, take-append-le size (under ++ x) rest (complete_shown (under ++ x) size b.1).fits)

  pub finish_part : goes_on under x ≡ Part → finish (under ++ x) rest ≡ finish under (x ++ rest)
  finish_part e =
      let b = begun Part e (λ n. cc) in
      let h : length under ≡ 0 → ⊥ = eqb-false _ _ b.0 in
      rw (ne_eqb (length (under ++ x)) 0 (λ z. omega (arith, length-append under x)), b.0, append_assoc under x rest)

-- ---- a run: the sections that begin in its packet, and the last of them finished by the bytes behind

pub no_head : (n : ℕ) (rest : List ℕ) → sections_from n [] rest ≡ []
unfolding sections_from
no_head zero rest = refl
no_head (suc n) rest = refl

pub run_cut : (n : ℕ) (head rest : List ℕ) → length head ≤ n → (cut_from n head).long ≡ false
    → (cut_from n head).sections ++ finish (cut_from n head).under rest ≡ sections_from n head rest
unfolding cut_from sections_from
run_cut zero head rest h l = refl
run_cut (suc n) head rest h l =
    go (λ size e. run_cut n (drop size head) rest (left_shorter head size n e h)) (next_of head) refl (eqb (length head) 0) refl
  where
    go :
        ((size : ℕ) → next_of head ≡ Complete size → (cut_from n (drop size head)).long ≡ false
        → (cut_from n (drop size head)).sections ++ finish (cut_from n (drop size head)).under rest ≡ sections_from n (drop size head) rest)
        → (k : Next) → next_of head ≡ k → (f : Bool) → eqb (length head) 0 ≡ f
        → (cut_from (suc n) head).sections ++ finish (cut_from (suc n) head).under rest ≡ sections_from (suc n) head rest
    go less Nothing e true f = rw (e, f)
    go less Nothing e false f =
        let n : length head ≡ 0 → ⊥ = eqb-false _ _ f in
        rw (e, f, nothing_longer head rest (omega arith) e)
    go less Long e f g = absurd (never (rw e at l))
    go less Part e true f = rw (e, f)
    go less Part e false f = rw (e, f) (ended (next_of (head ++ rest)) refl)
      where
        ended : (k : Next) → next_of (head ++ rest) ≡ k
            → by_next (next_of (head ++ rest)) [] [] [] (λ size. take size (head ++ rest) ∷ [])
            ≡ by_next (next_of (head ++ rest)) [] [] [] (λ size. take size (head ++ rest) ∷ sections_from n (drop size head) rest)
        ended Nothing x = rw x
        ended Long x = rw x
        ended Part x = rw x
        ended (Complete size) x =
            let m : length head ≤ size = omega (arith, part_longer head rest size e x) in
            let none : drop size head ≡ [] = drop_of_length-le head m in
            rw (x, none, no_head n rest)
    go less (Complete size) e true f =
        let w = complete_shown head size e in
        let z : length head ≡ 0 = eqb-true _ _ f in
        absurd (omega (arith, w.is, w.fits))
    go less (Complete size) e false f =
        rw (e, f, complete_longer head rest size e, take-append-le size head rest (complete_shown head size e).fits)
        (ap (λ (x : List (List ℕ)). take size head ∷ x) (less size e (rw e at l)))

-- ---- a payload

none_cut : (s : List ℕ) → length s ≡ 0 → cut s ≡ nothing_cut
unfolding cut_from
none_cut [] h = refl
none_cut (x ∷ s) h = absurd (omega arith)

module _ (under x from rest : List ℕ) (l : (cut_of under x from).long ≡ false) where
  -- no section begins in it
  pub load_goes : length from ≡ 0 → (cut_of under x from).sections ++ finish (cut_of under x from).under rest ≡ finish under (x ++ rest)
  unfolding cut_of
  load_goes h = go (goes_on under x) refl
    where
      c : cut from ≡ nothing_cut
      c = none_cut from h

      go : (k : Next) → goes_on under x ≡ k → (cut_of under x from).sections ++ finish (cut_of under x from).under rest ≡ finish under (x ++ rest)
      go Nothing e = rw (finish_nothing under x rest e, e, c)
      go Long e = absurd (never (rw e at l))
      go Part e = rw (e, eq-eqb (length from) 0 h) (finish_part under x rest e)
      go (Complete size) e = rw (finish_complete under x rest size e, e, c)

  pub load_starts : (length from ≡ 0 → ⊥)
      → (cut_of under x from).sections ++ finish (cut_of under x from).under rest ≡ finish under x ++ sections_from (length from) from rest
  unfolding cut_of
  load_starts h = go (goes_on under x) refl
    where
      run : (cut from).long ≡ false → (cut from).sections ++ finish (cut from).under rest ≡ sections_from (length from) from rest
      run n = run_cut (length from) from rest (omega arith) n

      go : (k : Next) → goes_on under x ≡ k
          → (cut_of under x from).sections ++ finish (cut_of under x from).under rest ≡ finish under x ++ sections_from (length from) from rest
      go Nothing e = rw e (run (rw e at l))
      go Long e = absurd (never (rw e at l))
      go Part e = rw (e, ne_eqb (length from) 0 h) (run (rw (e, ne_eqb (length from) 0 h) at l))
      go (Complete size) e = rw e (ap (λ (y : List (List ℕ)). take size (under ++ x) ∷ y) (run (rw e at l)))
