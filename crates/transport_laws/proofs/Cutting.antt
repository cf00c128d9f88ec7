-- The cutting of the joined payloads at the pointers, and the sections laid into it.
use Prim.Native.Nat.{ℕ, zero, suc, ◌+◌, ◌≤◌, ◌<◌}
use mathlib.Core.Bool.{Bool, true, false}
use mathlib.Core.List.{List, [], ◌∷◌, ◌++◌, append_assoc}
use mathlib.Core.Path.{◌≡◌, refl, ap, sym, ◌∙◌}
use native.Mathlib.Omega.{arith}
use lib.Dec.{eqb, leb}
use lib.ListN.{length, take, drop, get_or, length-append, length-drop, take-append-drop, drop_of_length-le, get_or-append}
use lib.Seq.{drop-append-le, take_at}
use borrow.Author.Tests.{eqb-true, eqb-false, ne_eqb, leb-true, leb-false}
use Rattle.table.proofs.Lists.{append_nil}
use Rattle.transport_packet.specs.declared.sections.Next.{Next}
use Rattle.transport_packet.specs.declared.sections.Next.TheVariants.{Nothing, Long, Part, Complete}
use Rattle.transport_packet.specs.Sections.{section_length, next_of}
use Rattle.transport_laws.specs.Concatenation.{Load, joined, Run, runs_of, runs_joined, sections_from, sections_of, flat, Begins, Laid, Idle, Carries, Multiplex}
use Rattle.transport_laws.specs.Concatenation.Idle.{over, stuffing}
use Rattle.transport_laws.specs.Concatenation.Carries.{idle, section}
use Rattle.transport_laws.specs.Concatenation.Multiplex.{no_run, run}
use Rattle.transport_packet.proofs.Next.{complete_by, stuffing_by, complete_longer}
use Rattle.transport_laws.proofs.Joined.{no_head}

-- ---- the concatenation's cutting

-- the runs are the payloads joined, cut at the pointers: no byte is lost
pub runs_join : (xs : List Load) → (runs_of xs).lead ++ runs_joined (runs_of xs).runs ≡ joined xs
unfolding runs_of runs_joined joined
runs_join [] = refl
runs_join (x ∷ xs) = go (runs_join xs) (eqb (length x.from) 0) refl
  where
    none_from : (l : List ℕ) → length l ≡ 0 → l ≡ []
    none_from [] h = refl
    none_from (y ∷ l) h = absurd (omega arith)

    go : (runs_of xs).lead ++ runs_joined (runs_of xs).runs ≡ joined xs → (f : Bool) → eqb (length x.from) 0 ≡ f
        → (runs_of (x ∷ xs)).lead ++ runs_joined (runs_of (x ∷ xs)).runs ≡ joined (x ∷ xs)
    go more true f =
        rw (f, none_from x.from (eqb-true _ _ f), append_nil x.lead, ← more) (append_assoc x.lead (runs_of xs).lead (runs_joined (runs_of xs).runs))
    go more false f = rw (f, ← more) (simp append_assoc)

-- the sections of a run are its bytes, in order, from its first on
pub run_in_order : (n : ℕ) (head rest : List ℕ) → Begins (flat (sections_from n head rest)) (head ++ rest)
unfolding sections_from flat
run_in_order zero head rest = record { left = head ++ rest; is = refl }
run_in_order (suc n) head rest = go (λ size. run_in_order n (drop size head) rest) (eqb (length head) 0) refl (next_of (head ++ rest)) refl
  where
    all : Begins [] (head ++ rest)
    all = record { left = head ++ rest; is = refl }

    go : ((size : ℕ) → Begins (flat (sections_from n (drop size head) rest)) (drop size head ++ rest)) → (f : Bool) → eqb (length head) 0 ≡ f → (k : Next) → next_of (head ++ rest) ≡ k
        → Begins (flat (sections_from (suc n) head rest)) (head ++ rest)
    go less true f k e = rw f all
    go less false f Nothing e = rw (f, e) all
    go less false f Long e = rw (f, e) all
    go less false f Part e = rw (f, e) all
    go less false f (Complete size) e = rw (f, e) (behind (leb size (length head)) refl)
      where
        behind : (b : Bool) → leb size (length head) ≡ b → Begins (take size (head ++ rest) ++ flat (sections_from n (drop size head) rest)) (head ++ rest)
        behind true b =
            let i = less size in
            record {
              left = i.left;
              is =
                  append_assoc (take size (head ++ rest)) (flat (sections_from n (drop size head) rest)) i.left
                  ∙ ap (λ (y : List ℕ). take size (head ++ rest) ++ y) (i.is ∙ sym (drop-append-le size head rest (leb-true _ _ b)))
                  ∙ take-append-drop size (head ++ rest);
            }
        behind false b =
            let m : length head ≤ size = omega (arith, leb-false size (length head) b) in
            let d : drop size head ≡ [] = drop_of_length-le head m in
            record { left = drop size (head ++ rest); is = rw (d, no_head n rest, append_nil (take size (head ++ rest))) (take-append-drop size (head ++ rest)) }

-- ---- what a multiplexer laid comes back

laid_complete : (s bytes : List ℕ) → Laid s → Begins s bytes → next_of bytes ≡ Complete (length s)
laid_complete s bytes l b =
    let e : next_of s ≡ Complete (3 + section_length s) = complete_by (length s) (get_or s 0 0) (section_length s) (omega (arith, l.right.size)) l.right.short l.begun in
    ap next_of (sym b.is) ∙ complete_longer s b.left (length s) (e ∙ ap Complete (sym l.right.size))

laid_taken : (s bytes : List ℕ) → Begins s bytes → take (length s) bytes ≡ s
laid_taken s bytes b = ap (take (length s)) (sym b.is) ∙ take_at s b.left (length s) refl

idle_none : (n : ℕ) (head rest : List ℕ) → Idle head → sections_from n head rest ≡ []
unfolding sections_from
idle_none zero head rest i = refl
idle_none (suc n) [] rest over = refl
idle_none (suc n) head rest (stuffing e) = go (eqb (length head) 0) refl
  where
    go : (f : Bool) → eqb (length head) 0 ≡ f → sections_from (suc n) head rest ≡ []
    go true f = rw f
    go false f =
        let h : length head ≡ 0 → ⊥ = eqb-false _ _ f in
        let m : 0 < length head = omega arith in
        rw (f, stuffing_by (length (head ++ rest)) (get_or (head ++ rest) 0 0) (section_length (head ++ rest)) (omega (arith, length-append head rest)) (get_or-append head rest 0 0 m ∙ e))

pub carried_given : (n : ℕ) (head rest : List ℕ) (ss : List (List ℕ)) → length head ≤ n → Carries head rest ss → sections_from n head rest ≡ ss
unfolding sections_from
carried_given n head rest [] h (idle i) = idle_none n head rest i
carried_given zero head rest (s ∷ ss) h (section l m b c) = absurd (omega arith)
carried_given (suc n) head rest (s ∷ ss) h (section l m b c) =
    let less : length (drop (length s) head) ≤ n = omega (arith, length-drop (length s) head, l.right.size) in
    rw (ne_eqb (length head) 0 (λ z. omega arith), laid_complete s (head ++ rest) l b, laid_taken s (head ++ rest) b, carried_given n (drop (length s) head) rest ss less c)

pub multiplexed_given : (rs : List Run) (ss : List (List ℕ)) → Multiplex rs ss → sections_of rs ≡ ss
unfolding sections_of
multiplexed_given [] ss no_run = refl
multiplexed_given (r ∷ rs) ss (run {ss = xs} {more = ys} c m) = rw (carried_given (length r.head) r.head r.rest xs (omega arith) c, multiplexed_given rs ys m)
