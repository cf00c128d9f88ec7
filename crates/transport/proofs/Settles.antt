-- What goes on behind the bytes of a packet is a section under way, or none.
use Prim.Native.Nat.{ℕ, zero, suc}
use mathlib.Core.Bool.{Bool, true, false}
use mathlib.Core.List.{List}
use mathlib.Core.Path.{◌≡◌, refl}
use lib.Dec.{eqb}
use lib.ListN.{length, drop}
use Rattle.transport_packet.specs.declared.sections.Next.{Next}
use Rattle.transport_packet.specs.declared.sections.Next.TheVariants.{Nothing, Long, Part, Complete}
use Rattle.transport_packet.specs.Sections.{next_of, cut_from}
use Rattle.transport.specs.Step.{goes_on, cut_of, Settled}
use Rattle.transport.specs.Step.Settled.{none, going}

pub cut_settled : (n : ℕ) (s : List ℕ) → Settled (cut_from n s).under
unfolding cut_from
cut_settled zero s = none
cut_settled (suc n) s = go (λ size. cut_settled n (drop size s)) (next_of s) refl
  where
    go : ((size : ℕ) → Settled (cut_from n (drop size s)).under) → (k : Next) → next_of s ≡ k → Settled (cut_from (suc n) s).under
    go less Nothing e = rw e none
    go less Long e = rw e none
    go less Part e = rw e (going e)
    go less (Complete size) e = rw e (less size)

pub of_settled : (under x from : List ℕ) → Settled (cut_of under x from).under
unfolding cut_of
of_settled under x from = go (goes_on under x) refl (eqb (length from) 0) refl (eqb (length under) 0) refl
  where
    go : (k : Next) → goes_on under x ≡ k → (f : Bool) → eqb (length from) 0 ≡ f → (g : Bool) → eqb (length under) 0 ≡ g → Settled (cut_of under x from).under
    go Nothing e f h g w = rw e (cut_settled (length from) from)
    go Long e f h g w = rw e none
    go Part e true h true w = let z : Nothing ≡ Part = rw w at e in absurd cc
    go Part e true h false w = rw (e, h) (going (rw w at e))
    go Part e false h g w = rw (e, h) (cut_settled (length from) from)
    go (Complete size) e f h g w = rw e (cut_settled (length from) from)
