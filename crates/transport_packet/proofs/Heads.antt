-- The answers of `head_of`, each by the tests that lead to it.
use Prim.Native.Nat.{ℕ, ◌+◌, ◌≤◌, ◌<◌}
use mathlib.Core.List.{List}
use mathlib.Core.Bool.{Bool, true, false}
use mathlib.Core.Path.{◌≡◌, refl}
use native.Mathlib.Omega.{arith}
use lib.Dec.{eqb, leb, ltb}
use lib.ListN.{length, get_or}
use borrow.Author.Tests.{lt-ltb, le-ltb, le-leb, lt-leb, eq-eqb, ne_eqb, leb-true, ltb-true, eqb-true}
use Rattle.std.specs.Prelude.{Some, None, Ok, Err}
use Rattle.table.specs.Bits.{pick}
use Rattle.transport_packet.specs.declared.packet.Payload.{Payload}
use Rattle.transport_packet.specs.declared.packet.Refusal.TheVariants.{NotAPacket, OtherPid, Scrambled, PayloadOutside}
use Rattle.transport_packet.specs.Packet.{Head, bringing, pid_of, payload_unit_start, scrambling_control, has_payload, counter_of, payload_at, target, unless, head_of}

module _ (pid : ℕ) (p : List ℕ) where
  pub head_length : (length p ≡ 188 → ⊥) → head_of pid p ≡ Err NotAPacket
  unfolding head_of
  head_length h = rw (ne_eqb _ _ h)

  module _ (l : length p ≡ 188) where
    pub head_sync : (get_or p 0 0 ≡ 71 → ⊥) → head_of pid p ≡ Err NotAPacket
    unfolding head_of
    head_sync h = rw (eq-eqb _ _ l, ne_eqb _ _ h)

    module _ (s : get_or p 0 0 ≡ 71) where
      pub head_pid : (pid_of p ≡ pid → ⊥) → head_of pid p ≡ Err OtherPid
      unfolding head_of
      head_pid h = rw (eq-eqb _ _ l, eq-eqb _ _ s, ne_eqb _ _ h)

      module _ (i : pid_of p ≡ pid) where
        pub head_scrambled : (scrambling_control p ≡ 0 → ⊥) → head_of pid p ≡ Err Scrambled
        unfolding head_of
        head_scrambled h = rw (eq-eqb _ _ l, eq-eqb _ _ s, eq-eqb _ _ i, ne_eqb _ _ h)

        module _ (k : scrambling_control p ≡ 0) where
          pub head_adaptation : 188 < payload_at p + has_payload p → head_of pid p ≡ Err PayloadOutside
          unfolding head_of
          head_adaptation h = rw (eq-eqb _ _ l, eq-eqb _ _ s, eq-eqb _ _ i, eq-eqb _ _ k, lt-leb _ _ h)

          module _ (a : payload_at p + has_payload p ≤ 188) where
            pub head_none : has_payload p ≡ 0 → head_of pid p ≡ Ok None
            unfolding head_of
            head_none h = rw (eq-eqb _ _ l, eq-eqb _ _ s, eq-eqb _ _ i, eq-eqb _ _ k, le-leb _ _ a, eq-eqb _ _ h)

            module _ (y : has_payload p ≡ 0 → ⊥) where
              pub head_goes : payload_unit_start p ≡ 0 → head_of pid p ≡ bringing (counter_of p) (payload_at p) 188
              unfolding head_of
              head_goes h = rw (eq-eqb _ _ l, eq-eqb _ _ s, eq-eqb _ _ i, eq-eqb _ _ k, le-leb _ _ a, ne_eqb _ _ y, eq-eqb _ _ h)

              module _ (u : payload_unit_start p ≡ 0 → ⊥) where
                pub head_pointer : 188 ≤ target p → head_of pid p ≡ Err PayloadOutside
                unfolding head_of
                head_pointer h = rw (eq-eqb _ _ l, eq-eqb _ _ s, eq-eqb _ _ i, eq-eqb _ _ k, le-leb _ _ a, ne_eqb _ _ y, ne_eqb _ _ u, le-ltb _ _ h)

                pub head_starts : target p < 188 → head_of pid p ≡ bringing (counter_of p) (payload_at p + 1) (target p)
                unfolding head_of
                head_starts h = rw (eq-eqb _ _ l, eq-eqb _ _ s, eq-eqb _ _ i, eq-eqb _ _ k, le-leb _ _ a, ne_eqb _ _ y, ne_eqb _ _ u, lt-ltb _ _ h)

-- where the payload and the first section stand
pub record Placed (p : List ℕ) (counter at first : ℕ) : Type 0 where
  pub counts : counter < 16
  pub complete : length p ≡ 188
  pub order : at ≤ first
  pub inside : first ≤ 188

abbrev Stands : List ℕ → Head → Type 0
Stands p (Err r) = Unit {0}
Stands p (Ok None) = length p ≡ 188
Stands p (Ok (Some x)) = Placed p x.counter x.at x.first

placed : (pid : ℕ) (p : List ℕ) → Stands p (head_of pid p)
unfolding head_of
placed pid p =
    go (eqb (length p) 188) refl (eqb (get_or p 0 0) 71) (eqb (pid_of p) pid) (eqb (scrambling_control p) 0) (leb (payload_at p + has_payload p) 188) refl
    (eqb (has_payload p) 0) (eqb (payload_unit_start p) 0) (ltb (target p) 188) refl
  where
    go :
        (l : Bool) → eqb (length p) 188 ≡ l → (s i k : Bool) (a : Bool) → leb (payload_at p + has_payload p) 188 ≡ a → (y u : Bool) (t : Bool) → ltb (target p) 188 ≡ t
        → Stands p
        (unless l NotAPacket
        (unless s NotAPacket
        (unless i OtherPid
        (unless k Scrambled
        (unless a PayloadOutside (pick y (Ok None) (pick u (bringing (counter_of p) (payload_at p) 188) (unless t PayloadOutside (bringing (counter_of p) (payload_at p + 1) (target p))))))))))
    go false e s i k a f y u t g = tt
    go true e false i k a f y u t g = tt
    go true e true false k a f y u t g = tt
    go true e true true false a f y u t g = tt
    go true e true true true false f y u t g = tt
    go true e true true true true f true u t g = eqb-true _ _ e
    go true e true true true true f false true t g =
        let m : payload_at p + has_payload p ≤ 188 = leb-true _ _ f in record { counts = omega arith; complete = eqb-true _ _ e; order = omega arith; inside = omega arith }
    go true e true true true true f false false true g =
        let m : target p < 188 = ltb-true _ _ g in record { counts = omega arith; complete = eqb-true _ _ e; order = omega arith; inside = omega arith }
    go true e true true true true f false false false g = tt

pub payload_placed : (pid : ℕ) (p : List ℕ) (x : Payload) → head_of pid p ≡ Ok (Some x) → Placed p x.counter x.at x.first
payload_placed pid p x e = rw e at (placed pid p)

pub none_placed : (pid : ℕ) (p : List ℕ) → head_of pid p ≡ Ok None → length p ≡ 188
none_placed pid p e = rw e at (placed pid p)
