-- An envelope and a payload stored: what a writer answers and leaves.
use Prim.Native.Nat.{ℕ, ◌+◌, ◌*◌, ◌/◌, ◌<◌, ◌≤◌}
use mathlib.Core.Bool.{true, false}
use mathlib.Core.List.{List, ◌∷◌, ◌++◌, append_assoc}
use mathlib.Core.Path.{◌≡◌, refl, ap, ap₂, sym, ◌∙◌}
use native.Mathlib.Omega.{arith}
use lib.Dec.{leb}
use lib.ListN.{length, drop, length-append}
use borrow.Author.Tests.{le-leb, lt-leb}
use Rattle.table.specs.Bits.{bits_of, bytes_of, AllBytes}
use Rattle.table.specs.Cursor.{place}
use Rattle.table.specs.Writing.{Content, print, Made, made, refused}
use Rattle.table.specs.declared.cursor.Cursor.{Cursor}
use Rattle.table.proofs.Bits.{all_append, all_bits, length_bits, length_bytes_n, bytes_append, bytes_bits}
use Rattle.table.proofs.Walks.{print_bits}
use Rattle.descriptor_measure.specs.Writing.{enveloped, enveloped_made}
use Rattle.bit_stores.specs.Pen.{penned}
use Rattle.bit_stores.specs.Written.{answer_of, later_of}
use Rattle.bit_stores.proofs.Penned.{penned_aligned}
use Rattle.descriptor_writer.specs.Stores.{Writes}
use Rattle.descriptor_writer.specs.Private.{Stores, start, envelope_contents}
use Rattle.std.proofs.Common.{Ok, Err}

pub place_start : place start ≡ 0
unfolding place
place_start = refl

-- ---- a refusal leaves the target
pub writes_refused : (m : Made) (t : List ℕ) (n : ℕ) → m ≡ refused n → Writes m t t (Err n)
unfolding answer_of later_of
writes_refused m t n e = rw e (record { answer = refl; target_later = refl })

module _ (tag : ℕ) (id payload t : List ℕ) (k : ℕ) (size : length payload ≡ k) where
  pub writes_long : 250 < k → Writes (enveloped_made tag id (made payload)) t t (Err 34)
  unfolding enveloped_made
  writes_long h = writes_refused (enveloped_made tag id (made payload)) t 34 (rw (lt-leb (length payload + 4) 254 (omega arith)))

  enveloped_so : k ≤ 250 → enveloped_made tag id (made payload) ≡ made (enveloped tag id payload)
  unfolding enveloped_made
  enveloped_so h = rw (le-leb (length payload + 4) 254 (omega arith))

  enveloped_length : length id ≡ 4 → length (enveloped tag id payload) ≡ k + 6
  unfolding enveloped
  enveloped_length f = let z = length-append id payload in omega arith

  pub writes_short : k ≤ 250 → length id ≡ 4 → length t < k + 6 → Writes (enveloped_made tag id (made payload)) t t (Err 36)
  unfolding answer_of later_of
  writes_short h f l =
      let z : leb (length (enveloped tag id payload)) (length t) ≡ false = lt-leb (length (enveloped tag id payload)) (length t) (omega (arith, enveloped_length f)) in
      record { answer = rw (enveloped_so h, z); target_later = rw (enveloped_so h, z) }

  wrote_so : (v : List ℕ) → k ≤ 250 → length id ≡ 4 → k + 6 ≤ length t → v ≡ enveloped tag id payload ++ drop (k + 6) t → Writes (enveloped_made tag id (made payload)) t v (Ok (k + 6))
  unfolding answer_of later_of
  wrote_so v h f l e =
      let n : length (enveloped tag id payload) ≡ k + 6 = enveloped_length f in
      let z : leb (length (enveloped tag id payload)) (length t) ≡ true = le-leb (length (enveloped tag id payload)) (length t) (omega arith) in
      record { answer = rw (enveloped_so h, z, n); target_later = rw (enveloped_so h, z, n) e }

module _ (tag : ℕ) (id t : List ℕ) (k : ℕ) (cs : List Content) (bits : length (print cs) ≡ k * 8) (four : length id ≡ 4) (room : k + 6 ≤ length t)
    (all : AllBytes (tag ∷ ((k + 4) ∷ id))) (target : AllBytes t) where
  abbrev F : List ℕ
  F = tag ∷ ((k + 4) ∷ id)

  envelope_bits : print (envelope_contents tag (k + 4) id ++ cs) ≡ bits_of F ++ print cs
  envelope_bits = simp append_assoc

  payload_size_lem : length (bytes_of (print cs)) ≡ k
  payload_size_lem = length_bytes_n (length (print cs) / 8) (print cs) ∙ omega arith

  enveloped_bytes : bytes_of (bits_of F ++ print cs) ≡ enveloped tag id (bytes_of (print cs))
  unfolding enveloped
  enveloped_bytes =
      bytes_append 6 (bits_of F) (print cs) (length_bits F ∙ omega arith) ∙ ap (λ (l : List ℕ). l ++ bytes_of (print cs)) (bytes_bits F all)
      ∙ ap (λ (n : ℕ). tag ∷ ((n + 4) ∷ (id ++ bytes_of (print cs)))) (sym payload_size_lem)

  pub writes_stored : (v : List ℕ) (d : Cursor) → k ≤ 250 → Stores t start (envelope_contents tag (k + 4) id ++ cs) v d
      → Writes (enveloped_made tag id (made (bytes_of (print cs)))) t v (Ok (k + 6))
  writes_stored v d h s =
      let n : length (bits_of F ++ print cs) ≡ (k + 6) * 8 = length-append (bits_of F) (print cs) ∙ omega (arith, length_bits F) in
      let l : length (print (envelope_contents tag (k + 4) id ++ cs)) ≡ (k + 6) * 8 = ap length envelope_bits ∙ n in
      let f : place start + length (print (envelope_contents tag (k + 4) id ++ cs)) ≤ length t * 8 = rw (l, place_start) (omega arith) in
      let p = s.stores f in
      let e : v ≡ penned t 0 (bits_of F ++ print cs) = p.bytes ∙ ap₂ (λ (a : ℕ) (b : List ℕ). penned t a b) place_start envelope_bits in
      let w : penned t 0 (bits_of F ++ print cs) ≡ bytes_of (bits_of F ++ print cs) ++ drop (k + 6) t =
      penned_aligned t (bits_of F ++ print cs) (k + 6) target (all_append (bits_of F) (print cs) (all_bits F) (print_bits cs)) n room in
      wrote_so tag id (bytes_of (print cs)) t k payload_size_lem v h four room (e ∙ w ∙ ap (λ (l : List ℕ). l ++ drop (k + 6) t) enveloped_bytes)
