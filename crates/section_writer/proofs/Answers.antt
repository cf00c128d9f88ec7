-- What the writer answers and leaves, return by return.
--     refused_for, short_for, wrote_for    what `answer_section` answers
--     section_answer                       that it is what the section's definition says
--     allowed, wrote_section               what stands where the answer is that it is written
use Prim.Native.Nat.{ℕ, zero, suc, ◌+◌, ◌<◌, ◌≤◌}
use mathlib.Core.Bool.{Bool, true, false}
use mathlib.Core.List.{List}
use mathlib.Core.Path.{◌≡◌, refl, ap, sym, ◌∙◌}
use native.Mathlib.Omega.{arith}
use lib.Dec.{eqb, leb}
use lib.ListN.{length, take}
use borrow.Author.Tests.{le-leb, lt-leb, leb-true, leb-false, eq-eqb, ne_eqb, eqb-true, eqb-false}
use Rattle.command.specs.declared.SpliceCommand.{SpliceCommand}
use Rattle.command.specs.declared.components.InsertComponent.{InsertComponent}
use Rattle.command_measure.specs.Made.{command_made, measured_of}
use Rattle.command_measure.specs.declared.Measured.{Measured}
use Rattle.canonical_form.specs.Descriptor.{canonical_loop}
use Rattle.header.specs.declared.header.SpliceInfoHeader.{SpliceInfoHeader}
use Rattle.bit_stores.specs.Written.{answer_of, later_of, refusal_in, bytes_in}
use Rattle.bit_stores.proofs.Writes.{refused_answer, short_answer, wrote_answer}
use Rattle.section.specs.Section.{first, section_length}
use Rattle.table.specs.Bits.{pick}
use Rattle.table.specs.Lent.{stored}
use Rattle.table.specs.Writing.{Made, made, refused}
use Rattle.table.proofs.Lists.{zero_one}
use Rattle.table.proofs.Stores.{length_stored}
use Rattle.section_writer.specs.Frame.{head, frame, numbers_fit, writable_head}
use Rattle.section_writer.specs.Private.{tail, answer_section}
use Rattle.section_writer.specs.Writing.{writer_conditions, unless, section_made, type_of}
use Rattle.section_writer.proofs.Frames.{length_frame}
use Rattle.section_writer.proofs.Stored.{section_stored}
use Rattle.section_writer.proofs.Trips.{tests_passed}
use Rattle.std.proofs.Common.{Ok, Err, Result}

unless_refused_lem : (n : ℕ) (b : List ℕ) → 0 < n → unless n b ≡ refused n
unless_refused_lem zero b h = absurd (omega arith)
unless_refused_lem (suc n) b h = refl

-- ---- the answer, by the first refusal that applies
module _ (h : SpliceInfoHeader) (m : Measured) (loop : List ℕ) (room : ℕ) (k : Bool) (n : ℕ)
    (ek : k ≡ canonical_loop loop) (en : n ≡ first 31 (writer_conditions h m.refusal m.size (length loop) k)) where
  pub refused_for : 0 < n → Err n ≡ answer_section h m loop room
  unfolding answer_section
  refused_for z = rw (← ek, ← en, ne_eqb n 0 (λ e. omega (arith, e, z)))

  pub short_for : n ≤ 0 → room < section_length m.size (length loop) → Err 36 ≡ answer_section h m loop room
  unfolding answer_section
  short_for z l = rw (← ek, ← en, eq-eqb n 0 (omega arith), lt-leb (section_length m.size (length loop)) room l)

  pub wrote_for : n ≤ 0 → section_length m.size (length loop) ≤ room → Ok (section_length m.size (length loop)) ≡ answer_section h m loop room
  unfolding answer_section
  wrote_for z l = rw (← ek, ← en, eq-eqb n 0 (omega arith), le-leb (section_length m.size (length loop)) room l)

  pub short_enough : n ≤ 0 → section_length m.size (length loop) ≤ 4096
  short_enough z = (tests_passed h m.refusal m.size (length loop) k (sym en ∙ omega arith)).2

-- ---- the section, of what its command measures
module _ (h : SpliceInfoHeader) (c : SpliceCommand) (cs : List InsertComponent) (lent loop : List ℕ) (m : Measured) (em : m ≡ measured_of (command_made c cs lent)) where
  abbrev payload : List ℕ
  payload = bytes_in (command_made c cs lent)

  abbrev n : ℕ
  n = first 31 (writer_conditions h m.refusal m.size (length loop) (canonical_loop loop))

  abbrev section : Made
  section = section_made h (command_made c cs lent) (type_of c) loop

  size_is : m.size ≡ length payload
  unfolding measured_of
  size_is = ap (λ (x : Measured). x.size) em

  tests : n ≡ first 31 (writer_conditions h (refusal_in (command_made c cs lent)) (length payload) (length loop) (canonical_loop loop))
  unfolding measured_of
  tests = rw em

  is_refused : 0 < n → section ≡ refused n
  unfolding section_made
  is_refused z = rw (← tests) (unless_refused_lem n (frame h (type_of c) payload loop) z)

  is_made : n ≡ 0 → section ≡ made (frame h (type_of c) payload loop)
  unfolding section_made
  is_made e = rw (← tests, e)

  long : length (frame h (type_of c) payload loop) ≡ section_length m.size (length loop)
  long = length_frame h (type_of c) payload loop ∙ omega (arith, size_is)

  pub section_answer : (t : List ℕ) → answer_section h m loop (length t) ≡ answer_of section t
  unfolding answer_section
  section_answer t = go (eqb n 0) refl (leb (section_length m.size (length loop)) (length t)) refl
    where
      go : (z : Bool) → eqb n 0 ≡ z → (f : Bool) → leb (section_length m.size (length loop)) (length t) ≡ f
          → pick z (pick f (Ok (section_length m.size (length loop))) (Err 36)) (Err n) ≡ answer_of section t
      go false e f l = (refused_answer section t n (is_refused (let o = eqb-false n 0 e in omega (arith, o)))).0
      go true e false l = (short_answer section t (frame h (type_of c) payload loop) (is_made (eqb-true n 0 e)) (let o = leb-false (section_length m.size (length loop)) (length t) l in omega (arith, o, long))).0
      go true e true l = rw long at (wrote_answer section t (frame h (type_of c) payload loop) (is_made (eqb-true n 0 e)) (let o = leb-true (section_length m.size (length loop)) (length t) l in omega (arith, o, long))).0

  -- where the answer is that it is written
  module _ (t : List ℕ) (r : Result ℕ ℕ) (k : ℕ) (is : r ≡ answer_section h m loop (length t)) (e : r ≡ Ok k) where
    no_refusal : (n ≡ 0) × (section_length m.size (length loop) ≤ length t)
    unfolding answer_section
    no_refusal = go (eqb n 0) refl (leb (section_length m.size (length loop)) (length t)) refl (sym is ∙ e)
      where
        go : (z : Bool) → eqb n 0 ≡ z → (f : Bool) → leb (section_length m.size (length loop)) (length t) ≡ f
            → pick z (pick f (Ok (section_length m.size (length loop))) (Err 36)) (Err n) ≡ Ok k
            → (n ≡ 0) × (section_length m.size (length loop) ≤ length t)
        go false a f l w = zero_one cc
        go true a false l w = zero_one cc
        go true a true l w = (eqb-true n 0 a, leb-true (section_length m.size (length loop)) (length t) l)

    pub allowed : (numbers_fit h ≡ true) × (writable_head h ≡ true) × (section_length m.size (length loop) ≤ 4096) × (section_length m.size (length loop) ≤ length t)
    allowed = let p = tests_passed h m.refusal m.size (length loop) (canonical_loop loop) no_refusal.0 in (p.0, p.1, p.2, no_refusal.1)

    pub wrote_section : (u v w : List ℕ) (q : ℕ) → q ≡ type_of c → u ≡ stored t 0 (head h q m.size (length loop)) → v ≡ stored u 14 payload
        → w ≡ stored v (14 + m.size) (tail (take (14 + m.size) v) loop) → w ≡ later_of section t
    wrote_section u v w q eq eu ev ew =
        let room = no_refusal.1 in
        section_stored t u v w h (type_of c) payload loop (rw (eq, size_is) at eu) ev (rw size_is at ew) (omega (arith, size_is, room))
        ∙ (wrote_answer section t (frame h (type_of c) payload loop) (is_made no_refusal.0) (omega (arith, long, room))).1

-- stores keep the target's length
pub kept_length : (t u v : List ℕ) (i j : ℕ) (a b : List ℕ) → u ≡ stored t i a → v ≡ stored u j b → length v ≡ length t
kept_length t u v i j a b e f = rw (f, e, length_stored (stored t i a) j b) (length_stored t i a)
