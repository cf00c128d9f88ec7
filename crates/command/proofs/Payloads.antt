-- What the reader of a payload by its type answers.
use Prim.Native.Nat.{ℕ, ◌*◌, ◌-◌, ◌/◌, ◌%◌, ◌^◌, ◌<◌, ◌≤◌}
use mathlib.Core.Bool.{Bool, true, false}
use mathlib.Core.List.{List}
use mathlib.Core.Path.{◌≡◌, refl, ap, sym, ◌∙◌}
use native.Mathlib.Omega.{arith}
use lib.Dec.{eqb}
use lib.ListN.{length}
use borrow.Author.Tests.{eq-eqb, ne_eqb}
use Rattle.splice_time.specs.Time.{splice_time, time_read}
use Rattle.splice_time.specs.declared.SpliceTime.{SpliceTime}
use Rattle.splice_time.proofs.Times.{timed_got, timed_lacks}
use Rattle.table.specs.Bits.{pick, bits_of, field}
use Rattle.table.specs.Table.{Answer, got, short, parse}
use Rattle.table.specs.declared.cursor.Cursor.{Cursor}
use Rattle.table.specs.declared.cursor.Field.{Field}
use Rattle.table.specs.declared.cursor.Short.{Short}
use Rattle.table.proofs.Lists.{zero_one}
use Rattle.table.proofs.Reading.{bits_are}
use Rattle.table.proofs.Steps.{takes_number, lacks_number, takes_remaining, takes_part, reads_number, reads_part}
use Rattle.command.specs.Command.{private, read, empty, command_of}
use Rattle.command.specs.Insert.{WithComponents, insert}
use Rattle.command.specs.Private.{insert_read}
use Rattle.command.specs.declared.Private.{Private}
use Rattle.command.specs.declared.SpliceCommand.{SpliceCommand}
use Rattle.command.specs.declared.insert.SpliceInsert.{SpliceInsert}
use Rattle.std.proofs.Common.{Ok, Err, Result}
use Rattle.command.specs.declared.CommandRefusal.{CommandRefusal}

-- ---- an empty payload
pub is_empty : (s : List ℕ) (c : SpliceCommand) → length s ≡ 0 → Ok c ≡ empty c s
is_empty s c e = rw (eq-eqb (length s) 0 e)

pub not_empty : (s : List ℕ) (c : SpliceCommand) → (length s ≡ 0 → ⊥) → Err CommandRefusal.Malformed ≡ empty c s
not_empty s c e = rw (ne_eqb (length s) 0 e)

-- ---- a time signal
pub signal : (r : Answer SpliceTime) (t : Field SpliceTime Cursor) → Ok t ≡ time_read r → Ok (SpliceCommand.TimeSignal t.value) ≡ read SpliceCommand.TimeSignal r
signal r t e = rw (timed_got r t e).0

pub no_signal : (r : Answer SpliceTime) (x : Short) → Err x ≡ time_read r → Err CommandRefusal.Malformed ≡ read SpliceCommand.TimeSignal r
no_signal r x e = rw (timed_lacks r x e)

-- ---- an insert
pub insertion : (r : Answer (WithComponents SpliceInsert)) (i : SpliceInsert) → Ok i ≡ insert_read r
    → Ok (SpliceCommand.SpliceInsert i) ≡ read (λ x. SpliceCommand.SpliceInsert x.value) r
unfolding insert_read
insertion (got x m) i e = cc
insertion (short x a) i e = zero_one cc

pub no_insertion : (r : Answer (WithComponents SpliceInsert)) (x : Short) → Err x ≡ insert_read r → Err CommandRefusal.Malformed ≡ read (λ x. SpliceCommand.SpliceInsert x.value) r
unfolding insert_read
no_insertion (got y m) x e = zero_one cc
no_insertion (short y a) x e = refl

-- ---- a private command
module _ (s : List ℕ) where
  pub no_identifier : length s < 4 → Err CommandRefusal.Malformed ≡ read SpliceCommand.PrivateCommand (parse private (bits_of s) 0)
  unfolding private
  no_identifier h = rw (lacks_number s 0 32 _ _ (omega (arith, h)))

  pub identifier_is : (v : ℕ) → v ≡ field (bits_of s) 0 32 % 2 ^ 64 → (v ≡ field (bits_of s) 0 32) × (v < 2 ^ 32)
  identifier_is v e = bits_are s 0 32 v (omega arith) e

  pub identified : (v : ℕ) → 4 ≤ length s → v ≡ field (bits_of s) 0 32
      → Ok (SpliceCommand.PrivateCommand (record { identifier = v; private_bytes = record { at = 4; len = length s - 4 } })) ≡ read SpliceCommand.PrivateCommand (parse private (bits_of s) 0)
  unfolding private
  identified v four e =
      let m : (length s * 8 - 32) / 8 ≡ length s - 4 = omega arith in
      rw (← m) (ap (read SpliceCommand.PrivateCommand) (sym (takes_number s 0 32 v _ _ (omega (arith, four)) e ∙ takes_remaining s 32 _ _ ∙ takes_part s 32 _ _ _ (omega (arith, four)))))

-- ---- by the type
by_type_lem : (k n : ℕ) (s : List ℕ) (r : Result SpliceCommand CommandRefusal) → k ≡ n → r ≡ command_of n s → r ≡ command_of k s
by_type_lem k n s r e h = rw e h

module _ (k : ℕ) (s : List ℕ) (r : Result SpliceCommand CommandRefusal) where
  pub of_null : k ≡ 0x00 → r ≡ empty SpliceCommand.SpliceNull s → r ≡ command_of k s
  unfolding command_of
  of_null e h = by_type_lem k 0x00 s r e h

  pub of_insert_lem : k ≡ 0x05 → r ≡ read (λ x. SpliceCommand.SpliceInsert x.value) (parse insert (bits_of s) 0) → r ≡ command_of k s
  unfolding command_of
  of_insert_lem e h = by_type_lem k 0x05 s r e h

  pub of_signal : k ≡ 0x06 → r ≡ read SpliceCommand.TimeSignal (parse splice_time (bits_of s) 0) → r ≡ command_of k s
  unfolding command_of
  of_signal e h = by_type_lem k 0x06 s r e h

  pub of_reservation : k ≡ 0x07 → r ≡ empty SpliceCommand.BandwidthReservation s → r ≡ command_of k s
  unfolding command_of
  of_reservation e h = by_type_lem k 0x07 s r e h

  pub of_private_lem : k ≡ 0xff → r ≡ read SpliceCommand.PrivateCommand (parse private (bits_of s) 0) → r ≡ command_of k s
  unfolding command_of
  of_private_lem e h = by_type_lem k 0xff s r e h

pub of_none : (k : ℕ) (s : List ℕ) → (k ≡ 0x00 → ⊥) → (k ≡ 0x05 → ⊥) → (k ≡ 0x06 → ⊥) → (k ≡ 0x07 → ⊥) → (k ≡ 0xff → ⊥) → Err CommandRefusal.UnknownType ≡ command_of k s
unfolding command_of
of_none k s h₁ h₂ h₃ h₄ h₅ = rw (ne_eqb k 0x00 h₁, ne_eqb k 0x05 h₂, ne_eqb k 0x06 h₃, ne_eqb k 0x07 h₄, ne_eqb k 0xff h₅)

-- ---- the bytes of a private command begin behind its identifier
private_at : (s : List ℕ) (p : Private) (m : ℕ) → parse private (bits_of s) 0 ≡ got p m → p.private_bytes.at ≡ 4
unfolding private
private_at s p m e =
    let e₁ = (reads_number s 0 32 _ _ p m e).1 in
    let e₂ = sym (takes_remaining s 32 _ _) ∙ e₁ in
    let e₃ = (reads_part s 32 _ _ _ p m e₂).1 in
    let z : p ≡ record { identifier = field (bits_of s) 0 32; private_bytes = record { at = 4; len = (length s * 8 - 32) / 8 } } = cc in
    ap (λ (x : Private). x.private_bytes.at) z

-- whether it is so of an answer
BehindFour : Result SpliceCommand CommandRefusal → Type 0
BehindFour r = (p : Private) → r ≡ Ok (SpliceCommand.PrivateCommand p) → p.private_bytes.at ≡ 4

pick_has : (P : Result SpliceCommand CommandRefusal → Type 0) (b : Bool) (x y : Result SpliceCommand CommandRefusal) → P x → P y → P (pick b x y)
pick_has P true x y h k = h
pick_has P false x y h k = k

no_private : {X : Type 0} (f : X → SpliceCommand) (r : Answer X) → ((x : X) (p : Private) → f x ≡ SpliceCommand.PrivateCommand p → ⊥) → BehindFour (read f r)
unfolding BehindFour
no_private f (got x m) h p e = absurd (h x p cc)
no_private f (short x a) h p e = zero_one cc

a_private : (s : List ℕ) (r : Answer Private) → ((p : Private) (m : ℕ) → r ≡ got p m → p.private_bytes.at ≡ 4) → BehindFour (read SpliceCommand.PrivateCommand r)
unfolding BehindFour
a_private s (got x m) h p e =
    let z : x ≡ p = cc in
    rw (← z) (h x m refl)
a_private s (short x a) h p e = zero_one cc

empty_has : (b : Bool) (c : SpliceCommand) → ((p : Private) → c ≡ SpliceCommand.PrivateCommand p → ⊥) → BehindFour (pick b (Ok c) (Err CommandRefusal.Malformed))
unfolding BehindFour
empty_has true c h p e = absurd (h p cc)
empty_has false c h p e = zero_one cc

none_has : BehindFour (Err CommandRefusal.UnknownType)
unfolding BehindFour
none_has p e = zero_one cc

behind_four : (k : ℕ) (s : List ℕ) → BehindFour (command_of k s)
unfolding command_of
behind_four k s =
    pick_has BehindFour (eqb k 0x00) _ _ (empty_has (eqb (length s) 0) SpliceCommand.SpliceNull (λ p e. zero_one cc))
    (pick_has BehindFour (eqb k 0x05) _ _ (no_private (λ x. SpliceCommand.SpliceInsert x.value) (parse insert (bits_of s) 0) (λ x p e. zero_one cc))
    (pick_has BehindFour (eqb k 0x06) _ _ (no_private SpliceCommand.TimeSignal (parse splice_time (bits_of s) 0) (λ x p e. zero_one cc))
    (pick_has BehindFour (eqb k 0x07) _ _ (empty_has (eqb (length s) 0) SpliceCommand.BandwidthReservation (λ p e. zero_one cc))
    (pick_has BehindFour (eqb k 0xff) _ _ (a_private s (parse private (bits_of s) 0) (private_at s)) none_has))))

pub private_behind : (k : ℕ) (s : List ℕ) (p : Private) → command_of k s ≡ Ok (SpliceCommand.PrivateCommand p) → p.private_bytes.at ≡ 4
unfolding BehindFour
private_behind k s p e = behind_four k s p e
