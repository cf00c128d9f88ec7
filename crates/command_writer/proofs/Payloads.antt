-- The bits of a payload that is not refused, and its bytes in a target.
use Prim.Native.Nat.{ℕ, zero, suc, ◌+◌, ◌*◌, ◌/◌, ◌<◌, ◌≤◌}
use mathlib.Core.Bool.{Bool, true, false, ◌&&◌}
use mathlib.Core.List.{List, [], ◌∷◌, ◌++◌}
use mathlib.Core.Path.{◌≡◌, refl, ap, ap₂, sym, ◌∙◌}
use native.Mathlib.Omega.{arith}
use lib.Dec.{leb, eqb}
use lib.ListN.{length, take, drop, length-append}
use lib.Seq.{length-take-le}
use borrow.Author.Tests.{leb-true, leb-false, eqb-true, ne_eqb}
use Rattle.command.specs.Command.{private, count_in}
use Rattle.command.specs.Writable.{writable_insert}
use Rattle.command.specs.Insert.{WithComponents, count, insert_of, insert}
use Rattle.command.specs.declared.Private.{Private}
use Rattle.command.specs.declared.SpliceCommand.{SpliceCommand}
use Rattle.command.specs.declared.components.InsertComponent.{InsertComponent}
use Rattle.command.specs.declared.insert.SpliceInsert.{SpliceInsert}
use Rattle.command.specs.declared.insert.SpliceDetail.{SpliceDetail}
use Rattle.splice_time.specs.Time.{not_immediate}
use Rattle.splice_time.specs.declared.SpliceTime.{SpliceTime}
use Rattle.bit_stores.specs.Pen.{Pens, penned}
use Rattle.bit_stores.specs.Private.{Fits}
use Rattle.bit_stores.specs.Written.{answer_of, later_of, refusal_in, bytes_in}
use Rattle.bit_stores.proofs.Penned.{penned_stored}
use Rattle.bit_stores.proofs.Turns.{place_is}
use Rattle.bit_stores.proofs.Writes.{refusal_made, refused_answer, short_answer, wrote_answer}
use Rattle.table.specs.Bits.{pick, bits_of_num, bits_of, bytes_of, AllBytes}
use Rattle.table.specs.Cursor.{place}
use Rattle.table.specs.Lent.{stored, viewed}
use Rattle.table.specs.Writing.{Field, bits, run, rest, walk, seen, within, contents, print, Made, made, refused, make_of, make}
use Rattle.table.specs.declared.View.{View}
use Rattle.table.specs.declared.cursor.Cursor.{Cursor}
use Rattle.table.proofs.Bits.{AllBits, all_append, all_num, all_bits, all_bytes_n, length_bits, length_bytes_n}
use Rattle.table.proofs.Fields.{bits_bytes}
use Rattle.table.proofs.Lists.{append_nil, and_true, zero_one}
use Rattle.table.proofs.Stores.{stored_nil, stored_none}
use Rattle.command_measure.specs.Fields.{ink, time_fields, insert_fields, private_ink}
use Rattle.command_measure.specs.Made.{counted, times_fit, insert_made, command_made, measured_of}
use Rattle.command_measure.specs.declared.Measured.{Measured}
use Rattle.command_writer.specs.Private.{has_room, answer_measured}
use Rattle.command_measure.proofs.Making.{measured_parts, time_aligned, insert_aligned, private_fields}
use Rattle.command_measure.proofs.Ties.{time_fields_lem, insert_fields_lem}
use Rattle.std.proofs.Common.{Ok, Err, Result}

pub record Payload (m : Made) (p : List ℕ) : Type 0 where
  pub bytes : bytes_in m ≡ bytes_of p
  pub aligned : length p ≡ length (bytes_in m) * 8
  pub is : m ≡ made (bytes_in m)

payload_same : (m : Made) (p q : List ℕ) → p ≡ q → Payload m p → Payload m q
payload_same m p q e h = rw (← e) h

zero_31 : {A : Type 0} → ◌≡◌ {A = ℕ} 31 0 → A
zero_31 e = absurd (omega arith)

pick_payload : (s w f : Bool) (p : List ℕ) (n : ℕ) → length p ≡ n * 8
    → refusal_in (pick s (pick w (pick f (made (bytes_of p)) (refused 33)) (refused 32)) (refused 31)) ≡ 0
    → Payload (pick s (pick w (pick f (made (bytes_of p)) (refused 33)) (refused 32)) (refused 31)) p
unfolding bytes_in
pick_payload true true true p n e z = record { bytes = refl; aligned = omega (arith, length_bytes_n (length p / 8) p); is = refl }
pick_payload true true false p n e z = absurd (omega arith)
pick_payload true false f p n e z = absurd (omega arith)
pick_payload false w f p n e z = absurd (omega arith)

make_payload : (writable : Bool) (lent : List ℕ) (fs : List Field) (n : ℕ) → length (print (contents lent fs)) ≡ n * 8 → refusal_in (make_of writable lent fs) ≡ 0 → Payload (make_of writable lent fs) (print (contents lent fs))
make_payload writable lent fs n e z = pick_payload (seen lent fs) (within fs) writable (print (contents lent fs)) n e z

late_payload : (t : Bool) (m : Made) (p : List ℕ) → (refusal_in m ≡ 0 → Payload m p) → refusal_in (pick t m (refused 32)) ≡ 0 → Payload (pick t m (refused 32)) p
late_payload true m p h z = h z
late_payload false m p h z = absurd (omega arith)

insert_payload : (event kept : ℕ) (d : SpliceDetail) (cs : List InsertComponent) → length cs ≡ count (insert_of d).splice_mode
    → (let x : WithComponents SpliceInsert = record { value = record { splice_event_id = event; reserved = kept; splice_detail = d }; components = cs } in
    refusal_in (insert_made x) ≡ 0 → Payload (insert_made x) (ink (insert_fields x)))
unfolding insert_made
insert_payload event kept d cs e z =
    let x : WithComponents SpliceInsert = record { value = record { splice_event_id = event; reserved = kept; splice_detail = d }; components = cs } in
    let f = insert_fields_lem event kept d cs e in
    let w = insert_aligned event kept d cs in
    late_payload (times_fit cs) (make_of (writable_insert x) [] (walk insert x 0).fields) (ink (insert_fields x)) (rw f (make_payload (writable_insert x) [] (insert_fields x) w.0 w.1)) z

pub counted_payload : (i : SpliceInsert) (places : List InsertComponent) → length places ≡ 255 → count (insert_of i.splice_detail).splice_mode ≤ 255 → refusal_in (insert_made (counted i places)) ≡ 0
    → Payload (insert_made (counted i places)) (ink (insert_fields (counted i places)))
counted_payload i places n l z =
    let k = count (insert_of i.splice_detail).splice_mode in
    insert_payload i.splice_event_id i.reserved i.splice_detail (take k places) (length-take-le k places (omega arith)) z

seen_bytes : (lent : List ℕ) (v : View) → leb (v.at + v.len) (length lent) ≡ true → take v.len (drop v.at lent) ≡ viewed lent v
unfolding viewed
seen_bytes lent v e = rw e

private_payload : (p : Private) (lent : List ℕ) → refusal_in (make private true lent p) ≡ 0 → Payload (make private true lent p) (private_ink p lent)
private_payload p lent z = rw (private_fields p lent) (go (leb (at + n) (length lent)) refl (rw (private_fields p lent) at z))
  where
    at : ℕ
    at = p.private_bytes.at

    n : ℕ
    n = p.private_bytes.len

    fs : List Field
    fs = bits 32 p.identifier ∷ rest n ∷ run n at ∷ []

    go : (b : Bool) → leb (at + n) (length lent) ≡ b → refusal_in (make_of true lent fs) ≡ 0 → Payload (make_of true lent fs) (private_ink p lent)
    go false e z = zero_31 (rw e at z)
    go true e z =
        let v = take n (drop at lent) in
        let w : print (contents lent fs) ≡ private_ink p lent =
        ap (λ (l : List ℕ). bits_of_num 32 p.identifier ++ l) (append_nil (bits_of v) ∙ ap bits_of (seen_bytes lent p.private_bytes e)) in
        let l : length (print (contents lent fs)) ≡ (4 + length v) * 8 =
        length-append (bits_of_num 32 p.identifier) (bits_of v ++ []) ∙ omega (arith, length-append (bits_of v) [], length_bits v) in
        payload_same (make_of true lent fs) (print (contents lent fs)) (private_ink p lent) w (make_payload true lent fs (4 + length v) l z)

module _ (c : SpliceCommand) (places : List InsertComponent) (lent : List ℕ) where
  pub command_insert_payload : (i : SpliceInsert) → c ≡ SpliceCommand.SpliceInsert i → length places ≡ 255 → count (insert_of i.splice_detail).splice_mode ≤ 255 → refusal_in (command_made c places lent) ≡ 0
      → Payload (command_made c places lent) (ink (insert_fields (counted i places)))
  unfolding command_made
  command_insert_payload i e n l z = rw e (counted_payload i places n l (rw e at z))

  pub command_time_payload : (t : SpliceTime) → c ≡ SpliceCommand.TimeSignal t → refusal_in (command_made c places lent) ≡ 0 → Payload (command_made c places lent) (ink (time_fields t))
  unfolding command_made
  command_time_payload t e z = rw e (rw (time_fields_lem t 0) (make_payload (not_immediate t) [] (time_fields t) (time_aligned t).0 (time_aligned t).1 (rw (e, time_fields_lem t 0) at z)))

  pub command_private_payload : (p : Private) → c ≡ SpliceCommand.PrivateCommand p → refusal_in (command_made c places lent) ≡ 0 → Payload (command_made c places lent) (private_ink p lent)
  unfolding command_made
  command_private_payload p e z = rw e (private_payload p lent (rw e at z))

  pub null_bytes : c ≡ SpliceCommand.SpliceNull → bytes_in (command_made c places lent) ≡ []
  unfolding command_made bytes_in
  null_bytes e = rw e

  pub bandwidth_bytes : c ≡ SpliceCommand.BandwidthReservation → bytes_in (command_made c places lent) ≡ []
  unfolding command_made bytes_in
  bandwidth_bytes e = rw e

-- ---- in a target
module _ (out : List ℕ) (at : ℕ) (m : Made) (p : List ℕ) (made_of : Payload m p) (room : at + length (bytes_in m) ≤ length out) where
  pub store_room : Fits out (record { byte = at; bit = 0 }) p
  store_room = omega (arith, place_is (record { byte = at; bit = 0 }), made_of.aligned)

  pub store_all : AllBytes out → AllBits p → (later : List ℕ) (d : Cursor) → Pens out (record { byte = at; bit = 0 }) p later d → later ≡ stored out at (bytes_in m)
  store_all a k later d q =
      let z : place (record { byte = at; bit = 0 }) ≡ at * 8 = place_is (record { byte = at; bit = 0 }) ∙ omega arith in
      let e : p ≡ bits_of (bytes_in m) = sym (ap bits_of made_of.bytes ∙ bits_bytes (length (bytes_in m)) p k made_of.aligned) in
      let b : AllBytes (bytes_in m) = rw made_of.bytes (all_bytes_n (length p / 8) p k) in
      q.bytes ∙ ap₂ (λ (n : ℕ) (l : List ℕ). penned out n l) z e ∙ penned_stored out at (bytes_in m) a b room

pub private_bits : (p : Private) (lent : List ℕ) → AllBits (private_ink p lent)
private_bits p lent = all_append (bits_of_num 32 p.identifier) (bits_of (viewed lent p.private_bytes)) (all_num 32 p.identifier) (all_bits (viewed lent p.private_bytes))

-- ---- what is done with what was made, by its measure
module _ (m : Made) (r : Measured) (is : r ≡ measured_of m) where
  pub room_there : (at n : ℕ) → has_room r at n ≡ true → (refusal_in m ≡ 0) × (at + length (bytes_in m) ≤ n)
  unfolding measured_of
  room_there at n e =
      let a = and_true (eqb r.refusal 0) (leb (at + r.size) n) e in
      let p = measured_parts r m is in
      (sym p.0 ∙ eqb-true r.refusal 0 a.0, rw p.1 at (leb-true (at + r.size) n a.1))

  pub room_none : (t : List ℕ) (at : ℕ) → has_room r at (length t) ≡ false → t ≡ stored t at (bytes_in m)
  unfolding bytes_in
  room_none t at e = go m (rw ((measured_parts r m is).0, (measured_parts r m is).1) at e)
    where
      go : (m : Made) → eqb (refusal_in m) 0 && leb (at + length (bytes_in m)) (length t) ≡ false → t ≡ stored t at (bytes_in m)
      go (made b) e = sym (stored_none t at b (leb-false _ _ e))
      go (refused n) e = sym (stored_nil t at)

module _ (m : Made) (t : List ℕ) where
  pub answered : (r : Measured) → r ≡ measured_of m → (refusal_in m ≡ 0 → m ≡ made (bytes_in m)) → answer_measured r (length t) ≡ answer_of m t
  unfolding measured_of bytes_in answer_of
  answered r is h = ap (λ (x : Measured). answer_measured x (length t)) is ∙ go m h
    where
      go : (m : Made) → (refusal_in m ≡ 0 → m ≡ made (bytes_in m)) → answer_measured (measured_of m) (length t) ≡ answer_of m t
      go (made b) h = refl
      go (refused zero) h = let e = h refl in zero_one cc
      go (refused (suc n)) h = rw (ne_eqb (suc n) 0 (λ e. omega (arith, e)))

  pub wrote_there : (k : ℕ) → answer_of m t ≡ Ok k → (refusal_in m ≡ 0) × (length (bytes_in m) ≤ length t) × (stored t 0 (bytes_in m) ≡ later_of m t)
  unfolding answer_of
  wrote_there k e = go m refl e
    where
      fits : (b : List ℕ) (f : Bool) → leb (length b) (length t) ≡ f → pick {A = Result ℕ ℕ} f (Ok (length b)) (Err 36) ≡ Ok k → length b ≤ length t
      fits b true h e = leb-true _ _ h
      fits b false h e = zero_one cc

      go : (x : Made) → m ≡ x → answer_of x t ≡ Ok k → (refusal_in m ≡ 0) × (length (bytes_in m) ≤ length t) × (stored t 0 (bytes_in m) ≡ later_of m t)
      go (made b) is e =
          let p = refusal_made m b is in
          let l = fits b (leb (length b) (length t)) refl e in
          (p.0, rw p.1 l, rw p.1 (wrote_answer m t b is l).1)
      go (refused n) is e = zero_one cc

  pub refused_later : (k : ℕ) → answer_of m t ≡ Err k → t ≡ later_of m t
  unfolding answer_of
  refused_later k e = go m refl e
    where
      short : (b : List ℕ) (f : Bool) → leb (length b) (length t) ≡ f → pick f (Ok (length b)) (Err 36) ≡ Err k → length t < length b
      short b true h e = zero_one cc
      short b false h e = leb-false _ _ h

      go : (x : Made) → m ≡ x → answer_of x t ≡ Err k → t ≡ later_of m t
      go (made b) is e = (short_answer m t b is (short b (leb (length b) (length t)) refl e)).1
      go (refused n) is e = (refused_answer m t n is).1

-- what is said of one is said of the other
pub other_made : (m n : Made) (t u : List ℕ) (r : Result ℕ ℕ) → m ≡ n → (r ≡ answer_of m t) × (u ≡ later_of m t) → (r ≡ answer_of n t) × (u ≡ later_of n t)
other_made m n t u r e h = rw (← e) h

-- a command that is not refused is made
pub command_made_lem : (c : SpliceCommand) (places : List InsertComponent) (lent : List ℕ) → length places ≡ 255 → count_in c ≤ 255 → refusal_in (command_made c places lent) ≡ 0
    → command_made c places lent ≡ made (bytes_in (command_made c places lent))
unfolding command_made bytes_in
command_made_lem SpliceCommand.SpliceNull places lent n k z = refl
command_made_lem (SpliceCommand.SpliceInsert i) places lent n k z = (command_insert_payload (SpliceCommand.SpliceInsert i) places lent i refl n k z).is
command_made_lem (SpliceCommand.TimeSignal t) places lent n k z = (command_time_payload (SpliceCommand.TimeSignal t) places lent t refl z).is
command_made_lem SpliceCommand.BandwidthReservation places lent n k z = refl
command_made_lem (SpliceCommand.PrivateCommand p) places lent n k z = (command_private_payload (SpliceCommand.PrivateCommand p) places lent p refl z).is
