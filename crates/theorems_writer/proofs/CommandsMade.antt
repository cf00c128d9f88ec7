-- What is made of a command is fixed by the command reader and the fields' widths.
--     tested             the tests of the command writer, in order
--     payload_made_lem       what is made of a command is a canonical payload that reads as it
--     made_if_read       a canonical payload that reads as a command is what is made of it
--     command_makes      so the answer is the relation's
--     one_command_made   and the relation leaves one
use Prim.Native.Nat.{ℕ, ◌/◌, ◌^◌, ◌≤◌}
use mathlib.Core.Bool.{Bool, true, false, ◌&&◌}
use mathlib.Core.List.{List, []}
use mathlib.Core.Logic.{◌⊎◌, inl, inr}
use mathlib.Core.Path.{◌≡◌, refl, ap, ap₂, sym, ◌∙◌}
use native.Mathlib.Omega.{arith}
use lib.Dec.{ltb}
use lib.ListN.{length, take, drop}
use borrow.Author.Tests.{le-leb}
use Rattle.command.specs.Command.{private, count_in, components_of, with_view}
use Rattle.command.specs.Writable.{writable_insert}
use Rattle.command.specs.Insert.{insert, insert_of, count}
use Rattle.command.specs.declared.Private.{Private}
use Rattle.command.specs.declared.SpliceCommand.{SpliceCommand}
use Rattle.command.specs.declared.components.InsertComponent.{InsertComponent}
use Rattle.command.specs.declared.insert.SpliceDetail.{SpliceDetail}
use Rattle.command_measure.proofs.Making.{plain_seen, plain_active, private_fields}
use Rattle.command_measure.proofs.Ties.{time_fields_lem, insert_fields_lem}
use Rattle.command_measure.specs.Fields.{time_fields, insert_fields}
use Rattle.command_measure.specs.Made.{counted, times_fit, insert_made, command_made}
use Rattle.command_writer.proofs.Theorems.{private_command_write_read}
use Rattle.descriptor_round_trips.specs.Making.{fit}
use Rattle.command.proofs.Arrays.{array_take}
use Rattle.splice_time.specs.Time.{splice_time, not_immediate}
use Rattle.splice_time.specs.declared.SpliceTime.{SpliceTime}
use Rattle.section.specs.Section.{private_view}
use Rattle.section_writer.proofs.FullTrips.{Held, command_write_read}
use Rattle.section_writer.specs.Trips.{own_of}
use Rattle.section_writer.specs.Writing.{type_of}
use Rattle.table.proofs.Bits.{all_bytes_n}
use Rattle.table.proofs.Lists.{zero_one, and_true}
use Rattle.table.proofs.Structure.{wrote}
use Rattle.table.proofs.Walks.{print_bits}
use Rattle.table.specs.Bits.{pick, bytes_of, AllBytes}
use Rattle.table.specs.Lent.{lies_in, viewed, no_view}
use Rattle.table.specs.Table.{number, part, remaining}
use Rattle.table.specs.Writing.{walk, seen, within, Content, contents, print, Made, made, refused, make}
use Rattle.table.specs.declared.View.{View}
use Rattle.theorems_writer.specs.Making.{command_numbers, CommandPayload, CommandMakes}
use Rattle.canonical_form.specs.Same.{without_place}
use Rattle.theorems_writer.proofs.Answers.{private_of}
use Rattle.theorems_writer.proofs.NumbersFit.{and_one, time_fits, private_fits, insert_fits}
use Rattle.theorems_writer.proofs.WrittenBack.{command_back, held, components_read}

-- ---- the writer's tests
abbrev answer : Bool → Bool → Bool → List ℕ → Made
answer lies fits writable b =
    pick lies
    (pick fits
    (pick writable (made b)
    (refused 33))
    (refused 32))
    (refused 31)

-- `writable` is what 33 asks, and `payload` what is made where nothing is refused
record Tested (c : SpliceCommand) (places : List InsertComponent) (lent : List ℕ) : Type 0 where
  pub writable : Bool
  pub payload : List ℕ
  pub bytes : AllBytes payload
  pub is : command_made c places lent ≡ answer (lies_in lent (private_view c)) (fit (command_numbers c places)) writable payload

pub made_bytes : (cs : List Content) → AllBytes (bytes_of (print cs))
made_bytes cs = all_bytes_n (length (print cs) / 8) (print cs) (print_bits cs)

blank_lies : (lent : List ℕ) → lies_in lent no_view ≡ true
blank_lies lent = le-leb 0 (length lent) (omega arith)

-- a time and an insert have no view
time_seen : (t : SpliceTime) → seen [] (walk splice_time t 0).fields ≡ true
time_seen t = ap (seen []) (time_fields_lem t 0) ∙ go t
  where
    go : (t : SpliceTime) → seen [] (time_fields t) ≡ true
    go SpliceTime.Immediate = refl
    go SpliceTime.Unspecified = refl
    go (SpliceTime.At n) = refl

insert_seen : (event kept : ℕ) (d : SpliceDetail) (cs : List InsertComponent) → length cs ≡ count (insert_of d).splice_mode
    → seen [] (walk insert (record { value = record { splice_event_id = event; reserved = kept; splice_detail = d }; components = cs }) 0).fields ≡ true
insert_seen event kept SpliceDetail.Cancel cs e = ap (seen []) (insert_fields_lem event kept SpliceDetail.Cancel cs e)
insert_seen event kept (SpliceDetail.Insert i) cs e =
    ap (seen []) (insert_fields_lem event kept (SpliceDetail.Insert i) cs e)
    ∙ plain_seen [] (insert_fields (record { value = record { splice_event_id = event; reserved = kept; splice_detail = SpliceDetail.Insert i }; components = cs })) (plain_active i cs)

-- the times, then the table
both : (times fits writable : Bool) (b : List ℕ) → pick times (pick fits (pick writable (made b) (refused 33)) (refused 32)) (refused 32) ≡ answer true (times && fits) writable b
both true fits writable b = refl
both false fits writable b = refl

tested : (c : SpliceCommand) (places : List InsertComponent) (lent : List ℕ) → Held c places → Tested c places lent
unfolding command_made insert_made
tested SpliceCommand.SpliceNull places lent h = record { writable = true; payload = []; bytes = tt; is = rw (blank_lies lent) }
tested (SpliceCommand.SpliceInsert i) places lent h =
    let x = counted i places in
    let fs = (walk insert x 0).fields in
    let b = bytes_of (print (contents [] fs)) in
    record {
      writable = writable_insert x;
      payload = b;
      bytes = made_bytes (contents [] fs);
      is = rw (blank_lies lent) (
          ap (λ (s : Bool). pick (times_fit x.components) (answer s (within fs) (writable_insert x) b) (refused 32))
          (insert_seen i.splice_event_id i.reserved i.splice_detail x.components h)
          ∙ both (times_fit x.components) (within fs) (writable_insert x) b
          ∙ ap (λ (w : Bool). answer true w (writable_insert x) b) (insert_fits i places h));
    }
tested (SpliceCommand.TimeSignal t) places lent h =
    let fs = (walk splice_time t 0).fields in
    record {
      writable = not_immediate t;
      payload = bytes_of (print (contents [] fs));
      bytes = made_bytes (contents [] fs);
      is = rw (blank_lies lent) (ap₂ (λ (s w : Bool). answer s w (not_immediate t) (bytes_of (print (contents [] fs)))) (time_seen t) (time_fits t));
    }
tested SpliceCommand.BandwidthReservation places lent h = record { writable = true; payload = []; bytes = tt; is = rw (blank_lies lent) }
tested (SpliceCommand.PrivateCommand p) places lent h =
    let fs = (walk private p 0).fields in
    let s : seen lent fs ≡ lies_in lent p.private_bytes = ap (seen lent) (private_fields p lent) ∙ and_one (lies_in lent p.private_bytes) in
    record {
      writable = true;
      payload = bytes_of (print (contents lent fs));
      bytes = made_bytes (contents lent fs);
      is = ap₂ (λ (s w : Bool). answer s w true (bytes_of (print (contents lent fs)))) s (private_fits p);
    }

-- what 33 asks of a command
abbrev pub writable_of : SpliceCommand → List InsertComponent → Bool
writable_of SpliceCommand.SpliceNull places = true
writable_of (SpliceCommand.SpliceInsert i) places = writable_insert (counted i places)
writable_of (SpliceCommand.TimeSignal t) places = not_immediate t
writable_of SpliceCommand.BandwidthReservation places = true
writable_of (SpliceCommand.PrivateCommand p) places = true

writable_is : (c : SpliceCommand) (places : List InsertComponent) (lent : List ℕ) (h : Held c places) → (tested c places lent h).writable ≡ writable_of c places
unfolding tested
writable_is SpliceCommand.SpliceNull places lent h = refl
writable_is (SpliceCommand.SpliceInsert i) places lent h = refl
writable_is (SpliceCommand.TimeSignal t) places lent h = refl
writable_is SpliceCommand.BandwidthReservation places lent h = refl
writable_is (SpliceCommand.PrivateCommand p) places lent h = refl

-- where none of 31, 32, 33 applies, bytes are made
pub writable_made : (c : SpliceCommand) (places : List InsertComponent) (lent : List ℕ) → Held c places → lies_in lent (private_view c) ≡ true → fit (command_numbers c places) ≡ true → writable_of c places ≡ true
    → (p : List ℕ) × (command_made c places lent ≡ made p)
writable_made c places lent h l f g =
    let t = tested c places lent h in
    let e : t.writable ≡ true = writable_is c places lent h ∙ g in
    (t.payload, t.is ∙ passes (lies_in lent (private_view c)) (fit (command_numbers c places)) t.writable t.payload l f e)
  where
    passes : (a b c : Bool) (p : List ℕ) → a ≡ true → b ≡ true → c ≡ true → answer a b c p ≡ made p
    passes a b c p e f g = rw (e, f, g)

-- what the tests say of what is made
answer_made : (lies fits writable : Bool) (b p : List ℕ) → answer lies fits writable b ≡ made p → (lies ≡ true) × (fits ≡ true) × (b ≡ p)
answer_made true true true b p e = (refl, refl, cc)
answer_made true true false b p e = zero_one cc
answer_made true false writable b p e = zero_one cc
answer_made false fits writable b p e = zero_one cc

answer_else : (writable : Bool) (b : List ℕ) → (answer true true writable b ≡ refused 33) ⊎ ((p : List ℕ) × (answer true true writable b ≡ made p))
answer_else true b = inr (b, refl)
answer_else false b = inl refl

module _ (c : SpliceCommand) (places : List InsertComponent) (lent : List ℕ) (h : Held c places) where
  pub is_outside : lies_in lent (private_view c) ≡ false → command_made c places lent ≡ refused 31
  is_outside l = let t = tested c places lent h in t.is ∙ ap (λ (s : Bool). answer s (fit (command_numbers c places)) t.writable t.payload) l

  pub is_over : lies_in lent (private_view c) ≡ true → fit (command_numbers c places) ≡ false → command_made c places lent ≡ refused 32
  is_over l f = let t = tested c places lent h in t.is ∙ ap₂ (λ (s w : Bool). answer s w t.writable t.payload) l f

  pub made_or_not : lies_in lent (private_view c) ≡ true → fit (command_numbers c places) ≡ true → (command_made c places lent ≡ refused 33) ⊎ ((p : List ℕ) × (command_made c places lent ≡ made p))
  made_or_not l f =
      let t = tested c places lent h in
      let e : command_made c places lent ≡ answer true true t.writable t.payload = t.is ∙ ap₂ (λ (s w : Bool). answer s w t.writable t.payload) l f in
      rw e (answer_else t.writable t.payload)

  module _ (p : List ℕ) (e : command_made c places lent ≡ made p) where
    passed : (lies_in lent (private_view c) ≡ true) × (fit (command_numbers c places) ≡ true) × ((tested c places lent h).payload ≡ p)
    passed = let t = tested c places lent h in answer_made (lies_in lent (private_view c)) (fit (command_numbers c places)) t.writable t.payload p (sym t.is ∙ e)

    pub lies_if_made : lies_in lent (private_view c) ≡ true
    lies_if_made = passed.0

    pub fits_if_made : fit (command_numbers c places) ≡ true
    fits_if_made = passed.1

    pub bytes_if_made : AllBytes p
    bytes_if_made = rw (← passed.2) (tested c places lent h).bytes

-- ---- what is made reads as the command
own_values : (c : SpliceCommand) → without_place (own_of c) ≡ without_place c
own_values SpliceCommand.SpliceNull = refl
own_values (SpliceCommand.SpliceInsert i) = refl
own_values (SpliceCommand.TimeSignal t) = refl
own_values SpliceCommand.BandwidthReservation = refl
own_values (SpliceCommand.PrivateCommand p) = refl

module _ (places : List InsertComponent) (lent p : List ℕ) where
  own_components : (c : SpliceCommand) → length places ≡ 255 → count_in c ≤ 255 → command_made c places lent ≡ made p → take (count_in (own_of c)) (components_of p) ≡ take (count_in c) places
  own_components SpliceCommand.SpliceNull n k e = refl
  own_components (SpliceCommand.SpliceInsert i) n k e =
      ap (take (count_in (SpliceCommand.SpliceInsert i))) (components_read i places lent p n k e)
      ∙ array_take (counted i places).components (count_in (SpliceCommand.SpliceInsert i)) (held (SpliceCommand.SpliceInsert i) places n k)
  own_components (SpliceCommand.TimeSignal t) n k e = refl
  own_components SpliceCommand.BandwidthReservation n k e = refl
  own_components (SpliceCommand.PrivateCommand own) n k e = refl

  no_view_lem : viewed p no_view ≡ viewed lent no_view
  unfolding viewed
  no_view_lem = rw (blank_lies p, blank_lies lent)

  -- the bytes of a view that was copied
  private_view_lem : (own : Private) → AllBytes lent → AllBytes p → command_made (SpliceCommand.PrivateCommand own) places lent ≡ made p
      → viewed p (record { at = 4; len = own.private_bytes.len }) ≡ viewed lent own.private_bytes
  unfolding viewed private number remaining part
  private_view_lem own a b e =
      let c = SpliceCommand.PrivateCommand own in
      let r = command_write_read c places lent p tt e in
      let k = (command_back 0xff p b (own_of c) r.1 r.0).1 in
      let same = (private_command_write_read own places lent p a e).1 in
      let f : take own.private_bytes.len (drop 4 p) ≡ take own.private_bytes.len (drop own.private_bytes.at lent) = cc in
      rw (lies_if_made (own_of c) (components_of p) p tt p k, lies_if_made c places lent tt p e) f

  own_view : (c : SpliceCommand) → AllBytes lent → AllBytes p → command_made c places lent ≡ made p → viewed p (private_view (own_of c)) ≡ viewed lent (private_view c)
  own_view SpliceCommand.SpliceNull a b e = no_view_lem
  own_view (SpliceCommand.SpliceInsert i) a b e = no_view_lem
  own_view (SpliceCommand.TimeSignal t) a b e = no_view_lem
  own_view SpliceCommand.BandwidthReservation a b e = no_view_lem
  own_view (SpliceCommand.PrivateCommand own) a b e = private_view_lem own a b e

pub payload_made_lem : (c : SpliceCommand) (places : List InsertComponent) (lent p : List ℕ) → length places ≡ 255 → count_in c ≤ 255 → AllBytes lent → command_made c places lent ≡ made p
    → CommandPayload c places lent p
payload_made_lem c places lent p n k a e =
    let h = held c places n k in
    let r = command_write_read c places lent p h e in
    let b = bytes_if_made c places lent h p e in
    record {
      bytes = b;
      form = r.1;
      again = own_of c;
      reading = r.0;
      values = own_values c;
      components = own_components places lent p c n k e;
      view = own_view places lent p c a b e;
    }

-- ---- what reads as the command is made of it

-- a command is its view, and what it has besides
with_own_view : (c : SpliceCommand) → c ≡ with_view (λ v. private_view c) (without_place c)
with_own_view SpliceCommand.SpliceNull = refl
with_own_view (SpliceCommand.SpliceInsert i) = refl
with_own_view (SpliceCommand.TimeSignal t) = refl
with_own_view SpliceCommand.BandwidthReservation = refl
with_own_view (SpliceCommand.PrivateCommand p) = refl

-- with another view, that has the same bytes
module _ (v : View) (there places : List InsertComponent) (s lent b : List ℕ) where
  private_again : (p : Private) → lies_in lent p.private_bytes ≡ true → make private true s (record { identifier = p.identifier; private_bytes = v }) ≡ made b
      → viewed s v ≡ viewed lent p.private_bytes → make private true lent p ≡ made b
  unfolding private number remaining part viewed
  private_again p l e f =
      let q : Private = record { identifier = p.identifier; private_bytes = v } in
      let w = wrote true s (walk private q 0).fields b e in
      let i : ltb p.identifier (2 ^ 32) ≡ true = (and_true (ltb p.identifier (2 ^ 32)) _ w.widths).0 in
      let g : viewed lent p.private_bytes ≡ take p.private_bytes.len (drop p.private_bytes.at lent) = rw l in
      rw (l, i, ← g, ← f) (ap made (sym (private_of s q b e)))

  again : (c : SpliceCommand) → lies_in lent (private_view c) ≡ true → command_made (with_view (λ u. v) (without_place c)) there s ≡ made b
      → take (count_in (with_view (λ u. v) (without_place c))) there ≡ take (count_in c) places → viewed s (private_view (with_view (λ u. v) (without_place c))) ≡ viewed lent (private_view c)
      → command_made c places lent ≡ made b
  unfolding command_made
  again SpliceCommand.SpliceNull l e f g = e
  again (SpliceCommand.SpliceInsert i) l e f g = ap (λ (cs : List InsertComponent). insert_made (record { value = i; components = cs })) (sym f) ∙ e
  again (SpliceCommand.TimeSignal t) l e f g = e
  again SpliceCommand.BandwidthReservation l e f g = e
  again (SpliceCommand.PrivateCommand p) l e f g = private_again p l e g

pub made_if_read : (c : SpliceCommand) (places : List InsertComponent) (lent p : List ℕ) → lies_in lent (private_view c) ≡ true → CommandPayload c places lent p → command_made c places lent ≡ made p
made_if_read c places lent p l q =
    let v = private_view q.again in
    let is : q.again ≡ with_view (λ u. v) (without_place c) = with_own_view q.again ∙ ap (with_view (λ u. v)) q.values in
    again v (components_of p) places p lent p c l
    (ap (λ (d : SpliceCommand). command_made d (components_of p) p) (sym is) ∙ (command_back (type_of c) p q.bytes q.again q.form q.reading).1)
    (ap (λ (d : SpliceCommand). take (count_in d) (components_of p)) (sym is) ∙ q.components)
    (ap (λ (d : SpliceCommand). viewed p (private_view d)) (sym is) ∙ q.view)

-- ---- the relation
module _ (c : SpliceCommand) (places : List InsertComponent) (lent : List ℕ) (n : length places ≡ 255) (k : count_in c ≤ 255) (a : AllBytes lent) where
  pub command_makes : CommandMakes c places lent (command_made c places lent)
  command_makes = go (lies_in lent (private_view c)) refl (fit (command_numbers c places)) refl
    where
      h : Held c places
      h = held c places n k

      fitting : lies_in lent (private_view c) ≡ true → fit (command_numbers c places) ≡ true → (command_made c places lent ≡ refused 33) ⊎ ((p : List ℕ) × (command_made c places lent ≡ made p))
          → CommandMakes c places lent (command_made c places lent)
      fitting l f (inl e) = rw e (CommandMakes.nobodys l f λ p q. zero_one (let z : refused 33 ≡ made p = sym e ∙ made_if_read c places lent p l q in cc))
      fitting l f (inr r) = rw r.1 (CommandMakes.its l r.0 (payload_made_lem c places lent r.0 n k a r.1))

      go : (lies : Bool) → lies_in lent (private_view c) ≡ lies → (fits : Bool) → fit (command_numbers c places) ≡ fits → CommandMakes c places lent (command_made c places lent)
      go false l fits f = rw (is_outside c places lent h l) (CommandMakes.outside l)
      go true l false f = rw (is_over c places lent h l f) (CommandMakes.over l f)
      go true l true f = fitting l f (made_or_not c places lent h l f)

  -- no other answer is in the relation
  only_made : (m : Made) → CommandMakes c places lent m → m ≡ command_made c places lent
  only_made _ (CommandMakes.outside l) = sym (is_outside c places lent (held c places n k) l)
  only_made _ (CommandMakes.over l f) = sym (is_over c places lent (held c places n k) l f)
  only_made _ (CommandMakes.nobodys l f none) = go (made_or_not c places lent (held c places n k) l f)
    where
      go : (command_made c places lent ≡ refused 33) ⊎ ((p : List ℕ) × (command_made c places lent ≡ made p)) → refused 33 ≡ command_made c places lent
      go (inl e) = sym e
      go (inr r) = absurd (none r.0 (payload_made_lem c places lent r.0 n k a r.1))
  only_made _ (CommandMakes.its l p q) = sym (made_if_read c places lent p l q)

  pub one_command_made : (m o : Made) → CommandMakes c places lent m → CommandMakes c places lent o → m ≡ o
  one_command_made m o q r = only_made m q ∙ sym (only_made o r)
