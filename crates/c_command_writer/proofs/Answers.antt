-- What the writer answers of words: it is as `CommandAnswer` says, and nothing else is.
use Prim.Native.Nat.{ℕ, ◌+◌, ◌^◌, ◌<◌, ◌≤◌}
use mathlib.Core.Bool.{Bool, true, false, not, ◌&&◌}
use mathlib.Core.List.{List}
use mathlib.Core.Logic.{⊎_elim}
use mathlib.Core.Path.{◌≡◌, refl, ap, ap₂, sym, ◌∙◌}
use native.Mathlib.Omega.{arith}
use lib.Dec.{eqb, ltb}
use lib.ListN.{length, take}
use borrow.Author.Tests.{leb-true, le-ltb}
use Rattle.command.specs.Command.{array, count_in, Tags}
use Rattle.splice_time.specs.Break.{break_ticks}
use Rattle.command.specs.Insert.{count, immediate, program_time, insert_of}
use Rattle.command.specs.declared.SpliceCommand.{SpliceCommand}
use Rattle.command.specs.declared.components.InsertComponent.{InsertComponent}
use Rattle.command.specs.declared.insert.SpliceInsert.{SpliceInsert}
use Rattle.command.specs.declared.insert.SpliceDetail.{SpliceDetail}
use Rattle.command.specs.declared.insert.SpliceMode.{SpliceMode}
use Rattle.command_measure.proofs.Making.{measured_time, measured_parts, private_fields, private_inside, insert_cancelled, insert_active, command_insert, command_time, command_private}
use Rattle.command_measure.proofs.Surveys.{survey_fits}
use Rattle.command_measure.specs.Fields.{immediate_in}
use Rattle.command_measure.specs.Made.{times_fit, command_made, measured_of}
use Rattle.command_measure.specs.Survey.{surveyed, mode_bytes, break_bytes, measured, active_measured, time_bytes}
use Rattle.c_section.specs.FlatCommand.{flat_command}
use Rattle.splice_time.specs.Time.{ticks}
use Rattle.splice_time.specs.declared.SpliceTime.{SpliceTime}
use Rattle.bit_stores.specs.Written.{bytes_in}
use Rattle.table.proofs.Lists.{zero_one, and_true}
use Rattle.table.specs.Writing.{Made, made, refused}
use Rattle.c_command_writer.specs.CommandGiven.{command_given, component_from, components_from, insert_components_within, own_component, own_insert_components, words_refusal, command_refusal, command_words_made}
use Rattle.c_command_writer.specs.CommandWords.{command_words, command_widths, insert_components_in, component_widths, places_given, CommandIs, command_seen, command_fits, CommandAnswer, outside, over, nobodys, its}
use Rattle.c_command_writer.specs.Words.{within, same, places_of, each_place, refusal_of, seen_first, lowest, no_less}
use Rattle.command.proofs.Arrays.{array_take, array_there}
use Rattle.c_command_writer.proofs.Fits.{over_or_fits, fit_within}
use Rattle.c_command_writer.proofs.Given.{own_given, given_typed, places_tags, Small, given_small, places_fit, given_count, own_places, places_own, seen_by, given_seen, own_seen}
use Rattle.c_command_writer.proofs.Words.{places_length}
use Rattle.c_command_writer.proofs.Typed.{TypedMode, TypedDetail, Typed}

-- ---- refused with n at the least, if at all
abbrev pub Late : ℕ → Made → Type 0
Late n (made b) = Unit {0}
Late n (refused k) = n ≤ k

pub late_lowest : (n : ℕ) (m : Made) → Late n m → lowest n m ≡ n
late_lowest n (made b) h = refl
late_lowest n (refused k) h = rw (le-ltb k n h)

pub late_31 : (m : Made) → Late 32 m → Late 31 m
late_31 (made b) h = tt
late_31 (refused k) h = omega arith

measured_late : (fits writable : Bool) (size : ℕ) (m : Made) → 0 < size → measured fits writable size ≡ measured_of m → Late 32 m × (fits ≡ true → Late 33 m)
unfolding bytes_in
measured_late fits writable size (made b) h e = (tt, λ t. tt)
measured_late fits writable size (refused k) h e = go fits writable (measured_parts (measured fits writable size) (refused k) e)
  where
    go : (fits writable : Bool) → ((measured fits writable size).refusal ≡ k) × ((measured fits writable size).size ≡ 0) → (32 ≤ k) × (fits ≡ true → 33 ≤ k)
    go true true p = absurd (omega (arith, p.1))
    go true false p = (omega (arith, p.0), λ t. omega (arith, p.0))
    go false writable p = (omega (arith, p.0), λ t. zero_one cc)

-- ---- a command whose view, if it has one, lies in the lent bytes is not refused with 31; nor with 32, if its numbers fit
time_bytes_lem : (t : SpliceTime) → 0 < time_bytes false t
time_bytes_lem SpliceTime.Immediate = omega arith
time_bytes_lem SpliceTime.Unspecified = omega arith
time_bytes_lem (SpliceTime.At t) = omega arith

mode_count : (m : SpliceMode) → TypedMode m → count m < 256
mode_count (SpliceMode.Program t) h = omega arith
mode_count (SpliceMode.Components n) h = h

module _ (places : List InsertComponent) (lent : List ℕ) where
  abbrev Last : SpliceCommand → Type 0
  Last c = Late 32 (command_made c places lent) × (Small c → times_fit (take (count_in c) places) ≡ true → Late 33 (command_made c places lent))

  insert_late : (event kept : ℕ) (d : SpliceDetail) → event < 2 ^ 32 → TypedDetail d → count (insert_of d).splice_mode ≤ length places → Tags (take (count (insert_of d).splice_mode) places)
      → Last (SpliceCommand.SpliceInsert (record { splice_event_id = event; reserved = kept; splice_detail = d }))
  unfolding active_measured
  insert_late event kept SpliceDetail.Cancel v h there tags =
      let i : SpliceInsert = record { splice_event_id = event; reserved = kept; splice_detail = SpliceDetail.Cancel } in
      let c = SpliceCommand.SpliceInsert i in
      let m = measured_late (ltb kept 128) (eqb kept 127) 5 (command_made c places lent) (omega arith) (insert_cancelled i places refl v ∙ command_insert c places lent i refl) in
      (m.0, λ s t. m.1 s.0)
  insert_late event kept (SpliceDetail.Insert x) v h there tags =
      let i : SpliceInsert = record { splice_event_id = event; reserved = kept; splice_detail = SpliceDetail.Insert x } in
      let c = SpliceCommand.SpliceInsert i in
      let cs = take (count x.splice_mode) places in
      let size = 10 + mode_bytes x.splice_mode (surveyed (immediate_in x cs) cs).bytes + break_bytes x.duration in
      let w = (surveyed (immediate_in x cs) cs).fits && (ltb kept 128 && (ltb (ticks (program_time x.splice_mode)) (2 ^ 33) && ltb (break_ticks x.duration) (2 ^ 33))) in
      let m = measured_late w (eqb kept 127 && (surveyed (immediate_in x cs) cs).alike) size (command_made c places lent) (omega arith)
      (insert_active i x places refl there v (mode_count x.splice_mode h.3) h.0 h.1 h.2 tags ∙ command_insert c places lent i refl) in
      (m.0, λ s t. m.1 (rw (survey_fits (immediate_in x cs) cs, t, s.0, s.1.0, s.1.1)))

  command_late : (c : SpliceCommand) → Typed c → count_in c ≤ length places → Tags (take (count_in c) places) → seen_by c lent ≡ true → Last c
  unfolding command_made
  command_late SpliceCommand.SpliceNull h there tags e = (tt, λ s t. tt)
  command_late (SpliceCommand.SpliceInsert x) h there tags e = insert_late x.splice_event_id x.reserved x.splice_detail h.0 h.2 there tags
  command_late (SpliceCommand.TimeSignal t) h there tags e =
      let c = SpliceCommand.TimeSignal t in
      let m = measured_late _ (not (immediate t)) (time_bytes false t) (command_made c places lent) (time_bytes_lem t) (measured_time t ∙ command_time c places lent t refl) in
      (m.0, λ s f. m.1 s)
  command_late SpliceCommand.BandwidthReservation h there tags e = (tt, λ s t. tt)
  command_late (SpliceCommand.PrivateCommand p) h there tags e =
      let c = SpliceCommand.PrivateCommand p in
      let m = measured_late true true (4 + p.private_bytes.len) (command_made c places lent) (omega arith) (private_inside p lent h (leb-true _ _ e) ∙ command_private c places lent p refl) in
      (m.0, λ s t. m.1 refl)

  -- and with 31 if it does not
  pub unseen_made : (c : SpliceCommand) → seen_by c lent ≡ false → command_made c places lent ≡ refused 31
  unfolding command_made
  unseen_made SpliceCommand.SpliceNull e = zero_one cc
  unseen_made (SpliceCommand.SpliceInsert x) e = zero_one cc
  unseen_made (SpliceCommand.TimeSignal t) e = zero_one cc
  unseen_made SpliceCommand.BandwidthReservation e = zero_one cc
  unseen_made (SpliceCommand.PrivateCommand p) e = rw (private_fields p lent, e)

-- ---- the words' own refusal beside that of the value
pub refused_31 : (m : Made) → Late 31 m → no_less 31 m ≡ refused 31
unfolding no_less
refused_31 m h = ap refused (late_lowest 31 m h)

pub refused_32 : (fits own : Bool) (m : Made) → fits ≡ false → Late 32 m → no_less (refusal_of fits own) m ≡ refused 32
unfolding no_less
refused_32 fits own m e h = rw e (ap refused (late_lowest 32 m h))

pub refused_33 : (fits own : Bool) (m : Made) → fits ≡ true → own ≡ false → Late 33 m → no_less (refusal_of fits own) m ≡ refused 33
unfolding no_less
refused_33 fits own m e f h = rw (e, f) (ap refused (late_lowest 33 m h))

pub unrefused : (fits own : Bool) (m : Made) → fits ≡ true → own ≡ true → no_less (refusal_of fits own) m ≡ m
unfolding no_less
unrefused fits own m e f = rw (e, f)

module _ (words components lent : List ℕ) where
  abbrev pub given : SpliceCommand
  given = command_given words

  abbrev pub listed : List InsertComponent
  listed = places_of component_from 3 (count_in given) (insert_components_in components)

  abbrev pub overall : Made
  overall = command_made given (array listed) lent

  abbrev pub fits : Bool
  fits = within command_widths words && insert_components_within (count_in given) components

  abbrev pub own : Bool
  own = same (command_words (flat_command given)) words && own_insert_components (count_in given) components

  words_made : command_words_made words components lent ≡ no_less (seen_first (command_seen words lent) (refusal_of fits own)) overall
  unfolding command_words_made command_refusal words_refusal components_from
  words_made = refl

  words_seen : command_seen words lent ≡ true → command_words_made words components lent ≡ no_less (refusal_of fits own) overall
  words_seen e = words_made ∙ rw e

  pub fits_are : command_fits words components ≡ fits
  unfolding command_fits insert_components_within
  fits_are = go (within command_widths words) refl
    where
      go : (b : Bool) → within command_widths words ≡ b → b && each_place (within component_widths) 3 (places_given words) (insert_components_in components) ≡ b && each_place (within component_widths) 3 (count_in given) (insert_components_in components)
      go true e = ap (λ (n : ℕ). each_place (within component_widths) 3 n (insert_components_in components)) (sym (given_count words e))
      go false e = refl

  listed_length : length listed ≡ count_in given
  listed_length = places_length component_from 3 (count_in given) (insert_components_in components)

  value_late : seen_by given lent ≡ true → Late 32 overall × (fits ≡ true → Late 33 overall)
  unfolding insert_components_within
  value_late e =
      let t : take (count_in given) (array listed) ≡ listed = array_take listed (count_in given) listed_length in
      let l = command_late (array listed) lent given (given_typed words) (array_there listed (count_in given) listed_length) (rw t (places_tags (count_in given) (insert_components_in components))) e in
      (l.0, λ f. let a = and_true (within command_widths words) (insert_components_within (count_in given) components) f in l.1 (given_small words a.0) (rw t (places_fit (count_in given) (insert_components_in components) a.1)))

  pub given_late : command_seen words lent ≡ true → Late 32 overall × (fits ≡ true → Late 33 overall)
  given_late e = value_late (given_seen words lent e)

  any_late : Late 31 overall
  any_late = go (seen_by given lent) refl
    where
      go : (s : Bool) → seen_by given lent ≡ s → Late 31 overall
      go true e = late_31 overall (value_late e).0
      go false e = rw (unseen_made (array listed) lent given e) (omega arith)

  -- ---- by each case
  made_outside : command_seen words lent ≡ false → command_words_made words components lent ≡ refused 31
  made_outside e = words_made ∙ rw e (refused_31 overall any_late)

  made_over : command_seen words lent ≡ true → command_fits words components ≡ false → command_words_made words components lent ≡ refused 32
  made_over e f = words_seen e ∙ refused_32 fits own overall (sym fits_are ∙ f) (given_late e).0

  made_other : command_seen words lent ≡ true → command_fits words components ≡ true → own ≡ false → command_words_made words components lent ≡ refused 33
  made_other e f g = words_seen e ∙ refused_33 fits own overall (sym fits_are ∙ f) g ((given_late e).1 (sym fits_are ∙ f))

  made_own : command_seen words lent ≡ true → command_fits words components ≡ true → own ≡ true → command_words_made words components lent ≡ overall
  made_own e f g = words_seen e ∙ unrefused fits own overall (sym fits_are ∙ f) g

  -- ---- their own value
  pub given_is : own ≡ true → CommandIs words components given listed
  unfolding own_insert_components
  given_is e =
      let a = and_true (same (command_words (flat_command given)) words) (own_insert_components (count_in given) components) e in
      record { own = a.0; counts = listed_length; places = places_own (count_in given) (insert_components_in components) a.1 }

  pub is_given : (c : SpliceCommand) (cs : List InsertComponent) → CommandIs words components c cs → command_fits words components ≡ true → (given ≡ c) × (listed ≡ cs) × (own ≡ true)
  unfolding insert_components_within own_insert_components
  is_given c cs h f =
      let a = and_true (within command_widths words) (insert_components_within (count_in given) components) (sym fits_are ∙ f) in
      let g : given ≡ c = own_given c words a.0 h.own in
      let n : length cs ≡ count_in given = h.counts ∙ sym (ap count_in g) in
      let p = own_places cs (insert_components_in components) (rw n a.1) h.places in
      (g, ap (λ (k : ℕ). places_of component_from 3 k (insert_components_in components)) (sym n) ∙ p.0, rw (g, h.own) (ap (λ (k : ℕ). each_place own_component 3 k (insert_components_in components)) (sym h.counts) ∙ p.1))

  pub answered : CommandAnswer words components lent (command_words_made words components lent)
  answered = go (command_seen words lent) refl (command_fits words components) refl own refl
    where
      go : (s : Bool) → command_seen words lent ≡ s → (f : Bool) → command_fits words components ≡ f → (o : Bool) → own ≡ o → CommandAnswer words components lent (command_words_made words components lent)
      go false e f g o h = rw (made_outside e) (outside e)
      go true e false g o h = rw (made_over e g) (over e g)
      go true e true g false h = rw (made_other e g h) (nobodys e g (λ c cs i. let z = (is_given c cs i g).2 in zero_one cc))
      go true e true g true h = rw (made_own e g h) (its given listed (given_is h))

  -- ---- a value whose words they are is refused with 31 and with 32 where they are
  pub is_unseen : (c : SpliceCommand) (cs : List InsertComponent) → CommandIs words components c cs → command_seen words lent ≡ false → command_made c (array cs) lent ≡ refused 31
  is_unseen c cs h e = unseen_made (array cs) lent c (sym (own_seen c words lent h.own) ∙ e)

  module _ (short : length lent < 2 ^ 64) where
    pub is_over : (c : SpliceCommand) (cs : List InsertComponent) → CommandIs words components c cs → command_seen words lent ≡ true → command_fits words components ≡ false → command_made c (array cs) lent ≡ refused 32
    is_over c cs h e f =
        let s = sym (own_seen c words lent h.own) ∙ e in
        ⊎_elim (λ r. r) (λ r. let z = fit_within words components lent c cs short h s r in zero_one cc) (over_or_fits lent c cs h.counts s)

    is_made : (c : SpliceCommand) (cs : List InsertComponent) → CommandIs words components c cs → command_made c (array cs) lent ≡ command_words_made words components lent
    is_made c cs h = go (command_seen words lent) refl (command_fits words components) refl
      where
        go : (s : Bool) → command_seen words lent ≡ s → (f : Bool) → command_fits words components ≡ f → command_made c (array cs) lent ≡ command_words_made words components lent
        go false e f g = is_unseen c cs h e ∙ sym (made_outside e)
        go true e false g = is_over c cs h e g ∙ sym (made_over e g)
        go true e true g =
            let i = is_given c cs h g in
            ap₂ (λ (d : SpliceCommand) (l : List InsertComponent). command_made d (array l) lent) (sym i.0) (sym i.1) ∙ sym (made_own e g i.2)

    -- so nothing else is an answer
    pub answer_is : (m : Made) → CommandAnswer words components lent m → m ≡ command_words_made words components lent
    answer_is m (outside e) = sym (made_outside e)
    answer_is m (over e f) = sym (made_over e f)
    answer_is m (nobodys e f n) = go own refl
      where
        go : (o : Bool) → own ≡ o → refused 33 ≡ command_words_made words components lent
        go true o = absurd (n given listed (given_is o))
        go false o = sym (made_other e f o)
    answer_is m (its c cs h) = is_made c cs h

    pub one_answer : (m n : Made) → CommandAnswer words components lent m → CommandAnswer words components lent n → m ≡ n
    one_answer m n a b = answer_is m a ∙ sym (answer_is n b)
