-- A command is refused with 32 where a word of its flat form is over its width, and only there.
use Prim.Native.Nat.{ℕ, ◌+◌, ◌^◌, ◌<◌}
use mathlib.Core.Bool.{Bool, true, false, not}
use mathlib.Core.List.{List, [], ◌∷◌, ◌++◌, map}
use mathlib.Core.Logic.{◌⊎◌, inl, inr}
use mathlib.Core.Path.{◌≡◌, refl, ap, sym, ◌∙◌}
use native.Mathlib.Omega.{arith}
use lib.Dec.{eqb, ltb}
use lib.ListN.{length, drop}
use borrow.Author.Tests.{ltb-true, lt-ltb, leb-true}
use Rattle.command.specs.Command.{array, count_in, Tags}
use Rattle.command.specs.Writable.{writable_insert}
use Rattle.command.specs.Insert as insert
use Rattle.command.specs.Insert.{WithComponents, count, program_time, immediate, all_immediate, insert_of, by_program, out_of_network}
use Rattle.splice_time.specs.Break.{lasting, break_ticks}
use Rattle.command.specs.declared.SpliceCommand.{SpliceCommand}
use Rattle.command.specs.declared.components.InsertComponent.{InsertComponent}
use Rattle.command.specs.declared.insert.InsertDetail.{InsertDetail}
use Rattle.command.specs.declared.insert.SpliceInsert.{SpliceInsert}
use Rattle.command.specs.declared.insert.SpliceDetail.{SpliceDetail}
use Rattle.command.specs.declared.insert.SpliceMode.{SpliceMode}
use Rattle.command_measure.proofs.Making.{measured_time, measured_parts, private_fields, command_time, plain_seen, plain_active, within_append, within_unless, within_break}
use Rattle.command_measure.proofs.Ties.{insert_fields_lem}
use Rattle.command_measure.specs.Fields.{unless_fields, list_fields, mode_fields, break_fields, tail_fields, end_fields, immediate_in, insert_fields}
use Rattle.command_measure.specs.Made.{times_fit, insert_made, command_made, measured_of}
use Rattle.command_measure.specs.Survey.{measured, time_bytes}
use Rattle.c_section.specs.Flat.{flat_time}
use Rattle.c_section.specs.FlatCommand.{flat_mode, flat_break, active_insert, insert_head, flat_insertion, no_command, flat_command, flat_component}
use Rattle.splice_time.specs.Time.{ticks}
use Rattle.splice_time.specs.declared.SpliceTime.{SpliceTime}
use Rattle.names.specs.Flags.{network_flag, return_flag}
use Rattle.names.specs.declared.flags.NetworkIndicator.{NetworkIndicator}
use Rattle.names.specs.declared.flags.ReturnMode.{ReturnMode}
use Rattle.table.proofs.Lists.{and_true}
use Rattle.table.specs.Bits.{pick}
use Rattle.table.specs.Table.{flag_number}
use Rattle.table.specs.Writing as writing
use Rattle.table.specs.Writing.{Field, walk, seen, Made, made, refused, make_of}
use Rattle.c_command_writer.specs.CommandWords.{command_words, command_widths, component_words, component_widths, places_words, insert_components_in, places_given, CommandIs, command_fits}
use Rattle.c_command_writer.specs.Words.{word, within, same, each_place}
use Rattle.command.proofs.Arrays.{array_take}
use Rattle.c_command_writer.proofs.Given.{same_at, same_append, within_same, SmallDetail, Small, seen_by}
use Rattle.c_command_writer.proofs.Typed.{TypedMode, TypedDetail, Typed}
use Rattle.std.proofs.Common.{Some, None, Option}
use Rattle.splice_time.specs.declared.break_duration.SpliceDuration.{SpliceDuration}

-- ---- the numbers of fields that are within their widths
list_tags : (b : Bool) (cs : List InsertComponent) → writing.within (list_fields b cs) ≡ true → Tags cs
list_tags b [] w = tt
list_tags b (c ∷ cs) w =
    let a = and_true (ltb c.component_tag (2 ^ 8)) _ w in
    let r = and_true (writing.within (unless_fields b c.splice_time)) _ (sym (within_append (unless_fields b c.splice_time) (list_fields b cs)) ∙ a.1) in
    (ltb-true _ _ a.0, list_tags b cs r.1)

mode_fits : (b : Bool) (k : SpliceMode) (cs : List InsertComponent) → b ≡ all_immediate (record { value = k; components = cs }) → length cs ≡ count k → writing.within (mode_fields b k cs) ≡ true
    → TypedMode k × Tags cs × (ltb (ticks (program_time k)) (2 ^ 33) ≡ true)
mode_fits b (SpliceMode.Program t) [] f e w = (tt, tt, sym (within_unless t) ∙ ap (λ (x : Bool). writing.within (unless_fields x t)) (sym f) ∙ w)
mode_fits b (SpliceMode.Program t) (c ∷ cs) f e w = absurd (omega arith)
mode_fits b (SpliceMode.Components n) cs f e w =
    let a = and_true (ltb n (2 ^ 8)) _ w in
    (ltb-true _ _ a.0, list_tags b cs a.1, refl)

active_fits_lem : (i : InsertDetail) (cs : List InsertComponent) → length cs ≡ count i.splice_mode → writing.within (mode_fields (immediate_in i cs) i.splice_mode cs ++ end_fields i) ≡ true
    → TypedDetail (SpliceDetail.Insert i) × SmallDetail (SpliceDetail.Insert i) × Tags cs
active_fits_lem i cs e w =
    let m = mode_fields (immediate_in i cs) i.splice_mode cs in
    let d = break_fields i.duration in
    let t = tail_fields i.unique_program_id i.avail_num i.avails_expected in
    let a = and_true (writing.within m) _ (sym (within_append m (end_fields i)) ∙ w) in
    let r = and_true (writing.within d) _ (sym (within_append d t) ∙ a.1) in
    let p = and_true (ltb i.unique_program_id (2 ^ 16)) _ r.1 in
    let q = and_true (ltb i.avail_num (2 ^ 8)) _ p.1 in
    let s = and_true (ltb i.avails_expected (2 ^ 8)) _ q.1 in
    let k = mode_fits (immediate_in i cs) i.splice_mode cs refl e a.0 in
    ((ltb-true _ _ p.0, ltb-true _ _ q.0, ltb-true _ _ s.0, k.0), (k.2, sym (within_break i.duration) ∙ r.0), k.1)

abbrev insertion : ℕ → ℕ → SpliceDetail → SpliceInsert
insertion event kept d = record { splice_event_id = event; reserved = kept; splice_detail = d }

insert_fits : (event kept : ℕ) (d : SpliceDetail) (cs : List InsertComponent) → length cs ≡ count (insert_of d).splice_mode
    → writing.within (insert_fields (record { value = insertion event kept d; components = cs })) ≡ true
    → Typed (SpliceCommand.SpliceInsert (insertion event kept d)) × Small (SpliceCommand.SpliceInsert (insertion event kept d)) × Tags cs
insert_fits event kept SpliceDetail.Cancel [] e w =
    let a = and_true (ltb event (2 ^ 32)) _ w in
    let c = and_true (ltb kept (2 ^ 7)) _ a.1 in
    let k = ltb-true kept (2 ^ 7) c.0 in
    ((ltb-true _ _ a.0, omega (arith, k), tt), (c.0, tt), tt)
insert_fits event kept SpliceDetail.Cancel (c ∷ cs) e w = absurd (omega arith)
insert_fits event kept (SpliceDetail.Insert i) cs e w =
    let a = and_true (ltb event (2 ^ 32)) _ w in
    let c = and_true (ltb kept (2 ^ 7)) _ a.1 in
    let k = ltb-true kept (2 ^ 7) c.0 in
    let f₁ = and_true (ltb (flag_number (out_of_network i.network_indicator)) 2) _ c.1 in
    let f₂ = and_true (ltb (flag_number (by_program i.splice_mode)) 2) _ f₁.1 in
    let f₃ = and_true (ltb (flag_number (lasting i.duration)) 2) _ f₂.1 in
    let f₄ = and_true (ltb (flag_number (immediate_in i cs)) 2) _ f₃.1 in
    let t = active_fits_lem i cs e f₄.1 in
    ((ltb-true _ _ a.0, omega (arith, k), t.0), (c.0, t.1), t.2)

insert_seen : (event kept : ℕ) (d : SpliceDetail) (cs : List InsertComponent) → seen [] (insert_fields (record { value = insertion event kept d; components = cs })) ≡ true
insert_seen event kept SpliceDetail.Cancel cs = refl
insert_seen event kept (SpliceDetail.Insert i) cs = plain_seen [] (insert_fields (record { value = insertion event kept (SpliceDetail.Insert i); components = cs })) (plain_active i cs)

-- ---- a command is refused with 32, or its numbers fit
pub record Fit (c : SpliceCommand) (cs : List InsertComponent) : Type 0 where
  pub typed : Typed c
  pub small : Small c
  pub tags : Tags cs
  pub times : times_fit cs ≡ true

measured_over : (fits writable : Bool) (size : ℕ) (m : Made) → fits ≡ false → measured fits writable size ≡ measured_of m → m ≡ refused 32
measured_over fits writable size m e f = go m (measured_parts (measured fits writable size) m f).0
  where
    go : (m : Made) → (measured fits writable size).refusal ≡ writing.refusal_in m → m ≡ refused 32
    go (made b) g = let z : (measured fits writable size).refusal ≡ 32 = rw e in absurd (omega arith)
    go (refused k) g = let z : (measured fits writable size).refusal ≡ 32 = rw e in ap refused (sym g ∙ z)

insert_or : (event kept : ℕ) (d : SpliceDetail) (cs : List InsertComponent) → length cs ≡ count (insert_of d).splice_mode
    → (insert_made (record { value = insertion event kept d; components = cs }) ≡ refused 32) ⊎ Fit (SpliceCommand.SpliceInsert (insertion event kept d)) cs
unfolding insert_made
insert_or event kept d cs e = go (times_fit cs) refl (writing.within fs) refl
  where
    x : WithComponents SpliceInsert
    x = record { value = insertion event kept d; components = cs }

    fs : List Field
    fs = (walk insert.insert x 0).fields

    is : fs ≡ insert_fields x
    is = insert_fields_lem event kept d cs e

    go : (t : Bool) → times_fit cs ≡ t → (w : Bool) → writing.within fs ≡ w
        → (pick (times_fit cs) (make_of (writable_insert x) [] fs) (refused 32) ≡ refused 32) ⊎ Fit (SpliceCommand.SpliceInsert (insertion event kept d)) cs
    go false f w g = inl (rw f)
    go true f false g = inl (rw (f, ap (seen []) is ∙ insert_seen event kept d cs, g))
    go true f true g =
        let r = insert_fits event kept d cs e (sym (ap writing.within is) ∙ g) in
        inr (record { typed = r.0; small = r.1; tags = r.2; times = f })

no_tags : (cs : List InsertComponent) → length cs ≡ 0 → Tags cs × (times_fit cs ≡ true)
no_tags [] e = (tt, refl)
no_tags (c ∷ cs) e = absurd (omega arith)

pub over_or_fits : (lent : List ℕ) (c : SpliceCommand) (cs : List InsertComponent) → length cs ≡ count_in c → seen_by c lent ≡ true → (command_made c (array cs) lent ≡ refused 32) ⊎ Fit c cs
unfolding command_made
over_or_fits lent SpliceCommand.SpliceNull cs n e = let t = no_tags cs n in inr (record { typed = tt; small = tt; tags = t.0; times = t.1 })
over_or_fits lent (SpliceCommand.SpliceInsert x) cs n e =
    rw (array_take cs (count_in (SpliceCommand.SpliceInsert x)) n) (insert_or x.splice_event_id x.reserved x.splice_detail cs n)
over_or_fits lent (SpliceCommand.TimeSignal t) cs n e = go (ltb (ticks t) (2 ^ 33)) refl
  where
    c : SpliceCommand
    c = SpliceCommand.TimeSignal t

    go : (b : Bool) → ltb (ticks t) (2 ^ 33) ≡ b → (command_made c (array cs) lent ≡ refused 32) ⊎ Fit c cs
    go true f = let z = no_tags cs n in inr (record { typed = tt; small = f; tags = z.0; times = z.1 })
    go false f = inl (measured_over (ltb (ticks t) (2 ^ 33)) (not (immediate t)) (time_bytes false t) (command_made c (array cs) lent) f (measured_time t ∙ command_time c (array cs) lent t refl))
over_or_fits lent SpliceCommand.BandwidthReservation cs n e = let t = no_tags cs n in inr (record { typed = tt; small = tt; tags = t.0; times = t.1 })
over_or_fits lent (SpliceCommand.PrivateCommand p) cs n e = go (ltb p.identifier (2 ^ 32)) refl
  where
    c : SpliceCommand
    c = SpliceCommand.PrivateCommand p

    go : (b : Bool) → ltb p.identifier (2 ^ 32) ≡ b → (command_made c (array cs) lent ≡ refused 32) ⊎ Fit c cs
    go true f = let z = no_tags cs n in inr (record { typed = ltb-true _ _ f; small = tt; tags = z.0; times = z.1 })
    go false f = inl (rw (private_fields p lent, e, f))

-- ---- numbers that fit are within the widths of their words
time_within : (t : SpliceTime) → ltb (ticks t) (2 ^ 33) ≡ true → (ltb (flat_time t).kind 4 ≡ true) × (ltb (flat_time t).ticks (2 ^ 33) ≡ true)
time_within SpliceTime.Immediate h = (refl, refl)
time_within SpliceTime.Unspecified h = (refl, refl)
time_within (SpliceTime.At t) h = (refl, h)

mode_within : (m : SpliceMode) → TypedMode m → ltb (ticks (program_time m)) (2 ^ 33) ≡ true
    → (ltb (flat_mode m).program_splice_flag 2 ≡ true) × (ltb (flat_mode m).splice_time.kind 4 ≡ true) × (ltb (flat_mode m).splice_time.ticks (2 ^ 33) ≡ true) × (ltb (flat_mode m).component_count 256 ≡ true)
unfolding flat_mode
mode_within (SpliceMode.Program t) h e = let w = time_within t e in (refl, w.0, w.1, refl)
mode_within (SpliceMode.Components n) h e = (refl, refl, refl, lt-ltb n 256 h)

return_within : (m : ReturnMode) → ltb (return_flag m) 2 ≡ true
return_within ReturnMode.Manual = refl
return_within ReturnMode.Automatic = refl

network_within : (n : NetworkIndicator) → ltb (network_flag n) 2 ≡ true
network_within NetworkIndicator.In = refl
network_within NetworkIndicator.Out = refl

break_within : (b : Option SpliceDuration) → ltb (break_ticks b) (2 ^ 33) ≡ true
    → (ltb (flat_break b).duration_flag 2 ≡ true) × (ltb (flat_break b).auto_return 2 ≡ true) × (ltb (flat_break b).duration (2 ^ 33) ≡ true)
unfolding flat_break
break_within None e = (refl, refl, refl)
break_within (Some d) e = (refl, return_within d.return_mode, e)

cancel_within : (event kept : ℕ) → event < 2 ^ 32 → ltb kept (2 ^ 7) ≡ true → within command_widths (command_words (flat_command (SpliceCommand.SpliceInsert (insertion event kept SpliceDetail.Cancel)))) ≡ true
unfolding within command_widths command_words flat_command flat_insertion active_insert insert_head flat_mode flat_break
cancel_within event kept h e = rw (lt-ltb event (2 ^ 32) h, e)

insert_within : (event kept : ℕ) (d : SpliceDetail) → Typed (SpliceCommand.SpliceInsert (insertion event kept d)) → Small (SpliceCommand.SpliceInsert (insertion event kept d))
    → within command_widths (command_words (flat_command (SpliceCommand.SpliceInsert (insertion event kept d)))) ≡ true
unfolding within command_widths command_words flat_command flat_insertion active_insert insert_head flat_break
insert_within event kept SpliceDetail.Cancel t s = cancel_within event kept t.0 s.0
insert_within event kept (SpliceDetail.Insert i) t s =
    let m = mode_within i.splice_mode t.2.3 s.1.0 in
    let b = break_within i.duration s.1.1 in
    rw (
      lt-ltb event (2 ^ 32) t.0,
      s.0,
      network_within i.network_indicator,
      m.0,
      m.1,
      m.2,
      m.3,
      b.0,
      b.1,
      b.2,
      lt-ltb i.unique_program_id (2 ^ 16) t.2.0,
      lt-ltb i.avail_num (2 ^ 8) t.2.1,
      lt-ltb i.avails_expected (2 ^ 8) t.2.2,
    )

command_within : (lent : List ℕ) (c : SpliceCommand) → length lent < 2 ^ 64 → seen_by c lent ≡ true → Typed c → Small c → within command_widths (command_words (flat_command c)) ≡ true
unfolding within command_widths command_words flat_command no_command active_insert insert_head flat_mode flat_break
command_within lent SpliceCommand.SpliceNull l e t s = refl
command_within lent (SpliceCommand.SpliceInsert x) l e t s = insert_within x.splice_event_id x.reserved x.splice_detail t s
command_within lent (SpliceCommand.TimeSignal x) l e t s = let w = time_within x s in rw (w.0, w.1)
command_within lent SpliceCommand.BandwidthReservation l e t s = refl
command_within lent (SpliceCommand.PrivateCommand p) l e t s =
    let h = leb-true (p.private_bytes.at + p.private_bytes.len) (length lent) e in
    rw (lt-ltb p.identifier (2 ^ 32) t, lt-ltb p.private_bytes.at (2 ^ 64) (omega arith), lt-ltb p.private_bytes.len (2 ^ 64) (omega arith))

component_within : (c : InsertComponent) → c.component_tag < 256 → ltb (ticks c.splice_time) (2 ^ 33) ≡ true → within component_widths (component_words (flat_component c)) ≡ true
unfolding within component_widths component_words flat_component
component_within c h e = let w = time_within c.splice_time e in rw (lt-ltb c.component_tag 256 h, w.0, w.1)

components_within : (cs : List InsertComponent) (words : List ℕ) → Tags cs → times_fit cs ≡ true → same (places_words (map flat_component cs)) words ≡ true → each_place (within component_widths) 3 (length cs) words ≡ true
unfolding each_place component_words component_widths
components_within [] words t f e = refl
components_within (c ∷ cs) words t f e =
    let own = component_words (flat_component c) in
    let a = and_true (ltb (ticks c.splice_time) (2 ^ 33)) (times_fit cs) f in
    let s = and_true (same own words) (same (places_words (map flat_component cs)) (drop 3 words)) (sym (same_append own (places_words (map flat_component cs)) words) ∙ e) in
    rw (within_same component_widths own words refl s.0 ∙ component_within c t.0 a.0) (components_within cs (drop 3 words) t.1 a.1 s.1)

-- ---- a command's own words say how many components it has
pub own_count : (c : SpliceCommand) (words : List ℕ) → same (command_words (flat_command c)) words ≡ true → places_given words ≡ count_in c
unfolding command_words flat_command no_command flat_insertion active_insert insert_head flat_mode
own_count c words e =
    let w : (i : ℕ) → i < 21 → word words i ≡ word (command_words (flat_command c)) i = same_at (command_words (flat_command c)) words e in
    rw (w 1 (omega arith), w 3 (omega arith), w 6 (omega arith), w 9 (omega arith)) (go c)
  where
    mode : (m : SpliceMode) → pick (eqb (flat_mode m).program_splice_flag 0) (flat_mode m).component_count 0 ≡ count m
    mode (SpliceMode.Program t) = refl
    mode (SpliceMode.Components n) = refl

    detail : (event kept : ℕ) (d : SpliceDetail) → places_given (command_words (flat_command (SpliceCommand.SpliceInsert (insertion event kept d)))) ≡ count (insert_of d).splice_mode
    detail event kept SpliceDetail.Cancel = refl
    detail event kept (SpliceDetail.Insert i) = mode i.splice_mode

    go : (c : SpliceCommand) → places_given (command_words (flat_command c)) ≡ count_in c
    go SpliceCommand.SpliceNull = refl
    go (SpliceCommand.SpliceInsert x) = detail x.splice_event_id x.reserved x.splice_detail
    go (SpliceCommand.TimeSignal t) = refl
    go SpliceCommand.BandwidthReservation = refl
    go (SpliceCommand.PrivateCommand p) = refl

pub fit_within : (words components lent : List ℕ) (c : SpliceCommand) (cs : List InsertComponent) → length lent < 2 ^ 64 → CommandIs words components c cs → seen_by c lent ≡ true → Fit c cs
    → command_fits words components ≡ true
unfolding command_fits command_widths command_words
fit_within words components lent c cs l h e f =
    rw (within_same command_widths (command_words (flat_command c)) words refl h.own ∙ command_within lent c l e f.typed f.small, own_count c words h.own, ← h.counts)
    (components_within cs (insert_components_in components) f.tags f.times h.places)
