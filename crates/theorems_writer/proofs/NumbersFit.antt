-- The numbers that are handed in fit exactly if the fields of the tables do: these hold the numbers, and what always fits (flags, reserved bits).
--     insert_fits    of an insert, with the times of its components
--     time_fits      of a time
--     private_fits   of a private command
--     header_fits    of a splice header
use Prim.Native.Nat.{◌^◌}
use mathlib.Core.Bool.{Bool, true, false, ◌&&◌}
use mathlib.Core.List.{List, [], ◌∷◌, ◌++◌}
use mathlib.Core.Path.{◌≡◌, refl, ap, ap₂, sym, ◌∙◌}
use lib.Dec.{ltb}
use lib.ListN.{take}
use Rattle.command.specs.Command.{private}
use Rattle.command.specs.Insert.{insert, insert_of, by_program, program_time, count, all_immediate, out_of_network}
use Rattle.splice_time.specs.Break.{break_ticks, lasting}
use Rattle.command.specs.declared.Private.{Private}
use Rattle.command.specs.declared.SpliceCommand.{SpliceCommand}
use Rattle.command.specs.declared.components.InsertComponent.{InsertComponent}
use Rattle.command.specs.declared.insert.InsertDetail.{InsertDetail}
use Rattle.command.specs.declared.insert.SpliceInsert.{SpliceInsert}
use Rattle.command.specs.declared.insert.SpliceDetail.{SpliceDetail}
use Rattle.command.specs.declared.insert.SpliceMode.{SpliceMode}
use Rattle.command_measure.proofs.Making.{flag_within, private_fields, within_append, within_break, within_unless}
use Rattle.command_measure.proofs.Ties.{time_fields_lem, insert_fields_lem}
use Rattle.command_measure.specs.Fields.{time_fields, unless_fields, list_fields, mode_fields, break_fields, tail_fields, immediate_in, active_fields, insert_fields}
use Rattle.command_measure.specs.Made.{counted, times_fit}
use Rattle.descriptor_round_trips.specs.Making.{fit}
use Rattle.header.specs.Header.{splice_header}
use Rattle.splice_time.specs.Time.{splice_time, ticks}
use Rattle.header.specs.declared.header.SpliceInfoHeader.{SpliceInfoHeader}
use Rattle.splice_time.specs.declared.SpliceTime.{SpliceTime}
use Rattle.names.specs.Command.{command_type_of}
use Rattle.section_writer.proofs.FullTrips.{Held}
use Rattle.section_writer.specs.Frame.{headed, numbers_fit}
use Rattle.table.specs.Table.{number, bit}
use Rattle.table.specs.Writing.{walk, within}
use Rattle.theorems_writer.specs.Making.{header_numbers, component_numbers, insert_numbers, command_numbers}

pub and_one : (b : Bool) → b && true ≡ b
and_one true = refl
and_one false = refl

and_none : (b : Bool) → b && false ≡ false
and_none true = refl
and_none false = refl

-- ---- a time, a private command
pub time_fits : (t : SpliceTime) → within (walk splice_time t 0).fields ≡ fit ((33, ticks t) ∷ [])
time_fits t = ap within (time_fields_lem t 0) ∙ go t
  where
    go : (t : SpliceTime) → within (time_fields t) ≡ fit ((33, ticks t) ∷ [])
    go SpliceTime.Immediate = refl
    go SpliceTime.Unspecified = refl
    go (SpliceTime.At n) = refl

pub private_fits : (p : Private) → within (walk private p 0).fields ≡ fit ((32, p.identifier) ∷ [])
private_fits p = ap within (private_fields p [])

-- ---- an insert

-- the table has no time beside an immediate first one
timed : (b : Bool) (t : SpliceTime) → ltb (ticks t) (2 ^ 33) && within (unless_fields b t) ≡ ltb (ticks t) (2 ^ 33)
timed true t = and_one (ltb (ticks t) (2 ^ 33))
timed false SpliceTime.Immediate = refl
timed false SpliceTime.Unspecified = refl
timed false (SpliceTime.At n) = twice (ltb n (2 ^ 33))
  where
    twice : (b : Bool) → b && (b && true) ≡ b
    twice true = refl
    twice false = refl

list_fits : (b : Bool) (cs : List InsertComponent) → times_fit cs && within (list_fields b cs) ≡ fit (component_numbers cs)
list_fits b [] = refl
list_fits b (c ∷ cs) =
    let t = ltb (ticks c.splice_time) (2 ^ 33) in
    let g = ltb c.component_tag (2 ^ 8) in
    ap (λ (w : Bool). (t && times_fit cs) && (g && w)) (within_append (unless_fields b c.splice_time) (list_fields b cs))
    ∙ paired t (times_fit cs) g (within (unless_fields b c.splice_time)) (within (list_fields b cs))
    ∙ ap₂ (λ (u v : Bool). g && (u && v)) (timed b c.splice_time) (list_fits b cs)
  where
    paired : (t s g u l : Bool) → (t && s) && (g && (u && l)) ≡ g && ((t && u) && (s && l))
    paired t s false u l = and_none (t && s)
    paired false s true u l = refl
    paired true s true false l = and_none s
    paired true s true true l = refl

mode_fits : (k : SpliceMode) (places : List InsertComponent) → (let cs = take (count k) places in
    times_fit cs && within (mode_fields (all_immediate (record { value = k; components = cs })) k cs)
    ≡ ltb (ticks (program_time k)) (2 ^ 33) && (ltb (count k) (2 ^ 8) && fit (component_numbers cs)))
mode_fits (SpliceMode.Program t) places = within_unless t ∙ sym (and_one (ltb (ticks t) (2 ^ 33)))
mode_fits (SpliceMode.Components n) places =
    let cs = take n places in
    let b = all_immediate (record { value = SpliceMode.Components n; components = cs }) in
    swap (times_fit cs) (ltb n (2 ^ 8)) (within (list_fields b cs)) ∙ ap (λ (w : Bool). ltb n (2 ^ 8) && w) (list_fits b cs)
  where
    swap : (s n l : Bool) → s && (n && l) ≡ n && (s && l)
    swap s true l = refl
    swap s false l = and_none s

module _ (i : InsertDetail) (places : List InsertComponent) where
  abbrev cs : List InsertComponent
  cs = take (count i.splice_mode) places

  abbrev m : Bool
  m = within (mode_fields (immediate_in i cs) i.splice_mode cs)

  abbrev ends : Bool
  ends = ltb (break_ticks i.duration) (2 ^ 33) && (ltb i.unique_program_id (2 ^ 16) && (ltb i.avail_num (2 ^ 8) && (ltb i.avails_expected (2 ^ 8) && true)))

  active_fits_lem : within (active_fields i cs) ≡ m && ends
  active_fits_lem =
      let d = break_fields i.duration in
      let t = tail_fields i.unique_program_id i.avail_num i.avails_expected in
      rw (flag_within (out_of_network i.network_indicator), flag_within (by_program i.splice_mode), flag_within (lasting i.duration), flag_within (immediate_in i cs))
      (within_append (mode_fields (immediate_in i cs) i.splice_mode cs) (d ++ t)
      ∙ ap (λ (w : Bool). m && w) (within_append d t ∙ ap (λ (w : Bool). w && within t) (within_break i.duration)))

-- the components' numbers last
turned : (s e k m t n d p a x c : Bool) → s && m ≡ t && (n && c)
    → s && (e && (k && (m && (d && (p && (a && (x && true))))))) ≡ e && (k && (t && (n && (d && (p && (a && (x && c)))))))
turned s e k m t n d p a x c h =
    forward s e k m (d && (p && (a && (x && true))))
    ∙ ap (λ (w : Bool). e && (k && (w && (d && (p && (a && (x && true))))))) h
    ∙ ap (λ (w : Bool). e && (k && w)) (last t n c d p a x)
  where
    forward : (s e k m r : Bool) → s && (e && (k && (m && r))) ≡ e && (k && ((s && m) && r))
    forward true e k m r = refl
    forward false false k m r = refl
    forward false true false m r = refl
    forward false true true m r = refl

    last : (t n c d p a x : Bool) → (t && (n && c)) && (d && (p && (a && (x && true)))) ≡ t && (n && (d && (p && (a && (x && c)))))
    last false n c d p a x = refl
    last true false c d p a x = refl
    last true true c false p a x = and_none c
    last true true c true false a x = and_none c
    last true true c true true false x = and_none c
    last true true c true true true false = and_none c
    last true true c true true true true = and_one c

pub insert_fits : (i : SpliceInsert) (places : List InsertComponent) → Held (SpliceCommand.SpliceInsert i) places
    → times_fit (counted i places).components && within (walk insert (counted i places) 0).fields ≡ fit (command_numbers (SpliceCommand.SpliceInsert i) places)
insert_fits i places h =
    ap (λ (w : Bool). times_fit (counted i places).components && w) (ap within (insert_fields_lem i.splice_event_id i.reserved i.splice_detail (counted i places).components h))
    ∙ go i.splice_detail
  where
    go : (d : SpliceDetail) → (let cs = take (count (insert_of d).splice_mode) places in
        times_fit cs && within (insert_fields (record { value = record { splice_event_id = i.splice_event_id; reserved = i.reserved; splice_detail = d }; components = cs }))
        ≡ ltb i.splice_event_id (2 ^ 32) && (ltb i.reserved (2 ^ 7) && fit (insert_numbers d places)))
    go SpliceDetail.Cancel = refl
    go (SpliceDetail.Insert x) =
        let k = x.splice_mode in
        let cs = take (count k) places in
        let e = ltb i.splice_event_id (2 ^ 32) in
        let r = ltb i.reserved (2 ^ 7) in
        ap (λ (w : Bool). times_fit cs && (e && (r && w))) (active_fits_lem x places)
        ∙ turned (times_fit cs) e r (within (mode_fields (immediate_in x cs) k cs)) (ltb (ticks (program_time k)) (2 ^ 33)) (ltb (count k) (2 ^ 8)) (ltb (break_ticks x.duration) (2 ^ 33))
        (ltb x.unique_program_id (2 ^ 16)) (ltb x.avail_num (2 ^ 8)) (ltb x.avails_expected (2 ^ 8)) (fit (component_numbers cs)) (mode_fits k places)

-- ---- a header
pub header_fits : (h : SpliceInfoHeader) → numbers_fit h ≡ fit (header_numbers h)
unfolding numbers_fit headed splice_header number bit command_type_of
header_fits h = rw (flag_within h.encrypted_packet)
