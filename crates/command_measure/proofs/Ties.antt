-- What an insert has in the fields of its table, spelt out.
use Prim.Native.Nat.{ℕ, ◌+◌}
use mathlib.Core.Bool.{Bool, true, false}
use mathlib.Core.List.{List, [], ◌∷◌, ◌++◌}
use mathlib.Core.Path.{◌≡◌, refl, ap, ap₂, sym, ◌∙◌}
use lib.ListN.{length, get_or, drop}
use Rattle.command.specs.Insert.{WithComponents, time_unless, component, blank, by_program, count, moded, out_of_network, mode_of, ending, active, insert_of, active_of, insert}
use Rattle.splice_time.specs.Break.{lasting, break_duration}
use Rattle.command.specs.declared.components.InsertComponent.{InsertComponent}
use Rattle.command.specs.declared.insert.InsertDetail.{InsertDetail}
use Rattle.command.specs.declared.insert.SpliceInsert.{SpliceInsert}
use Rattle.command.specs.declared.insert.SpliceDetail.{SpliceDetail}
use Rattle.command.specs.declared.insert.SpliceMode.{SpliceMode}
use Rattle.splice_time.specs.Time.{splice_time}
use Rattle.splice_time.specs.declared.SpliceTime.{SpliceTime}
use Rattle.splice_time.specs.declared.SpliceTime.TheVariants.{Immediate, Unspecified, At}
use Rattle.bit_stores.proofs.Tables.{fields_number, fields_flag, fields_ones, fields_in}
use Rattle.table.specs.Table.{Table, done, inside, number, bit, flag_number, reserved, list}
use Rattle.table.specs.Writing.{Field, bits, walk}
use Rattle.table.proofs.Lists.{append_nil}
use Rattle.table.proofs.Walks.{past}
use Rattle.command_measure.specs.Fields.{time_fields, unless_fields, component_fields, list_fields, mode_fields, break_fields, tail_fields, end_fields, immediate_in, active_fields, insert_fields}
use Rattle.std.proofs.Common.{Some, None, Option}
use Rattle.splice_time.specs.declared.break_duration.SpliceDuration.{SpliceDuration}

pub time_fields_lem : (t : SpliceTime) (at : ℕ) → (walk splice_time t at).fields ≡ time_fields t
unfolding splice_time number bit reserved
time_fields_lem Immediate at = refl
time_fields_lem Unspecified at = refl
time_fields_lem (At t) at = refl

unless_fields_lem : (b : Bool) (t : SpliceTime) (at : ℕ) → (walk (time_unless b) t at).fields ≡ unless_fields b t
unfolding time_unless
unless_fields_lem true t at = refl
unless_fields_lem false t at = time_fields_lem t at

-- a table that ends with another
last_in : {X Y : Type 0} (t : Table Y) (q : X → Y) (f : Y → X) (x : X) (at : ℕ) → (walk (inside t q (λ y. done (f y))) x at).fields ≡ (walk t (q x) at).fields
last_in t q f x at = fields_in x at t q (λ y. done (f y)) ∙ append_nil (walk t (q x) at).fields

component_fields_lem : (b : Bool) (c : InsertComponent) (at : ℕ) → (walk (component b) c at).fields ≡ component_fields b c
unfolding component
component_fields_lem b c at =
    fields_number c at 8 _ _ ∙ ap (λ (fs : List Field). bits 8 c.component_tag ∷ fs) (last_in (time_unless b) _ _ c (at + 8) ∙ unless_fields_lem b c.splice_time (at + 8))

list_fields_lem : (b : Bool) (cs : List InsertComponent) (at : ℕ) → (walk (list (length cs) blank (component b)) cs at).fields ≡ list_fields b cs
unfolding list
list_fields_lem b [] at = refl
list_fields_lem b (c ∷ cs) at =
    fields_in (c ∷ cs) at (component b) (λ ys. get_or ys 0 blank) _
    ∙ ap₂ (λ (fs gs : List Field). fs ++ gs) (component_fields_lem b c at)
    (last_in (list (length cs) blank (component b)) (drop 1) _ (c ∷ cs) (past (walk (component b) c at).fields at) ∙ list_fields_lem b cs (past (walk (component b) c at).fields at))

moded_fields : (b : Bool) (k : SpliceMode) (cs : List InsertComponent) (at : ℕ) → length cs ≡ count k
    → (let x : WithComponents SpliceMode = record { value = k; components = cs } in
    (walk (moded (by_program k) b) x at).fields ≡ mode_fields b k cs)
unfolding moded
moded_fields b (SpliceMode.Program t) cs at e = last_in (time_unless b) _ _ _ at ∙ unless_fields_lem b t at
moded_fields b (SpliceMode.Components n) cs at e =
    let x : WithComponents SpliceMode = record { value = SpliceMode.Components n; components = cs } in
    fields_number x at 8 _ _
    ∙ ap (λ (fs : List Field). bits 8 n ∷ fs)
    (last_in (list n blank (component b)) (λ (m : WithComponents SpliceMode). m.components) _ x (at + 8)
    ∙ ap (λ (k : ℕ). (walk (list k blank (component b)) cs (at + 8)).fields) (sym e) ∙ list_fields_lem b cs (at + 8))

break_fields_lem : (d : Option SpliceDuration) (at : ℕ) → (walk (break_duration (lasting d)) d at).fields ≡ break_fields d
unfolding break_duration number bit reserved
break_fields_lem None at = refl
break_fields_lem (Some d) at = refl

ending_fields : (out : Bool) (m : WithComponents SpliceMode) (x : WithComponents InsertDetail) (at : ℕ) → (walk (ending out m (lasting x.value.duration)) x at).fields ≡ end_fields x.value
unfolding ending number
ending_fields out m x at =
    fields_in x at (break_duration (lasting x.value.duration)) (λ (x : WithComponents InsertDetail). x.value.duration) _
    ∙ ap (λ (fs : List Field). fs ++ tail_fields x.value.unique_program_id x.value.avail_num x.value.avails_expected) (break_fields_lem x.value.duration at)

active_fields_lem : (x : WithComponents InsertDetail) (at : ℕ) → length x.components ≡ count x.value.splice_mode → (walk active x at).fields ≡ active_fields x.value x.components
unfolding active
active_fields_lem x at e =
    let i = x.value in
    let b = immediate_in i x.components in
    let a = at + 1 + 1 + 1 + 1 + 4 in
    let m = moded (by_program i.splice_mode) b in
    let k : WithComponents SpliceMode → Table (WithComponents InsertDetail) = λ y. ending (out_of_network i.network_indicator) y (lasting i.duration) in
    fields_flag x at _ _
    ∙ ap (λ (fs : List Field). bits 1 (flag_number (out_of_network i.network_indicator)) ∷ fs)
    (fields_flag x (at + 1) _ _
    ∙ ap (λ (fs : List Field). bits 1 (flag_number (by_program i.splice_mode)) ∷ fs)
    (fields_flag x (at + 1 + 1) _ _
    ∙ ap (λ (fs : List Field). bits 1 (flag_number (lasting i.duration)) ∷ fs)
    (fields_flag x (at + 1 + 1 + 1) _ _
    ∙ ap (λ (fs : List Field). bits 1 (flag_number b) ∷ fs)
    (fields_ones x (at + 1 + 1 + 1 + 1) 4 (inside m mode_of k)
    ∙ ap (λ (fs : List Field). bits 4 15 ∷ fs)
    (fields_in x a m mode_of k
    ∙ ap₂ (λ (fs gs : List Field). fs ++ gs) (moded_fields b i.splice_mode x.components a e)
    (ending_fields (out_of_network i.network_indicator) (walk m (mode_of x) a).value x (past (walk m (mode_of x) a).fields a)))))))

pub insert_fields_lem : (event kept : ℕ) (d : SpliceDetail) (cs : List InsertComponent) → length cs ≡ count (insert_of d).splice_mode
    → (let x : WithComponents SpliceInsert = record { value = record { splice_event_id = event; reserved = kept; splice_detail = d }; components = cs } in
    (walk insert x 0).fields ≡ insert_fields x)
unfolding insert number bit
insert_fields_lem event kept SpliceDetail.Cancel cs e = refl
insert_fields_lem event kept (SpliceDetail.Insert i) cs e =
    let x : WithComponents SpliceInsert = record { value = record { splice_event_id = event; reserved = kept; splice_detail = SpliceDetail.Insert i }; components = cs } in
    ap (λ (fs : List Field). bits 32 event ∷ bits 1 0 ∷ bits 7 kept ∷ fs)
    (last_in active active_of _ x 40 ∙ active_fields_lem (record { value = i; components = cs }) 40 e)
