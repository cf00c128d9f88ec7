-- What an insert has in the fields of its table, one after the other. No public contract cites this.
use Rattle.std.specs.Prelude.{ℕ, Bool, List, [], ◌∷◌, ◌++◌, take, Some, None, Option}
use Rattle.command.specs.Insert.{WithComponents, by_program, count, all_immediate, out_of_network, cancelled}
use Rattle.splice_time.specs.Break.{lasting, auto_return}
use Rattle.command.specs.declared.Private.{Private}
use Rattle.command.specs.declared.components.InsertComponent.{InsertComponent}
use Rattle.command.specs.declared.insert.InsertDetail.{InsertDetail}
use Rattle.command.specs.declared.insert.SpliceInsert.{SpliceInsert}
use Rattle.command.specs.declared.insert.SpliceDetail.{SpliceDetail}
use Rattle.command.specs.declared.insert.SpliceMode.{SpliceMode}
use Rattle.names.specs.declared.flags.ReturnMode.{ReturnMode}
use Rattle.splice_time.specs.Time.{specified, ticks}
use Rattle.splice_time.specs.declared.SpliceTime.{SpliceTime}
use Rattle.table.specs.Bits.{pick, bits_of_num, bits_of}
use Rattle.table.specs.Lent.{viewed}
use Rattle.table.specs.Table.{flag_number}
use Rattle.table.specs.Writing.{Field, bits, contents, print}
use Rattle.splice_time.specs.declared.break_duration.SpliceDuration.{SpliceDuration}

-- their bits
abbrev pub ink : List Field → List ℕ
ink fs = print (contents [] fs)

abbrev pub time_fields : SpliceTime → List Field
time_fields t = pick (specified t) (bits 1 1 ∷ bits 6 63 ∷ bits 33 (ticks t) ∷ []) (bits 1 0 ∷ bits 7 127 ∷ [])

abbrev pub unless_fields : Bool → SpliceTime → List Field
unless_fields b t = pick b [] (time_fields t)

abbrev pub component_fields : Bool → InsertComponent → List Field
component_fields b c = bits 8 c.component_tag ∷ unless_fields b c.splice_time

abbrev pub list_fields : Bool → List InsertComponent → List Field
list_fields b [] = []
list_fields b (c ∷ cs) = component_fields b c ++ list_fields b cs

abbrev pub mode_fields : Bool → SpliceMode → List InsertComponent → List Field
mode_fields b (SpliceMode.Program t) cs = unless_fields b t
mode_fields b (SpliceMode.Components n) cs = bits 8 n ∷ list_fields b cs

abbrev pub automatic : ReturnMode → Bool
automatic m = auto_return (Some (record { return_mode = m; duration = 0 }))

abbrev pub break_fields : Option SpliceDuration → List Field
break_fields None = []
break_fields (Some d) = bits 1 (flag_number (automatic d.return_mode)) ∷ bits 6 63 ∷ bits 33 d.duration ∷ []

abbrev pub tail_fields : ℕ → ℕ → ℕ → List Field
tail_fields id avail expected = bits 16 id ∷ bits 8 avail ∷ bits 8 expected ∷ []

abbrev pub end_fields : InsertDetail → List Field
end_fields i = break_fields i.duration ++ tail_fields i.unique_program_id i.avail_num i.avails_expected

abbrev pub immediate_in : InsertDetail → List InsertComponent → Bool
immediate_in i cs = all_immediate (record { value = i.splice_mode; components = cs })

abbrev pub flag_fields : Bool → Bool → Bool → Bool → List Field
flag_fields out program lasts now = bits 1 (flag_number out) ∷ bits 1 (flag_number program) ∷ bits 1 (flag_number lasts) ∷ bits 1 (flag_number now) ∷ bits 4 15 ∷ []

abbrev pub insert_flags : InsertDetail → Bool → List Field
insert_flags i now = flag_fields (out_of_network i.network_indicator) (by_program i.splice_mode) (lasting i.duration) now

-- the components of an array, as many as the mode says
abbrev pub places_of : InsertDetail → List InsertComponent → List InsertComponent
places_of i places = take (count i.splice_mode) places

abbrev pub active_fields : InsertDetail → List InsertComponent → List Field
active_fields i cs = insert_flags i (immediate_in i cs) ++ (mode_fields (immediate_in i cs) i.splice_mode cs ++ end_fields i)

abbrev pub detail_fields : SpliceDetail → List InsertComponent → List Field
detail_fields SpliceDetail.Cancel cs = []
detail_fields (SpliceDetail.Insert i) cs = active_fields i cs

abbrev pub insert_fields : WithComponents SpliceInsert → List Field
insert_fields x =
    bits 32 x.value.splice_event_id ∷ bits 1 (flag_number (cancelled x.value.splice_detail)) ∷ bits 7 x.value.reserved
    ∷ detail_fields x.value.splice_detail x.components

-- the bits of a private command
abbrev pub private_ink : Private → List ℕ → List ℕ
private_ink p lent = bits_of_num 32 p.identifier ++ bits_of (viewed lent p.private_bytes)
