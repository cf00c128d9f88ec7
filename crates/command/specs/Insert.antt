-- splice_insert(). 01, "Commands".
use Rattle.std.specs.Prelude.{ℕ, Bool, true, false, ◌&&◌, List, [], ltb, eqb, get_or, None}
use Rattle.splice_time.specs.Break.{lasting, break_duration}
use Rattle.splice_time.specs.Time.{splice_time}
pub use Rattle.splice_time.specs.Time.{immediate}
use Rattle.splice_time.specs.declared.SpliceTime.{SpliceTime}
use Rattle.splice_time.specs.declared.SpliceTime.TheVariants.{Immediate, Unspecified}
use Rattle.names.specs.Flags.{network_flag}
use Rattle.names.specs.declared.flags.NetworkIndicator.{NetworkIndicator}
use Rattle.table.specs.Bits.{pick}
use Rattle.table.specs.Table.{Table, done, must, inside, uimsbf, flag, ones, list}
use Rattle.command.specs.declared.components.InsertComponent.{InsertComponent}
use Rattle.command.specs.declared.insert.InsertDetail.{InsertDetail}
use Rattle.command.specs.declared.insert.SpliceInsert.{SpliceInsert}
use Rattle.command.specs.declared.insert.SpliceDetail.{SpliceDetail}
use Rattle.command.specs.declared.insert.SpliceMode.{SpliceMode}

-- a reading whose components stand beside it, as many as its mode says
pub record WithComponents (X : Type 0) : Type 0 where
  pub value : X
  pub components : List InsertComponent

-- ---- splice times of an insert

-- "a splice_time unless immediate"
unfoldable pub time_unless : Bool → Table SpliceTime
time_unless immediate_flag = pick immediate_flag (done Immediate) splice_time

-- "each tag 8 and the same"
unfoldable pub component : Bool → Table InsertComponent
component immediate_flag =
    uimsbf 8 (λ c. c.component_tag) λ component_tag.
    inside (time_unless immediate_flag) (λ c. c.splice_time) λ splice_time'.
    done (record { component_tag = component_tag; splice_time = splice_time' })

-- "blank (all zero, time unspecified)"
abbrev pub blank : InsertComponent
blank = record { component_tag = 0; splice_time = Unspecified }

-- ---- "Program: a splice_time unless immediate. Else count 8, each tag 8 and the same."
abbrev pub by_program : SpliceMode → Bool
by_program (SpliceMode.Program t) = true
by_program (SpliceMode.Components n) = false

abbrev pub program_time : SpliceMode → SpliceTime
program_time (SpliceMode.Program t) = t
program_time (SpliceMode.Components n) = Unspecified

abbrev pub count : SpliceMode → ℕ
count (SpliceMode.Program t) = 0
count (SpliceMode.Components n) = n

-- is it immediate? By components as the first of them says, with none: no (mixed ones are refused by `unmixed`)
abbrev pub all_immediate : WithComponents SpliceMode → Bool
all_immediate m = pick (by_program m.value) (immediate (program_time m.value)) (ltb 0 (count m.value) && immediate (get_or m.components 0 blank).splice_time)

-- canonical: "an insert by components with count 0 has immediate 0"
unfoldable pub moded : Bool → Bool → Table (WithComponents SpliceMode)
moded program_flag immediate_flag =
    pick program_flag
    (inside (time_unless immediate_flag) (λ m. program_time m.value) λ splice_time'.
    done (record { value = SpliceMode.Program splice_time'; components = [] }))
    (uimsbf 8 (λ m. count m.value) λ component_count.
    must (pick immediate_flag (ltb 0 component_count) true) (
    inside (list component_count blank (component immediate_flag)) (λ m. m.components) λ components.
    done (record { value = SpliceMode.Components component_count; components = components })))

-- ---- "Not cancelled: out 1, program 1, duration flag 1, immediate 1, reserved 4. [mode] [duration] Then program id 16, avail 8, expected 8."
abbrev pub out_of_network : NetworkIndicator → Bool
out_of_network x = eqb (network_flag x) 1

abbrev pub mode_of : WithComponents InsertDetail → WithComponents SpliceMode
mode_of x = record { value = x.value.splice_mode; components = x.components }

-- from the duration on
unfoldable pub ending : Bool → WithComponents SpliceMode → Bool → Table (WithComponents InsertDetail)
ending out_of_network' mode duration_flag =
    inside (break_duration duration_flag) (λ x. x.value.duration) λ duration.
    uimsbf 16 (λ x. x.value.unique_program_id) λ unique_program_id.
    uimsbf 8 (λ x. x.value.avail_num) λ avail_num.
    uimsbf 8 (λ x. x.value.avails_expected) λ avails_expected.
    done (record {
      value = record {
        network_indicator = pick out_of_network' NetworkIndicator.Out NetworkIndicator.In;
        splice_mode = mode.value;
        duration = duration;
        unique_program_id = unique_program_id;
        avail_num = avail_num;
        avails_expected = avails_expected;
      };
      components = mode.components;
    })

unfoldable pub active : Table (WithComponents InsertDetail)
active =
    flag (λ x. out_of_network x.value.network_indicator) λ out_of_network'.
    flag (λ x. by_program x.value.splice_mode) λ program_flag.
    flag (λ x. lasting x.value.duration) λ duration_flag.
    flag (λ x. all_immediate (mode_of x)) λ immediate_flag.
    ones 4 (
    inside (moded program_flag immediate_flag) mode_of λ mode.
    ending out_of_network' mode duration_flag)

-- ---- "InsertDetail: event id 32, cancel 1, reserved 7 (kept in the reading)."
abbrev pub cancelled : SpliceDetail → Bool
cancelled SpliceDetail.Cancel = true
cancelled (SpliceDetail.Insert i) = false

abbrev pub insert_of : SpliceDetail → InsertDetail
insert_of SpliceDetail.Cancel = record {
  network_indicator = NetworkIndicator.In;
  splice_mode = SpliceMode.Components 0;
  duration = None;
  unique_program_id = 0;
  avail_num = 0;
  avails_expected = 0;
}
insert_of (SpliceDetail.Insert i) = i

abbrev pub active_of : WithComponents SpliceInsert → WithComponents InsertDetail
active_of x = record { value = insert_of x.value.splice_detail; components = x.components }

unfoldable pub insert : Table (WithComponents SpliceInsert)
insert =
    uimsbf 32 (λ x. x.value.splice_event_id) λ splice_event_id.
    flag (λ x. cancelled x.value.splice_detail) λ cancel.
    uimsbf 7 (λ x. x.value.reserved) λ kept.
    must (eqb kept 127) (
    pick cancel
    (done (record {
      value = record { splice_event_id = splice_event_id; reserved = kept; splice_detail = SpliceDetail.Cancel };
      components = [];
    }))
    (inside active active_of λ a.
    done (record {
      value = record { splice_event_id = splice_event_id; reserved = kept; splice_detail = SpliceDetail.Insert a.value };
      components = a.components;
    })))
