-- `command_writer::insert::store_by_program`: the flags, the time, and the rest.
use mathlib.Core.Bool.{Bool}
use mathlib.Core.List.{List, [], ◌++◌}
use mathlib.Core.Path.{◌≡◌, ap, sym, ◌∙◌}
use Rattle.bit_stores.proofs.Tables.{Goes, pens_same}
use Rattle.table.specs.Writing.{Field}
use Rattle.command_measure.specs.Fields.{ink, time_fields, mode_fields, end_fields, immediate_in, insert_flags, active_fields}
use Rattle.command_writer.proofs.Storing.{pens_fields, goes_same, fits_front, mode_now, mode_timed, program_now}
use Rattle.command_writer.proofs.insert.store_by_program.Goals as goal

pub store_end-requires : goal.store_end-requires
store_end-requires c =
    let now_is : let a = c.args in c.is_immediate-at_once.result ≡ immediate_in a.insert [] = c.is_immediate-at_once.ensures ∙ program_now c.args.insert c.args.time c.requires.0 in
    let after_flags : let a = c.args in Goes a.out.now a.c (ink (active_fields a.insert [])) c.store_flags-c.new.out c.store_flags-c.result (ink (mode_fields (immediate_in a.insert []) a.insert.splice_mode [] ++ end_fields a.insert)) = let a = c.args in let i = a.insert in let b = immediate_in i [] in let p = pens_same _ _ _ (ink (insert_flags i b)) _ _ (ap (λ (x : Bool). ink (insert_flags i x)) now_is) c.store_flags-c.ensures in pens_fields a.out.now a.c _ _ (insert_flags i b) (mode_fields b i.splice_mode [] ++ end_fields i) c.requires.1 p in
    let at_once : let a = c.args in Goes a.out.now a.c (ink (active_fields a.insert [])) c.store_flags-c.new.out c.store_flags-c.result (ink (end_fields a.insert)) = let a = c.args in let i = a.insert in let b = immediate_in i [] in let e : mode_fields b i.splice_mode [] ≡ [] = mode_now b i.splice_mode [] _ c.requires.0 (sym now_is ∙ c.if-at_once.true) in goes_same a.out.now a.c _ _ _ _ (end_fields i) (ap (λ (fs : List Field). fs ++ end_fields i) e) after_flags in
    at_once.room

pub returns-then-at_once : goal.returns-then-at_once
returns-then-at_once c =
    let now_is : let a = c.args in c.is_immediate-at_once.result ≡ immediate_in a.insert [] = c.is_immediate-at_once.ensures ∙ program_now c.args.insert c.args.time c.requires.0 in
    let after_flags : let a = c.args in Goes a.out.now a.c (ink (active_fields a.insert [])) c.store_flags-c.new.out c.store_flags-c.result (ink (mode_fields (immediate_in a.insert []) a.insert.splice_mode [] ++ end_fields a.insert)) = let a = c.args in let i = a.insert in let b = immediate_in i [] in let p = pens_same _ _ _ (ink (insert_flags i b)) _ _ (ap (λ (x : Bool). ink (insert_flags i x)) now_is) c.store_flags-c.ensures in pens_fields a.out.now a.c _ _ (insert_flags i b) (mode_fields b i.splice_mode [] ++ end_fields i) c.requires.1 p in
    let at_once : let a = c.args in Goes a.out.now a.c (ink (active_fields a.insert [])) c.store_flags-c.new.out c.store_flags-c.result (ink (end_fields a.insert)) = let a = c.args in let i = a.insert in let b = immediate_in i [] in let e : mode_fields b i.splice_mode [] ≡ [] = mode_now b i.splice_mode [] _ c.requires.0 (sym now_is ∙ c.if-at_once.true) in goes_same a.out.now a.c _ _ _ _ (end_fields i) (ap (λ (fs : List Field). fs ++ end_fields i) e) after_flags in
    at_once.both _ _ c.store_end.ensures

pub store_time-c-requires : goal.store_time-c-requires
store_time-c-requires c =
    let now_is : let a = c.args in c.is_immediate-at_once.result ≡ immediate_in a.insert [] = c.is_immediate-at_once.ensures ∙ program_now c.args.insert c.args.time c.requires.0 in
    let after_flags : let a = c.args in Goes a.out.now a.c (ink (active_fields a.insert [])) c.store_flags-c.new.out c.store_flags-c.result (ink (mode_fields (immediate_in a.insert []) a.insert.splice_mode [] ++ end_fields a.insert)) = let a = c.args in let i = a.insert in let b = immediate_in i [] in let p = pens_same _ _ _ (ink (insert_flags i b)) _ _ (ap (λ (x : Bool). ink (insert_flags i x)) now_is) c.store_flags-c.ensures in pens_fields a.out.now a.c _ _ (insert_flags i b) (mode_fields b i.splice_mode [] ++ end_fields i) c.requires.1 p in
    let timed : let a = c.args in Goes a.out.now a.c (ink (active_fields a.insert [])) c.store_flags-c.new.out c.store_flags-c.result (ink (time_fields a.time ++ end_fields a.insert)) = let a = c.args in let i = a.insert in let b = immediate_in i [] in let e = mode_timed b i.splice_mode [] a.time c.requires.0 (sym now_is ∙ c.if-at_once.false) in goes_same a.out.now a.c _ _ _ _ _ (ap (λ (fs : List Field). fs ++ end_fields i) e) after_flags in
    let a = c.args in
    fits_front c.store_flags-c.new.out c.store_flags-c.result (time_fields a.time) (end_fields a.insert) timed.room

pub store_end-requires-2 : goal.store_end-requires-2
store_end-requires-2 c =
    let now_is : let a = c.args in c.is_immediate-at_once.result ≡ immediate_in a.insert [] = c.is_immediate-at_once.ensures ∙ program_now c.args.insert c.args.time c.requires.0 in
    let after_flags : let a = c.args in Goes a.out.now a.c (ink (active_fields a.insert [])) c.store_flags-c.new.out c.store_flags-c.result (ink (mode_fields (immediate_in a.insert []) a.insert.splice_mode [] ++ end_fields a.insert)) = let a = c.args in let i = a.insert in let b = immediate_in i [] in let p = pens_same _ _ _ (ink (insert_flags i b)) _ _ (ap (λ (x : Bool). ink (insert_flags i x)) now_is) c.store_flags-c.ensures in pens_fields a.out.now a.c _ _ (insert_flags i b) (mode_fields b i.splice_mode [] ++ end_fields i) c.requires.1 p in
    let timed : let a = c.args in Goes a.out.now a.c (ink (active_fields a.insert [])) c.store_flags-c.new.out c.store_flags-c.result (ink (time_fields a.time ++ end_fields a.insert)) = let a = c.args in let i = a.insert in let b = immediate_in i [] in let e = mode_timed b i.splice_mode [] a.time c.requires.0 (sym now_is ∙ c.if-at_once.false) in goes_same a.out.now a.c _ _ _ _ _ (ap (λ (fs : List Field). fs ++ end_fields i) e) after_flags in
    let after_time : let a = c.args in Goes c.store_flags-c.new.out c.store_flags-c.result (ink (time_fields a.time ++ end_fields a.insert)) c.store_time-c.new.out c.store_time-c.result (ink (end_fields a.insert)) = let a = c.args in pens_fields _ _ _ _ (time_fields a.time) (end_fields a.insert) timed.room c.store_time-c.ensures in
    after_time.room

pub returns : goal.returns
returns c =
    let now_is : let a = c.args in c.is_immediate-at_once.result ≡ immediate_in a.insert [] = c.is_immediate-at_once.ensures ∙ program_now c.args.insert c.args.time c.requires.0 in
    let after_flags : let a = c.args in Goes a.out.now a.c (ink (active_fields a.insert [])) c.store_flags-c.new.out c.store_flags-c.result (ink (mode_fields (immediate_in a.insert []) a.insert.splice_mode [] ++ end_fields a.insert)) = let a = c.args in let i = a.insert in let b = immediate_in i [] in let p = pens_same _ _ _ (ink (insert_flags i b)) _ _ (ap (λ (x : Bool). ink (insert_flags i x)) now_is) c.store_flags-c.ensures in pens_fields a.out.now a.c _ _ (insert_flags i b) (mode_fields b i.splice_mode [] ++ end_fields i) c.requires.1 p in
    let timed : let a = c.args in Goes a.out.now a.c (ink (active_fields a.insert [])) c.store_flags-c.new.out c.store_flags-c.result (ink (time_fields a.time ++ end_fields a.insert)) = let a = c.args in let i = a.insert in let b = immediate_in i [] in let e = mode_timed b i.splice_mode [] a.time c.requires.0 (sym now_is ∙ c.if-at_once.false) in goes_same a.out.now a.c _ _ _ _ _ (ap (λ (fs : List Field). fs ++ end_fields i) e) after_flags in
    let after_time : let a = c.args in Goes c.store_flags-c.new.out c.store_flags-c.result (ink (time_fields a.time ++ end_fields a.insert)) c.store_time-c.new.out c.store_time-c.result (ink (end_fields a.insert)) = let a = c.args in pens_fields _ _ _ _ (time_fields a.time) (end_fields a.insert) timed.room c.store_time-c.ensures in
    timed.both _ _ (after_time.both _ _ c.store_end-2.ensures)
