-- `command_writer::insert::store_by_none`: the flags, a count of 0, and the rest.
use mathlib.Core.Bool.{Bool}
use mathlib.Core.List.{List, [], ◌∷◌, ◌++◌}
use mathlib.Core.Path.{refl, ap, sym}
use Rattle.bit_stores.proofs.Tables.{Goes, pens_same}
use Rattle.table.specs.Writing.{Field, bits}
use Rattle.command_measure.specs.Fields.{ink, mode_fields, end_fields, immediate_in, insert_flags, active_fields}
use Rattle.command_writer.proofs.Storing.{pens_next, pens_fields, goes_same, mode_list, none_now}
use Rattle.command_writer.proofs.insert.store_by_none.Goals as goal

pub store_end-requires : goal.store_end-requires
store_end-requires c =
    let after_flags : let a = c.args in Goes a.out.now a.c (ink (active_fields a.insert [])) c.store_flags-c.new.out c.store_flags-c.result (ink (bits 8 0 ∷ end_fields a.insert)) = let a = c.args in let i = a.insert in let b = immediate_in i [] in let p = pens_same _ _ _ (ink (insert_flags i b)) _ _ (ap (λ (x : Bool). ink (insert_flags i x)) (sym (none_now i c.requires.0))) c.store_flags-c.ensures in let g = pens_fields a.out.now a.c _ _ (insert_flags i b) (mode_fields b i.splice_mode [] ++ end_fields i) c.requires.1 p in goes_same a.out.now a.c _ _ _ _ (bits 8 0 ∷ end_fields i) (ap (λ (fs : List Field). fs ++ end_fields i) (mode_list b i.splice_mode [] 0 c.requires.0)) g in
    let after_count : let i = c.args.insert in Goes c.store_flags-c.new.out c.store_flags-c.result (ink (bits 8 0 ∷ end_fields i)) c.put_bits-c.new.out c.put_bits-c.result (ink (end_fields i)) = pens_next _ _ _ _ 8 0 0 (end_fields c.args.insert) refl after_flags.room c.put_bits-c.ensures in
    after_count.room

pub returns : goal.returns
returns c =
    let after_flags : let a = c.args in Goes a.out.now a.c (ink (active_fields a.insert [])) c.store_flags-c.new.out c.store_flags-c.result (ink (bits 8 0 ∷ end_fields a.insert)) = let a = c.args in let i = a.insert in let b = immediate_in i [] in let p = pens_same _ _ _ (ink (insert_flags i b)) _ _ (ap (λ (x : Bool). ink (insert_flags i x)) (sym (none_now i c.requires.0))) c.store_flags-c.ensures in let g = pens_fields a.out.now a.c _ _ (insert_flags i b) (mode_fields b i.splice_mode [] ++ end_fields i) c.requires.1 p in goes_same a.out.now a.c _ _ _ _ (bits 8 0 ∷ end_fields i) (ap (λ (fs : List Field). fs ++ end_fields i) (mode_list b i.splice_mode [] 0 c.requires.0)) g in
    let after_count : let i = c.args.insert in Goes c.store_flags-c.new.out c.store_flags-c.result (ink (bits 8 0 ∷ end_fields i)) c.put_bits-c.new.out c.put_bits-c.result (ink (end_fields i)) = pens_next _ _ _ _ 8 0 0 (end_fields c.args.insert) refl after_flags.room c.put_bits-c.ensures in
    after_flags.both _ _ (after_count.both _ _ c.store_end.ensures)
