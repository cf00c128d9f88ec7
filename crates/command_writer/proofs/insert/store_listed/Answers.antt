-- `command_writer::insert::store_listed`: the flags, the count, the components, and the rest.
use mathlib.Core.Path.{◌≡◌, ap, ap₂, sym, ◌∙◌}
use native.Mathlib.Omega.{arith}
use Prim.Native.Nat.{ℕ, ◌≤◌}
use mathlib.Core.Bool.{Bool}
use mathlib.Core.List.{List, ◌∷◌, ◌++◌}
use lib.ListN.{take}
use Rattle.command.specs.Insert.{count}
use Rattle.bit_stores.specs.Private.{Fits}
use Rattle.bit_stores.proofs.Tables.{Goes, pens_same}
use Rattle.table.specs.Bits.{bits_of_num}
use Rattle.table.specs.Writing.{Field, bits}
use Rattle.table.proofs.Bits.{bytes_all}
use Rattle.command_measure.specs.Fields.{ink, list_fields, mode_fields, end_fields, immediate_in, insert_flags, places_of, active_fields}
use Rattle.command_measure.proofs.Making.{listed_now}
use Rattle.command_writer.proofs.Storing.{pens_next, pens_fields, pens_settled, goes_same, fits_front, fits_same, mode_list}
use Rattle.command_writer.proofs.insert.store_listed.Goals as goal

pub store_components-c-requires : goal.store_components-c-requires
store_components-c-requires c =
    let now_is : let a = c.args in c.are_immediate-at_once.result ≡ immediate_in a.insert (places_of a.insert a.components) = let a = c.args in c.are_immediate-at_once.ensures ∙ listed_now a.insert.splice_mode a.n a.components c.requires.0 in
    let after_flags : let a = c.args in let cs = places_of a.insert a.components in Goes a.out.now a.c (ink (active_fields a.insert cs)) c.store_flags-c.new.out c.store_flags-c.result (ink (bits 8 a.n ∷ (list_fields (immediate_in a.insert cs) cs ++ end_fields a.insert))) = let a = c.args in let i = a.insert in let cs = places_of i a.components in let b = immediate_in i cs in let p = pens_same _ _ _ (ink (insert_flags i b)) _ _ (ap (λ (x : Bool). ink (insert_flags i x)) now_is) c.store_flags-c.ensures in let g = pens_fields a.out.now a.c _ _ (insert_flags i b) (mode_fields b i.splice_mode cs ++ end_fields i) c.requires.1 p in goes_same a.out.now a.c _ _ _ _ _ (ap (λ (fs : List Field). fs ++ end_fields i) (mode_list b i.splice_mode cs a.n c.requires.0)) g in
    let after_count : let a = c.args in let cs = places_of a.insert a.components in let l = list_fields (immediate_in a.insert cs) cs ++ end_fields a.insert in Goes c.store_flags-c.new.out c.store_flags-c.result (ink (bits 8 a.n ∷ l)) c.put_bits-c.new.out c.put_bits-c.result (ink l) = let a = c.args in let cs = places_of a.insert a.components in pens_next _ _ _ _ 8 a.n _ (list_fields (immediate_in a.insert cs) cs ++ end_fields a.insert) c.wide.ensures.0 after_flags.room c.put_bits-c.ensures in
    let same : let a = c.args in let cs = places_of a.insert a.components in list_fields c.are_immediate-at_once.result (take a.n a.components) ≡ list_fields (immediate_in a.insert cs) cs = let a = c.args in ap₂ (λ (b : Bool) (n : ℕ). list_fields b (take n a.components)) now_is (sym (ap count c.requires.0)) in
    let a = c.args in
    let cs = places_of a.insert a.components in
    let y = c.wide.result in
    let most : a.n ≤ 255 = omega arith in
    let u = c.put_bits-c.new.out in
    let z = c.put_bits-c.result in
    let room : Fits c.store_flags-c.new.out c.store_flags-c.result (bits_of_num 8 y) = omega (arith, after_flags.room) in (
      most,
      bytes_all u (λ j. (c.slice_known-3-1.given j).fits),
      pens_settled c.store_flags-c.new.out c.store_flags-c.result u z (bits_of_num 8 y) room c.put_bits-c.ensures,
      fits_same u z _ _ (sym same) (fits_front u z (list_fields (immediate_in a.insert cs) cs) (end_fields a.insert) after_count.room),
    )

pub store_end-requires : goal.store_end-requires
store_end-requires c =
    let now_is : let a = c.args in c.are_immediate-at_once.result ≡ immediate_in a.insert (places_of a.insert a.components) = let a = c.args in c.are_immediate-at_once.ensures ∙ listed_now a.insert.splice_mode a.n a.components c.requires.0 in
    let after_flags : let a = c.args in let cs = places_of a.insert a.components in Goes a.out.now a.c (ink (active_fields a.insert cs)) c.store_flags-c.new.out c.store_flags-c.result (ink (bits 8 a.n ∷ (list_fields (immediate_in a.insert cs) cs ++ end_fields a.insert))) = let a = c.args in let i = a.insert in let cs = places_of i a.components in let b = immediate_in i cs in let p = pens_same _ _ _ (ink (insert_flags i b)) _ _ (ap (λ (x : Bool). ink (insert_flags i x)) now_is) c.store_flags-c.ensures in let g = pens_fields a.out.now a.c _ _ (insert_flags i b) (mode_fields b i.splice_mode cs ++ end_fields i) c.requires.1 p in goes_same a.out.now a.c _ _ _ _ _ (ap (λ (fs : List Field). fs ++ end_fields i) (mode_list b i.splice_mode cs a.n c.requires.0)) g in
    let after_count : let a = c.args in let cs = places_of a.insert a.components in let l = list_fields (immediate_in a.insert cs) cs ++ end_fields a.insert in Goes c.store_flags-c.new.out c.store_flags-c.result (ink (bits 8 a.n ∷ l)) c.put_bits-c.new.out c.put_bits-c.result (ink l) = let a = c.args in let cs = places_of a.insert a.components in pens_next _ _ _ _ 8 a.n _ (list_fields (immediate_in a.insert cs) cs ++ end_fields a.insert) c.wide.ensures.0 after_flags.room c.put_bits-c.ensures in
    let same : let a = c.args in let cs = places_of a.insert a.components in list_fields c.are_immediate-at_once.result (take a.n a.components) ≡ list_fields (immediate_in a.insert cs) cs = let a = c.args in ap₂ (λ (b : Bool) (n : ℕ). list_fields b (take n a.components)) now_is (sym (ap count c.requires.0)) in
    let after_list : let a = c.args in let cs = places_of a.insert a.components in Goes c.put_bits-c.new.out c.put_bits-c.result (ink (list_fields (immediate_in a.insert cs) cs ++ end_fields a.insert)) c.store_components-c.new.out c.store_components-c.result (ink (end_fields a.insert)) = let a = c.args in let cs = places_of a.insert a.components in let b = immediate_in a.insert cs in pens_fields _ _ _ _ (list_fields b cs) (end_fields a.insert) after_count.room (pens_same _ _ _ (ink (list_fields b cs)) _ _ (ap ink same) c.store_components-c.ensures) in
    after_list.room

pub returns : goal.returns
returns c =
    let now_is : let a = c.args in c.are_immediate-at_once.result ≡ immediate_in a.insert (places_of a.insert a.components) = let a = c.args in c.are_immediate-at_once.ensures ∙ listed_now a.insert.splice_mode a.n a.components c.requires.0 in
    let after_flags : let a = c.args in let cs = places_of a.insert a.components in Goes a.out.now a.c (ink (active_fields a.insert cs)) c.store_flags-c.new.out c.store_flags-c.result (ink (bits 8 a.n ∷ (list_fields (immediate_in a.insert cs) cs ++ end_fields a.insert))) = let a = c.args in let i = a.insert in let cs = places_of i a.components in let b = immediate_in i cs in let p = pens_same _ _ _ (ink (insert_flags i b)) _ _ (ap (λ (x : Bool). ink (insert_flags i x)) now_is) c.store_flags-c.ensures in let g = pens_fields a.out.now a.c _ _ (insert_flags i b) (mode_fields b i.splice_mode cs ++ end_fields i) c.requires.1 p in goes_same a.out.now a.c _ _ _ _ _ (ap (λ (fs : List Field). fs ++ end_fields i) (mode_list b i.splice_mode cs a.n c.requires.0)) g in
    let after_count : let a = c.args in let cs = places_of a.insert a.components in let l = list_fields (immediate_in a.insert cs) cs ++ end_fields a.insert in Goes c.store_flags-c.new.out c.store_flags-c.result (ink (bits 8 a.n ∷ l)) c.put_bits-c.new.out c.put_bits-c.result (ink l) = let a = c.args in let cs = places_of a.insert a.components in pens_next _ _ _ _ 8 a.n _ (list_fields (immediate_in a.insert cs) cs ++ end_fields a.insert) c.wide.ensures.0 after_flags.room c.put_bits-c.ensures in
    let same : let a = c.args in let cs = places_of a.insert a.components in list_fields c.are_immediate-at_once.result (take a.n a.components) ≡ list_fields (immediate_in a.insert cs) cs = let a = c.args in ap₂ (λ (b : Bool) (n : ℕ). list_fields b (take n a.components)) now_is (sym (ap count c.requires.0)) in
    let after_list : let a = c.args in let cs = places_of a.insert a.components in Goes c.put_bits-c.new.out c.put_bits-c.result (ink (list_fields (immediate_in a.insert cs) cs ++ end_fields a.insert)) c.store_components-c.new.out c.store_components-c.result (ink (end_fields a.insert)) = let a = c.args in let cs = places_of a.insert a.components in let b = immediate_in a.insert cs in pens_fields _ _ _ _ (list_fields b cs) (end_fields a.insert) after_count.room (pens_same _ _ _ (ink (list_fields b cs)) _ _ (ap ink same) c.store_components-c.ensures) in
    after_flags.both _ _ (after_count.both _ _ (after_list.both _ _ c.store_end.ensures))
