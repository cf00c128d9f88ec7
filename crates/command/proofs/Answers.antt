-- What the readers of an insert answer, made of a reading and undone.
use Prim.Native.Nat.{ℕ, ◌*◌, ◌/◌}
use mathlib.Core.List.{List}
use mathlib.Core.Path.{◌≡◌, refl}
use Rattle.table.specs.Table.{Answer, got, short}
use Rattle.table.specs.declared.cursor.Field.{Field}
use Rattle.table.specs.declared.cursor.Short.{Short}
use Rattle.table.proofs.Lists.{zero_one}
use Rattle.splice_time.proofs.Alignments.{Aligned}
use Rattle.splice_time.proofs.Breaks.{byte_of, bit_of}
use Rattle.command.specs.Insert.{WithComponents}
use Rattle.command.specs.Private.{component_read, skimmed_of, moded_read, active_read, insert_read}
use Rattle.command.specs.declared.components.InsertComponent.{InsertComponent}
use Rattle.command.specs.declared.insert.InsertDetail.{InsertDetail}
use Rattle.command.specs.declared.insert.SpliceInsert.{SpliceInsert}
use Rattle.command.specs.declared.insert.SpliceMode.{SpliceMode}
use Rattle.std.proofs.Common.{Ok, Err}

-- ---- a component
pub component_got : (r : Answer InsertComponent) (y : InsertComponent) (n : ℕ) → r ≡ got y (n * 8) → Ok (record { value = y; next = n }) ≡ component_read r
unfolding component_read
component_got r y n e = rw (e, byte_of n)

pub component_lacks : (r : Answer InsertComponent) (x : Short) → r ≡ short x.expected x.actual → Err x ≡ component_read r
unfolding component_read
component_lacks r x e = rw e

pub got_component : (r : Answer InsertComponent) (y : Field InsertComponent ℕ) → Aligned r → Ok y ≡ component_read r → r ≡ got y.value (y.next * 8)
unfolding component_read
got_component (got x m) y w f =
    let e : y.value ≡ x = cc in
    let c : y.next ≡ m / 8 = cc in
    rw (e, c, bit_of m (w x m refl))
got_component (short e a) y w f = zero_one cc

pub lacks_component : (r : Answer InsertComponent) (x : Short) → Err x ≡ component_read r → r ≡ short x.expected x.actual
unfolding component_read
lacks_component (got y m) x f = zero_one cc
lacks_component (short e a) x f = cc

-- ---- components that are skimmed
pub skim_got : (r : Answer (List InsertComponent)) (ys : List InsertComponent) (n : ℕ) → r ≡ got ys (n * 8) → Ok n ≡ skimmed_of r
unfolding skimmed_of
skim_got r ys n e = rw (e, byte_of n)

pub skim_lacks : (r : Answer (List InsertComponent)) (x : Short) → r ≡ short x.expected x.actual → Err x ≡ skimmed_of r
unfolding skimmed_of
skim_lacks r x e = rw e

-- they were read, whichever they are
pub record Skims (r : Answer (List InsertComponent)) (n : ℕ) : Type 0 where
  pub list : List InsertComponent
  pub is : r ≡ got list (n * 8)

pub got_skim : (r : Answer (List InsertComponent)) (n : ℕ) → Aligned r → Ok n ≡ skimmed_of r → Skims r n
unfolding skimmed_of
got_skim (got ys m) n w f =
    let e : n ≡ m / 8 = cc in
    record { list = ys; is = rw (e, bit_of m (w ys m refl)) }
got_skim (short e a) n w f = zero_one cc

pub lacks_skim : (r : Answer (List InsertComponent)) (x : Short) → Err x ≡ skimmed_of r → r ≡ short x.expected x.actual
unfolding skimmed_of
lacks_skim (got ys m) x f = zero_one cc
lacks_skim (short e a) x f = cc

-- ---- a mode, with whichever components
pub mode_got : (r : Answer (WithComponents SpliceMode)) (y : SpliceMode) (cs : List InsertComponent) (n : ℕ)
    → r ≡ got (record { value = y; components = cs }) (n * 8) → Ok (record { value = y; next = n }) ≡ moded_read r
unfolding moded_read
mode_got r y cs n e = rw (e, byte_of n)

pub mode_lacks : (r : Answer (WithComponents SpliceMode)) (x : Short) → r ≡ short x.expected x.actual → Err x ≡ moded_read r
unfolding moded_read
mode_lacks r x e = rw e

pub record Modes (r : Answer (WithComponents SpliceMode)) (y : Field SpliceMode ℕ) : Type 0 where
  pub list : List InsertComponent
  pub is : r ≡ got (record { value = y.value; components = list }) (y.next * 8)

pub got_mode : (r : Answer (WithComponents SpliceMode)) (y : Field SpliceMode ℕ) → Aligned r → Ok y ≡ moded_read r → Modes r y
unfolding moded_read
got_mode (got x m) y w f =
    let e : y.value ≡ x.value = cc in
    let c : y.next ≡ m / 8 = cc in
    record { list = x.components; is = rw (e, c, bit_of m (w x m refl)) }
got_mode (short e a) y w f = zero_one cc

pub lacks_mode : (r : Answer (WithComponents SpliceMode)) (x : Short) → Err x ≡ moded_read r → r ≡ short x.expected x.actual
unfolding moded_read
lacks_mode (got y m) x f = zero_one cc
lacks_mode (short e a) x f = cc

-- ---- what is not cancelled
pub active_got : (r : Answer (WithComponents InsertDetail)) (y : InsertDetail) (cs : List InsertComponent) (m : ℕ) → r ≡ got (record { value = y; components = cs }) m → Ok y ≡ active_read r
unfolding active_read
active_got r y cs m e = rw e

pub active_lacks : (r : Answer (WithComponents InsertDetail)) (x : Short) → r ≡ short x.expected x.actual → Err x ≡ active_read r
unfolding active_read
active_lacks r x e = rw e

pub record Actives (r : Answer (WithComponents InsertDetail)) (y : InsertDetail) : Type 0 where
  pub list : List InsertComponent
  pub end : ℕ
  pub is : r ≡ got (record { value = y; components = list }) end

pub got_active : (r : Answer (WithComponents InsertDetail)) (y : InsertDetail) → Ok y ≡ active_read r → Actives r y
unfolding active_read
got_active (got x m) y f =
    let e : y ≡ x.value = cc in
    record { list = x.components; end = m; is = rw e }
got_active (short e a) y f = zero_one cc

pub lacks_active : (r : Answer (WithComponents InsertDetail)) (x : Short) → Err x ≡ active_read r → r ≡ short x.expected x.actual
unfolding active_read
lacks_active (got y m) x f = zero_one cc
lacks_active (short e a) x f = cc

-- ---- an insert
pub insert_got : (r : Answer (WithComponents SpliceInsert)) (y : SpliceInsert) (cs : List InsertComponent) (m : ℕ) → r ≡ got (record { value = y; components = cs }) m → Ok y ≡ insert_read r
unfolding insert_read
insert_got r y cs m e = rw e

pub insert_lacks : (r : Answer (WithComponents SpliceInsert)) (x : Short) → r ≡ short x.expected x.actual → Err x ≡ insert_read r
unfolding insert_read
insert_lacks r x e = rw e
