-- The fields of an insert's mode lead to that mode.
use Prim.Native.Nat.{ℕ, ◌+◌, ◌*◌, ◌-◌}
use mathlib.Core.Bool.{Bool, true, false, not}
use mathlib.Core.List.{List, [], ◌∷◌}
use mathlib.Core.Path.{◌≡◌, refl}
use native.Mathlib.Omega.{arith}
use lib.Dec.{ltb}
use lib.ListN.{length}
use borrow.Author.Tests.{lt-ltb}
use Rattle.splice_time.specs.declared.SpliceTime.{SpliceTime}
use Rattle.splice_time.specs.declared.SpliceTime.TheVariants.{Immediate, Unspecified, At}
use Rattle.splice_time.proofs.Times.{time_size, time_leads}
use Rattle.table.specs.Bits.{pick}
use Rattle.table.specs.Table.{Table, done, must, inside, list}
use Rattle.table.proofs.Leading.{Leads, leads_in, leads_done, leads_number, leads_list, total}
use Rattle.table.proofs.Lists.{zero_one, and_true}
use Rattle.table.proofs.Telling.{Each}
use Rattle.command.specs.Writable.{alike, unmixed}
use Rattle.command.specs.Insert.{WithComponents, immediate, time_unless, component, blank, by_program, count, all_immediate, moded}
use Rattle.command.specs.declared.components.InsertComponent.{InsertComponent}
use Rattle.command.specs.declared.insert.SpliceMode.{SpliceMode}
use Rattle.command.proofs.InsertTells.{Flagged}

-- ---- the bytes
abbrev pub component_bytes : InsertComponent → ℕ
component_bytes c = 1 + time_size c.splice_time

abbrev pub mode_bytes : SpliceMode → List InsertComponent → ℕ
mode_bytes (SpliceMode.Program t) cs = time_size t
mode_bytes (SpliceMode.Components n) cs = 1 + total component_bytes cs

-- ---- what the canonical form asks holds of x
pub leads_must : {X : Type 0} (b : Bool) (t : Table X) (x y : X) (at a m : ℕ) → b ≡ true → Leads t x y at a m → Leads (must b t) x y at a m
leads_must b t x y at a m e h = (h.0, rw e h.1, h.2, h.3)

-- ---- times and components
time_unless_leads : (t : SpliceTime) (at m : ℕ) → Leads (time_unless (immediate t)) t t at (at + time_size t * 8) m
unfolding time_unless
time_unless_leads Immediate at m = leads_done Immediate _ _ _ _ m refl (omega arith)
time_unless_leads Unspecified at m = time_leads Unspecified at m refl
time_unless_leads (At t) at m = time_leads (At t) at m refl

component_leads : (b : Bool) (c : InsertComponent) → immediate c.splice_time ≡ b → (at m : ℕ) → Leads (component b) c c at (at + component_bytes c * 8) m
unfolding component
component_leads b c e at m =
    rw (← e)
    (leads_number 8 _ _ _ _ at _ m
    (leads_in (time_unless (immediate c.splice_time)) _ _ _ _ c.splice_time (at + 8) (at + 8 + time_size c.splice_time * 8) _ m
    (time_unless_leads c.splice_time (at + 8) _)
    (leads_done c _ _ _ _ m refl (omega arith))))

alike_flagged : (b : Bool) (cs : List InsertComponent) → alike b cs ≡ true → Flagged b cs
alike_flagged b [] e = tt
alike_flagged true (c ∷ cs) e = let a = and_true (immediate c.splice_time) _ e in (a.0, alike_flagged true cs a.1)
alike_flagged false (c ∷ cs) e = let a = and_true (not (immediate c.splice_time)) _ e in (clear (immediate c.splice_time) a.0, alike_flagged false cs a.1)
  where
    clear : (b : Bool) → not b ≡ true → b ≡ false
    clear true e = zero_one cc
    clear false e = refl

list_leads : (b : Bool) (cs : List InsertComponent) → Flagged b cs → (at m : ℕ) → Leads (list (length cs) blank (component b)) cs cs at (at + total component_bytes cs * 8) m
list_leads b cs h at m = rw (all cs) at (leads_list blank (component b) (λ c. component_bytes c * 8) cs (each cs h) at m)
  where
    each : (cs : List InsertComponent) → Flagged b cs → Each (λ c. (at m : ℕ) → Leads (component b) c c at (at + component_bytes c * 8) m) cs
    each [] h = tt
    each (c ∷ cs) h = (component_leads b c h.0, each cs h.1)

    all : (cs : List InsertComponent) → total (λ (c : InsertComponent). component_bytes c * 8) cs ≡ total component_bytes cs * 8
    all [] = refl
    all (c ∷ cs) = let z = all cs in omega arith

components_lead : (b : Bool) (cs : List InsertComponent) (at m : ℕ) → Flagged b cs → pick b (ltb 0 (length cs)) true ≡ true
    → (let x : WithComponents SpliceMode = record { value = SpliceMode.Components (length cs); components = cs } in
    Leads (moded false b) x x at (at + (1 + total component_bytes cs) * 8) m)
unfolding moded
components_lead b cs at m h e =
    let x : WithComponents SpliceMode = record { value = SpliceMode.Components (length cs); components = cs } in
    let all : Table (List InsertComponent) = list (length cs) blank (component b) in
    let k : List InsertComponent → Table (WithComponents SpliceMode) = λ ys. done (record { value = SpliceMode.Components (length cs); components = ys }) in
    let q : WithComponents SpliceMode → List InsertComponent = λ y. y.components in
    let a = at + (1 + total component_bytes cs) * 8 in
    let z = at + 8 + total component_bytes cs * 8 in
    let f : z ≡ a = omega arith in
    leads_number 8 _ _ x x at a m
    (leads_must (pick b (ltb 0 (length cs)) true) (inside all q k) x x (at + 8) a m e
    (leads_in all q k x x cs (at + 8) z a m (list_leads b cs h (at + 8) (a - z + m)) (leads_done x x x z a m refl f)))

either : (b : Bool) → pick b true true ≡ true
either true = refl
either false = refl

-- ---- the mode
pub moded_leads : (k : SpliceMode) (cs : List InsertComponent) (at m : ℕ) → length cs ≡ count k → unmixed cs ≡ true
    → (let x : WithComponents SpliceMode = record { value = k; components = cs } in
    Leads (moded (by_program k) (all_immediate x)) x x at (at + mode_bytes k cs * 8) m)
unfolding moded
moded_leads (SpliceMode.Program t) [] at m e f =
    leads_in (time_unless (immediate t)) _ _ _ _ t at (at + time_size t * 8) _ m (time_unless_leads t at _)
    (leads_done (record { value = SpliceMode.Program t; components = [] }) _ _ _ _ m refl refl)
moded_leads (SpliceMode.Program t) (c ∷ cs) at m e f = absurd (omega arith)
moded_leads (SpliceMode.Components n) [] at m e f = rw (← e) (components_lead false [] at m tt refl)
moded_leads (SpliceMode.Components n) (c ∷ cs) at m e f =
    let b = immediate c.splice_time in
    let l : ltb 0 (length (c ∷ cs)) ≡ true = lt-ltb 0 (length (c ∷ cs)) (omega arith) in
    rw (← e, l) (components_lead b (c ∷ cs) at m (alike_flagged b (c ∷ cs) f) (rw l (either b)))
