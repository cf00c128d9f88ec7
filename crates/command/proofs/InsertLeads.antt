-- An insert's own fields lead to that insert.
use Prim.Native.Nat.{ℕ, ◌+◌, ◌*◌, ◌-◌}
use mathlib.Core.Bool.{true}
use mathlib.Core.List.{List, [], ◌∷◌}
use mathlib.Core.Path.{◌≡◌, refl}
use native.Mathlib.Omega.{arith}
use lib.Dec.{eqb}
use lib.ListN.{length}
use Rattle.names.specs.declared.flags.NetworkIndicator.{NetworkIndicator}
use Rattle.table.specs.Bits.{pick}
use Rattle.table.specs.Table.{Table, done, inside}
use Rattle.table.proofs.Leading.{Leads, leads_in, leads_done, leads_number, leads_flag, leads_ones}
use Rattle.table.proofs.Lists.{and_true}
use Rattle.splice_time.specs.Break.{lasting, break_duration}
use Rattle.splice_time.proofs.Breaks.{break_bytes, break_leads}
use Rattle.command.specs.Writable.{unmixed, writable_insert}
use Rattle.command.specs.Insert.{
  WithComponents,
  by_program,
  count,
  all_immediate,
  moded,
  out_of_network,
  mode_of,
  ending,
  active,
  insert_of,
  active_of,
  insert,
}
use Rattle.command.specs.declared.components.InsertComponent.{InsertComponent}
use Rattle.command.specs.declared.insert.InsertDetail.{InsertDetail}
use Rattle.command.specs.declared.insert.SpliceInsert.{SpliceInsert}
use Rattle.command.specs.declared.insert.SpliceDetail.{SpliceDetail}
use Rattle.command.proofs.ModeLeads.{mode_bytes, leads_must, moded_leads}

-- ---- the bytes
abbrev pub active_bytes : InsertDetail → List InsertComponent → ℕ
active_bytes i cs = 1 + mode_bytes i.splice_mode cs + break_bytes i.duration + 4

abbrev pub detail_bytes : SpliceDetail → List InsertComponent → ℕ
detail_bytes SpliceDetail.Cancel cs = 0
detail_bytes (SpliceDetail.Insert i) cs = active_bytes i cs

abbrev pub insert_bytes : WithComponents SpliceInsert → ℕ
insert_bytes x = 5 + detail_bytes x.value.splice_detail x.components

-- ---- from the duration on
network_again : (n : NetworkIndicator) → pick (out_of_network n) NetworkIndicator.Out NetworkIndicator.In ≡ n
network_again NetworkIndicator.Out = refl
network_again NetworkIndicator.In = refl

ending_leads : (x : WithComponents InsertDetail) (at m : ℕ)
    → Leads (ending (out_of_network x.value.network_indicator) (mode_of x) (lasting x.value.duration)) x x at (at + (break_bytes x.value.duration + 4) * 8) m
unfolding ending
ending_leads x at m =
    let b = at + break_bytes x.value.duration * 8 in
    leads_in (break_duration (lasting x.value.duration)) _ _ _ _ x.value.duration at b _ m
    (break_leads x.value.duration at _)
    (leads_number 16 _ _ _ _ b _ m
    (leads_number 8 _ _ _ _ (b + 16) _ m
    (leads_number 8 _ _ _ _ (b + 16 + 8) _ m
    (leads_done x _ _ _ _ m (rw (network_again x.value.network_indicator)) (omega arith)))))

-- ---- an insert
active_leads : (x : WithComponents InsertDetail) (at m : ℕ) → length x.components ≡ count x.value.splice_mode → unmixed x.components ≡ true
    → Leads active x x at (at + active_bytes x.value x.components * 8) m
unfolding active
active_leads x at m e f =
    let k = mode_bytes x.value.splice_mode x.components in
    let b = at + 1 + 1 + 1 + 1 + 4 in
    let z : b + k * 8 + (break_bytes x.value.duration + 4) * 8 ≡ at + active_bytes x.value x.components * 8 = omega arith in
    rw (← z)
    (leads_flag _ _ _ _ at _ m
    (leads_flag _ _ _ _ (at + 1) _ m
    (leads_flag _ _ _ _ (at + 1 + 1) _ m
    (leads_flag _ _ _ _ (at + 1 + 1 + 1) _ m
    (leads_ones 4 _ _ _ (at + 1 + 1 + 1 + 1) _ m
    (leads_in (moded (by_program x.value.splice_mode) (all_immediate (mode_of x))) mode_of _ _ _ (mode_of x) b (b + k * 8) _ m
    (moded_leads x.value.splice_mode x.components b _ e f)
    (ending_leads x (b + k * 8) m)))))))

insert_leads : (event kept : ℕ) (d : SpliceDetail) (cs : List InsertComponent) (m : ℕ) → length cs ≡ count (insert_of d).splice_mode → eqb kept 127 ≡ true → unmixed cs ≡ true
    → (let x : WithComponents SpliceInsert = record { value = record { splice_event_id = event; reserved = kept; splice_detail = d }; components = cs } in
    Leads insert x x 0 ((5 + detail_bytes d cs) * 8) m)
unfolding insert
insert_leads event kept SpliceDetail.Cancel [] m e k f =
    let x : WithComponents SpliceInsert = record { value = record { splice_event_id = event; reserved = kept; splice_detail = SpliceDetail.Cancel }; components = [] } in
    leads_number 32 _ _ x x 0 40 m
    (leads_flag _ _ x x 32 40 m
    (leads_number 7 _ _ x x 33 40 m
    (leads_must (eqb kept 127) (done x) x x 40 40 m k (leads_done x x x 40 40 m refl refl))))
insert_leads event kept SpliceDetail.Cancel (c ∷ cs) m e k f = absurd (omega arith)
insert_leads event kept (SpliceDetail.Insert i) cs m e k f =
    let x : WithComponents SpliceInsert = record { value = record { splice_event_id = event; reserved = kept; splice_detail = SpliceDetail.Insert i }; components = cs } in
    let y : WithComponents InsertDetail = record { value = i; components = cs } in
    let g : WithComponents InsertDetail → Table (WithComponents SpliceInsert) =
    λ u. done (record { value = record { splice_event_id = event; reserved = kept; splice_detail = SpliceDetail.Insert u.value }; components = u.components }) in
    let a = (5 + active_bytes i cs) * 8 in
    let z = 40 + active_bytes i cs * 8 in
    let w : z ≡ a = omega arith in
    leads_number 32 _ _ x x 0 a m
    (leads_flag _ _ x x 32 a m
    (leads_number 7 _ _ x x 33 a m
    (leads_must (eqb kept 127) (inside active active_of g) x x 40 a m k
    (leads_in active active_of g x x y 40 z a m (active_leads y 40 (a - z + m) e f) (leads_done x x x z a m refl w)))))

-- as many components as the mode says; none where the insert is cancelled
abbrev pub Counted : WithComponents SpliceInsert → Type 0
Counted x = length x.components ≡ count (active_of x).value.splice_mode

pub insert_ends : (x : WithComponents SpliceInsert) (m : ℕ) → Counted x → writable_insert x ≡ true → Leads insert x x 0 (insert_bytes x * 8) m
unfolding writable_insert
insert_ends x m h f =
    let a = and_true (eqb x.value.reserved 127) _ f in
    insert_leads x.value.splice_event_id x.value.reserved x.value.splice_detail x.components m h a.0 a.1
