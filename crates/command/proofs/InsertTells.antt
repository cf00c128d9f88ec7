-- The table of an insert tells its fields: each is found again in a reading, which a writer accepts.
use Prim.Native.Nat.{ℕ, zero, suc, ◌+◌, ◌%◌}
use mathlib.Core.Bool.{Bool, true, false, ◌&&◌}
use mathlib.Core.List.{List, [], ◌∷◌}
use mathlib.Core.Path.{◌≡◌, refl, ap, sym, ◌∙◌}
use native.Mathlib.Omega.{arith}
use lib.Dec.{ltb}
use lib.ListN.{length, get_or}
use borrow.Author.Tests.{lt-ltb}
use Rattle.splice_time.specs.Break.{lasting, break_duration}
use Rattle.splice_time.specs.Time.{splice_time, not_immediate}
use Rattle.splice_time.specs.declared.SpliceTime.{SpliceTime}
use Rattle.splice_time.specs.declared.SpliceTime.TheVariants.{Immediate, Unspecified, At}
use Rattle.splice_time.proofs.Breaks.{break_tells}
use Rattle.splice_time.proofs.Times.{time_tells}
use Rattle.names.specs.declared.flags.NetworkIndicator.{NetworkIndicator}
use Rattle.table.specs.Bits.{pick}
use Rattle.table.specs.Table.{list}
use Rattle.table.proofs.Laws.{Tells}
use Rattle.table.proofs.Lists.{zero_one}
use Rattle.table.proofs.Telling.{Each, tells_mono, tells_in, tells_number, tells_flag, tells_pick, tells_ones, tells_list}
use Rattle.command.specs.Writable.{alike, unmixed, writable_insert}
use Rattle.command.specs.Insert.{
  WithComponents,
  immediate,
  time_unless,
  component,
  blank,
  by_program,
  all_immediate,
  moded,
  out_of_network,
  mode_of,
  ending,
  active,
  active_of,
  insert,
}
use Rattle.command.specs.declared.components.InsertComponent.{InsertComponent}
use Rattle.command.specs.declared.insert.SpliceMode.{SpliceMode}

-- ---- times and components
untimed : (t : SpliceTime) → not_immediate t ≡ true → immediate t ≡ false
untimed Immediate e = zero_one cc
untimed Unspecified e = refl
untimed (At t) e = refl

time_unless_tells : (b : Bool) (at : ℕ) → at % 8 ≡ 0 → Tells (time_unless b) at (λ a y. (a % 8 ≡ 0) × (immediate y ≡ b))
unfolding time_unless
time_unless_tells true at e = (e, refl)
time_unless_tells false at e = tells_mono splice_time at _ _ (λ a y g. (g.0, untimed y g.1)) (time_tells at e)

component_tells : (b : Bool) (at : ℕ) → at % 8 ≡ 0 → Tells (component b) at (λ a y. (a % 8 ≡ 0) × (immediate y.splice_time ≡ b))
unfolding component
component_tells b at e =
    tells_number 8 _ _ at _ λ tag h.
    tells_in (time_unless b) _ _ (at + 8) _ _ (time_unless_tells b (at + 8) (omega arith)) (λ a t g. ((g, refl), refl))

-- all of them are immediate by the flag b, or timed
abbrev pub Flagged : Bool → List InsertComponent → Type 0
Flagged b cs = Each (λ (c : InsertComponent). immediate c.splice_time ≡ b) cs

flagged_alike : (b : Bool) (cs : List InsertComponent) → Flagged b cs → alike b cs ≡ true
flagged_alike b [] h = refl
flagged_alike true (c ∷ cs) h = rw h.0 (flagged_alike true cs h.1)
flagged_alike false (c ∷ cs) h = rw h.0 (flagged_alike false cs h.1)

flagged_unmixed : (b : Bool) (cs : List InsertComponent) → Flagged b cs → unmixed cs ≡ true
flagged_unmixed b [] h = refl
flagged_unmixed b (c ∷ cs) h = ap (λ (i : Bool). alike i (c ∷ cs)) h.0 ∙ flagged_alike b (c ∷ cs) h

-- the flag is found again: with no component the canonical form has it clear
flag_again : (b : Bool) (n : ℕ) (cs : List InsertComponent) → pick b (ltb 0 n) true ≡ true → length cs ≡ n → Flagged b cs → ltb 0 n && immediate (get_or cs 0 blank).splice_time ≡ b
flag_again true zero cs q e h = zero_one cc
flag_again false zero cs q e h = refl
flag_again b (suc n) [] q e h = absurd (omega arith)
flag_again b (suc n) (c ∷ cs) q e h = rw (lt-ltb 0 (suc n) (omega arith)) h.0

-- ---- the mode
moded_tells : (p b : Bool) (at : ℕ) → at % 8 ≡ 0
    → Tells (moded p b) at (λ a y. (a % 8 ≡ 0) × (unmixed y.components ≡ true) × (by_program y.value ≡ p) × (all_immediate y ≡ b))
unfolding moded
moded_tells true b at e = tells_in (time_unless b) _ _ at _ _ (time_unless_tells b at e) (λ a t g. ((g.0, refl, refl, g.1), refl))
moded_tells false b at e =
    tells_number 8 _ _ at _ λ n h. λ q.
    tells_in (list n blank (component b)) _ _ (at + 8) _ _
    (tells_list n blank (component b) (λ c. immediate c.splice_time ≡ b) (component_tells b) (at + 8) (omega arith))
    (λ a cs g. (((g.0, flagged_unmixed b cs g.2, refl, flag_again b n cs q g.1 g.2), refl), refl))

-- ---- from the duration on
out_again : (b : Bool) → out_of_network (pick b NetworkIndicator.Out NetworkIndicator.In) ≡ b
out_again true = refl
out_again false = refl

ending_tells : (out : Bool) (m : WithComponents SpliceMode) (b : Bool) (at : ℕ) → at % 8 ≡ 0
    → Tells (ending out m b) at (λ a y. (a % 8 ≡ 0) × (mode_of y ≡ m) × (out_of_network y.value.network_indicator ≡ out) × (lasting y.value.duration ≡ b))
unfolding ending
ending_tells out m b at e =
    tells_in (break_duration b) _ _ at _ _ (break_tells b at e) (λ a d g.
    tells_number 16 _ _ a _ λ id h₁.
    tells_number 8 _ _ (a + 16) _ λ avail h₂.
    tells_number 8 _ _ (a + 16 + 8) _ λ expected h₃.
    let z : (a + 16 + 8 + 8) % 8 ≡ 0 = omega (arith, g.0) in
    (((((z, refl, out_again out, g.1), refl), refl), refl), refl))

-- ---- an insert
active_tells : (at : ℕ) → at % 8 ≡ 0 → Tells active at (λ a y. (a % 8 ≡ 0) × (unmixed y.components ≡ true))
unfolding active
active_tells at e =
    tells_flag _ _ at _ λ out.
    tells_flag _ _ (at + 1) _ λ p.
    tells_flag _ _ (at + 1 + 1) _ λ d.
    tells_flag _ _ (at + 1 + 1 + 1) _ λ b.
    tells_ones 4 _ (at + 1 + 1 + 1 + 1) _
    (tells_in (moded p b) mode_of _ (at + 1 + 1 + 1 + 1 + 4) _ _ (moded_tells p b (at + 1 + 1 + 1 + 1 + 4) (omega arith)) (λ a m g.
    tells_mono (ending out m d) a _ _ (λ c y h.
    let k : mode_of y ≡ m = h.1 in (
      (
        (
          (
            ((h.0, ap (λ (m : WithComponents SpliceMode). unmixed m.components) k ∙ g.1), h.2),
            ap (λ (m : WithComponents SpliceMode). by_program m.value) k ∙ g.2,
          ),
          h.3,
        ),
        ap all_immediate k ∙ g.3,
      ),
      k,
    ))
    (ending_tells out m d a g.0)))

pub insert_tells : Tells insert 0 (λ a y. (a % 8 ≡ 0) × (writable_insert y ≡ true))
unfolding insert writable_insert
insert_tells =
    tells_number 32 _ _ 0 _ λ event h₁.
    tells_flag _ _ 32 _ λ cancel.
    tells_number 7 _ _ 33 _ λ kept h₂. λ k.
    tells_pick cancel _ _ 40 _ (λ t. ((((refl, rw k), refl), sym t), refl))
    (λ f. tells_in active active_of _ 40 _ _ (active_tells 40 refl) (λ a y g. (((((g.0, rw (k, g.1)), refl), sym f), refl), refl)))
