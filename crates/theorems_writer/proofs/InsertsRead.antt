-- What an insert that was read has: as many components as its mode says, and times of 33 bits.
use Prim.Native.Nat.{ℕ, zero, suc, ◌+◌, ◌^◌, ◌<◌}
use mathlib.Core.Bool.{Bool, true, false}
use mathlib.Core.List.{List, [], ◌∷◌}
use mathlib.Core.Path.{◌≡◌, refl, ap, sym}
use native.Mathlib.Omega.{arith}
use lib.Dec.{eqb}
use lib.ListN.{length}
use borrow.Author.Tests.{lt-ltb}
use Rattle.command.proofs.InsertLeads.{Counted}
use Rattle.command.specs.Insert.{WithComponents, time_unless, component, blank, moded, count, ending, active, active_of, insert}
use Rattle.splice_time.specs.Break.{break_duration}
use Rattle.command.specs.declared.components.InsertComponent.{InsertComponent}
use Rattle.command.specs.declared.insert.InsertDetail.{InsertDetail}
use Rattle.command.specs.declared.insert.SpliceInsert.{SpliceInsert}
use Rattle.command.specs.declared.insert.SpliceDetail.{SpliceDetail}
use Rattle.command.specs.declared.insert.SpliceMode.{SpliceMode}
use Rattle.command_measure.specs.Made.{times_fit}
use Rattle.splice_time.specs.Time.{splice_time, ticks}
use Rattle.splice_time.specs.declared.SpliceTime.{SpliceTime}
use Rattle.splice_time.specs.declared.SpliceTime.TheVariants.{Immediate, Unspecified, At}
use Rattle.table.proofs.Reading.{field_lt}
use Rattle.table.proofs.Steps.{reads_in, reads_number, reads_flag, reads_ones}
use Rattle.table.specs.Bits.{pick, bits_of, field}
use Rattle.table.specs.Table.{done, inside, uimsbf, ones, list, got, parse}

pub got_same : {X : Type 0} {x y : X} {m n : ℕ} → got x m ≡ got y n → x ≡ y
got_same e = cc

carried : {a b : SpliceMode} {cs ds : List InsertComponent} → a ≡ b → cs ≡ ds → (length ds ≡ count b) × (times_fit ds ≡ true) → (length cs ≡ count a) × (times_fit cs ≡ true)
carried e f h = rw (e, f) h

module _ (s : List ℕ) where
  pub time_fits : (at : ℕ) (t : SpliceTime) (m : ℕ) → parse splice_time (bits_of s) at ≡ got t m → ticks t < 2 ^ 33
  unfolding splice_time
  time_fits at t m e = go (eqb (field (bits_of s) at 1) 1) (reads_flag s at _ _ t m e).1
    where
      go : (b : Bool) → parse (pick b (ones 6 (uimsbf 33 ticks λ v. done (At v))) (ones 7 (done Unspecified))) (bits_of s) (at + 1) ≡ got t m → ticks t < 2 ^ 33
      go true f =
          let r = (reads_number s (at + 1 + 6) 33 ticks (λ v. done (At v)) t m (reads_ones s (at + 1) 6 _ t m f).1).1 in
          let z : t ≡ At (field (bits_of s) (at + 1 + 6) 33) = cc in
          rw z (field_lt s (at + 1 + 6) 33)
      go false f =
          let r = (reads_ones s (at + 1) 7 (done Unspecified) t m f).1 in
          let z : t ≡ Unspecified = cc in
          rw z (omega arith)

  pub unless_fits : (b : Bool) (at : ℕ) (t : SpliceTime) (m : ℕ) → parse (time_unless b) (bits_of s) at ≡ got t m → ticks t < 2 ^ 33
  unfolding time_unless
  unless_fits true at t m e = let z : t ≡ Immediate = cc in rw z (omega arith)
  unless_fits false at t m e = time_fits at t m e

  component_fits : (b : Bool) (at : ℕ) (c : InsertComponent) (m : ℕ) → parse (component b) (bits_of s) at ≡ got c m → ticks c.splice_time < 2 ^ 33
  unfolding component
  component_fits b at c m e =
      let r = reads_in (time_unless b) _ _ (bits_of s) (at + 8) c m (reads_number s at 8 _ _ c m e).1 in
      let back = r.back in
      let z : c.splice_time ≡ r.inner = cc in
      rw z (unless_fits b (at + 8) r.inner r.seam r.front)

  -- as many as the list says, each with a time that fits
  list_has : (b : Bool) (n at : ℕ) (cs : List InsertComponent) (m : ℕ) → parse (list n blank (component b)) (bits_of s) at ≡ got cs m → (length cs ≡ n) × (times_fit cs ≡ true)
  unfolding list
  list_has b zero at cs m e = let z : cs ≡ [] = cc in rw z (refl, refl)
  list_has b (suc n) at cs m e =
      let r = reads_in (component b) _ _ (bits_of s) at cs m e in
      let q = reads_in (list n blank (component b)) _ _ (bits_of s) r.seam cs m r.back in
      let back = q.back in
      let z : cs ≡ r.inner ∷ q.inner = cc in
      let i = list_has b n r.seam q.inner q.seam q.front in
      rw (z, lt-ltb (ticks r.inner.splice_time) (2 ^ 33) (component_fits b at r.inner r.seam r.front), i.1) (ap suc i.0, refl)

  abbrev Has : WithComponents SpliceMode → Type 0
  Has x = (length x.components ≡ count x.value) × (times_fit x.components ≡ true)

  moded_has : (p b : Bool) (at : ℕ) (x : WithComponents SpliceMode) (m : ℕ) → parse (moded p b) (bits_of s) at ≡ got x m → Has x
  unfolding moded
  moded_has true b at x m e =
      let r = reads_in (time_unless b) _ _ (bits_of s) at x m e in
      let back = r.back in
      let z : x ≡ record { value = SpliceMode.Program r.inner; components = [] } = cc in
      rw z (refl, refl)
  moded_has false b at x m e =
      let n = field (bits_of s) at 8 in
      let r = reads_in (list n blank (component b)) _ _ (bits_of s) (at + 8) x m (reads_number s at 8 _ _ x m e).1 in
      let back = r.back in
      let z : x ≡ record { value = SpliceMode.Components n; components = r.inner } = cc in
      rw z (list_has b n (at + 8) r.inner r.seam r.front)

  -- what follows the mode keeps it
  ending_keeps : (out : Bool) (x : WithComponents SpliceMode) (d : Bool) (at : ℕ) (y : WithComponents InsertDetail) (m : ℕ) → parse (ending out x d) (bits_of s) at ≡ got y m
      → (y.value.splice_mode ≡ x.value) × (y.components ≡ x.components)
  unfolding ending
  ending_keeps out x d at y m e =
      let r = reads_in (break_duration d) _ _ (bits_of s) at y m e in
      let a = (reads_number s r.seam 16 _ _ y m r.back).1 in
      let b = (reads_number s (r.seam + 16) 8 _ _ y m a).1 in
      let c = got_same (reads_number s (r.seam + 16 + 8) 8 _ _ y m b).1 in
      (sym (ap (λ (w : WithComponents InsertDetail). w.value.splice_mode) c), sym (ap (λ (w : WithComponents InsertDetail). w.components) c))

  active_has : (at : ℕ) (y : WithComponents InsertDetail) (m : ℕ) → parse active (bits_of s) at ≡ got y m → (length y.components ≡ count y.value.splice_mode) × (times_fit y.components ≡ true)
  unfolding active
  active_has at y m e =
      let a = (reads_flag s at _ _ y m e).1 in
      let b = (reads_flag s (at + 1) _ _ y m a).1 in
      let c = (reads_flag s (at + 1 + 1) _ _ y m b).1 in
      let d = (reads_flag s (at + 1 + 1 + 1) _ _ y m c).1 in
      let f = (reads_ones s (at + 1 + 1 + 1 + 1) 4 _ y m d).1 in
      let r = reads_in (moded (eqb (field (bits_of s) (at + 1) 1) 1) (eqb (field (bits_of s) (at + 1 + 1 + 1) 1) 1)) _ _ (bits_of s) (at + 1 + 1 + 1 + 1 + 4) y m f in
      let k = ending_keeps _ r.inner _ r.seam y m r.back in
      carried k.0 k.1 (moded_has _ _ (at + 1 + 1 + 1 + 1 + 4) r.inner r.seam r.front)

  pub insert_has : (x : WithComponents SpliceInsert) (m : ℕ) → parse insert (bits_of s) 0 ≡ got x m → Counted x × (times_fit x.components ≡ true)
  unfolding insert
  insert_has x m e =
      let a = (reads_number s 0 32 _ _ x m e).1 in
      let b = (reads_flag s 32 _ _ x m a).1 in
      let c = (reads_number s 33 7 _ _ x m b).1 in
      go (eqb (field (bits_of s) 32 1) 1) (field (bits_of s) 0 32) (field (bits_of s) 33 7) c
    where
      go : (cancel : Bool) (id kept : ℕ) → parse (pick cancel
          (done (record { value = record { splice_event_id = id; reserved = kept; splice_detail = SpliceDetail.Cancel }; components = [] }))
          (inside active active_of λ a. done (record { value = record { splice_event_id = id; reserved = kept; splice_detail = SpliceDetail.Insert a.value }; components = a.components }))) (bits_of s) 40 ≡ got x m
          → Counted x × (times_fit x.components ≡ true)
      go true id kept f =
          let z : x ≡ record { value = record { splice_event_id = id; reserved = kept; splice_detail = SpliceDetail.Cancel }; components = [] } = cc in
          rw z (refl, refl)
      go false id kept f =
          let r = reads_in active active_of _ (bits_of s) 40 x m f in
          let back = r.back in
          let z : x ≡ record { value = record { splice_event_id = id; reserved = kept; splice_detail = SpliceDetail.Insert r.inner.value }; components = r.inner.components } = cc in
          rw z (active_has 40 r.inner r.seam r.front)
