-- The walks of the readers of an insert, by bytes. s are the bytes, i the place of the first.
use Prim.Native.Nat.{ℕ, zero, suc, ◌+◌, ◌*◌, ◌-◌, ◌/◌, ◌%◌, ◌^◌, ◌<◌, ◌≤◌}
use mathlib.Core.Bool.{Bool, true, false}
use mathlib.Core.List.{List, [], ◌∷◌}
use mathlib.Core.Path.{◌≡◌, refl, ap, sym, ◌∙◌}
use native.Mathlib.Omega.{arith}
use lib.Dec.{eqb}
use lib.ListN.{length, get_or}
use Rattle.table.proofs.Reading.{first_bit}
use Rattle.splice_time.specs.Break.{break_duration, break_read}
use Rattle.splice_time.specs.Time.{splice_time, time_read}
use Rattle.splice_time.specs.declared.SpliceTime.{SpliceTime}
use Rattle.splice_time.specs.declared.SpliceTime.TheVariants.{Immediate}
use Rattle.splice_time.specs.declared.break_duration.SpliceDuration.{SpliceDuration}
use Rattle.splice_time.proofs.Breaks.{lacks_break, break_there, break_within}
use Rattle.splice_time.proofs.Times.{timed_got, timed_lacks}
use Rattle.names.specs.declared.flags.NetworkIndicator.{NetworkIndicator}
use Rattle.table.specs.Bits.{pick, bits_of, field}
use Rattle.table.specs.Cursor.{place, cursor_at}
use Rattle.table.specs.Table.{done, inside, list, Answer, got, short, parse}
use Rattle.table.specs.declared.cursor.Cursor.{Cursor}
use Rattle.table.specs.declared.cursor.Field.{Field}
use Rattle.table.specs.declared.cursor.Short.{Short}
use Rattle.table.proofs.Bits.{length_bits}
use Rattle.table.proofs.Fields.{byte_field, field_in}
use Rattle.table.proofs.Steps.{takes_in, lacks_in, takes_number, lacks_number, takes_flag, lacks_flag, takes_ones, parse_bound, onward, list_turn, list_short, list_none}
use Rattle.command.specs.Insert.{WithComponents, time_unless, component, blank, moded, ending, active, active_of, insert, mode_of}
use Rattle.command.specs.Private.{component_read, skimmed_of, moded_read, active_read, insert_read}
use Rattle.command.specs.declared.components.InsertComponent.{InsertComponent}
use Rattle.command.specs.declared.insert.InsertDetail.{InsertDetail}
use Rattle.command.specs.declared.insert.SpliceDetail.{SpliceDetail}
use Rattle.command.specs.declared.insert.SpliceMode.{SpliceMode}
use Rattle.command.proofs.Answers.{component_got, component_lacks, got_component, lacks_component, skim_got, skim_lacks, got_skim, lacks_skim, mode_got, mode_lacks, Modes, got_mode, lacks_mode, active_got, active_lacks, got_active, lacks_active, insert_got, insert_lacks}
use Rattle.command.proofs.Alignments.{aligned_time_unless, aligned_component, aligned_list, aligned_mode}
use Rattle.std.proofs.Common.{Ok, Err, Option, Result}

-- a byte's first bit is where a byte begins
begins : (i : ℕ) → i * 8 % 8 ≡ 0
begins i = omega arith

next_byte : (i : ℕ) → (i + 1) * 8 ≡ i * 8 + 8
next_byte i = omega arith

-- the bit of a byte f that has j bits before it and k after it
module _ (s : List ℕ) (i f : ℕ) (there : i < length s) (is : f ≡ get_or s i 0) (byte : f < 256) where
  one_bit : (j k at : ℕ) → at ≡ i * 8 + j → j + 1 + k ≡ 8 → field (bits_of s) at 1 ≡ f / 2 ^ k % 2
  one_bit j k at e h = ap (λ (p : ℕ). field (bits_of s) p 1) e ∙ field_in s i there (rw is at byte) j 1 k h ∙ ap (λ (x : ℕ). x / 2 ^ k % 2) (sym is)

-- ---- a splice_time unless immediate
pub at_once : (s : List ℕ) (i : ℕ) → Ok (record { value = Immediate; next = record { byte = i; bit = 0 } }) ≡ time_read (parse (time_unless true) (bits_of s) (i * 8))
unfolding time_unless time_read cursor_at
at_once s i =
    let b : i * 8 / 8 ≡ i = omega arith in
    rw (b, begins i)

pub at_a_time : (s : List ℕ) (i : ℕ) (r : Result (Field SpliceTime Cursor) Short) → r ≡ time_read (parse splice_time (bits_of s) (i * 8)) → r ≡ time_read (parse (time_unless false) (bits_of s) (i * 8))
unfolding time_unless
at_a_time s i r e = e

-- one that was read, and the byte after it
timed : (s : List ℕ) (b : Bool) (i : ℕ) (t : Field SpliceTime Cursor) → Ok t ≡ time_read (parse (time_unless b) (bits_of s) (i * 8)) → parse (time_unless b) (bits_of s) (i * 8) ≡ got t.value (t.next.byte * 8)
unfolding cursor_at
timed s b i t e =
    let g = timed_got (parse (time_unless b) (bits_of s) (i * 8)) t e in
    let w : place t.next % 8 ≡ 0 = aligned_time_unless s b (i * 8) (begins i) _ _ g.0 in
    let d : place t.next / 8 ≡ t.next.byte = ap (λ (c : Cursor). c.byte) g.1 in
    let z : place t.next ≡ t.next.byte * 8 = omega (arith, w, d) in
    g.0 ∙ ap (got t.value) z

-- ---- a component
module _ (s : List ℕ) (i : ℕ) (b : Bool) where
  pub no_tag : length s ≤ i → Err (record { expected = 1; actual = 0 }) ≡ component_read (parse (component b) (bits_of s) (i * 8))
  unfolding component
  no_tag h =
      let z : (length s * 8 - i * 8) / 8 ≡ 0 = omega arith in
      component_lacks _ _ (lacks_number s (i * 8) 8 _ _ (omega arith) ∙ ap (short 1) z)

  module _ (there : i < length s) (byte : get_or s i 0 < 256) where
    pub no_splice_time : (x : Short) → Err x ≡ time_read (parse (time_unless b) (bits_of s) ((i + 1) * 8)) → Err x ≡ component_read (parse (component b) (bits_of s) (i * 8))
    unfolding component
    no_splice_time x e =
        component_lacks _ x (takes_number s (i * 8) 8 (get_or s i 0) _ _ (omega arith) (sym (byte_field s i there byte))
        ∙ lacks_in (time_unless b) _ _ (bits_of s) _ _ _ (rw next_byte at (timed_lacks _ x e)))

    pub a_component : (t : Field SpliceTime Cursor) → Ok t ≡ time_read (parse (time_unless b) (bits_of s) ((i + 1) * 8))
        → Ok (record { value = record { component_tag = get_or s i 0; splice_time = t.value }; next = t.next.byte }) ≡ component_read (parse (component b) (bits_of s) (i * 8))
    unfolding component
    a_component t e =
        component_got _ _ t.next.byte (takes_number s (i * 8) 8 (get_or s i 0) _ _ (omega arith) (sym (byte_field s i there byte))
        ∙ takes_in (time_unless b) _ _ (bits_of s) _ _ _ (rw next_byte at (timed s b (i + 1) t e)))

-- ---- components
skim_on : (bs : List ℕ) (y : InsertComponent) (r : Answer (List InsertComponent)) → skimmed_of (onward bs (λ ys. done (y ∷ ys)) r) ≡ skimmed_of r
unfolding skimmed_of
skim_on bs y (got ys m) = refl
skim_on bs y (short e a) = refl

module _ (s : List ℕ) (b : Bool) where
  -- a component that was read, and the byte after it
  pub component_there : (i : ℕ) (y : Field InsertComponent ℕ) → Ok y ≡ component_read (parse (component b) (bits_of s) (i * 8)) → parse (component b) (bits_of s) (i * 8) ≡ got y.value (y.next * 8)
  component_there i y e = got_component _ y (aligned_component s b (i * 8) (begins i)) e

  -- what is left gives what the whole gives
  pub turn : (n i : ℕ) (y : Field InsertComponent ℕ) → Ok y ≡ component_read (parse (component b) (bits_of s) (i * 8))
      → skimmed_of (parse (list n blank (component b)) (bits_of s) (y.next * 8)) ≡ skimmed_of (parse (list (suc n) blank (component b)) (bits_of s) (i * 8))
  turn n i y e =
      sym (ap skimmed_of (list_turn n blank (component b) (bits_of s) (i * 8) y.value (y.next * 8) (component_there i y e))
      ∙ skim_on (bits_of s) y.value (parse (list n blank (component b)) (bits_of s) (y.next * 8)))

  pub turn_lacks : (n at : ℕ) (x : Short) → Err x ≡ component_read (parse (component b) (bits_of s) at)
      → Err x ≡ skimmed_of (parse (list (suc n) blank (component b)) (bits_of s) at)
  turn_lacks n at x e = skim_lacks _ x (list_short n blank (component b) (bits_of s) at _ _ (lacks_component (parse (component b) (bits_of s) at) x e))

  pub all_skimmed : (i : ℕ) → Ok i ≡ skimmed_of (parse (list 0 blank (component b)) (bits_of s) (i * 8))
  all_skimmed i = skim_got _ [] i (list_none blank (component b) (bits_of s) (i * 8))

-- ---- the mode
module _ (s : List ℕ) (i : ℕ) (b : Bool) where
  pub by_program_lem : (t : Field SpliceTime Cursor) → Ok t ≡ time_read (parse (time_unless b) (bits_of s) (i * 8))
      → Ok (record { value = SpliceMode.Program t.value; next = t.next.byte }) ≡ moded_read (parse (moded true b) (bits_of s) (i * 8))
  unfolding moded
  by_program_lem t e = mode_got _ _ [] t.next.byte (takes_in (time_unless b) _ _ (bits_of s) (i * 8) _ _ (timed s b i t e))

  pub no_program_time : (x : Short) → Err x ≡ time_read (parse (time_unless b) (bits_of s) (i * 8)) → Err x ≡ moded_read (parse (moded true b) (bits_of s) (i * 8))
  unfolding moded
  no_program_time x e = mode_lacks _ x (lacks_in (time_unless b) _ _ (bits_of s) (i * 8) _ _ (timed_lacks _ x e))

  pub no_count : length s ≤ i → Err (record { expected = 1; actual = 0 }) ≡ moded_read (parse (moded false b) (bits_of s) (i * 8))
  unfolding moded
  no_count h =
      let z : (length s * 8 - i * 8) / 8 ≡ 0 = omega arith in
      mode_lacks _ _ (lacks_number s (i * 8) 8 _ _ (omega arith) ∙ ap (short 1) z)

  module _ (there : i < length s) (byte : get_or s i 0 < 256) where
    pub no_components_lem : (x : Short) → Err x ≡ skimmed_of (parse (list (get_or s i 0) blank (component b)) (bits_of s) ((i + 1) * 8))
        → Err x ≡ moded_read (parse (moded false b) (bits_of s) (i * 8))
    unfolding moded
    no_components_lem x e =
        mode_lacks _ x (takes_number s (i * 8) 8 (get_or s i 0) _ _ (omega arith) (sym (byte_field s i there byte))
        ∙ lacks_in (list (get_or s i 0) blank (component b)) _ _ (bits_of s) _ _ _ (rw next_byte at (lacks_skim _ x e)))

    pub by_components : (n : ℕ) → Ok n ≡ skimmed_of (parse (list (get_or s i 0) blank (component b)) (bits_of s) ((i + 1) * 8))
        → Ok (record { value = SpliceMode.Components (get_or s i 0); next = n }) ≡ moded_read (parse (moded false b) (bits_of s) (i * 8))
    unfolding moded
    by_components n e =
        let g = got_skim (parse (list (get_or s i 0) blank (component b)) (bits_of s) ((i + 1) * 8)) n (aligned_list s b (get_or s i 0) ((i + 1) * 8) (begins (i + 1))) e in
        mode_got _ _ g.list n (takes_number s (i * 8) 8 (get_or s i 0) _ _ (omega arith) (sym (byte_field s i there byte))
        ∙ takes_in (list (get_or s i 0) blank (component b)) _ _ (bits_of s) _ _ _ (ap (λ (p : ℕ). parse (list (get_or s i 0) blank (component b)) (bits_of s) p) (sym (next_byte i)) ∙ g.is))

-- ---- from the duration on
module _ (s : List ℕ) (i : ℕ) (room : i ≤ length s) (out : Bool) (m : WithComponents SpliceMode) (b : Bool) where
  pub no_ending : (x : Short) → Err x ≡ break_read (parse (break_duration b) (bits_of s) (i * 8)) → Err x ≡ active_read (parse (ending out m b) (bits_of s) (i * 8))
  unfolding ending
  no_ending x e = active_lacks _ x (lacks_in (break_duration b) _ _ (bits_of s) (i * 8) _ _ (lacks_break _ x e))

  module _ (d : Field (Option SpliceDuration) ℕ) (ed : Ok d ≡ break_read (parse (break_duration b) (bits_of s) (i * 8))) where
    broken : parse (break_duration b) (bits_of s) (i * 8) ≡ got d.value (d.next * 8)
    broken = break_there s i room b d ed

    within : d.next ≤ length s
    within = break_within s i room b d ed

    module _ (n : ℕ) (en : n ≡ length s - d.next) where
      pub no_program_id : n < 2 → Err (record { expected = 2; actual = n }) ≡ active_read (parse (ending out m b) (bits_of s) (i * 8))
      unfolding ending
      no_program_id h =
          let z : (length s * 8 - d.next * 8) / 8 ≡ n = omega arith in
          active_lacks _ _ (takes_in (break_duration b) _ _ (bits_of s) (i * 8) _ _ broken ∙ lacks_number s (d.next * 8) 16 _ _ (omega (arith, within)) ∙ ap (short 2) z)

      no_avail : 2 ≤ n → n < 3 → Err (record { expected = 1; actual = 0 }) ≡ active_read (parse (ending out m b) (bits_of s) (i * 8))
      unfolding ending
      no_avail g h =
          let z : (length s * 8 - (d.next * 8 + 16)) / 8 ≡ 0 = omega arith in
          active_lacks _ _ (takes_in (break_duration b) _ _ (bits_of s) (i * 8) _ _ broken ∙ takes_number s (d.next * 8) 16 _ _ _ (omega arith) refl
          ∙ lacks_number s (d.next * 8 + 16) 8 _ _ (omega (arith, within)) ∙ ap (short 1) z)

      no_expected : 3 ≤ n → n < 4 → Err (record { expected = 1; actual = 0 }) ≡ active_read (parse (ending out m b) (bits_of s) (i * 8))
      unfolding ending
      no_expected g h =
          let z : (length s * 8 - (d.next * 8 + 16 + 8)) / 8 ≡ 0 = omega arith in
          active_lacks _ _ (takes_in (break_duration b) _ _ (bits_of s) (i * 8) _ _ broken ∙ takes_number s (d.next * 8) 16 _ _ _ (omega arith) refl
          ∙ takes_number s (d.next * 8 + 16) 8 _ _ _ (omega arith) refl ∙ lacks_number s (d.next * 8 + 16 + 8) 8 _ _ (omega (arith, within)) ∙ ap (short 1) z)

      -- the one or the other
      pub no_avails : 2 ≤ n → n < 4 → Err (record { expected = 1; actual = 0 }) ≡ active_read (parse (ending out m b) (bits_of s) (i * 8))
      no_avails g h = go (n - 2) refl
        where
          go : (k : ℕ) → k ≡ n - 2 → Err (record { expected = 1; actual = 0 }) ≡ active_read (parse (ending out m b) (bits_of s) (i * 8))
          go zero e = no_avail g (omega arith)
          go (suc k) e = no_expected (omega arith) h

    pub an_ending : (v : ℕ) (o : NetworkIndicator) → d.next + 4 ≤ length s → v ≡ field (bits_of s) (d.next * 8) 16 → get_or s (d.next + 2) 0 < 256 → get_or s (d.next + 3) 0 < 256
        → o ≡ pick out NetworkIndicator.Out NetworkIndicator.In
        → Ok (record {
          network_indicator = o;
          splice_mode = m.value;
          duration = d.value;
          unique_program_id = v;
          avail_num = get_or s (d.next + 2) 0;
          avails_expected = get_or s (d.next + 3) 0;
        }) ≡ active_read (parse (ending out m b) (bits_of s) (i * 8))
    unfolding ending
    an_ending v o there ev byte₂ byte₃ eo =
        let p : d.next * 8 + 16 ≡ (d.next + 2) * 8 = omega arith in
        let q : d.next * 8 + 16 + 8 ≡ (d.next + 3) * 8 = omega arith in
        active_got _ _ m.components (d.next * 8 + 16 + 8 + 8) (rw eo (takes_in (break_duration b) _ _ (bits_of s) (i * 8) _ _ broken ∙ takes_number s (d.next * 8) 16 v _ _ (omega arith) ev
        ∙ takes_number s (d.next * 8 + 16) 8 _ _ _ (omega arith) (sym (ap (λ (x : ℕ). field (bits_of s) x 8) p ∙ byte_field s (d.next + 2) (omega arith) byte₂))
        ∙ takes_number s (d.next * 8 + 16 + 8) 8 _ _ _ (omega arith) (sym (ap (λ (x : ℕ). field (bits_of s) x 8) q ∙ byte_field s (d.next + 3) (omega arith) byte₃))))

-- ---- what is not cancelled
module _ (s : List ℕ) (i : ℕ) where
  pub no_flags : length s ≤ i → Err (record { expected = 0; actual = 0 }) ≡ active_read (parse active (bits_of s) (i * 8))
  unfolding active
  no_flags h =
      let z : (length s * 8 - i * 8) / 8 ≡ 0 = omega arith in
      active_lacks _ _ (lacks_flag s (i * 8) _ _ (omega arith) ∙ ap (short 0) z)

  -- by the byte f of the flags
  module _ (f : ℕ) (there : i < length s) (is : f ≡ get_or s i 0) (byte : f < 256) where
    flags : parse active (bits_of s) (i * 8)
        ≡ parse (inside (moded (eqb (f / 64 % 2) 1) (eqb (f / 16 % 2) 1)) mode_of (λ m. ending (eqb (f / 128) 1) m (eqb (f / 32 % 2) 1))) (bits_of s) ((i + 1) * 8)
    unfolding active
    flags =
        let p : i * 8 + 1 + 1 + 1 + 1 + 4 ≡ (i + 1) * 8 = omega arith in
        takes_flag s (i * 8) _ _ _ (omega arith) (ap (λ (x : ℕ). eqb x 1) (sym (first_bit s i f there is byte)))
        ∙ takes_flag s (i * 8 + 1) _ _ _ (omega arith) (ap (λ (x : ℕ). eqb x 1) (one_bit s i f there is byte 1 6 (i * 8 + 1) refl refl))
        ∙ takes_flag s (i * 8 + 1 + 1) _ _ _ (omega arith) (ap (λ (x : ℕ). eqb x 1) (one_bit s i f there is byte 2 5 (i * 8 + 1 + 1) (omega arith) refl))
        ∙ takes_flag s (i * 8 + 1 + 1 + 1) _ _ _ (omega arith) (ap (λ (x : ℕ). eqb x 1) (one_bit s i f there is byte 3 4 (i * 8 + 1 + 1 + 1) (omega arith) refl))
        ∙ takes_ones s (i * 8 + 1 + 1 + 1 + 1) 4 _ (omega arith)
        ∙ ap (λ (x : ℕ). parse (inside (moded (eqb (f / 64 % 2) 1) (eqb (f / 16 % 2) 1)) mode_of (λ m. ending (eqb (f / 128) 1) m (eqb (f / 32 % 2) 1))) (bits_of s) x) p

    pub no_mode : (x : Short) → Err x ≡ moded_read (parse (moded (eqb (f / 64 % 2) 1) (eqb (f / 16 % 2) 1)) (bits_of s) ((i + 1) * 8)) → Err x ≡ active_read (parse active (bits_of s) (i * 8))
    no_mode x e = active_lacks _ x (flags ∙ lacks_in (moded (eqb (f / 64 % 2) 1) (eqb (f / 16 % 2) 1)) mode_of _ (bits_of s) _ _ _ (lacks_mode _ x e))

    module _ (m : Field SpliceMode ℕ) (em : Ok m ≡ moded_read (parse (moded (eqb (f / 64 % 2) 1) (eqb (f / 16 % 2) 1)) (bits_of s) ((i + 1) * 8))) where
      mode_there : Modes (parse (moded (eqb (f / 64 % 2) 1) (eqb (f / 16 % 2) 1)) (bits_of s) ((i + 1) * 8)) m
      mode_there = got_mode _ m (aligned_mode s (eqb (f / 64 % 2) 1) (eqb (f / 16 % 2) 1) ((i + 1) * 8) (begins (i + 1))) em

      pub mode_within : m.next ≤ length s
      mode_within =
          let h : m.next * 8 ≤ length (bits_of s) = parse_bound (moded (eqb (f / 64 % 2) 1) (eqb (f / 16 % 2) 1)) (bits_of s) ((i + 1) * 8) _ _ (omega (arith, length_bits s)) mode_there.is in
          omega (arith, h, length_bits s)

      pub an_active : (r : Result InsertDetail Short)
          → ((cs : List InsertComponent) → r ≡ active_read (parse (ending (eqb (f / 128) 1) (record { value = m.value; components = cs }) (eqb (f / 32 % 2) 1)) (bits_of s) (m.next * 8)))
          → r ≡ active_read (parse active (bits_of s) (i * 8))
      an_active r er =
          er mode_there.list ∙ ap active_read (sym (flags ∙ takes_in (moded (eqb (f / 64 % 2) 1) (eqb (f / 16 % 2) 1)) mode_of _ (bits_of s) _ _ _ mode_there.is))

-- ---- an insert
module _ (s : List ℕ) where
  pub no_event : length s < 4 → Err (record { expected = 4; actual = length s }) ≡ insert_read (parse insert (bits_of s) 0)
  unfolding insert
  no_event h =
      let z : (length s * 8 - 0) / 8 ≡ length s = omega arith in
      insert_lacks _ _ (lacks_number s 0 32 _ _ (omega arith) ∙ ap (short 4) z)

  pub no_cancel : 4 ≤ length s → length s < 5 → Err (record { expected = 0; actual = 0 }) ≡ insert_read (parse insert (bits_of s) 0)
  unfolding insert
  no_cancel g h =
      let z : (length s * 8 - 32) / 8 ≡ 0 = omega arith in
      insert_lacks _ _ (takes_number s 0 32 _ _ _ (omega arith) refl ∙ lacks_flag s 32 _ _ (omega arith) ∙ ap (short 0) z)

  -- by the number v of the event, and the byte after it
  module _ (v : ℕ) (there : 5 ≤ length s) (ev : v ≡ field (bits_of s) 0 32) (byte : get_or s 4 0 < 256) where
    kept : get_or s 4 0 % 128 ≡ field (bits_of s) 33 7
    kept =
        let z : get_or s 4 0 / 1 % 128 ≡ get_or s 4 0 % 128 = omega arith in
        sym (field_in s 4 (omega arith) byte 1 7 0 refl ∙ z)

    cancel : (c : Bool) → eqb (get_or s 4 0 / 128) 1 ≡ c → eqb (field (bits_of s) 32 1) 1 ≡ c
    cancel c e = ap (λ (x : ℕ). eqb x 1) (sym (first_bit s 4 (get_or s 4 0) (omega arith) refl byte)) ∙ e

    pub a_cancel : 128 ≤ get_or s 4 0
        → Ok (record { splice_event_id = v; reserved = get_or s 4 0 % 128; splice_detail = SpliceDetail.Cancel }) ≡ insert_read (parse insert (bits_of s) 0)
    unfolding insert
    a_cancel on =
        let z : get_or s 4 0 / 128 ≡ 1 = omega arith in
        insert_got _ _ [] 40 (takes_number s 0 32 v _ _ (omega arith) ev ∙ takes_flag s 32 true _ _ (omega arith) (cancel true (ap (λ (x : ℕ). eqb x 1) z)) ∙ takes_number s 33 7 _ _ _ (omega arith) kept)

    module _ (off : get_or s 4 0 < 128) where
      fronted : parse insert (bits_of s) 0 ≡ parse (inside active active_of λ a. done (record {
        value = record { splice_event_id = v; reserved = get_or s 4 0 % 128; splice_detail = SpliceDetail.Insert a.value };
        components = a.components;
      })) (bits_of s) 40
      unfolding insert
      fronted =
          let z : get_or s 4 0 / 128 ≡ 0 = omega arith in
          takes_number s 0 32 v _ _ (omega arith) ev ∙ takes_flag s 32 false _ _ (omega arith) (cancel false (ap (λ (x : ℕ). eqb x 1) z)) ∙ takes_number s 33 7 _ _ _ (omega arith) kept

      pub no_active_lem : (x : Short) → Err x ≡ active_read (parse active (bits_of s) 40) → Err x ≡ insert_read (parse insert (bits_of s) 0)
      no_active_lem x e = insert_lacks _ x (fronted ∙ lacks_in active active_of _ (bits_of s) _ _ _ (lacks_active _ x e))

      pub an_insert : (i : InsertDetail) → Ok i ≡ active_read (parse active (bits_of s) 40)
          → Ok (record { splice_event_id = v; reserved = get_or s 4 0 % 128; splice_detail = SpliceDetail.Insert i }) ≡ insert_read (parse insert (bits_of s) 0)
      an_insert i e =
          let g = got_active (parse active (bits_of s) 40) i e in
          insert_got _ _ g.list g.end (fronted ∙ takes_in active active_of _ (bits_of s) _ _ _ g.is)
