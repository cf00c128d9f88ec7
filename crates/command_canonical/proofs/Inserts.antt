-- splice_insert(), by the bytes that its parts begin with.
use Prim.Native.Nat.{ℕ, suc, ◌+◌, ◌*◌, ◌/◌, ◌%◌, ◌^◌, ◌<◌, ◌≤◌}
use mathlib.Core.Bool.{Bool, true, false, not}
use mathlib.Core.List.{List, []}
use mathlib.Core.Path.{◌≡◌, refl, ap, sym, ◌∙◌}
use native.Mathlib.Omega.{arith}
use lib.Dec.{ltb, eqb}
use lib.ListN.{length, get_or}
use borrow.Author.Tests.{ne_eqb, lt-ltb, not-true, not-false}
use Rattle.command.specs.Insert.{WithComponents, time_unless, component, blank, moded, ending, active, insert, mode_of, active_of}
use Rattle.splice_time.specs.Break.{break_duration, auto_return, break_ticks}
use Rattle.command.specs.declared.components.InsertComponent.{InsertComponent}
use Rattle.command.specs.declared.insert.InsertDetail.{InsertDetail}
use Rattle.command.specs.declared.insert.SpliceMode.{SpliceMode}
use Rattle.splice_time.specs.Time.{splice_time}
use Rattle.splice_time.specs.declared.SpliceTime.TheVariants.{Immediate}
use Rattle.table.specs.Bits.{pick, bits_of, field}
use Rattle.table.specs.Table.{Table, inside, ones, list}
use Rattle.table.proofs.Fields.{field_in, byte_field}
use Rattle.command_canonical.specs.Private.{Stands, Fails, Told}
use Rattle.command_canonical.proofs.Times.{first_bit, last_seven, stands_six, fails_six, lacks_six}
use Rattle.command_canonical.proofs.Walks.{stands_done, stands_number, fails_number, lacks_number, stands_flag, fails_flag, lacks_flag, stands_ones, fails_one, fails_ones, stands_must, fails_must, fails_past, stands_in, fails_in, fails_after, stands_list, fails_first, fails_list, stands_at, fails_at}
use Rattle.std.proofs.Common.{Some, None, Option}

-- ---- a splice_time unless immediate
module _ (s : List ℕ) (i : ℕ) where
  pub at_once : (b : Bool) → b ≡ true → Stands (time_unless b) s (i * 8) (i * 8)
  unfolding time_unless
  at_once b e = rw e (stands_done s (i * 8) Immediate _ refl)

  pub at_a_time : (b : Bool) (r : Option ℕ) → b ≡ false → Told splice_time s i r → Told (time_unless b) s i r
  unfolding time_unless
  at_a_time b r e h = rw e h

-- ---- components
module _ (s : List ℕ) (i : ℕ) (b : Bool) where
  pub no_tag : length s ≤ i → Fails (component b) s (i * 8)
  unfolding component
  no_tag h = lacks_number s (i * 8) 8 _ _ (omega arith)

  pub no_component : Fails (time_unless b) s ((i + 1) * 8) → Fails (component b) s (i * 8)
  unfolding component
  no_component f = fails_number s (i * 8) 8 _ _ (field (bits_of s) (i * 8) 8) refl (fails_in (time_unless b) _ _ s (i * 8 + 8) (fails_at (time_unless b) s _ _ (omega arith) f))

  pub a_component : (m : ℕ) → i < length s → Stands (time_unless b) s ((i + 1) * 8) m → Stands (component b) s (i * 8) m
  unfolding component
  a_component m h a =
      stands_number s (i * 8) 8 _ _ (field (bits_of s) (i * 8) 8) m (omega arith) refl
      (stands_in (time_unless b) _ _ s (i * 8 + 8) m (stands_at (time_unless b) s _ _ m (omega arith) a) m (stands_done s m _ m refl))

-- what stands ahead, from byte j on, says what the whole says, from byte i on
pub record Ahead (s : List ℕ) (b : Bool) (count i ahead j : ℕ) : Type 0 where
  pub stands : (m : ℕ) → Stands (list ahead blank (component b)) s (j * 8) m → Stands (list count blank (component b)) s (i * 8) m
  pub fails : Fails (list ahead blank (component b)) s (j * 8) → Fails (list count blank (component b)) s (i * 8)

pub all_ahead : (s : List ℕ) (b : Bool) (count i : ℕ) → Ahead s b count i count i
all_ahead s b count i = record { stands = λ m a. a; fails = λ f. f }

module _ (s : List ℕ) (b : Bool) (count i n j : ℕ) (h : Ahead s b count i (suc n) j) where
  pub stops : Fails (component b) s (j * 8) → Fails (list count blank (component b)) s (i * 8)
  stops f = h.fails (fails_first n blank (component b) s (j * 8) f)

  pub goes_on_lem : (e : ℕ) → Stands (component b) s (j * 8) (e * 8) → Ahead s b count i n e
  goes_on_lem e a = record {
    stands = λ m c. h.stands m (stands_list n blank (component b) s (j * 8) (e * 8) a m c);
    fails = λ f. h.fails (fails_list n blank (component b) s (j * 8) (e * 8) a f);
  }

pub none_ahead : (s : List ℕ) (b : Bool) (count i n j : ℕ) → Ahead s b count i n j → n ≤ 0 → Stands (list count blank (component b)) s (i * 8) (j * 8)
unfolding list
none_ahead s b count i n j h z =
    let e : n ≡ 0 = omega arith in
    h.stands (j * 8) (rw e (stands_done s (j * 8) [] _ refl))

-- ---- the mode
module _ (s : List ℕ) (i : ℕ) (p b : Bool) where
  pub by_program_lem : (r : Option ℕ) → p ≡ true → Told (time_unless b) s i r → Told (moded p b) s i r
  unfolding moded
  by_program_lem (Some e) on a = rw on (stands_in (time_unless b) _ _ s (i * 8) (e * 8) a (e * 8) (stands_done s (e * 8) _ _ refl))
  by_program_lem None on f = rw on (fails_in (time_unless b) _ _ s (i * 8) f)

  module _ (off : p ≡ false) where
    pub no_count : length s ≤ i → Fails (moded p b) s (i * 8)
    unfolding moded
    no_count h = rw off (lacks_number s (i * 8) 8 _ _ (omega arith))

    module _ (there : i < length s) (byte : get_or s i 0 < 256) where
      counted : get_or s i 0 ≡ field (bits_of s) (i * 8) 8
      counted = sym (byte_field s i there byte)

      pub immediate_none : get_or s i 0 ≡ 0 → b ≡ true → Fails (moded p b) s (i * 8)
      unfolding moded
      immediate_none z e = rw (off, e) (fails_number s (i * 8) 8 _ _ 0 (sym z ∙ counted) (fails_must s (i * 8 + 8) false _ refl))

      pub timed_none : get_or s i 0 ≡ 0 → b ≡ false → Stands (moded p b) s (i * 8) ((i + 1) * 8)
      unfolding moded list
      timed_none z e =
          rw (off, e)
          (stands_number s (i * 8) 8 _ _ 0 _ (omega arith) (sym z ∙ counted)
          (stands_must s (i * 8 + 8) true _ _ refl (stands_done s (i * 8 + 8) _ _ (omega arith))))

      asked : (b : Bool) → 0 < get_or s i 0 → pick b (ltb 0 (get_or s i 0)) true ≡ true
      asked true h = lt-ltb 0 (get_or s i 0) h
      asked false h = refl

      abbrev listed : Table (List InsertComponent)
      listed = list (get_or s i 0) blank (component b)

      pub by_components : (r : Option ℕ) → 0 < get_or s i 0 → Told listed s (i + 1) r → Told (moded p b) s i r
      unfolding moded
      by_components (Some e) h a =
          rw off
          (stands_number s (i * 8) 8 _ _ (get_or s i 0) _ (omega arith) counted
          (stands_must s (i * 8 + 8) _ _ _ (asked b h)
          (stands_in listed _ _ s (i * 8 + 8) (e * 8) (stands_at listed s (i * 8 + 8) ((i + 1) * 8) (e * 8) (omega arith) a) (e * 8) (stands_done s (e * 8) _ _ refl))))
      by_components None h f =
          rw off
          (fails_number s (i * 8) 8 _ _ (get_or s i 0) counted
          (fails_past s (i * 8 + 8) _ _ (fails_in listed _ _ s (i * 8 + 8) (fails_at listed s (i * 8 + 8) ((i + 1) * 8) (omega arith) f))))

-- ---- the duration
module _ (s : List ℕ) (i : ℕ) (b : Bool) where
  pub no_break : not b ≡ true → Stands (break_duration b) s (i * 8) (i * 8)
  unfolding break_duration
  no_break e = rw (not-true b e) (stands_done s (i * 8) None _ refl)

  module _ (on : not b ≡ false) where
    pub lacks_break : length s ≤ i → Fails (break_duration b) s (i * 8)
    unfolding break_duration
    lacks_break h = rw (not-false b on) (lacks_flag s (i * 8) _ _ (omega arith))

    module _ (there : i < length s) (byte : get_or s i 0 < 256) where
      pub break_reserved : (get_or s i 0 / 2 % 64 ≡ 63 → ⊥) → Fails (break_duration b) s (i * 8)
      unfolding break_duration
      break_reserved h = rw (not-false b on) (fails_flag s (i * 8) auto_return _ _ refl (fails_six s i there byte break_ticks _ h))

      pub no_duration : length s < i + 5 → Fails (break_duration b) s (i * 8)
      unfolding break_duration
      no_duration l = rw (not-false b on) (fails_flag s (i * 8) auto_return _ _ refl (lacks_six s i there byte break_ticks _ l))

      pub a_break : get_or s i 0 / 2 % 64 ≡ 63 → i + 5 ≤ length s → Stands (break_duration b) s (i * 8) ((i + 5) * 8)
      unfolding break_duration
      a_break h l = rw (not-false b on) (stands_flag s (i * 8) auto_return _ _ _ (omega arith) refl (stands_six s i there byte break_ticks _ h l))

-- ---- from the duration on
module _ (s : List ℕ) (i e : ℕ) (out b : Bool) (m : WithComponents SpliceMode) where
  pub no_ending : Fails (break_duration b) s (i * 8) → Fails (ending out m b) s (i * 8)
  unfolding ending
  no_ending f = fails_in (break_duration b) _ _ s (i * 8) f

  module _ (d : Stands (break_duration b) s (i * 8) (e * 8)) where
    pub lacks_ending : length s < e + 4 → Fails (ending out m b) s (i * 8)
    unfolding ending
    lacks_ending l =
        fails_after (break_duration b) _ _ s (i * 8) (e * 8) d
        (fails_number s (e * 8) 16 _ _ (field (bits_of s) (e * 8) 16) refl
        (fails_number s (e * 8 + 16) 8 _ _ (field (bits_of s) (e * 8 + 16) 8) refl (lacks_number s (e * 8 + 16 + 8) 8 _ _ (omega arith))))

    pub an_ending : e + 4 ≤ length s → Stands (ending out m b) s (i * 8) ((e + 4) * 8)
    unfolding ending
    an_ending l =
        stands_in (break_duration b) _ _ s (i * 8) (e * 8) d _
        (stands_number s (e * 8) 16 _ _ (field (bits_of s) (e * 8) 16) _ (omega arith) refl
        (stands_number s (e * 8 + 16) 8 _ _ (field (bits_of s) (e * 8 + 16) 8) _ (omega arith) refl
        (stands_number s (e * 8 + 16 + 8) 8 _ _ (field (bits_of s) (e * 8 + 16 + 8) 8) _ (omega arith) refl (stands_done s (e * 8 + 16 + 8 + 8) _ _ (omega arith)))))

-- ---- what is not cancelled: the flags are byte 5
module _ (s : List ℕ) where
  pub no_flags : length s ≤ 5 → Fails active s 40
  unfolding active
  no_flags h = lacks_flag s 40 _ _ (omega arith)

  module _ (there : 5 < length s) (byte : get_or s 5 0 < 256) where
    abbrev out : Bool
    out = eqb (field (bits_of s) 40 1) 1

    abbrev program : Bool
    program = eqb (get_or s 5 0 / 64 % 2) 1

    abbrev lasting : Bool
    lasting = eqb (get_or s 5 0 / 32 % 2) 1

    abbrev immediate : Bool
    immediate = eqb (get_or s 5 0 / 16 % 2) 1

    -- what follows the flags
    abbrev after : Table (WithComponents InsertDetail)
    after = inside (moded program immediate) mode_of λ mode. ending out mode lasting

    is_bit : (j k : ℕ) → j + 1 + k ≡ 8 → eqb (field (bits_of s) (40 + j) 1) 1 ≡ eqb (get_or s 5 0 / 2 ^ k % 2) 1
    is_bit j k e = ap (λ (x : ℕ). eqb x 1) (field_in s 5 there byte j 1 k e)

    last_four : field (bits_of s) 44 4 ≡ get_or s 5 0 % 16
    last_four = field_in s 5 there byte 4 4 0 refl ∙ (let z : get_or s 5 0 / 1 % 16 ≡ get_or s 5 0 % 16 = omega arith in z)

    fails_flags : Fails (ones 4 after) s 44 → Fails active s 40
    unfolding active
    fails_flags f =
        fails_flag s 40 _ _ out refl
        (fails_flag s 41 _ _ program (is_bit 1 6 refl) (fails_flag s 42 _ _ lasting (is_bit 2 5 refl) (fails_flag s 43 _ _ immediate (is_bit 3 4 refl) f)))

    pub flags_reserved : (get_or s 5 0 % 16 ≡ 15 → ⊥) → Fails active s 40
    flags_reserved h = fails_flags (fails_one s 44 4 _ (λ e. h (sym last_four ∙ e)))

    pub no_mode : Fails (moded program immediate) s 48 → Fails active s 40
    no_mode f = fails_flags (fails_ones s 44 4 _ (fails_in (moded program immediate) _ _ s 48 f))

    module _ (i : ℕ) (m : Stands (moded program immediate) s 48 (i * 8)) where
      pub no_active_lem : Fails (break_duration lasting) s (i * 8) → Fails active s 40
      no_active_lem f = fails_flags (fails_ones s 44 4 _ (fails_after (moded program immediate) _ _ s 48 (i * 8) m (no_ending s i i out lasting m.reading f)))

      module _ (e : ℕ) (d : Stands (break_duration lasting) s (i * 8) (e * 8)) where
        pub lacks_active : length s < e + 4 → Fails active s 40
        lacks_active l = fails_flags (fails_ones s 44 4 _ (fails_after (moded program immediate) _ _ s 48 (i * 8) m (lacks_ending s i e out lasting m.reading d l)))

        pub an_active : get_or s 5 0 % 16 ≡ 15 → e + 4 ≤ length s → Stands active s 40 ((e + 4) * 8)
        unfolding active
        an_active h l =
            stands_flag s 40 _ _ out _ (omega arith) refl
            (stands_flag s 41 _ _ program _ (omega arith) (is_bit 1 6 refl)
            (stands_flag s 42 _ _ lasting _ (omega arith) (is_bit 2 5 refl)
            (stands_flag s 43 _ _ immediate _ (omega arith) (is_bit 3 4 refl)
            (stands_ones s 44 4 _ _ (omega arith) (last_four ∙ h)
            (stands_in (moded program immediate) _ _ s 48 (i * 8) m _ (an_ending s i e out lasting m.reading d l))))))

-- ---- an insert: the cancel flag and the reserved bits are byte 4
module _ (s : List ℕ) where
  pub no_cancel : length s < 5 → Fails insert s 0
  unfolding insert
  no_cancel h = fails_number s 0 32 _ _ _ refl (fails_flag s 32 _ _ _ refl (lacks_number s 33 7 _ _ (omega arith)))

  module _ (there : 4 < length s) (byte : get_or s 4 0 < 256) where
    is_cancel : (b : Bool) → eqb (get_or s 4 0 / 128 % 2) 1 ≡ b → eqb (field (bits_of s) 32 1) 1 ≡ b
    is_cancel b e = ap (λ (x : ℕ). eqb x 1) (first_bit s 4 there byte) ∙ e

    kept : (v : ℕ) → v ≡ get_or s 4 0 % 128 → v ≡ field (bits_of s) 33 7
    kept v e = e ∙ sym (last_seven s 4 there byte)

    pub insert_reserved : (get_or s 4 0 ≡ 0xff → ⊥) → (get_or s 4 0 ≡ 0x7f → ⊥) → Fails insert s 0
    unfolding insert
    insert_reserved h g =
        fails_number s 0 32 _ _ _ refl
        (fails_flag s 32 _ _ _ refl
        (fails_number s 33 7 _ _ (get_or s 4 0 % 128) (kept _ refl)
        (fails_must s 40 _ _ (ne_eqb (get_or s 4 0 % 128) 127 (λ e. omega arith)))))

    pub a_cancel : get_or s 4 0 ≡ 0xff → Stands insert s 0 40
    unfolding insert
    a_cancel e =
        let z : get_or s 4 0 / 128 % 2 ≡ 1 = omega arith in
        stands_number s 0 32 _ _ _ _ (omega arith) refl
        (stands_flag s 32 _ _ true _ (omega arith) (is_cancel true (ap (λ (x : ℕ). eqb x 1) z))
        (stands_number s 33 7 _ _ 127 _ (omega arith) (kept 127 (omega arith)) (stands_must s 40 true _ _ refl (stands_done s 40 _ _ refl))))

    pub an_insert : (r : Option ℕ) → get_or s 4 0 ≡ 0x7f → Told active s 5 r → Told insert s 0 r
    unfolding insert
    an_insert (Some n) e a =
        let z : get_or s 4 0 / 128 % 2 ≡ 0 = omega arith in
        stands_number s 0 32 _ _ _ _ (omega arith) refl
        (stands_flag s 32 _ _ false _ (omega arith) (is_cancel false (ap (λ (x : ℕ). eqb x 1) z))
        (stands_number s 33 7 _ _ 127 _ (omega arith) (kept 127 (omega arith))
        (stands_must s 40 true _ _ refl (stands_in active active_of _ s 40 (n * 8) a _ (stands_done s (n * 8) _ _ refl)))))
    an_insert None e f =
        let z : get_or s 4 0 / 128 % 2 ≡ 0 = omega arith in
        fails_number s 0 32 _ _ _ refl
        (fails_flag s 32 _ _ false (is_cancel false (ap (λ (x : ℕ). eqb x 1) z))
        (fails_number s 33 7 _ _ 127 (kept 127 (omega arith)) (fails_past s 40 true _ (fails_in active active_of _ s 40 f))))
