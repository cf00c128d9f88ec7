-- 01's row m, and more of the payloads' rules, over the definitions.
use Prim.Native.Nat.{ℕ}
use mathlib.Core.Bool.{true, false}
use mathlib.Core.List.{List, [], ◌∷◌}
use mathlib.Core.Path.{◌≡◌, refl}
use lib.ListN.{length}
use Rattle.splice_time.specs.Time.{splice_time}
use Rattle.names.specs.declared.flags.NetworkIndicator.{NetworkIndicator}
use Rattle.table.specs.Bits.{bits_of}
use Rattle.table.specs.Table.{number, bit, reserved, part, remaining, list, got, parse, canonical}
use Rattle.command.specs.Command.{private, array}
use Rattle.splice_time.specs.Break.{break_duration}
use Rattle.command.specs.Insert.{WithComponents, time_unless, component, moded, ending, active, insert}
use Rattle.command.specs.declared.insert.SpliceInsert.{SpliceInsert}
use Rattle.command.specs.declared.insert.SpliceDetail.{SpliceDetail}
use Rattle.command.specs.declared.insert.SpliceMode.{SpliceMode}
use Rattle.std.proofs.Common.{None}

-- ---- m: by components with count 0, not immediate and immediate
abbrev timed : List ℕ
timed = 0x00 ∷ 0x00 ∷ 0x00 ∷ 0x01 ∷ 0x7f ∷ 0x0f ∷ 0x00 ∷ 0x00 ∷ 0x00 ∷ 0x00 ∷ 0x00 ∷ []

abbrev immediate : List ℕ
immediate = 0x00 ∷ 0x00 ∷ 0x00 ∷ 0x01 ∷ 0x7f ∷ 0x1f ∷ 0x00 ∷ 0x00 ∷ 0x00 ∷ 0x00 ∷ 0x00 ∷ []

abbrev empty : WithComponents SpliceInsert
empty = record {
  value = record {
    splice_event_id = 1;
    reserved = 127;
    splice_detail = SpliceDetail.Insert (record {
      network_indicator = NetworkIndicator.In;
      splice_mode = SpliceMode.Components 0;
      duration = None;
      unique_program_id = 0;
      avail_num = 0;
      avails_expected = 0;
    });
  };
  components = [];
}

-- "equal readings"
pub row_m_timed : parse insert (bits_of timed) 0 ≡ got empty 88
unfolding insert active ending moded break_duration time_unless component splice_time number bit reserved list
row_m_timed = refl

pub row_m_immediate : parse insert (bits_of immediate) 0 ≡ got empty 88
unfolding insert active ending moded break_duration time_unless component splice_time number bit reserved list
row_m_immediate = refl

-- "only the first canonical"
pub row_m_canonical : canonical insert (bits_of timed) 0 ≡ true
unfolding insert active ending moded break_duration time_unless component splice_time number bit reserved list
row_m_canonical = refl

pub row_m_not : canonical insert (bits_of immediate) 0 ≡ false
unfolding insert active ending moded break_duration time_unless component splice_time number bit reserved list
row_m_not = refl

-- ---- a private command: the rest is a view
pub row_private : parse private (bits_of (0x01 ∷ 0x02 ∷ 0x03 ∷ 0x04 ∷ 0x09 ∷ 0x09 ∷ [])) 0 ≡ got (record { identifier = 16909060; private_bytes = record { at = 4; len = 2 } }) 48
unfolding private number part remaining
row_private = refl

-- ---- the array of no components has all its places
pub array_places : length (array []) ≡ 255
unfolding array
array_places = refl
