-- Avail, DTMF, time and reserved descriptors as structures: what is written of them is read again, and the other way round.
use Prim.Native.Nat.{ℕ, ◌+◌, ◌*◌, ◌%◌}
use mathlib.Core.Bool.{true}
use mathlib.Core.List.{List, ◌++◌}
use mathlib.Core.Path.{◌≡◌, refl}
use native.Mathlib.Omega.{arith}
use lib.ListN.{length}
use Rattle.table.specs.Bits.{bits_of, AllBytes}
use Rattle.table.specs.Table.{Table, got, parse, canonical}
use Rattle.table.specs.Writing.{Same, made, make}
use Rattle.table.specs.declared.View.{View}
use Rattle.table.proofs.Laws.{Tells}
use Rattle.table.proofs.Leading.{Leads, leads_done, leads_number, leads_ones, leads_part, leads_remaining}
use Rattle.table.proofs.Structure as laws
use Rattle.table.proofs.Telling.{tells_number, tells_ones, tells_part, tells_remaining}
use Rattle.descriptor.specs.Plain.{avail, dtmf, time, private_table}
use Rattle.descriptor.specs.declared.plain.AvailDescriptor.{AvailDescriptor}
use Rattle.descriptor.specs.declared.plain.DTMFDescriptor.{DTMFDescriptor}
use Rattle.descriptor.specs.declared.plain.TimeDescriptor.{TimeDescriptor}

-- ---- the three laws of a structure
pub record RoundTrips {X : Type 0} (t : Table X) (st : laws.Structure t) : Type 0 where
  -- what is written of x reads as x, its views at their new places, and is canonical
  pub write_read : (lent : List ℕ) (x : X) (b r : List ℕ) → st.Shape x → make t (st.writable x) lent x ≡ made b → st.After (length r * 8)
      → (parse t (bits_of (b ++ r)) 0 ≡ got (st.moved x) (length b * 8)) × (canonical t (bits_of (b ++ r)) 0 ≡ true)
  -- canonical bytes without a spare one are what is written of their reading
  pub read_write : (s : List ℕ) (x : X) → AllBytes s → parse t (bits_of s) 0 ≡ got x (length s * 8) → canonical t (bits_of s) 0 ≡ true → make t (st.writable x) s x ≡ made s
  -- of equal readings they are equal
  pub write_one : (s r : List ℕ) (x y : X) → AllBytes s → AllBytes r → parse t (bits_of s) 0 ≡ got x (length s * 8) → parse t (bits_of r) 0 ≡ got y (length r * 8)
      → canonical t (bits_of s) 0 ≡ true → canonical t (bits_of r) 0 ≡ true → Same t s x r y → s ≡ r

pub round_trips : {X : Type 0} (t : Table X) (st : laws.Structure t) → RoundTrips t st
round_trips t st = record { write_read = laws.write_read t st; read_write = laws.read_write_all t st; write_one = laws.write_one t st }

-- ---- avail
pub avail_tells : Tells avail 0 (λ a y. (a % 8 ≡ 0) × (true ≡ true))
unfolding avail
avail_tells = tells_number 32 _ _ 0 _ λ id h. ((refl, refl), refl)

pub avail_leads : (x : AvailDescriptor) (m : ℕ) → Leads avail x x 0 32 m
unfolding avail
avail_leads x m = leads_number 32 _ _ _ _ 0 32 m (leads_done x _ _ _ _ m refl refl)

abbrev pub avail_structure : laws.Structure avail
avail_structure = record {
  writable = λ x. true;
  size = λ x. 4;
  moved = λ x. x;
  Shape = λ x. Unit {0};
  After = λ m. Unit {0};
  none = tt;
  tells = avail_tells;
  ends = λ x m h f u. avail_leads x m;
}

pub avail_trips : RoundTrips avail avail_structure
avail_trips = round_trips avail avail_structure

-- ---- DTMF
pub dtmf_tells : Tells dtmf 0 (λ a y. (a % 8 ≡ 0) × (true ≡ true))
unfolding dtmf
dtmf_tells =
    tells_number 8 _ _ 0 _ λ preroll h₁.
    tells_number 3 _ _ 8 _ λ n h₂.
    tells_ones 5 _ 11 _ (
    tells_part n _ _ 16 _ refl ((((let z : (16 + n * 8) % 8 ≡ 0 = omega arith in z, refl), refl), refl), refl))

abbrev pub dtmf_moved : DTMFDescriptor → DTMFDescriptor
dtmf_moved x = record { preroll = x.preroll; dtmf_chars = record { at = 2; len = x.dtmf_chars.len } }

pub dtmf_leads : (x : DTMFDescriptor) (m : ℕ) → Leads dtmf x (dtmf_moved x) 0 ((2 + x.dtmf_chars.len) * 8) m
unfolding dtmf
dtmf_leads x m =
    leads_number 8 _ _ _ _ 0 _ m
    (leads_number 3 _ _ _ _ 8 _ m
    (leads_ones 5 _ _ _ 11 _ m
    (leads_part x.dtmf_chars.len _ _ _ _ 16 _ m
    (leads_done x _ _ _ _ m refl (omega arith)))))

abbrev pub dtmf_structure : laws.Structure dtmf
dtmf_structure = record {
  writable = λ x. true;
  size = λ x. 2 + x.dtmf_chars.len;
  moved = dtmf_moved;
  Shape = λ x. Unit {0};
  After = λ m. Unit {0};
  none = tt;
  tells = dtmf_tells;
  ends = λ x m h f u. dtmf_leads x m;
}

pub dtmf_trips : RoundTrips dtmf dtmf_structure
dtmf_trips = round_trips dtmf dtmf_structure

-- ---- time
pub time_tells : Tells time 0 (λ a y. (a % 8 ≡ 0) × (true ≡ true))
unfolding time
time_tells =
    tells_number 48 _ _ 0 _ λ seconds h₁.
    tells_number 32 _ _ 48 _ λ nanoseconds h₂.
    tells_number 16 _ _ 80 _ λ offset h₃.
    ((((refl, refl), refl), refl), refl)

pub time_leads : (x : TimeDescriptor) (m : ℕ) → Leads time x x 0 96 m
unfolding time
time_leads x m =
    leads_number 48 _ _ _ _ 0 96 m
    (leads_number 32 _ _ _ _ 48 96 m
    (leads_number 16 _ _ _ _ 80 96 m
    (leads_done x _ _ _ _ m refl refl)))

abbrev pub time_structure : laws.Structure time
time_structure = record {
  writable = λ x. true;
  size = λ x. 12;
  moved = λ x. x;
  Shape = λ x. Unit {0};
  After = λ m. Unit {0};
  none = tt;
  tells = time_tells;
  ends = λ x m h f u. time_leads x m;
}

pub time_trips : RoundTrips time time_structure
time_trips = round_trips time time_structure

-- ---- the bytes of a reserved descriptor: nothing may follow, since all are its own
pub private_tells : Tells private_table 0 (λ a y. (a % 8 ≡ 0) × (true ≡ true))
unfolding private_table
private_tells =
    tells_remaining _ _ 0 _ λ n.
    tells_part n _ _ 0 _ refl (((let z : (0 + n * 8) % 8 ≡ 0 = omega arith in z, refl), refl), refl)

pub private_leads : (x : View) (m : ℕ) → m ≡ 0 → Leads private_table x (record { at = 0; len = x.len }) 0 (x.len * 8) m
unfolding private_table
private_leads x m e =
    leads_remaining _ _ x _ 0 (x.len * 8) m (omega arith)
    (leads_part x.len _ _ _ _ 0 _ m
    (leads_done x _ _ _ _ m refl (omega arith)))

abbrev pub private_structure : laws.Structure private_table
private_structure = record {
  writable = λ x. true;
  size = λ x. x.len;
  moved = λ x. record { at = 0; len = x.len };
  Shape = λ x. Unit {0};
  After = λ m. m ≡ 0;
  none = refl;
  tells = private_tells;
  ends = λ x m h f u. private_leads x m u;
}

pub private_trips : RoundTrips private_table private_structure
private_trips = round_trips private_table private_structure
