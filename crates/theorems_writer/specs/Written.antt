-- What is kept when the items of a section are written again, and what a write leaves in its target.
use Rattle.std.specs.Prelude.{ℕ, List, map, ◌≡◌, length, take, drop, Ok, Some}
use Rattle.descriptor.specs.declared.Descriptor.{Descriptor}
use Rattle.descriptor.specs.declared.segmentation.SegmentationUpid.{SegmentationUpid}
use Rattle.descriptor_round_trips.specs.Trips.{full_in}
use Rattle.descriptor_loop.specs.Cover.{run_of}
use Rattle.descriptor_loop.specs.Items.{reading_of, Listed}
use Rattle.loop_round_trips.specs.Loops.{WrittenAgain}
use Rattle.bit_stores.specs.Written.{later_of}
use Rattle.table.specs.Lent.{viewed}
use Rattle.table.specs.Writing.{Made, made}
use Rattle.upid.specs.declared.Part.{Part}
use Rattle.theorems_reader.specs.Identifiers.{parts_read, upids_of}

-- a UPID with a view of lent bytes: its reported type, its bytes, and the parts, at every level, that are read of them
pub record UpidHeld : Type 0 where
  pub upid_type : ℕ
  pub bytes : List ℕ
  pub parts : List Part

abbrev pub held_in : List ℕ → SegmentationUpid → UpidHeld
held_in lent u = record { upid_type = u.upid_type; bytes = viewed lent u.bytes; parts = parts_read u.upid_type (viewed lent u.bytes) }

-- An item of a loop is written as its own bytes, and these, read alone, have the same UPID: its type, its bytes and its parts, and the EIDR beside it.
pub record KeepsUpid (loop : List ℕ) (y : Listed) : Type 0 where
  pub written : WrittenAgain loop y
  pub again : Descriptor
  pub reading : (full_in (run_of loop y)).read ≡ Ok again
  pub upids : map (held_in (drop 6 (run_of loop y))) (upids_of (Some (Ok again))) ≡ map (held_in loop) (upids_of y.step.item)
  pub eidr : (full_in (run_of loop y)).beside.eidr ≡ (reading_of loop y.offset).beside.eidr

-- "an accepted one changes only the bytes of its result, which start at 0, and gives their number"
pub record ChangesOnlyResult (m : Made) (target : List ℕ) (n : ℕ) : Type 0 where
  pub result : List ℕ
  pub is : m ≡ made result
  pub number : length result ≡ n
  pub start : take n (later_of m target) ≡ result
  pub rest : drop n (later_of m target) ≡ drop n target
  pub size : length (later_of m target) ≡ length target
