-- What the statements ask of answers can be met: of any arguments the definition's answer is one that the contract allows.
use Prim.Native.Nat.{ℕ}
use mathlib.Core.List.{List, []}
use mathlib.Core.Path.{refl}
use denote.Ref.{Bor}
use denote.MutBor.{MutBor}
use Rattle.bit_stores.specs.Written.{answer_of, later_of}
use Rattle.c_command_writer.specs.Words.{flat_written}
use Rattle.theorems_relabel.specs.Replaced.{Request}
use Rattle.theorems_relabel.proofs.Contracts.{made_for, Relabels, RelabelsC}

abbrev slice : List ℕ → Bor (List ℕ)
slice s = record { ref_ptr = (0, 0); now = s }

-- a lent target
abbrev target_of : List ℕ → MutBor (List ℕ)
target_of s = record { ref_ptr = (0, 0); ghost_name = 0; now = s }

pub relabel_is_met : (q : Request) (target : List ℕ) → Relabels q target (answer_of (made_for q) target) (later_of (made_for q) target)
relabel_is_met q target = record {
  κ = ([], ([], ([], tt)));
  arguments = (slice q.section, (q.offset, (q.part, (q.upid_type, (slice q.bytes, (target_of target, tt))))));
  answer = answer_of (made_for q) target;
  after = (slice q.section, (q.offset, (q.part, (q.upid_type, (slice q.bytes, (target_of (later_of (made_for q) target), tt))))));
  taken = refl;
  left = refl;
  learnt_so = (refl, refl);
}

pub scte35_relabel_is_met : (q : Request) (target : List ℕ) → RelabelsC q target (flat_written (answer_of (made_for q) target)) (later_of (made_for q) target)
scte35_relabel_is_met q target = record {
  κ = ([], ([], ([], tt)));
  arguments = (slice q.section, (q.offset, (q.part, (q.upid_type, (slice q.bytes, (target_of target, tt))))));
  answer = flat_written (answer_of (made_for q) target);
  after = (slice q.section, (q.offset, (q.part, (q.upid_type, (slice q.bytes, (target_of (later_of (made_for q) target), tt))))));
  taken = refl;
  left = refl;
  learnt_so = (refl, refl);
}
