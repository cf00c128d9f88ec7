-- What the functions that replace an identifier may do, by their contracts as the checker makes them. `..-so` is what the contract then says.
use Prim.Native.Nat.{ℕ}
use mathlib.Core.List.{List}
use mathlib.Core.Path.{◌≡◌, sym, ◌∙◌, ap}
use Rattle.bit_stores.specs.Written.{answer_of, later_of}
use Rattle.c_command_writer.specs.Words.{flat_written}
use Rattle.c_command_writer.specs.declared.FlatWritten.{FlatWritten}
use Rattle.relabel.specs.Relabel.{relabel_made}
use Rattle.table.specs.Writing.{Made}
use Rattle.theorems_c.specs.Boards.{May}
use Rattle.relabel.proofs.relabel.Reads as relabel
use Rattle.scte35.proofs.relabelling.scte35_relabel.Reads as scte35_relabel
use Rattle.theorems_relabel.specs.Replaced.{Request}
use Rattle.std.proofs.Common.{Result}

abbrev pub made_for : Request → Made
made_for q = relabel_made q.section q.offset q.part q.upid_type q.bytes

-- `relabel` of what is asked, with this target, may answer this and leave the target so
abbrev pub Relabels : Request → List ℕ → Result ℕ ℕ → List ℕ → Type 0
Relabels q target answer later =
    May relabel.Learnt {S = Request × List ℕ} {T = Result ℕ ℕ × List ℕ}
    (λ κ a. (record { section = a.0.now; offset = a.1.0; part = a.1.1.0; upid_type = a.1.1.1.0; bytes = a.1.1.1.1.0.now }, a.1.1.1.1.1.0.now))
    (λ κ r e. (r, e.1.1.1.1.1.0.now)) (q, target) (answer, later)

pub relabels_so : {q : Request} {target : List ℕ} {answer : Result ℕ ℕ} {later : List ℕ} → Relabels q target answer later
    → (answer ≡ answer_of (made_for q) target) × (later ≡ later_of (made_for q) target)
relabels_so d = (
  sym (ap (λ (v : Result ℕ ℕ × List ℕ). v.0) d.left) ∙ d.learnt_so.0 ∙ ap (λ (v : Request × List ℕ). answer_of (made_for v.0) v.1) d.taken,
  sym (ap (λ (v : Result ℕ ℕ × List ℕ). v.1) d.left) ∙ d.learnt_so.1 ∙ ap (λ (v : Request × List ℕ). later_of (made_for v.0) v.1) d.taken,
)

-- the same of `scte35_relabel`
abbrev pub RelabelsC : Request → List ℕ → FlatWritten → List ℕ → Type 0
RelabelsC q target answer later =
    May scte35_relabel.Learnt {S = Request × List ℕ} {T = FlatWritten × List ℕ}
    (λ κ a. (record { section = a.0.now; offset = a.1.0; part = a.1.1.0; upid_type = a.1.1.1.0; bytes = a.1.1.1.1.0.now }, a.1.1.1.1.1.0.now))
    (λ κ r e. (r, e.1.1.1.1.1.0.now)) (q, target) (answer, later)

pub relabels_c_so : {q : Request} {target : List ℕ} {answer : FlatWritten} {later : List ℕ} → RelabelsC q target answer later
    → (answer ≡ flat_written (answer_of (made_for q) target)) × (later ≡ later_of (made_for q) target)
relabels_c_so d = (
  sym (ap (λ (v : FlatWritten × List ℕ). v.0) d.left) ∙ d.learnt_so.0 ∙ ap (λ (v : Request × List ℕ). flat_written (answer_of (made_for v.0) v.1)) d.taken,
  sym (ap (λ (v : FlatWritten × List ℕ). v.1) d.left) ∙ d.learnt_so.1 ∙ ap (λ (v : Request × List ℕ). later_of (made_for v.0) v.1) d.taken,
)
