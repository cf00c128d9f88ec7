-- What the functions that write and read lines may do, by their contracts as the checker makes them. `..-so` is what the contract then says.
use Prim.Native.Nat.{ℕ}
use mathlib.Core.List.{List}
use mathlib.Core.Path.{◌≡◌, sym, ◌∙◌, ap}
use lib.ListN.{drop}
use Rattle.bit_stores.specs.Written.{answer_of, later_of}
use Rattle.c_command_writer.specs.Words.{flat_written}
use Rattle.c_command_writer.specs.declared.FlatWritten.{FlatWritten}
use Rattle.c_daterange.specs.FlatDaterange.{flat_line}
use Rattle.c_daterange.specs.declared.FlatDaterange.{FlatDaterange}
use Rattle.daterange.specs.Choice.{daterange_made}
use Rattle.daterange_line.specs.Reading.{number_of, read_of, read_later}
use Rattle.daterange_line.specs.declared.Cue.{Cue}
use Rattle.daterange_writer.specs.Writing.{line_made}
use Rattle.theorems_c.specs.Boards.{May}
use Rattle.daterange.proofs.write_daterange.Reads as write_daterange
use Rattle.daterange_line.proofs.LineRefusal.number.Reads as line_number
use Rattle.daterange_line.proofs.read_line.Reads as read_line
use Rattle.daterange_writer.proofs.write_line.Reads as write_line
use Rattle.scte35.proofs.playlist.scte35_read_daterange.Reads as scte35_read_daterange
use Rattle.scte35.proofs.playlist.scte35_write_daterange.Reads as scte35_write_daterange
use Rattle.theorems_daterange.specs.Lines.{Cued}
use Rattle.std.specs.Prelude.{Result}
use Rattle.daterange_line.specs.declared.Reading.{Reading}
use Rattle.daterange_line.specs.declared.LineRefusal.{LineRefusal}

-- ---- the writers: what is handed in, the target, the answer, and the target's later bytes

abbrev pub WritesLine : Cue → Cued → List ℕ → Result ℕ ℕ → List ℕ → Type 0
WritesLine cue q target answer later =
    May write_line.Learnt {S = Cue × (Cued × List ℕ)} {T = Result ℕ ℕ × List ℕ}
    (λ κ a. (a.1.0, (record { section = a.0.now; id = a.1.1.0.now; date = a.1.1.1.0.now }, a.1.1.1.1.0.now))) (λ κ r e. (r, e.1.1.1.1.0.now))
    (cue, (q, target)) (answer, later)

pub writes_line_so : {cue : Cue} {q : Cued} {target : List ℕ} {answer : Result ℕ ℕ} {later : List ℕ} → WritesLine cue q target answer later
    → (answer ≡ answer_of (line_made q.section cue q.id q.date) target) × (later ≡ later_of (line_made q.section cue q.id q.date) target)
writes_line_so d = (
  sym (ap (λ (v : Result ℕ ℕ × List ℕ). v.0) d.left) ∙ d.learnt_so.0
      ∙ ap (λ (v : Cue × (Cued × List ℕ)). answer_of (line_made v.1.0.section v.0 v.1.0.id v.1.0.date) v.1.1) d.taken,
  sym (ap (λ (v : Result ℕ ℕ × List ℕ). v.1) d.left) ∙ d.learnt_so.1
      ∙ ap (λ (v : Cue × (Cued × List ℕ)). later_of (line_made v.1.0.section v.0 v.1.0.id v.1.0.date) v.1.1) d.taken,
)

abbrev pub WritesDaterange : Cued → List ℕ → Result ℕ ℕ → List ℕ → Type 0
WritesDaterange q target answer later =
    May write_daterange.Learnt {S = Cued × List ℕ} {T = Result ℕ ℕ × List ℕ}
    (λ κ a. (record { section = a.0.now; id = a.1.0.now; date = a.1.1.0.now }, a.1.1.1.0.now)) (λ κ r e. (r, e.1.1.1.0.now)) (q, target) (answer, later)

pub writes_daterange_so : {q : Cued} {target : List ℕ} {answer : Result ℕ ℕ} {later : List ℕ} → WritesDaterange q target answer later
    → (answer ≡ answer_of (daterange_made q.section q.id q.date) target) × (later ≡ later_of (daterange_made q.section q.id q.date) target)
writes_daterange_so d = (
  sym (ap (λ (v : Result ℕ ℕ × List ℕ). v.0) d.left) ∙ d.learnt_so.0 ∙ ap (λ (v : Cued × List ℕ). answer_of (daterange_made v.0.section v.0.id v.0.date) v.1) d.taken,
  sym (ap (λ (v : Result ℕ ℕ × List ℕ). v.1) d.left) ∙ d.learnt_so.1 ∙ ap (λ (v : Cued × List ℕ). later_of (daterange_made v.0.section v.0.id v.0.date) v.1) d.taken,
)

-- the section is all bytes from an offset on
abbrev pub WritesDaterangeC : Cued → List ℕ → FlatWritten → List ℕ → Type 0
WritesDaterangeC q target answer later =
    May scte35_write_daterange.Learnt {S = Cued × List ℕ} {T = FlatWritten × List ℕ}
    (λ κ a. (record { section = drop a.1.0 a.0.now; id = a.1.1.0.now; date = a.1.1.1.0.now }, a.1.1.1.1.0.now)) (λ κ r e. (r, e.1.1.1.1.0.now))
    (q, target) (answer, later)

pub writes_daterange_c_so : {q : Cued} {target : List ℕ} {answer : FlatWritten} {later : List ℕ} → WritesDaterangeC q target answer later
    → (answer ≡ flat_written (answer_of (daterange_made q.section q.id q.date) target)) × (later ≡ later_of (daterange_made q.section q.id q.date) target)
writes_daterange_c_so d = (
  sym (ap (λ (v : FlatWritten × List ℕ). v.0) d.left) ∙ d.learnt_so.0 ∙ ap (λ (v : Cued × List ℕ). flat_written (answer_of (daterange_made v.0.section v.0.id v.0.date) v.1)) d.taken,
  sym (ap (λ (v : FlatWritten × List ℕ). v.1) d.left) ∙ d.learnt_so.1 ∙ ap (λ (v : Cued × List ℕ). later_of (daterange_made v.0.section v.0.id v.0.date) v.1) d.taken,
)

-- ---- the readers: the line, the target, the answer, and the target's later bytes

abbrev pub ReadsLine : List ℕ → List ℕ → Result Reading LineRefusal → List ℕ → Type 0
ReadsLine line target answer later =
    May read_line.Learnt {S = List ℕ × List ℕ} {T = Result Reading LineRefusal × List ℕ} (λ κ a. (a.0.now, a.1.0.now)) (λ κ r e. (r, e.1.0.now)) (line, target) (answer, later)

pub reads_line_so : {line target : List ℕ} {answer : Result Reading LineRefusal} {later : List ℕ} → ReadsLine line target answer later → (answer ≡ read_of line target) × (later ≡ read_later line target)
reads_line_so d = (
  sym (ap (λ (v : Result Reading LineRefusal × List ℕ). v.0) d.left) ∙ d.learnt_so.0 ∙ ap (λ (v : List ℕ × List ℕ). read_of v.0 v.1) d.taken,
  sym (ap (λ (v : Result Reading LineRefusal × List ℕ). v.1) d.left) ∙ d.learnt_so.1 ∙ ap (λ (v : List ℕ × List ℕ). read_later v.0 v.1) d.taken,
)

-- `LineRefusal::number`
abbrev pub Numbers : LineRefusal → ℕ → Type 0
Numbers r n = May line_number.Learnt {S = LineRefusal} {T = ℕ} (λ κ a. a.0) (λ κ x e. x) r n

pub numbers_so : {r : LineRefusal} {n : ℕ} → Numbers r n → n ≡ number_of r
numbers_so d = sym d.left ∙ d.learnt_so ∙ ap number_of d.taken

-- the line is all bytes from an offset on
abbrev pub ReadsDaterangeC : List ℕ → List ℕ → FlatDaterange → List ℕ → Type 0
ReadsDaterangeC line target answer later =
    May scte35_read_daterange.Learnt {S = List ℕ × List ℕ} {T = FlatDaterange × List ℕ} (λ κ a. (drop a.1.0 a.0.now, a.1.1.0.now)) (λ κ r e. (r, e.1.1.0.now))
    (line, target) (answer, later)

pub reads_daterange_c_so : {line target : List ℕ} {answer : FlatDaterange} {later : List ℕ} → ReadsDaterangeC line target answer later
    → (answer ≡ flat_line (read_of line target)) × (later ≡ read_later line target)
reads_daterange_c_so d = (
  sym (ap (λ (v : FlatDaterange × List ℕ). v.0) d.left) ∙ d.learnt_so.0 ∙ ap (λ (v : List ℕ × List ℕ). flat_line (read_of v.0 v.1)) d.taken,
  sym (ap (λ (v : FlatDaterange × List ℕ). v.1) d.left) ∙ d.learnt_so.1 ∙ ap (λ (v : List ℕ × List ℕ). read_later v.0 v.1) d.taken,
)
