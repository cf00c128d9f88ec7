-- What is promised of lines of playlists (Q-1), of the functions: whoever meets the contracts of `write_line`, `write_daterange`, `read_line` and the two over C, as the
-- checker makes them of the sources, gives this on every input. So a contract that is changed together with its body is refused here.
use Prim.Native.Nat.{ℕ, ◌≤◌, ◌<◌}
use mathlib.Core.List.{List}
use mathlib.Core.Path.{◌≡◌, refl, sym, ◌∙◌, ap}
use lib.ListN.{length, take}
use Rattle.bit_stores.specs.Written.{answer_of}
use Rattle.c_command_writer.specs.declared.FlatWritten.{FlatWritten}
use Rattle.c_daterange.specs.FlatDaterange.{flat_line}
use Rattle.c_daterange.specs.declared.FlatDaterange.{FlatDaterange}
use Rattle.daterange.specs.Choice.{cue_for, daterange_made}
use Rattle.daterange_line.specs.Reading.{read_of}
use Rattle.daterange_line.specs.declared.Cue.{Cue}
use Rattle.section.specs.Section.{conditions, first, section_of}
use Rattle.section.specs.declared.Refusal.{Refusal}
use Rattle.section.specs.declared.Section.{Section}
use Rattle.table.specs.Bits.{AllBytes}
use Rattle.table.specs.Writing.{Made}
use Rattle.theorems_reader.proofs.Theorems as reading
use Rattle.theorems_writer.proofs.Theorems as writing
use Rattle.theorems_daterange.specs.Faults.{LineRead}
use Rattle.theorems_daterange.specs.Lines.{Cued, line_answered, ReadsBack, ReadsBackC}
use Rattle.theorems_daterange.proofs.Contracts.{WritesLine, writes_line_so, WritesDaterange, writes_daterange_so, WritesDaterangeC, writes_daterange_c_so, ReadsLine, reads_line_so, Numbers, numbers_so, ReadsDaterangeC, reads_daterange_c_so}
use Rattle.theorems_daterange.proofs.Faults as faults
use Rattle.theorems_daterange.proofs.Lines as lines
use Rattle.std.specs.Prelude.{Result, Err}
use Rattle.daterange_line.specs.declared.Reading.{Reading}
use Rattle.daterange_line.specs.declared.LineRefusal.{LineRefusal}
use Rattle.daterange_line.specs.declared.LineRefusal.TheVariants.{MalformedLine, AttributeMissing, TargetTooShort}
use Rattle.std.proofs.Common.{Ok}

-- ---- which answer: "1 to 11 for the section; 53 an ID or date holding a double quote, CR or LF; 36"; nothing else is refused

pub write_line_answers_in_order : (cue : Cue) (q : Cued) (target : List ℕ) (answer : Result ℕ ℕ) (later : List ℕ) → WritesLine cue q target answer later → answer ≡ line_answered cue q (length target)
write_line_answers_in_order cue q target answer later d = (writes_line_so d).0 ∙ lines.line_answers cue q target

pub a_refused_section_has_no_line : (q : Cued) (r : Refusal) (target : List ℕ) (answer : Result ℕ ℕ) (later : List ℕ) → WritesDaterange q target answer later → section_of q.section ≡ Err r
    → answer ≡ Err (first 1 (conditions q.section))
unfolding answer_of
a_refused_section_has_no_line q r target answer later d e =
    (writes_daterange_so d).0 ∙ ap (λ (m : Made). answer_of m target) (lines.of_refused q r e) ∙ ap Err (reading.refusals_1_to_11_in_order q.section)

pub an_accepted_section_has_a_line : (q : Cued) (x : Section) (target : List ℕ) (answer : Result ℕ ℕ) (later : List ℕ) → WritesDaterange q target answer later → section_of q.section ≡ Ok x
    → answer ≡ line_answered (cue_for x.command) q (length target)
an_accepted_section_has_a_line q x target answer later d e =
    (writes_daterange_so d).0 ∙ ap (λ (m : Made). answer_of m target) (lines.of_accepted q x e) ∙ lines.line_answers (cue_for x.command) q target

-- ---- a line that is read: 52, 51 and 36 in order, by the list of its attributes that the RFC's grammar gives it, in words of its own (specs/Faults.antt); nothing else is refused

pub read_line_answers_in_order : (line target : List ℕ) (answer : Result Reading LineRefusal) (later : List ℕ) → ReadsLine line target answer later → LineRead line target answer later
read_line_answers_in_order line target answer later d = faults.reads_so line target (reads_line_so d).0 (reads_line_so d).1

-- whose numbers are what `number` answers of them
pub a_line_is_refused_with_52_51_or_36 : (n : ℕ) → (Numbers MalformedLine n → n ≡ 52) × (Numbers AttributeMissing n → n ≡ 51) × (Numbers TargetTooShort n → n ≡ 36)
a_line_is_refused_with_52_51_or_36 n = (λ d. numbers_so d, λ d. numbers_so d, λ d. numbers_so d)

-- and that leaves one answer, and one target
pub a_line_is_read_in_one_way : (line target : List ℕ) (a b : Result Reading LineRefusal) (x y : List ℕ) → LineRead line target a x → LineRead line target b y → (a ≡ b) × (x ≡ y)
a_line_is_read_in_one_way = faults.reads_one

-- the same over C, whose words are those of what was read, or the refusal's number and zeros
pub read_line_over_c_answers_in_order : (line target : List ℕ) (f : FlatDaterange) (later : List ℕ) → ReadsDaterangeC line target f later
    → (answer : Result Reading LineRefusal) × (f ≡ flat_line answer) × LineRead line target answer later
read_line_over_c_answers_in_order line target f later d = (read_of line target, (reads_daterange_c_so d).0, faults.reads_so line target refl (reads_daterange_c_so d).1)

-- ---- what is written reads back: the same ID and date, and the very bytes of the section, by any reader that meets its contract and has room for them

pub a_line_is_read_back : (cue : Cue) (q : Cued) (target later : List ℕ) (n : ℕ) → AllBytes q.section → 0 < length q.section → WritesLine cue q target (Ok n) later
    → (room : List ℕ) (answer : Result Reading LineRefusal) (after : List ℕ) → ReadsLine (take n later) room answer after → length q.section ≤ length room → ReadsBack cue q (take n later) room answer after
a_line_is_read_back cue q target later n bytes some d room answer after r h =
    let b = lines.named_back cue q target later n bytes some (sym (writes_line_so d).0) (writes_line_so d).1 room h in
    lines.as_answered cue q (take n later) room answer after (reads_line_so r).0 (reads_line_so r).1 b

-- of a section, under the name that its command chooses: only a section that is accepted is written
pub the_line_of_a_section_is_read_back : (q : Cued) (target later : List ℕ) (n : ℕ) → AllBytes q.section → WritesDaterange q target (Ok n) later
    → (x : Section) × (section_of q.section ≡ Ok x) × ((room : List ℕ) (answer : Result Reading LineRefusal) (after : List ℕ) → ReadsLine (take n later) room answer after
    → length q.section ≤ length room → ReadsBack (cue_for x.command) q (take n later) room answer after)
the_line_of_a_section_is_read_back q target later n bytes d =
    let x = lines.accepted_if_written q target n (sym (writes_daterange_so d).0) in (
      x.0,
      x.1,
      λ room answer after r h.
          lines.as_answered (cue_for x.0.command) q (take n later) room answer after (reads_line_so r).0 (reads_line_so r).1
          (lines.line_back q target later n x.0 bytes (sym (writes_daterange_so d).0) (writes_daterange_so d).1 x.1 room h),
    )

-- the same over C
pub the_line_of_a_section_over_c_is_read_back : (q : Cued) (target : List ℕ) (answer : FlatWritten) (later : List ℕ) → AllBytes q.section → WritesDaterangeC q target answer later → answer.refusal ≡ 0
    → (x : Section) × (section_of q.section ≡ Ok x) × ((room : List ℕ) (f : FlatDaterange) (after : List ℕ) → ReadsDaterangeC (take answer.«length» later) room f after
    → length q.section ≤ length room → ReadsBackC (cue_for x.command) q (take answer.«length» later) room f after)
the_line_of_a_section_over_c_is_read_back q target answer later bytes d none =
    let w = answer_of (daterange_made q.section q.id q.date) target in
    let e = lines.length_of_lem w (lines.some_answer q target) (ap (λ (v : FlatWritten). v.refusal) (sym (writes_daterange_c_so d).0) ∙ none) ∙ ap (λ (v : FlatWritten). Ok v.«length») (sym (writes_daterange_c_so d).0) in
    let x = lines.accepted_if_written q target answer.«length» e in (
      x.0,
      x.1,
      λ room f after r h.
          lines.over_c (cue_for x.0.command) q (take answer.«length» later) room f after
          (lines.line_back q target later answer.«length» x.0 bytes e (writes_daterange_c_so d).1 x.1 room h) (reads_daterange_c_so r).0 (reads_daterange_c_so r).1,
    )

-- ---- "A refused write leaves the target's bytes"; so does a refused reading

pub a_refused_line_changes_no_byte : (cue : Cue) (q : Cued) (target later : List ℕ) (n : ℕ) → WritesLine cue q target (Err n) later → later ≡ target
a_refused_line_changes_no_byte cue q target later n d = (writes_line_so d).1 ∙ writing.a_refused_write_changes_no_byte _ target n (sym (writes_line_so d).0)

pub a_refused_daterange_changes_no_byte : (q : Cued) (target later : List ℕ) (n : ℕ) → WritesDaterange q target (Err n) later → later ≡ target
a_refused_daterange_changes_no_byte q target later n d = (writes_daterange_so d).1 ∙ writing.a_refused_write_changes_no_byte _ target n (sym (writes_daterange_so d).0)

pub a_refused_daterange_over_c_changes_no_byte : (q : Cued) (target : List ℕ) (answer : FlatWritten) (later : List ℕ) → WritesDaterangeC q target answer later → (answer.refusal ≡ 0 → ⊥) → later ≡ target
a_refused_daterange_over_c_changes_no_byte q target answer later d some =
    let w = answer_of (daterange_made q.section q.id q.date) target in
    let r = lines.refused_of w (λ e. some (ap (λ (v : FlatWritten). v.refusal) (writes_daterange_c_so d).0 ∙ e)) in
    (writes_daterange_c_so d).1 ∙ writing.a_refused_write_changes_no_byte _ target r.0 r.1

pub a_line_that_is_refused_changes_no_byte : (line target later : List ℕ) (r : LineRefusal) → ReadsLine line target (Err r) later → later ≡ target
a_line_that_is_refused_changes_no_byte line target later r d = (reads_line_so d).1 ∙ lines.kept line target r (sym (reads_line_so d).0)

pub a_line_that_is_refused_over_c_changes_no_byte : (line target : List ℕ) (f : FlatDaterange) (later : List ℕ) → ReadsDaterangeC line target f later → (f.refusal ≡ 0 → ⊥) → later ≡ target
a_line_that_is_refused_over_c_changes_no_byte line target f later d some =
    let r = lines.refused_read (read_of line target) (λ e. some (ap (λ (v : FlatDaterange). v.refusal) (reads_daterange_c_so d).0 ∙ e)) in
    (reads_daterange_c_so d).1 ∙ lines.kept line target r.0 r.1
