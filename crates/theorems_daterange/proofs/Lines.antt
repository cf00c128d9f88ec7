-- A line that is written: what is answered, and what it reads back to.
use Prim.Native.Nat.{ℕ, ◌+◌, ◌*◌, ◌≤◌, ◌<◌}
use mathlib.Core.Bool.{Bool, true, false, ◌&&◌}
use mathlib.Core.List.{List}
use mathlib.Core.Path.{◌≡◌, refl, sym, subst, ◌∙◌, ap}
use native.Mathlib.Omega.{arith}
use borrow.Author.Tests.{le-leb, lt-leb, lt-ltb, le-ltb}
use lib.Dec.{ltb}
use lib.ListN.{length, take}
use Rattle.attribute_list.specs.Grammar.{all, quoted_byte, Attribute}
use Rattle.bit_stores.specs.Written.{answer_of, later_of}
use Rattle.c_command_writer.specs.Words.{flat_written}
use Rattle.c_daterange.specs.FlatDaterange.{flat_daterange, flat_line}
use Rattle.c_daterange.specs.declared.FlatDaterange.{FlatDaterange}
use Rattle.daterange.specs.Choice.{cue_for, made_for, daterange_made}
use Rattle.daterange_laws.proofs.Cues.{SameCue, accepted_write_reads_back}
use Rattle.daterange_laws.proofs.Theorems.{written_then_read}
use Rattle.daterange_line.specs.Reading.{is_id, is_date, view_of, read_of, read_later, Judged, fault, fine, judge, section_made, read_by, told, section_of as inLine}
use Rattle.attribute_list.specs.Cutting.{attributes_of}
use Rattle.daterange_line.specs.declared.Cue.{Cue}
use Rattle.daterange_line.specs.declared.Cue.TheVariants.{Cmd, Out, In}
use Rattle.daterange_writer.proofs.Stored.{word, line_pieces, pieces_size}
use Rattle.daterange_writer.specs.Writing.{attributes_for, line_of, line_made}
use Rattle.section.specs.Section.{section_of, number_of}
use Rattle.section.specs.declared.Refusal.{Refusal}
use Rattle.section.specs.declared.Section.{Section}
use Rattle.table.proofs.Lists.{zero_one}
use Rattle.table.specs.Bits.{pick, AllBytes}
use Rattle.table.specs.Lent.{viewed}
use Rattle.table.specs.Writing.{Made, made, refused}
use Rattle.theorems_writer.proofs.Theorems.{a_refused_write_changes_no_byte, an_accepted_write_changes_only_its_result}
use Rattle.upid.proofs.Laws.{by_cases}
use Rattle.theorems_daterange.specs.Lines.{Cued, line_size, line_answered, ReadsBack, ReadsBackC}
use Rattle.std.specs.Prelude.{Result, Ok, Err}
use Rattle.daterange_line.specs.declared.Reading.{Reading}
use Rattle.daterange_line.specs.declared.LineRefusal.{LineRefusal}

-- ---- the answer

line_size_lem : (cue : Cue) (q : Cued) → length (line_of q.section cue q.id q.date) ≡ line_size cue q
line_size_lem cue q = ap length (line_pieces q.section cue q.id q.date) ∙ pieces_size q.id q.date (word cue) q.section ∙ go cue
  where
    go : (c : Cue) → 35 + length q.id + length q.date + length (word c) + length q.section * 2 ≡ line_size c q
    go Cmd = omega arith
    go Out = omega arith
    go In = omega arith

pub line_answers : (cue : Cue) (q : Cued) (target : List ℕ) → answer_of (line_made q.section cue q.id q.date) target ≡ line_answered cue q (length target)
unfolding line_made line_answered answer_of
line_answers cue q target = go (all quoted_byte q.id && all quoted_byte q.date)
  where
    go : (b : Bool) → answer_of (pick b (made (line_of q.section cue q.id q.date)) (refused 53)) target
        ≡ pick b (pick (ltb (length target) (line_size cue q)) (Err 36) (Ok (line_size cue q))) (Err 53)
    go false = refl
    go true =
        by_cases (length target) (line_size cue q)
        (λ h. rw (line_size_lem cue q, lt-leb (line_size cue q) (length target) h, lt-ltb (length target) (line_size cue q) h))
        (λ h. rw (line_size_lem cue q, le-leb (line_size cue q) (length target) h, le-ltb (length target) (line_size cue q) h))

pub of_accepted : (q : Cued) (x : Section) → section_of q.section ≡ Ok x → daterange_made q.section q.id q.date ≡ line_made q.section (cue_for x.command) q.id q.date
unfolding daterange_made
of_accepted q x e = ap (made_for q.section q.id q.date) e

pub of_refused : (q : Cued) (r : Refusal) → section_of q.section ≡ Err r → daterange_made q.section q.id q.date ≡ refused (number_of (section_of q.section))
unfolding daterange_made
of_refused q r e = ap (made_for q.section q.id q.date) e ∙ ap (λ (y : Result Section Refusal). refused (number_of y)) (sym e)

-- ---- refusals have numbers

abbrev pub Some : Result ℕ ℕ → Type 0
Some (Ok n) = Unit {0}
Some (Err n) = n ≡ 0 → ⊥

number_some : (r : Refusal) → number_of (Err r) ≡ 0 → ⊥
unfolding number_of
number_some Refusal.SectionTooShort e = omega arith
number_some Refusal.InputTooLong e = omega arith
number_some Refusal.OtherTable e = omega arith
number_some Refusal.WrongCrc e = omega arith
number_some Refusal.NoHeader e = omega arith
number_some Refusal.Encrypted e = omega arith
number_some Refusal.CommandTooLong e = omega arith
number_some Refusal.NoLoopLength e = omega arith
number_some Refusal.LoopTooLong e = omega arith
number_some Refusal.UnknownCommand e = omega arith
number_some Refusal.MalformedCommand e = omega arith

some_line : (cue : Cue) (q : Cued) (room : ℕ) → Some (line_answered cue q room)
unfolding line_answered
some_line cue q room = go (all quoted_byte q.id && all quoted_byte q.date) (ltb room (line_size cue q))
  where
    go : (a b : Bool) → Some (pick a (pick b (Err 36) (Ok (line_size cue q))) (Err 53))
    go false b = λ e. omega arith
    go true true = λ e. omega arith
    go true false = tt

pub some_answer : (q : Cued) (target : List ℕ) → Some (answer_of (daterange_made q.section q.id q.date) target)
unfolding answer_of
some_answer q target = go (section_of q.section) refl
  where
    go : (r : Result Section Refusal) → section_of q.section ≡ r → Some (answer_of (daterange_made q.section q.id q.date) target)
    go (Ok x) e =
        subst Some (sym (ap (λ (m : Made). answer_of m target) (of_accepted q x e) ∙ line_answers (cue_for x.command) q target)) (some_line (cue_for x.command) q (length target))
    go (Err r) e =
        subst (λ (m : Made). Some (answer_of m target)) (sym (of_refused q r e)) (λ z. number_some r (ap number_of (sym e) ∙ z))

pub length_of_lem : (w : Result ℕ ℕ) → Some w → (flat_written w).refusal ≡ 0 → w ≡ Ok (flat_written w).«length»
unfolding flat_written
length_of_lem (Ok n) h e = refl
length_of_lem (Err n) h e = absurd (h e)

pub refused_of : (w : Result ℕ ℕ) → ((flat_written w).refusal ≡ 0 → ⊥) → (n : ℕ) × (w ≡ Err n)
unfolding flat_written
refused_of (Ok n) h = absurd (h refl)
refused_of (Err n) h = (n, refl)

-- ---- what is read again

-- of a section that is accepted
pub line_back : (q : Cued) (target later : List ℕ) (n : ℕ) (x : Section) → AllBytes q.section → answer_of (daterange_made q.section q.id q.date) target ≡ Ok n
    → later ≡ later_of (daterange_made q.section q.id q.date) target → section_of q.section ≡ Ok x
    → (room : List ℕ) → length q.section ≤ length room → ReadsBack (cue_for x.command) q (take n later) room (read_of (take n later) room) (read_later (take n later) room)
line_back q target later n x bytes e l s room h =
    let c : SameCue q.section q.id q.date (take n later) =
    subst (λ (y : List ℕ). SameCue q.section q.id q.date (take n y)) (sym l) (accepted_write_reads_back q.section q.id q.date target n bytes e) in
    record {
      id_view = c.id_view;
      date_view = c.date_view;
      says = c.answer room h ∙ ap (λ (z : Cue). Ok (record { id = c.id_view; date = c.date_view; cue = z; len = length q.section })) (c.chosen x s);
      same_id = c.same_id;
      same_date = c.same_date;
      bytes = c.bytes room h;
    }

-- only a section that is accepted is written
pub accepted_if_written : (q : Cued) (target : List ℕ) (n : ℕ) → answer_of (daterange_made q.section q.id q.date) target ≡ Ok n → (x : Section) × (section_of q.section ≡ Ok x)
unfolding answer_of
accepted_if_written q target n e = go (section_of q.section) refl
  where
    go : (r : Result Section Refusal) → section_of q.section ≡ r → (x : Section) × (section_of q.section ≡ Ok x)
    go (Ok x) s = (x, s)
    go (Err r) s = let z = ap (λ (m : Made). answer_of m target) (sym (of_refused q r s)) ∙ e in zero_one cc

-- what was made of them
made_of : (cue : Cue) (q : Cued) (r : List ℕ) → line_made q.section cue q.id q.date ≡ made r
    → (r ≡ line_of q.section cue q.id q.date) × (all quoted_byte q.id ≡ true) × (all quoted_byte q.date ≡ true)
unfolding line_made
made_of cue q r = go (all quoted_byte q.id) refl (all quoted_byte q.date) refl
  where
    go : (a : Bool) → all quoted_byte q.id ≡ a → (b : Bool) → all quoted_byte q.date ≡ b → pick (a && b) (made (line_of q.section cue q.id q.date)) (refused 53) ≡ made r
        → (r ≡ line_of q.section cue q.id q.date) × (all quoted_byte q.id ≡ true) × (all quoted_byte q.date ≡ true)
    go false ea b eb e = zero_one cc
    go true ea false eb e = zero_one cc
    go true ea true eb e = let z : line_of q.section cue q.id q.date ≡ r = cc in (sym z, ea, eb)

-- of any bytes under a name
pub named_back : (cue : Cue) (q : Cued) (target later : List ℕ) (n : ℕ) → AllBytes q.section → 0 < length q.section → answer_of (line_made q.section cue q.id q.date) target ≡ Ok n
    → later ≡ later_of (line_made q.section cue q.id q.date) target
    → (room : List ℕ) → length q.section ≤ length room → ReadsBack cue q (take n later) room (read_of (take n later) room) (read_later (take n later) room)
named_back cue q target later n bytes some e l room h =
    let c = an_accepted_write_changes_only_its_result (line_made q.section cue q.id q.date) target n e in
    let b : take n later ≡ c.result = ap (take n) l ∙ c.start in
    let m = made_of cue q c.result c.is in
    let w = written_then_read q.section cue q.id q.date m.1 m.2 bytes some room h in
    subst (λ (line : List ℕ). ReadsBack cue q line room (read_of line room) (read_later line room)) (sym (b ∙ m.0))
    (record { id_view = view_of is_id 17 (attributes_for q.section cue q.id q.date); date_view = view_of is_date 17 (attributes_for q.section cue q.id q.date); says = w.0; same_id = w.2; same_date = w.3; bytes = w.1 })

-- by a reader that answers and leaves this
pub as_answered : (cue : Cue) (q : Cued) (line target : List ℕ) (answer : Result Reading LineRefusal) (later : List ℕ) → answer ≡ read_of line target → later ≡ read_later line target
    → ReadsBack cue q line target (read_of line target) (read_later line target) → ReadsBack cue q line target answer later
as_answered cue q line target answer later e l b =
    record { id_view = b.id_view; date_view = b.date_view; says = e ∙ b.says; same_id = b.same_id; same_date = b.same_date; bytes = l ∙ b.bytes }

-- the same over C
pub over_c : (cue : Cue) (q : Cued) (line target : List ℕ) (answer : FlatDaterange) (later : List ℕ) → ReadsBack cue q line target (read_of line target) (read_later line target)
    → answer ≡ flat_line (read_of line target) → later ≡ read_later line target → ReadsBackC cue q line target answer later
unfolding flat_daterange flat_line
over_c cue q line target answer later b e l =
    let z = e ∙ ap flat_line b.says in
    record {
      refusal = ap (λ (f : FlatDaterange). f.refusal) z;
      same_id = ap (λ (f : FlatDaterange). viewed line (record { at = f.id.at; len = f.id.len })) z ∙ b.same_id;
      same_date = ap (λ (f : FlatDaterange). viewed line (record { at = f.date.at; len = f.date.len })) z ∙ b.same_date;
      name = ap (λ (f : FlatDaterange). f.name) z;
      size = ap (λ (f : FlatDaterange). f.«length») z;
      bytes = l ∙ b.bytes;
    }

-- ---- a reading that is refused

told_refused : (l : List Attribute) (w : Result ℕ ℕ) (r : LineRefusal) → told l w ≡ Err r → (n : ℕ) × (w ≡ Err n)
told_refused l (Ok m) r e = zero_one cc
told_refused l (Err m) r e = (m, refl)

pub kept : (line target : List ℕ) (r : LineRefusal) → read_of line target ≡ Err r → read_later line target ≡ target
unfolding read_by section_made later_of
kept line target r = go (judge (attributes_of line))
  where
    go : (j : Judged) → read_by j target ≡ Err r → later_of (section_made j) target ≡ target
    go (fault m) e = refl
    go (fine l) e =
        let w = told_refused l (answer_of (made (inLine l)) target) r e in
        a_refused_write_changes_no_byte (made (inLine l)) target w.0 w.1

pub refused_read : (r : Result Reading LineRefusal) → ((flat_line r).refusal ≡ 0 → ⊥) → (n : LineRefusal) × (r ≡ Err n)
unfolding flat_daterange flat_line
refused_read (Ok x) h = absurd (h refl)
refused_read (Err n) h = (n, refl)
