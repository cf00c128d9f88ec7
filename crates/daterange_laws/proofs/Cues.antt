-- What is written for a section reads back, by the write's own answer.
--     accepted_write_reads_back    the same section, ID and date, and the name that the command chose, for every accepted write
use Prim.Native.Nat.{ℕ, ◌≤◌}
use mathlib.Core.Bool.{Bool, true, false, ◌&&◌}
use mathlib.Core.List.{List, ◌++◌}
use mathlib.Core.Path.{◌≡◌, refl, ap, sym}
use native.Mathlib.Omega.{arith}
use lib.Dec.{leb}
use lib.ListN.{length, take, drop}
use lib.Seq.{take_at}
use borrow.Author.Tests.{ltb-false}
use Rattle.attribute_list.specs.Grammar.{all, quoted_byte}
use Rattle.daterange.specs.Choice.{cue_for, made_for, daterange_made}
use Rattle.daterange_line.specs.Reading.{is_id, is_date, view_of, read_of, read_later}
use Rattle.daterange_line.specs.declared.Cue.{Cue}
use Rattle.daterange_writer.specs.Writing.{attributes_for, line_of, line_made}
use Rattle.bit_stores.specs.Written.{answer_of, later_of}
use Rattle.section.specs.Section.{section_of}
use Rattle.section.specs.declared.Section.{Section}
use Rattle.section.proofs.Acceptance.{none_if_accepted}
use Rattle.table.specs.Bits.{pick, AllBytes}
use Rattle.table.specs.Lent.{viewed}
use Rattle.table.specs.Writing.{Made, made, refused}
use Rattle.table.specs.declared.View.{View}
use Rattle.table.proofs.Lists.{zero_one}
use Rattle.daterange_laws.proofs.Theorems.{written_then_read}
use Rattle.std.specs.Prelude.{Ok}
use Rattle.std.proofs.Common.{Err, Result}
use Rattle.section.specs.declared.Refusal.{Refusal}

-- what a line reads back to, in any room that the section fits
pub record SameCue (section id date line : List ℕ) : Type 0 where
  pub id_view : View
  pub date_view : View
  pub cue : Cue
  pub answer : (room : List ℕ) → length section ≤ length room → read_of line room ≡ Ok (record { id = id_view; date = date_view; cue = cue; len = length section })
  pub bytes : (room : List ℕ) → length section ≤ length room → read_later line room ≡ section ++ drop (length section) room
  pub same_id : viewed line id_view ≡ id
  pub same_date : viewed line date_view ≡ date
  pub chosen : (x : Section) → section_of section ≡ Ok x → cue ≡ cue_for x.command

-- ---- an accepted write: what was made, and that it stands in the target

record Stood (m : Made) (line : List ℕ) : Type 0 where
  is : m ≡ made line

stood : (m : Made) (target : List ℕ) (n : ℕ) → answer_of m target ≡ Ok n → Stood m (take n (later_of m target))
unfolding answer_of later_of
stood (refused k) target n e = zero_one cc
stood (made b) target n e = go (leb (length b) (length target)) e
  where
    go : (t : Bool) → pick {A = Result ℕ ℕ} t (Ok (length b)) (Err 36) ≡ Ok n → Stood (made b) (take n (pick t (b ++ drop (length b) target) target))
    go false f = zero_one cc
    go true f = let z : length b ≡ n = cc in record { is = ap made (sym (take_at b (drop (length b) target) n z)) }

-- ---- what was made of a section

line_same : (section id date : List ℕ) (x : Section) → AllBytes section → section_of section ≡ Ok x → all quoted_byte id ≡ true → all quoted_byte date ≡ true
    → SameCue section id date (line_of section (cue_for x.command) id date)
line_same section id date x bytes e i d =
    let c = cue_for x.command in
    let long : 18 ≤ length section = ltb-false (length section) 18 (none_if_accepted section x e).1.1.1.1.0 in
    let w = written_then_read section c id date i d bytes (omega arith) in
    record {
      id_view = view_of is_id 17 (attributes_for section c id date);
      date_view = view_of is_date 17 (attributes_for section c id date);
      cue = c;
      answer = λ room h. (w room h).0;
      bytes = λ room h. (w room h).1;
      same_id = (w section (omega arith)).2;
      same_date = (w section (omega arith)).3;
      chosen = λ y f. let z : x ≡ y = cc in ap (λ (s : Section). cue_for s.command) z;
    }

made_same : (section id date line : List ℕ) → AllBytes section → (s : Result Section Refusal) → section_of section ≡ s → made_for section id date s ≡ made line → SameCue section id date line
unfolding line_made
made_same section id date line bytes (Err r) e f = zero_one cc
made_same section id date line bytes (Ok x) e f = go (all quoted_byte id) (all quoted_byte date) refl refl f
  where
    go : (i d : Bool) → all quoted_byte id ≡ i → all quoted_byte date ≡ d → pick (i && d) (made (line_of section (cue_for x.command) id date)) (refused 53) ≡ made line → SameCue section id date line
    go false d hi hd g = zero_one cc
    go true false hi hd g = zero_one cc
    go true true hi hd g = let z : line_of section (cue_for x.command) id date ≡ line = cc in rw (← z) (line_same section id date x bytes e hi hd)

pub accepted_write_reads_back : (section id date target : List ℕ) (n : ℕ) → AllBytes section → answer_of (daterange_made section id date) target ≡ Ok n
    → SameCue section id date (take n (later_of (daterange_made section id date) target))
unfolding daterange_made
accepted_write_reads_back section id date target n bytes e =
    made_same section id date (take n (later_of (daterange_made section id date) target)) bytes (section_of section) refl (stood (daterange_made section id date) target n e).is
