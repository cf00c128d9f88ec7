-- What the statements ask of answers can be met: of any arguments the definition's answer is one that the contract allows.
use Prim.Native.Nat.{ℕ}
use mathlib.Core.List.{List, []}
use mathlib.Core.Path.{refl}
use denote.Ref.{Bor}
use denote.MutBor.{MutBor}
use Rattle.bit_stores.specs.Written.{answer_of, later_of}
use Rattle.c_command_writer.specs.Words.{flat_written}
use Rattle.c_daterange.specs.FlatDaterange.{flat_line}
use Rattle.daterange.specs.Choice.{daterange_made}
use Rattle.daterange_line.specs.Reading.{number_of, read_of, read_later}
use Rattle.daterange_line.specs.declared.Cue.{Cue}
use Rattle.daterange_line.specs.declared.LineRefusal.{LineRefusal}
use Rattle.daterange_writer.specs.Writing.{line_made}
use Rattle.table.specs.Writing.{Made}
use Rattle.theorems_daterange.specs.Lines.{Cued}
use Rattle.theorems_daterange.proofs.Contracts.{WritesLine, WritesDaterange, WritesDaterangeC, ReadsLine, Numbers, ReadsDaterangeC}

abbrev slice : List ℕ → Bor (List ℕ)
slice s = record { ref_ptr = (0, 0); now = s }

-- a lent target
abbrev target_of : List ℕ → MutBor (List ℕ)
target_of s = record { ref_ptr = (0, 0); ghost_name = 0; now = s }

pub write_line_is_met : (cue : Cue) (q : Cued) (target : List ℕ)
    → WritesLine cue q target (answer_of (line_made q.section cue q.id q.date) target) (later_of (line_made q.section cue q.id q.date) target)
write_line_is_met cue q target =
    let m : Made = line_made q.section cue q.id q.date in
    record {
      κ = ([], ([], ([], ([], tt))));
      arguments = (slice q.section, (cue, (slice q.id, (slice q.date, (target_of target, tt)))));
      answer = answer_of m target;
      after = (slice q.section, (cue, (slice q.id, (slice q.date, (target_of (later_of m target), tt)))));
      taken = refl;
      left = refl;
      learnt_so = (refl, refl);
    }

pub write_daterange_is_met : (q : Cued) (target : List ℕ)
    → WritesDaterange q target (answer_of (daterange_made q.section q.id q.date) target) (later_of (daterange_made q.section q.id q.date) target)
write_daterange_is_met q target =
    let m : Made = daterange_made q.section q.id q.date in
    record {
      κ = ([], ([], ([], ([], tt))));
      arguments = (slice q.section, (slice q.id, (slice q.date, (target_of target, tt))));
      answer = answer_of m target;
      after = (slice q.section, (slice q.id, (slice q.date, (target_of (later_of m target), tt))));
      taken = refl;
      left = refl;
      learnt_so = (refl, refl);
    }

pub scte35_write_daterange_is_met : (q : Cued) (target : List ℕ)
    → WritesDaterangeC q target (flat_written (answer_of (daterange_made q.section q.id q.date) target)) (later_of (daterange_made q.section q.id q.date) target)
scte35_write_daterange_is_met q target =
    let m : Made = daterange_made q.section q.id q.date in
    record {
      κ = ([], ([], ([], ([], tt))));
      arguments = (slice q.section, (0, (slice q.id, (slice q.date, (target_of target, tt)))));
      answer = flat_written (answer_of m target);
      after = (slice q.section, (0, (slice q.id, (slice q.date, (target_of (later_of m target), tt)))));
      taken = refl;
      left = refl;
      learnt_so = (refl, refl);
    }

pub read_line_is_met : (line target : List ℕ) → ReadsLine line target (read_of line target) (read_later line target)
read_line_is_met line target = record {
  κ = ([], ([], tt));
  arguments = (slice line, (target_of target, tt));
  answer = read_of line target;
  after = (slice line, (target_of (read_later line target), tt));
  taken = refl;
  left = refl;
  learnt_so = (refl, refl);
}

pub scte35_read_daterange_is_met : (line target : List ℕ) → ReadsDaterangeC line target (flat_line (read_of line target)) (read_later line target)
scte35_read_daterange_is_met line target = record {
  κ = ([], ([], tt));
  arguments = (slice line, (0, (target_of target, tt)));
  answer = flat_line (read_of line target);
  after = (slice line, (0, (target_of (read_later line target), tt)));
  taken = refl;
  left = refl;
  learnt_so = (refl, refl);
}

pub line_number_is_met : (r : LineRefusal) → Numbers r (number_of r)
line_number_is_met r = record { κ = tt; arguments = (r, tt); answer = number_of r; after = (r, tt); taken = refl; left = refl; learnt_so = refl }
