-- Which of the three names a section is written under, and the line (document 02, Q-1).
use Rattle.std.specs.Prelude.{ℕ, List, Ok, Err, Result}
use Rattle.command.specs.declared.SpliceCommand.{SpliceCommand}
use Rattle.command.specs.declared.insert.SpliceDetail.{SpliceDetail}
use Rattle.daterange_line.specs.declared.Cue.{Cue}
use Rattle.daterange_line.specs.declared.Cue.TheVariants.{Cmd, Out, In}
use Rattle.daterange_writer.specs.Writing.{line_made}
use Rattle.names.specs.declared.flags.NetworkIndicator.{NetworkIndicator}
use Rattle.section.specs.Section.{section_of, number_of}
use Rattle.table.specs.Writing.{Made, refused}
use Rattle.section.specs.declared.Section.{Section}
use Rattle.section.specs.declared.Refusal.{Refusal}

-- "SCTE35-OUT for a splice insert that leaves the network, SCTE35-IN for one that returns"
abbrev pub leaving : NetworkIndicator → Cue
leaving NetworkIndicator.Out = Out
leaving NetworkIndicator.In = In

-- "cancelled inserts included": they are among all else
abbrev pub inserted : SpliceDetail → Cue
inserted SpliceDetail.Cancel = Cmd
inserted (SpliceDetail.Insert i) = leaving i.network_indicator

-- "SCTE35-CMD for all else"
unfoldable pub cue_for : SpliceCommand → Cue
cue_for (SpliceCommand.SpliceInsert i) = inserted i.splice_detail
cue_for SpliceCommand.SpliceNull = Cmd
cue_for (SpliceCommand.TimeSignal t) = Cmd
cue_for SpliceCommand.BandwidthReservation = Cmd
cue_for (SpliceCommand.PrivateCommand p) = Cmd

-- "1 to 11 for the section; 53 an ID or date holding a double quote, CR or LF; 36" (53 by `line_made`, 36 by `answer_of`)
abbrev pub made_for : List ℕ → List ℕ → List ℕ → Result Section Refusal → Made
made_for section id date (Ok x) = line_made section (cue_for x.command) id date
made_for section id date (Err r) = refused (number_of (Err r))

unfoldable pub daterange_made : List ℕ → List ℕ → List ℕ → Made
daterange_made section id date = made_for section id date (section_of section)
