-- The flat form of what a line says.
use Rattle.std.specs.Prelude.{ℕ, Result, Ok, Err}
use Rattle.daterange_line.specs.declared.Cue.{Cue}
use Rattle.daterange_line.specs.declared.Cue.TheVariants.{Cmd, Out, In}
use Rattle.c_section.specs.Flat.{flat_view}
use Rattle.table.specs.Lent.{no_view}
use Rattle.c_daterange.specs.declared.FlatDaterange.{FlatDaterange}
use Rattle.daterange_line.specs.Reading.{number_of}
use Rattle.daterange_line.specs.declared.Reading.{Reading}
use Rattle.daterange_line.specs.declared.LineRefusal.{LineRefusal}

-- SCTE35-CMD, SCTE35-OUT, SCTE35-IN; 0 where nothing is read
unfoldable pub name_number : Cue → ℕ
name_number Cmd = 1
name_number Out = 2
name_number In = 3

-- what was read, or a refusal's number and zeros
unfoldable pub flat_daterange : Result Reading ℕ → FlatDaterange
flat_daterange (Ok x) = record { refusal = 0; id = flat_view x.id; date = flat_view x.date; name = name_number x.cue; length = x.len }
flat_daterange (Err n) = record { refusal = n; id = flat_view no_view; date = flat_view no_view; name = 0; length = 0 }

-- the same of a line's own refusals
unfoldable pub flat_line : Result Reading LineRefusal → FlatDaterange
flat_line (Ok x) = flat_daterange (Ok x)
flat_line (Err r) = flat_daterange (Err (number_of r))
