-- Document 02's numbers of what is refused in reading a line, in figures.
use mathlib.Core.Path.{◌≡◌, refl}
use Rattle.daterange_line.specs.Reading.{number_of}
use Rattle.daterange_line.specs.declared.LineRefusal.TheVariants.{MalformedLine, AttributeMissing, TargetTooShort}

-- "Reading, in order, 52 another tag, bad attribute list ..; 51 ID, date or all three names missing; 36"
pub line_numbers : (number_of MalformedLine ≡ 52) × (number_of AttributeMissing ≡ 51) × (number_of TargetTooShort ≡ 36)
line_numbers = (refl, refl, refl)
