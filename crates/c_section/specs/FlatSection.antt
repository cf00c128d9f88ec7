-- The flat form of a section.
use Rattle.command.specs.declared.SpliceCommand.{SpliceCommand}
use Rattle.table.specs.Lent.{no_view}
use Rattle.section.specs.Section.{number_of}
use Rattle.section.specs.declared.Frame.{Frame}
use Rattle.c_section.specs.Flat.{flat_header, no_header, flat_view}
use Rattle.c_section.specs.FlatCommand.{flat_command, no_command}
use Rattle.c_section.specs.declared.headers.FlatHeader.{FlatHeader}
use Rattle.c_section.specs.declared.sections.FlatSection.{FlatSection}
use Rattle.std.specs.Prelude.{Ok, Err, Result}
use Rattle.section.specs.declared.Section.{Section}
use Rattle.section.specs.declared.Refusal.{Refusal}

-- of a section's parts, whose header is flat already
abbrev pub flat_parts : FlatHeader → SpliceCommand → Frame → FlatSection
flat_parts h c f = record { refusal = 0; header = h; command = flat_command c; descriptors = flat_view f.descriptors; payload = flat_view f.command }

unfoldable pub flat_section_read : Result Section Refusal → FlatSection
flat_section_read (Ok x) = flat_parts (flat_header x.header) x.command (record { command = x.payload; descriptors = x.descriptors })
flat_section_read (Err r) = record { refusal = number_of (Err r); header = no_header 0; command = no_command 0 0; descriptors = flat_view no_view; payload = flat_view no_view }
