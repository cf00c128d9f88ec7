-- For the contracts of private functions. No public contract cites this.
use Rattle.std.specs.Prelude.{ℕ, List, Ok, Result}
use Rattle.command.specs.declared.SpliceCommand.{SpliceCommand}
use Rattle.section.specs.Section.{frame_in, layout_tests, unless_first, private_view}
use Rattle.section.specs.declared.Frame.{Frame}
use Rattle.section.specs.declared.Refusal.{Refusal}

-- where a command's view begins
abbrev pub view_start : SpliceCommand → ℕ
view_start c = (private_view c).at

-- the frame of a section that has a header: refusals 6 to 9
unfoldable pub layout_of : List ℕ → Result Frame Refusal
layout_of s = unless_first (layout_tests s) (Ok (frame_in s))
