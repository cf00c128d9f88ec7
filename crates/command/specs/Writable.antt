-- What a writer of an insert accepts. 01, refusal 33: "insert reserved other than 127; mixed immediate and timed components".
use Rattle.std.specs.Prelude.{Bool, true, not, ◌&&◌, List, [], ◌∷◌, eqb, get_or}
use Rattle.table.specs.Bits.{pick}
use Rattle.command.specs.Insert.{WithComponents, immediate, blank}
use Rattle.command.specs.declared.components.InsertComponent.{InsertComponent}
use Rattle.command.specs.declared.insert.SpliceInsert.{SpliceInsert}

-- are all immediate, or all timed?
abbrev pub alike : Bool → List InsertComponent → Bool
alike b [] = true
alike b (c ∷ cs) = pick b (immediate c.splice_time) (not (immediate c.splice_time)) && alike b cs

-- as the first is
abbrev pub unmixed : List InsertComponent → Bool
unmixed cs = alike (immediate (get_or cs 0 blank).splice_time) cs

unfoldable pub writable_insert : WithComponents SpliceInsert → Bool
writable_insert x = eqb x.value.reserved 127 && unmixed x.components
