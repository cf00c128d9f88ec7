-- The flat form of a UPID, and the words of a refusal.
use Rattle.std.specs.Prelude.{ℕ, List, [], map, replicate, Ok, Err, Result}
use Rattle.table.specs.Lent.{filled_to}
use Rattle.upid.specs.Upid.{number_of, values_of}
use Rattle.upid.specs.declared.Part.{Part}
use Rattle.upid.specs.declared.PartList.{PartList}
use Rattle.upid.specs.declared.Upid.{Upid}
use Rattle.c_items.specs.declared.upids.FlatPart.{FlatPart}
use Rattle.c_items.specs.declared.upids.FlatUpid.{FlatUpid}
use Rattle.upid.specs.declared.Refusal.{Refusal}

-- a refusal's values, 0 where there is none
abbrev pub three : List ℕ → List ℕ
three values = filled_to 3 0 values

unfoldable pub flat_part : Part → FlatPart
flat_part p = record { upid_type = p.upid_type; level = p.level; start = p.start; len = p.len }

unfoldable pub no_parts : List FlatPart
no_parts = replicate 127 (record { upid_type = 0; level = 0; start = 0; len = 0 })

unfoldable pub flat_upid_read : Result ℕ Refusal → List ℕ → PartList → FlatUpid
flat_upid_read (Ok k) eidr list =
    record { refusal = 0; values = three []; upid_type = k; eidr = eidr; count = list.count; parts = map flat_part list.parts }
flat_upid_read (Err r) eidr list =
    record { refusal = number_of r; values = three (values_of r); upid_type = 0; eidr = replicate 12 0; count = 0; parts = no_parts }

unfoldable pub flat_upid : Upid → FlatUpid
flat_upid u = flat_upid_read u.read u.eidr u.list
