-- The canonical form of a command. 01, "Canonical form and writer".
use Rattle.std.specs.Prelude.{ℕ, Bool, false, List, eqb, length}
use Rattle.command.specs.Command.{private, by_type}
use Rattle.command.specs.Insert.{insert}
use Rattle.splice_time.specs.Time.{splice_time}
use Rattle.table.specs.Table.{canonical_by}

-- Of a command, by its type: "every reserved bit 1; no spare byte in command". That "an insert by components with count 0 has immediate 0" is in its table.
unfoldable pub canonical_command : ℕ → List ℕ → Bool
canonical_command command_type payload =
    by_type command_type (eqb (length payload) 0) (canonical_by insert payload) (canonical_by splice_time payload) (eqb (length payload) 0) (canonical_by private payload) false
