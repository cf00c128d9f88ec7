-- `crc_table::turned` meets its contract: antt works out every row.
use Rattle.std.proofs.Common.{refl}
use Rattle.crc_table.specs.Turns.{turn, turns, reversed}
use Rattle.crc_table.specs.declared.tables.TheConstants.{LEFT}
use Rattle.crc_table.proofs.Rows.{rows_from, tables_from, row_of}
use Rattle.crc_table.proofs.turned.Goals as goal

pub returns : goal.returns
unfolding tables_from rows_from turns turn reversed
returns c = row_of 32 LEFT refl refl c.args.zeros c.args.row
