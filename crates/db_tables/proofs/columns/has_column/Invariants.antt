use Rattle.std.proofs.Common.{◌≡◌, drop}
use Rattle.db_tables.specs.Faults.{has_column}
use Rattle.db_tables.proofs.columns.has_column.Given as goal

abbrev pub invariant-loop-column : goal.invariant-loop-column
invariant-loop-column l = has_column l.columns l.name ≡ has_column (drop l.column-index l.columns) l.name
