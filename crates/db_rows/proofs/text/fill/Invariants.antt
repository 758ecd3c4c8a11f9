use Rattle.std.proofs.Common.{◌≡◌, ◌++◌, [], map, drop}
use Rattle.csv.specs.Records.{fields_of, partial_of}
use Rattle.db_rows.specs.Csv.{field_of}
use Rattle.db_rows.proofs.text.fill.Given as goal

-- what was put and what is left are all
abbrev pub invariant-loop-at : goal.invariant-loop-at
invariant-loop-at l = (fields_of l.fields ++ map field_of (drop l.at l.row) ≡ map field_of (drop l.skip l.row)) × (partial_of l.fields ≡ [])
