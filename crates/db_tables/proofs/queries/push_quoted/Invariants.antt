use Rattle.std.proofs.Common.{◌≡◌, [], ◌∷◌, ◌++◌, take}
use Rattle.std.specs.Prelude.{flat_map}
use Rattle.db_tables.specs.Queries.{doubled}
use Rattle.db_tables.proofs.queries.push_quoted.Given as goal

abbrev pub invariant-loop-byte : goal.invariant-loop-byte
invariant-loop-byte l = l.sql.items ≡ (l.fn.sql.items ++ 34 ∷ []) ++ flat_map doubled (take l.byte-index l.name)
