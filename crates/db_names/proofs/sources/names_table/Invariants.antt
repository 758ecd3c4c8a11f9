use Rattle.std.proofs.Common.{◌≡◌, drop}
use Rattle.std.specs.List.{list_any}
use Rattle.sqlite_trees.specs.Sound.{same_name}
use Rattle.db_names.specs.Tables.{table_of}
use Rattle.db_names.proofs.sources.names_table.Given as goal

abbrev pub invariant-loop-source : goal.invariant-loop-source
invariant-loop-source l =
    list_any (λ it. same_name (table_of it.file) l.table) l.sources
    ≡ list_any (λ it. same_name (table_of it.file) l.table) (drop l.source-index l.sources)
