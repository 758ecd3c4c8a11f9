use Rattle.std.proofs.Common.{◌≡◌, ◌≤◌, drop}
use Rattle.db_names.specs.Tables.{without_folders}
use Rattle.db_names.proofs.Slashes.{left_of}
use Rattle.db_names.proofs.tables.without_folders.Given as goal

abbrev pub invariant-loop-at : goal.invariant-loop-at
invariant-loop-at l = (without_folders l.file ≡ left_of (drop l.at l.file) (drop l.start l.file)) × (l.start ≤ l.at)
