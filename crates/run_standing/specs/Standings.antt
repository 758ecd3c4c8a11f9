-- Where the threads of a run stand.
use Rattle.std.specs.Prelude.{◌≡◌, List, map}
use Rattle.task_ast.specs.meaning.Control.{Point}
use Rattle.task_ast.specs.Table.{Table}
use Rattle.run_standing.specs.declared.standing.Standing.{Standing}

-- the threads of a table stand so, at these points
pub record Stands (table : Table) (points : List Point) (standing : Standing) : Type 0 where
  pub nexts : standing.nexts.items ≡ map (λ seat. seat.next) table.seats
  pub owners : standing.owners.items ≡ table.owners
  pub names : standing.names.items ≡ map (λ point. point.names) points
