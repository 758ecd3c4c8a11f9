use Rattle.std.proofs.Common.{◌≡◌, ◌-◌}
use Rattle.std.specs.Prelude.{find}
use Rattle.task_ast.specs.meaning.Table.{numbers}
use Rattle.run_views.specs.meaning.Links.{is_shared, shared_cell}
use Rattle.run_views.proofs.links.shared_cell.Given as goal

-- the cell is one of those that are left
abbrev pub invariant-loop-cell : goal.invariant-loop-cell
invariant-loop-cell l = find (is_shared l.first l.second) (numbers l.cell (l.cells - l.cell)) ≡ shared_cell l.cells l.first l.second
