use Rattle.std.proofs.Common.{◌≡◌, ◌+◌, drop, option_map, position}
use Rattle.task_ast.specs.meaning.Tree as plain
use Rattle.task_ast.specs.meaning.Names.{is_name}
use Rattle.lock_checker.specs.Tables.{found, or_else}
use Rattle.task_code.specs.inner.Tables.{targets}
use Rattle.task_code.proofs.tables.places.Given as goal

abbrev pub invariant-loop-place : goal.invariant-loop-place
invariant-loop-place l =
    (x : plain.Name) → or_else (found l.table x) (option_map (λ k. l.place + k) (position (is_name x) (targets (drop l.place l.names))))
    ≡ position (is_name x) (targets l.names)
