use Rattle.std.proofs.Common.{◌≡◌, drop, map}
use Rattle.task_ast.specs.meaning.Check.{bodies_visits}
use Rattle.task_ast.specs.View.{plain_task, plain_program}
use Rattle.task_ast.specs.meaning.Visit.{first_fault}
use Rattle.lock_checker.proofs.program.check_bodies.Given as goal

-- the bodies left tell the rest
abbrev pub invariant-loop-task : goal.invariant-loop-task
invariant-loop-task l =
    first_fault (bodies_visits (plain_program l.program) (map plain_task (drop l.task-index l.program.tasks)))
    ≡ first_fault (bodies_visits (plain_program l.program) (map plain_task l.program.tasks))
