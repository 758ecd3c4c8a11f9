use Rattle.std.proofs.Common.{◌∙◌, rules}
use Rattle.task_ast.specs.View.{plain_program}
use Rattle.lock_checker.proofs.BodyLemmas.{bodies_later, body_told}
use Rattle.lock_checker.proofs.program.check_bodies.Goals as goal

pub returns-in-Err : goal.returns-in-Err
returns-in-Err c =
    body_told (plain_program c.args.program.now) c.args.program.now.tasks c.loop-task.task-index c.task-item.result (search rules)
    (search rules) c.in-Err.fault _ c.loop-task.invariant c.in-Err.ensures

pub loop-task-preserved : goal.loop-task-preserved
loop-task-preserved c =
    bodies_later (plain_program c.args.program.now) c.args.program.now.tasks c.loop-task.task-index c.task-item.result (search rules)
    (search rules) c.in-Ok.ensures ∙ c.loop-task.invariant
