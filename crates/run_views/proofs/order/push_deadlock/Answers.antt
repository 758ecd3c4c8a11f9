use Rattle.std.proofs.Common.{◌∙◌}
use Rattle.task_ast.specs.View.{plain_program}
use Rattle.lock_checker.specs.Accepted.{program_of}
use Rattle.run_views.proofs.Endings.{same_count, most_steps}
use Rattle.run_views.proofs.order.push_deadlock.Goals as goal

pub subthreads_of-subthreads-requires : goal.subthreads_of-subthreads-requires
subthreads_of-subthreads-requires c =
    most_steps (plain_program (program_of c.args.c.now)) c.args.inputs.now c.args.limits c.args.run.now c.requires

pub push_stand-requires : goal.push_stand-requires
push_stand-requires c =
    c.subthreads_of-subthreads.ensures
    ∙ same_count (plain_program (program_of c.args.c.now)) c.args.inputs.now c.args.limits c.args.run.now c.requires
