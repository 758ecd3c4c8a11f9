use Rattle.std.proofs.Common.{◌<◌, length, ap, subst, ◌∙◌, arith}
use Rattle.std.specs.Prelude.{MatchOption}
use Rattle.task_ast.specs.declared.tree.Program.{Program}
use Rattle.task_ast.specs.View.{plain_program}
use Rattle.task_ast.specs.Plain.{order}
use Rattle.task_ast.specs.Position.{before}
use Rattle.lock_checker.specs.Accepted.{program_of}
use Rattle.run_standing.specs.Standings.{Stands}
use Rattle.run_views.proofs.Endings.{told_at_end}
use Rattle.run_views.proofs.order.push_stand.Goals as goal

pub returns-in-Some : goal.returns-in-Some
returns-in-Some c =
    let program = plain_program (program_of c.args.c.now) in
    let here = before program c.args.inputs.now c.args.limits c.args.subthreads in
    let there = c.in-Some.standing in
    let stands =
    subst (λ o. MatchOption o (length (order program c.args.inputs.now c.args.limits) < c.args.subthreads) (Stands here.table here.points))
    c.in-Some.is c.in_ok-standing.ensures in
    let heads = c.as_slice.ensures ∙ ap (λ (p : Program). p.heads) c.program.ensures in
    told_at_end program c.args.inputs.now c.args.limits c.args.subthreads there c.requires stands c.push_standing.result
    c.as_slice.result.now heads c.args.text.now.items c.push_standing.new.text.items c.push_standing.ensures

pub returns-in-None : goal.returns-in-None
returns-in-None c =
    let program = plain_program (program_of c.args.c.now) in
    let here = before program c.args.inputs.now c.args.limits c.args.subthreads in
    let short : length (order program c.args.inputs.now c.args.limits) < c.args.subthreads =
    subst (λ o. MatchOption o (length (order program c.args.inputs.now c.args.limits) < c.args.subthreads) (Stands here.table here.points))
    c.in-None.is c.in_ok-standing.ensures in
    let all = c.requires in
    absurd (omega (arith, short, all))
