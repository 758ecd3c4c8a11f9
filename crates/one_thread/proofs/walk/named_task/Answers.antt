use Rattle.std.proofs.Common.{◌≡◌, ◌<◌, Some, None, length, get_or, position, rules}
use Rattle.task_ast.specs.meaning.Names.{is_name}
use Rattle.task_ast.proofs.Looks.{get-at}
use Rattle.one_thread.proofs.Forks.{number-is, named-is, unnamed-is}
use Rattle.one_thread.proofs.walk.named_task.Goals as goal

pub returns-in-Some-clause-number : goal.returns-in-Some-clause-number
returns-in-Some-clause-number c =
    let at : Some c.in-Some.k ≡ position (λ task. is_name c.args.name.now task.name) c.args.program.now.program.tasks = search rules in
    number-is c.args.name.now c.args.program.now.program (Some c.in-Some.k) at

pub returns-in-Some-clause-task : goal.returns-in-Some-clause-task
returns-in-Some-clause-task c =
    let program = c.args.program.now.program in
    let at : Some c.in-Some.k ≡ position (λ task. is_name c.args.name.now task.name) c.args.program.now.program.tasks = search rules in
    let inside : c.in-Some.k < length c.args.program.now.program.tasks = search rules in
    let is : c.index-tasks-k.result ≡ get_or c.args.program.now.program.tasks c.in-Some.k c.index-tasks-k.result = search rules in
    named-is c.args.name.now program c.in-Some.k c.index-tasks-k.result at
    (get-at program.tasks c.in-Some.k c.index-tasks-k.result inside is)

pub returns-in-None-clause-none : goal.returns-in-None-clause-none
returns-in-None-clause-none c =
    let none : None ≡ position (λ task. is_name c.args.name.now task.name) c.args.program.now.program.tasks = search rules in
    unnamed-is c.args.name.now c.args.program.now.program none
