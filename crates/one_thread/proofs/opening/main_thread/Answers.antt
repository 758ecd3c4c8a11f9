use Rattle.std.proofs.Common.{◌∙◌, ap, refl, unwrap_or, replicate, pos, position, []}
use Rattle.std.proofs.lemmas.Result.{IfOk-weaker}
use Rattle.task_ast.specs.declared.tree.Program.{Program}
use Rattle.task_ast.specs.declared.tree.TaskText.{TaskText}
use Rattle.task_ast.specs.meaning.Names.{is_name}
use Rattle.task_ast.specs.meaning.Declarations.{main}
use Rattle.one_thread.specs.Runs.{IsNew}
use Rattle.one_thread.specs.inner.Start.{IsFirst}
use Rattle.one_thread.proofs.Looking.{at-get}
use Rattle.one_thread.proofs.Openings.{first-thread}
use Rattle.one_thread.proofs.opening.main_thread.Goals as goal

pub returns : goal.returns
returns c =
    let tasks = c.as_slice.ensures ∙ ap (λ (program : Program). program.tasks) c.program.ensures in
    let place =
    c.unwrap_or-main.ensures ∙ ap (λ o. unwrap_or o 0)
    (c.main_place.ensures ∙ ap (position (λ (task : TaskText). is_name main task.name)) tasks) in
    let names =
    at-get c.args.slots.now c.args.slots.now c.unwrap_or-main.result c.in-Some.names.now refl c.in-Some.ensures.lookup.0
    c.in-Some.ensures.lookup.1 in
    IfOk-weaker c.new_thread.result
    (IsNew c.args.program.now.program c.unwrap_or-main.result 0 [] c.in_ok-registers.registers)
    (IsFirst c.args.program.now.program)
    (λ w new. first-thread c.args.program.now.program c.args.slots.now c.unwrap_or-main.result c.in-Some.names.now
    c.in_ok-registers.registers w c.requires place names
    (c.in_ok-registers.ensures ∙ ap (λ n. replicate n (pos 0)) c.len.ensures) new)
    c.new_thread.ensures
