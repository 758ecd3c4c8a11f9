use Rattle.std.proofs.Common.{◌∙◌, ap, refl}
use Rattle.task_ast.specs.declared.tree.Program.{Program}
use Rattle.task_ast.specs.View.{plain_stmts}
use Rattle.one_thread.proofs.Looking.{at-get}
use Rattle.one_thread.proofs.ThreadLemmas.{new-is}
use Rattle.one_thread.proofs.threads.new_thread.Goals as goal

pub returns : goal.returns
returns c =
    let tasks = c.as_slice.ensures ∙ ap (λ (program : Program). program.tasks) c.program.ensures in
    let at =
    at-get _ c.args.program.now.program.tasks c.args.task c.in-Some.text.now tasks c.in-Some.ensures.lookup.0
    c.in-Some.ensures.lookup.1 in
    let there =
    at-get c.args.slots.now c.args.slots.now c.args.task c.in-Some-get.names.now refl c.in-Some-get.ensures.lookup.0
    c.in-Some-get.ensures.lookup.1 in
    new-is c.args.program.now.program c.args.slots.now c.args.task c.args.me c.args.arguments.now c.args.registers _ c.in-Some.text.now
    c.in-Some-get.names.now c.requires at there
    refl refl c.as_slice-2.ensures (c.new.ensures ∙ ap plain_stmts c.as_slice-3.ensures) c.in_ok-variables.ensures
    c.new-2.ensures c.in_ok-me.ensures refl
