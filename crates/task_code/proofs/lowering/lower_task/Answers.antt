use Rattle.std.proofs.Common.{◌++◌, ap, ◌∙◌}
use Rattle.task_ast.specs.meaning.Names.{controls_of}
use Rattle.task_ast.specs.View.{plain_program, plain_task, plain_block}
use Rattle.lock_checker.specs.Accepted.{program_of}
use Rattle.task_code.specs.Lowering.{Scope, block_code}
use Rattle.task_code.specs.View.{plain_instrs}
use Rattle.task_code.proofs.lowering.lower_task.Goals as goal

pub returns-clause-code : goal.returns-clause-code
returns-clause-code c =
    let p = plain_program (program_of c.args.checked.now) in
    let regs = c.args.registers.now in
    let s : Scope = record { program = p; controls = c.as_slice.result.now; registers = regs } in
    let names = c.as_slice.ensures ∙ c.in_ok-controls.ensures in
    c.in_ok-lower_block.ensures
    ∙ ap (λ l. plain_instrs l ++ block_code s (plain_block c.as_slice-2.result.now)) c.new-code.ensures
    ∙ ap (λ b. block_code s (plain_block b)) c.as_slice-2.ensures
    ∙ ap (λ l. block_code (record { program = p; controls = l; registers = regs }) (plain_block c.args.task.now.body)) names
    ∙ ap (λ l. block_code (record { program = p; controls = controls_of (plain_task c.args.task.now); registers = l })
    (plain_block c.args.task.now.body)) c.requires.registers
