use Rattle.std.proofs.Common.{Ok}
use Rattle.task_ast.specs.View.{plain_program}
use Rattle.task_parser.proofs.Whole.{exactly_at, same_program, first_fault, no_answer}
use Rattle.task_parser.proofs.programs.parse.Goals as goal

pub returns-in-Ok-clause-found : goal.returns-in-Ok-clause-found
returns-in-Ok-clause-found c =
    exactly_at c.args.text.now c.args.tokens.now (Ok (plain_program c.in-Ok.program)) (rw (← c.as_slice.ensures) c.in-Ok.ensures)

pub returns-in-Ok-clause-only : goal.returns-in-Ok-clause-only
returns-in-Ok-clause-only c =
    λ p h. same_program c.args.text.now c.args.tokens.now (plain_program c.in-Ok.program) p (rw (← c.as_slice.ensures) c.in-Ok.ensures) h

pub returns-in-Err-clause-only : goal.returns-in-Err-clause-only
returns-in-Err-clause-only c =
    λ p h. rw c.fault_of.ensures (no_answer c.args.text.now c.args.tokens.now c.in-Err.halt p
    (rw (← c.as_slice.ensures) c.in-Err.ensures) h)

pub returns-in-Err-clause-fault : goal.returns-in-Err-clause-fault
returns-in-Err-clause-fault c =
    rw c.fault_of.ensures (first_fault c.args.text.now c.args.tokens.now c.in-Err.halt (rw (← c.as_slice.ensures) c.in-Err.ensures))
