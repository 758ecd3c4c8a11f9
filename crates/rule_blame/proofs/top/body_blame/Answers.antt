use Rattle.std.proofs.Common.{◌≡◌, List, refl, subst, true, arith}
use Rattle.task_ast.specs.meaning.Held.{Pair, has}
use Rattle.task_ast.specs.View.{plain_task, plain_program}
use Rattle.rule_blame.specs.Views.{pair_of}
use Rattle.rule_blame.proofs.Blaming.{statement_true, plain_among}
use Rattle.rule_blame.proofs.top.body_blame.Goals as goal

pub returns-in-Some : goal.returns-in-Some
returns-in-Some c = λ among.
    statement_true (plain_program c.args.program.now) c.args.line (plain_task c.args.task.now) c.in-Some.blame
    (plain_among c.args.program.now.tasks c.args.task.now among)
    (rw (c.in-Some.is, c.as_slice.ensures, c.new-held.ensures.items) at c.in_ok-blame.ensures)

pub returns-in-Some-first : goal.returns-in-Some-first
returns-in-Some-first c = λ among.
    let ends = rw (c.in_default.is, c.as_slice.ensures, c.new-held.ensures.items) at c.in_ok-blame.ensures in
    let held = rw c.deref.ensures.value at c.in-Some-first.ensures in
    record {
      task = plain_task c.args.task.now;
      among = plain_among c.args.program.now.tasks c.args.task.now among;
      is = (omega arith, refl, subst (λ (l : List Pair). has l (pair_of c.in-Some-first.taken) ≡ true) ends held);
    }
