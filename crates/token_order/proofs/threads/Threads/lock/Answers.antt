use Rattle.std.proofs.Common.{sym, ap, ◌∙◌, cond, is_none}
use Rattle.task_ast.specs.Table.{owner_in}
use Rattle.task_ast.specs.Turn.{issuing, passing}
use Rattle.token_order.specs.View.{table}
use Rattle.token_order.proofs.Turning.{by}
use Rattle.token_order.proofs.threads.Threads.lock.Goals as goal

pub returns-then-is_free-clause-answer : goal.returns-then-is_free-clause-answer
returns-then-is_free-clause-answer c next known =
    by (table c.args.self.now) (table c.issue.new.self) c.issue.result
    (ap (λ b. cond b (issuing (table c.args.self.now) c.args.t next) (passing (table c.args.self.now) c.args.t))
    (ap (λ owners. is_none (owner_in owners c.args.lock)) (sym c.deref.ensures.value) ∙ sym c.is_free.ensures
    ∙ c.if-is_free.true))
    (c.issue.ensures.answer next known)
