use Rattle.std.proofs.Common.{◌<◌, ap, cond, length, arith, rules}
use Rattle.std.proofs.lemmas.List.{length-map}
use Rattle.std.proofs.lemmas.Bool.{lt-ltb}
use Rattle.gp_base.specs.declared.ending.Why.TheVariants as why
use Rattle.task_ast.specs.Turn.{issuing, stuck}
use Rattle.token_order.specs.View.{table, seat_of}
use Rattle.token_order.proofs.Turning.{by}
use Rattle.token_order.proofs.threads.Threads.fork.Goals as goal

pub returns-then-len-clause-answer : goal.returns-then-len-clause-answer
returns-then-len-clause-answer c next task arguments known line =
    let few : length c.args.self.now.seats.items < 4096 = search rules in
    let same = length-map c.args.self.now.seats.items seat_of in
    by (table c.args.self.now) (table c.issue.new.self) c.issue.result
    (ap (λ b. cond b (issuing (table c.args.self.now) c.args.t next) (stuck why.Threads c.args.t next)) (lt-ltb _ _ (omega arith)))
    (c.issue.ensures.answer next known)
