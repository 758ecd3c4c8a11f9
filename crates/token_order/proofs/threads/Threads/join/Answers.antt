use Rattle.std.proofs.Common.{◌≡◌, sym, ap, ◌∙◌, refl, cond, length, Some, rules, w64, SFits}
use Rattle.std.proofs.lemmas.Int.{to_z-of_z}
use Rattle.std.proofs.lemmas.List.{length-map}
use Rattle.task_ast.specs.Turn.{issuing, passing, at_join}
use Rattle.token_order.specs.View.{table, seat_of}
use Rattle.task_ast.specs.Looking.{joined_in}
use Rattle.task_ast.proofs.SeenSeats.{next-at}
use Rattle.token_order.proofs.Joins.{join_there}
use Rattle.token_order.proofs.Turning.{by, seen}
use Rattle.token_order.proofs.threads.Threads.join.Goals as goal
use Rattle.token_order.proofs.threads.Threads.join.Goals.{In-Some}

-- the thread that is joined
found : (c : In-Some) → Some c.in-Some.other ≡ joined_in c.args.h c.len.result
found c = let fits : SFits w64 c.args.h = search rules in simp to_z-of_z at c.in-Some.ensures

many : (c : In-Some) → c.len.result ≡ length (table c.args.self.now).seats
many c =
    let all : c.len.result ≡ length c.args.self.now.seats.items = search rules in
    all ∙ sym (length-map c.args.self.now.seats.items seat_of)

pub returns-in-None-clause-answer : goal.returns-in-None-clause-answer
returns-in-None-clause-answer c next known line =
    let some = (goal.at.returns-in-None-clause-answer c).In-Some in
    let at = seen c.args.self.now c.in-Some.other c.index.result.now (search rules) c.index.ensures in (
      join_there (table c.args.self.now) c.args.h c.len.result c.in-Some.other c.args.t next (found some) (many some)
          ∙ ap (λ o. at_join c.in-Some.other o (table c.args.self.now) c.args.t next)
          (next-at (table c.args.self.now) c.in-Some.other (seat_of c.index.result.now) at ∙ c.in-None.is),
      refl,
    )

pub returns-then-is_end-clause-answer : goal.returns-then-is_end-clause-answer
returns-then-is_end-clause-answer c next known line =
    let some = (goal.at.returns-then-is_end-clause-answer c).In-Some in
    let at = seen c.args.self.now c.in-Some.other c.index.result.now (search rules) c.index.ensures in
    by (table c.args.self.now) (table c.issue.new.self) c.issue.result
    (join_there (table c.args.self.now) c.args.h c.len.result c.in-Some.other c.args.t next (found some) (many some)
    ∙ ap (λ o. at_join c.in-Some.other o (table c.args.self.now) c.args.t next)
    (next-at (table c.args.self.now) c.in-Some.other (seat_of c.index.result.now) at ∙ c.in-Some-next.is)
    ∙ ap (λ b. cond b (issuing (table c.args.self.now) c.args.t next) (passing (table c.args.self.now) c.args.t))
    (sym c.is_end.ensures ∙ c.if-is_end.true))
    (c.issue.ensures.answer next known)

pub returns-else-is_end-clause-answer : goal.returns-else-is_end-clause-answer
returns-else-is_end-clause-answer c next known line =
    let some = (goal.at.returns-else-is_end-clause-answer c).In-Some in
    let at = seen c.args.self.now c.in-Some.other c.index.result.now (search rules) c.index.ensures in
    join_there (table c.args.self.now) c.args.h c.len.result c.in-Some.other c.args.t next (found some) (many some)
    ∙ ap (λ o. at_join c.in-Some.other o (table c.args.self.now) c.args.t next)
    (next-at (table c.args.self.now) c.in-Some.other (seat_of c.index.result.now) at ∙ c.in-Some-next.is)
    ∙ ap (λ b. cond b (issuing (table c.args.self.now) c.args.t next) (passing (table c.args.self.now) c.args.t))
    (sym c.is_end.ensures ∙ c.if-is_end.false)
    ∙ c.pass.ensures.passes
