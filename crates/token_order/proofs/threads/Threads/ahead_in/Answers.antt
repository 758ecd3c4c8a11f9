use Rattle.std.proofs.Common.{◌∙◌, sym, ap, not, cond, is_some, refl, Option, Some, None, ℕ}
use Rattle.task_ast.specs.Looking.{look_of}
use Rattle.task_ast.specs.Table.{next_of}
use Rattle.task_ast.specs.Turn.{has_passed}
use Rattle.task_ast.proofs.SeenSeats.{next-at}
use Rattle.token_order.specs.Spans.{shown}
use Rattle.token_order.specs.View.{table, seat_of}
use Rattle.token_order.proofs.Shown.{ahead_at, none_ahead}
use Rattle.token_order.proofs.Turning.{seen}
use Rattle.token_order.proofs.threads.Threads.ahead_in.Goals as goal

pub returns-in_default : goal.returns-in_default
returns-in_default c =
    sym (none_ahead c.args.span (table c.args.self.now)
    (c.token_at.ensures.found ∙ ap (look_of (table c.args.self.now)) c.in_default.is))

pub returns-then-is_none : goal.returns-then-is_none
returns-then-is_none c =
    let there = table c.args.self.now in
    let at = seen c.args.self.now c.in-Some.t c.index.result.now c.in-Some.ensures.below c.index.ensures in
    sym (ahead_at c.args.span there c.in-Some.t (next_of there c.in-Some.t) (has_passed (shown c.args.span there) c.in-Some.t)
    c.in-Some.ensures.found refl
    ∙ ap (λ b. cond {A = Option ℕ} b (cond (has_passed (shown c.args.span there) c.in-Some.t) None (Some c.in-Some.t)) None)
    (ap is_some (next-at there c.in-Some.t (seat_of c.index.result.now) at) ∙ c.is_none.ensures ∙ ap not c.if-is_none.true))

pub returns-then-has_passed : goal.returns-then-has_passed
returns-then-has_passed c =
    let there = table c.args.self.now in
    let at = seen c.args.self.now c.in-Some.t c.index.result.now c.in-Some.ensures.below c.index.ensures in
    sym (ahead_at c.args.span there c.in-Some.t (next_of there c.in-Some.t) _
    c.in-Some.ensures.found (sym c.has_passed.ensures ∙ c.if-has_passed.true)
    ∙ ap (λ b. cond {A = Option ℕ} b None None)
    (ap is_some (next-at there c.in-Some.t (seat_of c.index.result.now) at) ∙ c.is_none.ensures ∙ ap not c.if-is_none.false))

pub returns-else-has_passed : goal.returns-else-has_passed
returns-else-has_passed c =
    let there = table c.args.self.now in
    let at = seen c.args.self.now c.in-Some.t c.index.result.now c.in-Some.ensures.below c.index.ensures in
    sym (ahead_at c.args.span there c.in-Some.t (next_of there c.in-Some.t) _
    c.in-Some.ensures.found (sym c.has_passed.ensures ∙ c.if-has_passed.false)
    ∙ ap (λ b. cond {A = Option ℕ} b (Some c.in-Some.t) None)
    (ap is_some (next-at there c.in-Some.t (seat_of c.index.result.now) at) ∙ c.is_none.ensures ∙ ap not c.if-is_none.false))
