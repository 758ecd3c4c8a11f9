use Rattle.std.proofs.Common.{◌∙◌, ℕ, sym, ap, refl, subst, count_by, unwrap_or, rules, ◌<◌}
use Rattle.std.specs.Prelude.{slice_get}
use Rattle.std.proofs.lemmas.Bool.{le-ltb, ltb-true, ltb-false}
use Rattle.task_ast.specs.Table.{Table, waits_at, next_of}
use Rattle.task_ast.specs.Turn.{issuing, passing}
use Rattle.token_order.specs.View.{table}
use Rattle.token_order.specs.Turned.{Answered}
use Rattle.token_order.proofs.Barriers.{comes, one_waits, last_goes, spent_issue}
use Rattle.task_ast.proofs.SeenSeats.{opened, opened_next}
use Rattle.token_order.proofs.Turning.{by, moved}
use Rattle.token_order.proofs.threads.Threads.come.Goals as goal

abbrev stated : Table → ℕ → ℕ
stated there barrier = unwrap_or (slice_get there.barriers barrier) 0

abbrev waiting : Table → ℕ → ℕ
waiting there barrier = count_by (waits_at barrier) there.seats

pub returns-then-waits_for_more-clause-answer : goal.returns-then-waits_for_more-clause-answer
returns-then-waits_for_more-clause-answer c next known is away =
    let self = table c.args.self.now in
    one_waits self c.args.t c.args.barrier (stated self c.args.barrier) (waiting self c.args.barrier) next
    (comes self c.args.t c.args.barrier next known is away) away refl refl
    (ltb-true _ _ (sym c.waits_for_more.ensures ∙ c.if-waits_for_more.true))
    ∙ ap (λ there. passing there c.args.t) (sym c.arrive.ensures.table) ∙ c.pass.ensures.passes

pub returns-clause-answer : goal.returns-clause-answer
returns-clause-answer c next known is away =
    let self = table c.args.self.now in (
      last_goes self c.args.t c.args.barrier (stated self c.args.barrier) (waiting self c.args.barrier) next
          (comes self c.args.t c.args.barrier next known is away) away refl refl
          (ltb-false _ _ (sym c.waits_for_more.ensures ∙ c.if-waits_for_more.false))
          ∙ spent_issue (opened self c.args.t c.args.barrier) c.args.t next (le-ltb c.args.self.now.issued c.args.self.now.limit (search rules)),
      refl,
    )

pub returns-then-self-clause-answer : goal.returns-then-self-clause-answer
returns-then-self-clause-answer c next known is away =
    let self = table c.args.self.now in
    let below : c.args.self.now.issued < c.args.self.now.limit = search rules in
    by self (table c.issue.new.self) c.issue.result
    (last_goes self c.args.t c.args.barrier (stated self c.args.barrier) (waiting self c.args.barrier) next
    (comes self c.args.t c.args.barrier next known is away) away refl refl
    (ltb-false _ _ (sym c.waits_for_more.ensures ∙ c.if-waits_for_more.false)))
    (moved (opened self c.args.t c.args.barrier) self (table c.issue.new.self) c.args.t next c.issue.result below
    (subst (λ there. Answered (issuing there c.args.t next) there c.issue.result (table c.issue.new.self)) c.open.ensures.table
    (c.issue.ensures.answer next (ap (λ there. next_of there c.args.t) c.open.ensures.table
    ∙ opened_next self c.args.t c.args.barrier c.args.t ∙ known))))
