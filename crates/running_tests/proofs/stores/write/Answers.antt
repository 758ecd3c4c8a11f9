use Rattle.std.proofs.Common.{◌≡◌, [], ◌∷◌, None, cond, nat_eq, ap, ◌∙◌, rules}
use Rattle.task_ast.specs.meaning.State.{number_at}
use Rattle.record_store.specs.declared.effect.Effect.{Effect}
use Rattle.record_store.specs.Stored.{Stored}
use Rattle.running_tests.specs.Pairs.{each_alone}
use Rattle.running_tests.proofs.Pairs.{one_bundle, one_distinct, written}
use Rattle.running_tests.proofs.stores.write.Goals as goal

pub lend-requires-clause-distinct : goal.lend-requires-clause-distinct
lend-requires-clause-distinct c = one_distinct c.in_ok-held.held c.args.cell c.in_ok-held.ensures

pub returns-clause-cells : goal.returns-clause-cells
returns-clause-cells c =
    let lent = c.lend.new.self in
    let cell = c.args.cell in
    let bundles : c.in_ok-bundles.bundles ≡ one_bundle cell c.args.value = search rules in
    let old : c.in_ok-old.old ≡ (cell, c.args.before) ∷ [] = search rules in
    let under : lent.under ≡ each_alone = ap (λ (s : Stored). s.under) c.lend.ensures.store ∙ c.requires.pair.under in
    let effect : Effect = record { thread = 0; regs = c.plain.result; child = None; prints = c.new-2.result } in
    λ n.
    written lent c.accept_home-history.new.self cell c.args.before c.args.value effect under c.requires.exists
    (rw (bundles, old) at c.accept_home-history.ensures.state) n
    ∙ ap (λ (s : Stored). cond (nat_eq n cell) c.args.value (number_at s.cells n)) c.lend.ensures.store
