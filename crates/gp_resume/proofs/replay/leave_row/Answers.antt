use Rattle.std.proofs.Common.{map, false, refl, ap, ◌∙◌}
use Rattle.task_ast.specs.meaning.Effect.{after}
use Rattle.record_store.specs.Lent.{marked, lock_in, whole_effect}
use Rattle.record_store.specs.Stored.{Stored, state_of}
use Rattle.gp_resume.specs.inner.RowsRead.{row_in, with_cells}
use Rattle.gp_resume.proofs.Replays.{effect-said}
use Rattle.gp_resume.proofs.replay.leave_row.Goals as goal

pub accept_home-requires-clause-comes : goal.accept_home-requires-clause-comes
accept_home-requires-clause-comes c = rw c.in_ok-bundles.ensures.store c.in_ok-bundles.ensures.set.comes

pub accept_home-requires-clause-thread : goal.accept_home-requires-clause-thread
accept_home-requires-clause-thread c = rw (c.in_ok-bundles.ensures.store, c.effect_of-effect.ensures) c.requires.thread

pub accept_home-requires-clause-child : goal.accept_home-requires-clause-child
accept_home-requires-clause-child c = rw (c.in_ok-bundles.ensures.store, c.effect_of-effect.ensures) c.requires.child

pub returns-clause-state : goal.returns-clause-state
returns-clause-state c =
    let sent = c.in_ok-bundles.ensures.store in
    let effect = c.effect_of-effect.result in
    c.accept_home.ensures.state
    ∙ (λ i. after (whole_effect (sent i).under c.in_ok-bundles.bundles c.in_ok-bundles.old effect) (state_of (sent i)))
    ∙ ap (λ e. after e (state_of c.args.store.now))
    (c.in_ok-bundles.ensures.set.says effect
    ∙ ap (λ e. with_cells e c.args.row.cells) c.effect_of-effect.ensures
    ∙ effect-said (row_in c.args.row) c.args.begun.now.thread c.args.begun.now.thread c.args.begun.now.child c.args.begun.now.child refl refl)

pub returns-clause-away : goal.returns-clause-away
returns-clause-away c =
    c.accept_home.ensures.away
    ∙ ap (λ (s : Stored). marked (map lock_in c.in_ok-bundles.bundles) false s.away) c.in_ok-bundles.ensures.store
    ∙ c.in_ok-bundles.ensures.set.home
