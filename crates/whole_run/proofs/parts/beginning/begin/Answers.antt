use Rattle.std.proofs.Common.{◌∙◌, ◌++◌, [], ◌∷◌, ap, length}
use Rattle.task_ast.specs.meaning.Names.{registers_of}
use Rattle.task_ast.specs.meaning.Plain.{main_task}
use Rattle.record_store.specs.Stored.{with_thread, without_threads}
use Rattle.whole_run.specs.View.{program_in}
use Rattle.whole_run.specs.inner.Kept.{batch_in}
use Rattle.whole_run.proofs.Opened.{kept_opens}
use Rattle.whole_run.proofs.parts.beginning.begin.Goals as goal

pub returns-clause-kept : goal.returns-clause-kept
returns-clause-kept c =
    kept_opens (batch_in c.args.plan.now) c.args.layout c.requires.suits c.requires.cuts c.args.plan.now.faults.in_range c.requires.few
    _ _ _ _ _ _ _ c.in_ok-place.place c.in_ok-ring.ensures.table
    (c.in_ok-push.ensures.items ∙ ap (λ items. items ++ c.in_ok-place.place ∷ []) c.new-places.ensures.items) c.in_ok-place.ensures
    (c.in_ok-store.ensures
    ∙ ap (λ records. with_thread (length (registers_of (main_task (program_in (batch_in c.args.plan.now)))))
    (without_threads records c.args.layout.under)) c.requires.records)
    c.new.ensures c.new-2.ensures.whole c.new-2.ensures.none c.new-3.ensures c.new-4.ensures
