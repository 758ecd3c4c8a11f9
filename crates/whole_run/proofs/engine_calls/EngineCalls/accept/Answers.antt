use Rattle.std.proofs.Common.{ap, subst, sym}
use Rattle.gp_base.specs.declared.journal.Event.TheVariants as event
use Rattle.std.specs.Result.{IfOk}
use Rattle.subthread.specs.Tasks.{task_of, effect_of, IsRun}
use Rattle.whole_run.specs.Gives.{Did}
use Rattle.whole_run.specs.Notes.{NotesTaken}
use Rattle.whole_run.specs.Takes.{TaskStands}
use Rattle.whole_run.specs.inner.Kept.{batch_in, view_of}
use Rattle.whole_run.proofs.engine_calls.EngineCalls.accept.Goals as goal

pub accept-requires-clause-task : goal.accept-requires-clause-task
accept-requires-clause-task g c =
    subst (λ view. TaskStands view (task_of view.batch.work c.args.done)) (sym (ap (λ e. e.view) c.self.view_is)) c.requires.task

pub accept-requires-clause-run : goal.accept-requires-clause-run
accept-requires-clause-run g c =
    subst (λ work. IsRun work c.args.done) (sym (ap (λ e. e.view.batch.work) c.self.view_is)) c.requires.run

pub returns-clause-did : goal.returns-clause-did
returns-clause-did g c =
    subst (λ view. IfOk c.accept.result (λ applies. Did view (event.Take c.args.done.task.pos c.args.done.task.attempt applies)
    (view_of (batch_in c.self.inside.plan) c.accept.new.parts)))
    (ap (λ e. e.view) c.self.view_is) c.accept.ensures.did

pub returns-clause-noted : goal.returns-clause-noted
returns-clause-noted g c =
    subst (λ work. IfOk c.accept.result (λ applies. NotesTaken applies (g.N.Notes.tells c.args.notes.now)
    (g.N.Notes.tells c.accept.new.notes) c.args.done.task.pos (effect_of work c.args.done)))
    (ap (λ e. e.view.batch.work) c.self.view_is) c.accept.ensures.noted
