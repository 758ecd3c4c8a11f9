use Rattle.std.proofs.Common.{◌≡◌, sym, subst, ◌∙◌}
use Rattle.std.proofs.lemmas.Result.{IfOk-weaker}
use Rattle.subthread.specs.Tasks.{Fits, IsRun, task_of}
use Rattle.crew.proofs.Noted.{handed_on}
use Rattle.pipe_crew.proofs.Flying.{run_in}
use Rattle.pipe_crew.proofs.pipe.PipeCrew.run_here.Goals as goal

pub run_noted-run-requires : goal.run_noted-run-requires
run_noted-run-requires g c = subst (λ w. Fits w c.args.task) (c.args.self.now.same ∙ sym c.deref.ensures) c.requires

pub returns-clause-task : goal.returns-clause-task
returns-clause-task g c =
    let w = c.args.self.now.inbox.work in
    handed_on (λ done. task_of w done ≡ c.args.task) c.run_noted-run.result c.noted.result c.noted.ensures.value
    (IfOk-weaker c.run_noted-run.result (λ done. (task_of w done ≡ c.args.task) × IsRun w done) _ (λ done is. is.0)
    (run_in _ w c.args.task c.run_noted-run.result (c.deref.ensures ∙ sym c.args.self.now.same) c.run_noted-run.ensures))

pub returns-clause-run : goal.returns-clause-run
returns-clause-run g c =
    let w = c.args.self.now.inbox.work in
    handed_on (IsRun w) c.run_noted-run.result c.noted.result c.noted.ensures.value
    (IfOk-weaker c.run_noted-run.result (λ done. (task_of w done ≡ c.args.task) × IsRun w done) _ (λ done is. is.1)
    (run_in _ w c.args.task c.run_noted-run.result (c.deref.ensures ∙ sym c.args.self.now.same) c.run_noted-run.ensures))
