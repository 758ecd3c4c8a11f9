use Rattle.std.proofs.Common.{refl, sym, subst, ap, ◌∙◌}
use Rattle.subthread.specs.Tasks.{IsRun, task_of}
use Rattle.crew.specs.Out.{TakesOut}
use Rattle.pipe_crew.proofs.pipe.PipeCrew.run_oldest.Goals as goal

pub returns-clause-run : goal.returns-clause-run
returns-clause-run g c = subst (λ b. IsRun b.work c.in_ok-done.done) c.in-Some.ensures.others c.in_ok-done.ensures.run

pub returns-clause-taken : goal.returns-clause-taken
returns-clause-taken g c =
    let before = c.args.self.now.inbox in
    let done = c.in_ok-done.done in
    let same = sym (ap (λ b. task_of b.work done) c.in-Some.ensures.others) ∙ c.in_ok-done.ensures.task in
    subst (λ b. TakesOut before.out (task_of before.work done) b.out) (sym c.in_ok-done.ensures.inbox)
    (subst (λ t. TakesOut before.out t c.take.new.self.out) (sym same) c.in-Some.ensures.taken)

pub returns-in_default-clause-boards : goal.returns-in_default-clause-boards
returns-in_default-clause-boards g c = (refl, refl)

pub returns-in_default-clause-posts : goal.returns-in_default-clause-posts
returns-in_default-clause-posts g c = (ap (λ s. s.work) c.in_default.ensures.kept, ap (λ s. s.posted) c.in_default.ensures.kept)

pub returns-in_default-clause-open : goal.returns-in_default-clause-open
returns-in_default-clause-open g c = ap (λ s. s.failed) c.in_default.ensures.kept

pub returns-in_err-done-clause-boards : goal.returns-in_err-done-clause-boards
returns-in_err-done-clause-boards g c = c.in_err-done.ensures.boards

pub returns-in_err-done-clause-posts : goal.returns-in_err-done-clause-posts
returns-in_err-done-clause-posts g c =
    let noted = c.in_err-done.ensures.fails in
    let taken = c.in-Some.ensures.others in
    (ap (λ s. s.work) noted ∙ ap (λ s. s.work) taken, ap (λ s. s.posted) noted ∙ ap (λ s. s.posted) taken)

pub returns-in_err-done-clause-threads : goal.returns-in_err-done-clause-threads
returns-in_err-done-clause-threads g c = c.in_err-done.ensures.threads

pub returns-clause-boards : goal.returns-clause-boards
returns-clause-boards g c = c.in_ok-done.ensures.boards

pub returns-clause-posts : goal.returns-clause-posts
returns-clause-posts g c =
    let kept = c.in_ok-done.ensures.inbox in
    let taken = c.in-Some.ensures.others in
    (ap (λ s. s.work) kept ∙ ap (λ s. s.work) taken, ap (λ s. s.posted) kept ∙ ap (λ s. s.posted) taken)

pub returns-clause-threads : goal.returns-clause-threads
returns-clause-threads g c = c.in_ok-done.ensures.threads

pub returns-clause-open : goal.returns-clause-open
returns-clause-open g c = ap (λ s. s.failed) c.in_ok-done.ensures.inbox ∙ ap (λ s. s.failed) c.in-Some.ensures.others
