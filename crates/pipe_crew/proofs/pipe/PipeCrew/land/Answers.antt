use Rattle.std.proofs.Common.{◌≡◌, ◌+◌, ◌∷◌, ◌++◌, true, false, IfSome, refl, sym, subst, ap, ◌∙◌, append_assoc}
use Rattle.std.specs.Arc.{arc_value}
use Rattle.std.specs.List.{flat_map}
use Rattle.std.proofs.lemmas.Result.{IfOk-weaker, on_ok_weaker, on_err_weaker}
use Rattle.desk_board.specs.Held.{about}
use Rattle.subthread.specs.Tasks.{IsRun, task_of}
use Rattle.crew.specs.State.{CrewState}
use Rattle.crew.proofs.Noted.{handed_on, handed_on_beside}
use Rattle.pipe_crew.specs.inner.Flights.{IsFlight, left_in}
use Rattle.pipe_crew.specs.inner.Flying.{left_all}
use Rattle.pipe_crew.proofs.Flying.{run_in, still_fly}
use Rattle.pipe_crew.proofs.pipe.PipeCrew.land.Goals as goal

pub returns-in_err-bring_back-clause-fly : goal.returns-in_err-bring_back-clause-fly
returns-in_err-bring_back-clause-fly g c =
    let after = c.in_err-bring_back.ensures in
    record {
      first_flies = subst (λ f. IfSome f (IsFlight c.bring_back.new.self.inbox.work (c.bring_back.new.self.threads + 1))) (sym (after.first ∙ c.requires.none)) tt;
      behind_fly = after.fly;
      none = λ kept. absurd (let both : true ≡ false = sym after.fails ∙ kept in cc);
    }

pub returns-clause-fly : goal.returns-clause-fly
returns-clause-fly g c =
    still_fly _ c.put_first.new.self.inbox c.noted.new.self c.noted.result _ _ c.noted.ensures.others
    (on_ok_weaker c.noted.result (λ kept. ap (λ s. s.failed) kept) c.noted.ensures.ok)
    (on_err_weaker c.noted.result (λ is. ap (λ s. s.failed) is) c.noted.ensures.err) c.put_first.ensures.fly

pub returns-clause-posts : goal.returns-clause-posts
returns-clause-posts g c =
    let noted = c.noted.ensures.others in
    let put = c.put_first.ensures.inbox in
    let back = c.in_ok-bring_back.ensures.posts in
    (ap (λ s. s.work) noted ∙ ap (λ s. s.work) put ∙ back.0, ap (λ s. s.posted) noted ∙ ap (λ s. s.posted) put ∙ back.1)

pub returns-clause-open : goal.returns-clause-open
returns-clause-open g c =
    on_ok_weaker c.noted.result
    (λ kept. ap (λ s. s.failed) kept ∙ ap (λ s. s.failed) c.put_first.ensures.inbox ∙ c.in_ok-bring_back.ensures.open) c.noted.ensures.ok

pub returns-clause-fails : goal.returns-clause-fails
returns-clause-fails g c = on_err_weaker c.noted.result (λ is. ap (λ s. s.failed) is) c.noted.ensures.err

pub returns-clause-taken : goal.returns-clause-taken
returns-clause-taken g c =
    let w = c.args.self.now.inbox.work in
    let back = c.in_ok-bring_back.ensures in
    let put = c.put_first.ensures in
    let gives = c.take-run.ensures.gives in
    let works = ap (λ b. (about (arc_value b)).with) back.board ∙ c.requires.flight.with in
    let same : left_in c.args.flight ≡ left_in c.bring_back.new.flight = rw (back.board, back.taken) refl in
    let left = left_all c.put_first.new.self.first c.put_first.new.self.behind.items in
    handed_on_beside
    (λ (inbox : CrewState) run. left_in c.args.flight ++ (flat_map left_in c.args.self.now.behind.items ++ c.args.self.now.inbox.out)
    ≡ task_of w run ∷ (left ++ inbox.out)) c.put_first.new.self.inbox c.noted.new.self c.take-run.result c.noted.result
    c.noted.ensures.value c.noted.ensures.ok
    (IfOk-weaker c.take-run.result (λ run. (task_of w run ≡ gives.task) × IsRun w run) _
    (λ run is. rw (same, gives.before_is, ← back.out, put.inbox, put.out, is.0, append_assoc) refl)
    (run_in _ w gives.task c.take-run.result works gives.answers))

pub returns-clause-run : goal.returns-clause-run
returns-clause-run g c =
    let w = c.args.self.now.inbox.work in
    let gives = c.take-run.ensures.gives in
    let works = ap (λ b. (about (arc_value b)).with) c.in_ok-bring_back.ensures.board ∙ c.requires.flight.with in
    handed_on (IsRun w) c.take-run.result c.noted.result c.noted.ensures.value
    (IfOk-weaker c.take-run.result (λ run. (task_of w run ≡ gives.task) × IsRun w run) _ (λ run is. is.1)
    (run_in _ w gives.task c.take-run.result works gives.answers))
