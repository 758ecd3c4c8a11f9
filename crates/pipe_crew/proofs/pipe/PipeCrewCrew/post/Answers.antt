use Rattle.std.proofs.Common.{◌++◌, ap, sym, ◌∙◌, append_assoc}
use Rattle.std.proofs.lemmas.Result.{on_ok_weaker, on_err_weaker}
use Rattle.pipe_crew.specs.inner.Flying.{left_all}
use Rattle.pipe_crew.proofs.Flying.{had_not_failed}
use Rattle.pipe_crew.proofs.pipe.PipeCrewCrew.post.Goals as goal

pub returns-clause-ready : goal.returns-clause-ready
returns-clause-ready g c =
    let was = c.requires.ready in
    let told = c.post.ensures in
    let before = c.args.self.now.inbox in
    rw told.work (record {
      first_flies = was.first_flies;
      behind_fly = was.behind_fly;
      none =
          λ open_still. was.none (had_not_failed c.post.result before.failed c.post.new.self.failed (ap (λ s. s.failed))
          (ap (λ s. s.failed)) told.ok told.err open_still);
    })

pub returns-clause-work : goal.returns-clause-work
returns-clause-work g c = c.post.ensures.work

pub returns-clause-out : goal.returns-clause-out
returns-clause-out g c =
    let flying = left_all c.args.self.now.first c.args.self.now.behind.items in
    on_ok_weaker c.post.result (λ is. ap (λ s. flying ++ s.out) is ∙ sym (append_assoc flying c.args.self.now.inbox.out _)) c.post.ensures.ok

pub returns-clause-posted : goal.returns-clause-posted
returns-clause-posted g c = on_ok_weaker c.post.result (λ is. ap (λ s. s.posted) is) c.post.ensures.ok

pub returns-clause-out_kept : goal.returns-clause-out_kept
returns-clause-out_kept g c =
    let flying = left_all c.args.self.now.first c.args.self.now.behind.items in
    on_err_weaker c.post.result (λ is. ap (λ s. flying ++ s.out) is) c.post.ensures.err

pub returns-clause-posted_kept : goal.returns-clause-posted_kept
returns-clause-posted_kept g c = on_err_weaker c.post.result (λ is. ap (λ s. s.posted) is) c.post.ensures.err

pub returns-clause-back : goal.returns-clause-back
returns-clause-back g c = c.post.ensures.back

pub returns-clause-open : goal.returns-clause-open
returns-clause-open g c = on_ok_weaker c.post.result (λ is. ap (λ s. s.failed) is) c.post.ensures.ok

pub returns-clause-fails : goal.returns-clause-fails
returns-clause-fails g c = on_err_weaker c.post.result (λ is. ap (λ s. s.failed) is) c.post.ensures.err

pub returns-clause-stays_failed : goal.returns-clause-stays_failed
returns-clause-stays_failed g c = c.post.ensures.stays_failed
