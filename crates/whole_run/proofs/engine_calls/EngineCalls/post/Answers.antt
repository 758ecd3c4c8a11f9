use Rattle.std.proofs.Common.{◌≡◌, All, Contains, ◌++◌, ◌∷◌, [], ap, subst, sym}
use Rattle.std.specs.Result.{OnOk}
use Rattle.gp_base.specs.declared.journal.Event.TheVariants as event
use Rattle.dependence.specs.Standing.{present}
use Rattle.subthread.specs.declared.task.Task.{Task}
use Rattle.crew.specs.Out.{pair_of}
use Rattle.whole_run.specs.View.{now}
use Rattle.whole_run.specs.Gives.{Did, MayPostNow}
use Rattle.whole_run.specs.Takes.{TaskStands}
use Rattle.whole_run.specs.inner.Kept.{batch_in, view_of}
use Rattle.whole_run.proofs.engine_calls.EngineCalls.post.Goals as goal

pub post-requires-clause-may : goal.post-requires-clause-may
post-requires-clause-may g c lifetimes within =
    subst (λ view. MayPostNow view c.args.position) (sym (ap (λ e. e.view) c.self.view_is)) c.requires.may

pub post-requires-clause-posted : goal.post-requires-clause-posted
post-requires-clause-posted g c lifetimes within =
    subst (λ view. All (Contains (now view).posted) (g.C.Crew.posted c.args.crew.now))
    (sym (ap (λ e. e.view) c.self.view_is)) c.requires.posted

pub returns-clause-did : goal.returns-clause-did
returns-clause-did g c =
    subst (λ view. OnOk c.post.result (Did view (event.Post c.args.position (present (now view) c.args.position))
    (view_of (batch_in c.self.inside.plan) c.post.new.parts)))
    (ap (λ e. e.view) c.self.view_is) c.post.ensures.did

pub returns-clause-out : goal.returns-clause-out
returns-clause-out g c =
    subst (λ view. OnOk c.post.result ((task : Task) × (g.C.Crew.out c.post.new.crew ≡ g.C.Crew.out c.args.crew.now ++ task ∷ [])
    × (pair_of task ≡ (c.args.position, present (now view) c.args.position))
    × TaskStands (view_of (batch_in c.self.inside.plan) c.post.new.parts) task))
    (ap (λ e. e.view) c.self.view_is) c.post.ensures.out

pub returns-clause-posted : goal.returns-clause-posted
returns-clause-posted g c =
    subst (λ view. OnOk c.post.result (g.C.Crew.posted c.post.new.crew
    ≡ g.C.Crew.posted c.args.crew.now ++ (c.args.position, present (now view) c.args.position) ∷ []))
    (ap (λ e. e.view) c.self.view_is) c.post.ensures.posted
