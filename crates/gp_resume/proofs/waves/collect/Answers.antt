use Rattle.std.proofs.Common.{ℕ, ◌-◌, Some, refl, sym, ap, ◌∙◌, subst}
use Rattle.std.specs.Prelude.{slice_set}
use Rattle.subthread.specs.Tasks.{task_of, IsRun}
use Rattle.crew.specs.Out.{TakesOut}
use Rattle.gp_resume.specs.inner.Waves.{Filling}
use Rattle.gp_resume.proofs.Fillings.{filling-first, filling-at, filling-more, filling-last}
use Rattle.gp_resume.proofs.waves.collect.Goals as goal
use Rattle.gp_resume.proofs.waves.collect.Goals.{In-Some}

-- the run that came back is one of those that were out
takes : (g : _) (c : In-Some g)
    → TakesOut (g.C.Crew.out c.collecting.crew) (task_of (g.C.Crew.work c.args.crew.now) c.in-Some.done) (g.C.Crew.out c.next.new.self)
takes g c =
    subst (λ work. TakesOut (g.C.Crew.out c.collecting.crew) (task_of work c.in-Some.done) (g.C.Crew.out c.next.new.self))
    c.collecting.invariant.work_is (rw c.in-Some.is at c.in_ok-next.ensures.taken)

runs : (g : _) (c : In-Some g) → IsRun (g.C.Crew.work c.args.crew.now) c.in-Some.done
runs g c = subst (λ work. IsRun work c.in-Some.done) c.collecting.invariant.work_is (rw c.in-Some.is at c.in_ok-next.ensures.run)

pub collecting-init : goal.collecting-init
collecting-init g c =
    record {
      filling = filling-first (g.C.Crew.work c.args.crew.now) (g.C.Crew.out c.args.crew.now) c.args.places.items c.requires.places;
      is_ready = c.requires.ready;
      work_is = refl;
      posted_is = refl;
    }

pub place-at-requires : goal.place-at-requires
place-at-requires g c =
    let at = (goal.at.place-at-requires g c).In-Some in
    record {
      behind = rw c.position_of-position.ensures (filling-at (g.C.Crew.work c.args.crew.now) c.args.first (g.C.Crew.out c.args.crew.now) (g.C.Crew.out c.collecting.crew)
          c.collecting.runs.items c.requires.placed c.collecting.invariant.filling c.in-Some.done (g.C.Crew.out c.next.new.self) (takes g at)).0;
    }

pub keep-runs-requires : goal.keep-runs-requires
keep-runs-requires g c =
    let at = (goal.at.keep-runs-requires g c).In-Some in
    record {
      inside = rw (c.place-at.ensures ∙ ap (λ (p : ℕ). p - c.args.first) c.position_of-position.ensures) (filling-at (g.C.Crew.work c.args.crew.now) c.args.first (g.C.Crew.out c.args.crew.now) (g.C.Crew.out c.collecting.crew)
          c.collecting.runs.items c.requires.placed c.collecting.invariant.filling c.in-Some.done (g.C.Crew.out c.next.new.self) (takes g at)).1;
    }

pub collecting-preserved : goal.collecting-preserved
collecting-preserved g c =
    let at = (goal.at.collecting-preserved g c).In-Some in
    record {
      filling = subst (Filling (g.C.Crew.work c.args.crew.now) (g.C.Crew.out c.args.crew.now)
          (g.C.Crew.out c.next.new.self)) (sym (c.keep-runs.ensures ∙ ap (λ at. slice_set c.collecting.runs.items at (Some c.in-Some.done)) (c.place-at.ensures ∙ ap (λ (p : ℕ). p - c.args.first) c.position_of-position.ensures)))
          (filling-more (g.C.Crew.work c.args.crew.now) c.args.first (g.C.Crew.out c.args.crew.now) (g.C.Crew.out c.collecting.crew)
          c.collecting.runs.items c.requires.placed c.collecting.invariant.filling c.in-Some.done (g.C.Crew.out c.next.new.self) (takes g at)
          (runs g at));
      is_ready = c.next.ensures.ready;
      work_is = c.next.ensures.work ∙ c.collecting.invariant.work_is;
      posted_is = c.next.ensures.posted ∙ c.collecting.invariant.posted_is;
    }

pub returns-in-None-clause-runs : goal.returns-in-None-clause-runs
returns-in-None-clause-runs g c =
    filling-last (g.C.Crew.work c.args.crew.now) (g.C.Crew.out c.args.crew.now) (g.C.Crew.out c.collecting.crew) c.collecting.runs.items
    ((rw c.in-None.is at c.in_ok-next.ensures.idle).0 refl) c.collecting.invariant.filling
