use Rattle.std.proofs.Common.{◌∙◌, ap}
use Rattle.record_store.specs.Stored.{state_of}
use Rattle.gp_resume.specs.declared.course.Spot.{Spot}
use Rattle.gp_resume.specs.inner.Course.{spot_place}
use Rattle.gp_resume.specs.inner.Turning.{settled_place}
use Rattle.gp_resume.proofs.TurnsTaken.{is-issued, found-spot}
use Rattle.gp_resume.proofs.course.Course.issue.Goals as goal

pub returns : goal.returns
returns c =
    let before = c.args.self.now in
    let work = c.args.plan.now.work.now in
    let added = c.in_ok-add_child.ensures in
    is-issued work before c.args.thread c.args.begins c.args.child c.settled-spot.result c.in_ok-held.held
    c.in_ok-held.ensures
    (λ found there. c.settled-spot.ensures
    ∙ ap (λ (spot : Spot). settled_place c.args.begins.sync c.args.thread (state_of before.store) (spot_place spot))
    (found-spot before.spots.items _ c.args.thread _ _ found c.thread.view_is c.index.ensures c.in_ok-spot.ensures there))
    c.add_child.new.self added.ring added.issued added.points added.store
