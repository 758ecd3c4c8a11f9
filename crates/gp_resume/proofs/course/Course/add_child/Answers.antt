use Rattle.std.proofs.Common.{refl, ◌∙◌}
use Rattle.std.proofs.lemmas.Result.{on_ok_weaker}
use Rattle.gp_resume.proofs.TurnsTaken.{points-some, points-none, store-some, store-none}
use Rattle.gp_resume.proofs.course.Course.add_child.Goals as goal

pub returns-in_ok-push-in-Some : goal.returns-in_ok-push-in-Some
returns-in_ok-push-in-Some c =
    let before = c.args.self.now in
    let work = c.args.plan.now.work.now in
    let starts = c.in_ok-start.ensures in
    let count = c.len.ensures ∙ before.spots.ok.0 in
    on_ok_weaker c.reserve_thread.result
    (λ grown. record {
      ring = refl;
      points = points-some work c.args.sync.now before.spots.items c.len.result count c.in_ok-start.field-0 starts
          c.in-Some.start c.push.new.self.items c.in-Some.is c.in_ok-push-in-Some.ensures.items;
      store = store-some work c.args.sync.now before.spots.items c.len.result count c.in_ok-start.field-0 starts
          c.in-Some.start before.store c.reserve_thread.new.self c.in-Some.is grown;
      issued = refl;
    })
    c.reserve_thread.ensures.ok

pub returns-in-None : goal.returns-in-None
returns-in-None c =
    let before = c.args.self.now in
    let work = c.args.plan.now.work.now in
    let starts = c.in_ok-start.ensures in
    let count = c.len.ensures ∙ before.spots.ok.0 in
    record {
      ring = refl;
      points = points-none work c.args.sync.now before.spots.items c.len.result count c.in_ok-start.field-0 starts c.in-None.is;
      store = store-none work c.args.sync.now before.spots.items c.len.result count c.in_ok-start.field-0 starts before.store c.in-None.is;
      issued = refl;
    }
