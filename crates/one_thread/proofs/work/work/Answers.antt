use Rattle.std.proofs.Common.{refl, subst, rules, SFits, w64}
use Rattle.std.proofs.lemmas.Int.{to_z-of_z}
use Rattle.task_ast.specs.meaning.Control.{beginning, first_actions}
use Rattle.one_thread.specs.Walking.{setting_of, point_of, Begun}
use Rattle.one_thread.proofs.SubthreadRuns.{ran_with}
use Rattle.one_thread.proofs.work.work.Goals as goal

pub returns : goal.returns
returns g c =
    let fits : SFits w64 c.args.joined = search rules in
    let started = rw (to_z-of_z w64 c.args.joined fits) at c.in_ok-start.ensures in
    let begun =
    subst (λ w. Begun (first_actions (setting_of w) c.args.begins.now (point_of w))
    (beginning c.args.begins.now c.args.child (point_of w)) c.args.joined w c.start.new.walk) c.hand_out.ensures started in
    ran_with c.args.walk.now c.args.shared.now c.args.begins.now c.args.child c.args.joined c.args.turns c.start.new.walk c.run.new.self _ _
    _ begun c.in_ok-next.ensures
    refl refl (search rules) (search rules) (search rules) (search rules) (search rules) refl refl refl refl
