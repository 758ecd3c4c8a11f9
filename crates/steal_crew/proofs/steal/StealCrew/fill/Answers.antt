use Rattle.std.proofs.Common.{IfOk, ap, arith, length, subst, ◌∙◌}
use Rattle.steal_crew.specs.Batches.{AreCounted}
use Rattle.steal_crew.proofs.steal.StealCrew.fill.Goals as goal

pub returns-clause-ready : goal.returns-clause-ready
returns-clause-ready g c =
    let ready = c.requires.ready in
    let all = c.all-tasks.result in
    let answer = c.run_all-answer in
    let noted = c.in_ok-runs.ensures in
    let given = subst (λ r. IfOk r (AreCounted c.args.self.now.inbox.work all)) noted.value (ready.runs_all.gives all answer.result answer.ensures) in
    let tasks = ap length c.all-tasks.ensures.tasks in
    let inbox = noted.ok ∙ c.all-tasks.ensures.rest in
    record {
      runs_all = rw inbox ready.runs_all;
      are_runs = rw (c.from.ensures.0, c.into_vec.ensures, inbox) given.0.runs;
      counted = rw inbox (λ e. let was = ready.counted e in let more = given.1 in let both = c.and-self.ensures in omega arith);
      no_more = rw inbox (let was = ready.no_more in let more = given.1 in let both = c.and-self.ensures in omega arith);
    }
