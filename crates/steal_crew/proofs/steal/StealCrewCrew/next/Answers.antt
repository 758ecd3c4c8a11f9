use Rattle.std.proofs.Common.{◌++◌, IfSome, map, rules, subst}
use Rattle.std.proofs.lemmas.List.Elements.{All-drop}
use Rattle.subthread.specs.Tasks.{IsRun, task_of}
use Rattle.crew.specs.Out.{TakesOut}
use Rattle.crew.proofs.Taking.{taken_has}
use Rattle.steal_crew.proofs.Counted.{taken_first}
use Rattle.steal_crew.proofs.steal.StealCrewCrew.next.Goals as goal

pub returns-clause-ready : goal.returns-clause-ready
returns-clause-ready g c =
    let ready = c.in_ok-fill.ensures.ready in
    record {
      runs_all = ready.runs_all;
      are_runs = rw c.pop_front.ensures.rest (All-drop (IsRun c.fill.new.self.inbox.work) 1 c.fill.new.self.runs.items ready.are_runs);
      counted = ready.counted;
      no_more = ready.no_more;
    }

pub returns-clause-run : goal.returns-clause-run
returns-clause-run g c =
    rw (← c.in_ok-fill.ensures.work)
    (taken_has (IsRun c.fill.new.self.inbox.work) c.fill.new.self.runs.items 0 _ c.pop_front.result
    (search rules) c.pop_front.ensures.variant c.pop_front.ensures.lookup c.in_ok-fill.ensures.ready.are_runs)

pub returns-clause-taken : goal.returns-clause-taken
returns-clause-taken g c =
    let before = c.args.self.now in
    let then = c.fill.new.self in
    let left = c.pop_front.new.self.items in
    subst
    (λ w. IfSome c.pop_front.result (λ run.
    TakesOut (map (task_of before.inbox.work) before.runs.items ++ before.inbox.out) (task_of w run)
    (map (task_of then.inbox.work) left ++ then.inbox.out)))
    c.in_ok-fill.ensures.work
    (taken_first then.inbox.work c.pop_front.result then.runs.items left then.inbox.out _ c.pop_front.ensures.items
    c.in_ok-fill.ensures.out)
