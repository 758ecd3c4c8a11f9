use Rattle.steal_crew.proofs.Counted.{posted_counted}
use Rattle.steal_crew.proofs.steal.StealCrewCrew.post.Goals as goal

pub returns-clause-ready : goal.returns-clause-ready
returns-clause-ready g c =
    let ready = c.requires.ready in
    let counts =
    posted_counted c.post.result c.args.self.now.inbox c.post.new.self c.args.task _ c.post.ensures.ok c.post.ensures.err
    ready.counted ready.no_more in
    record {
      runs_all = rw c.post.ensures.work ready.runs_all;
      are_runs = rw c.post.ensures.work ready.are_runs;
      counted = counts.0;
      no_more = counts.1;
    }
