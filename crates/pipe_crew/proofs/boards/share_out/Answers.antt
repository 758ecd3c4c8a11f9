use Rattle.std.proofs.Common.{subst, ap, ◌∙◌}
use Rattle.desk_board.specs.Held.{about}
use Rattle.crew.specs.Out.{AreRuns}
use Rattle.pipe_crew.proofs.boards.share_out.Goals as goal

pub gather-requires-clause-whole : goal.gather-requires-clause-whole
gather-requires-clause-whole g c κs =
    let worked = c.work_board-pass.ensures in
    (worked.share ∙ ap (λ h. h.share) c.in-Ok.ensures.pass.1, worked.done.0, worked.done.1)

pub collect-requires-clause-of : goal.collect-requires-clause-of
collect-requires-clause-of g c = c.gather.ensures.of

pub returns-clause-runs : goal.returns-clause-runs
returns-clause-runs g c =
    let made = c.in-Ok.ensures.board in
    let runs = c.in_ok-runs.runs.items in
    subst (λ w. AreRuns w c.args.tasks runs) made.1
    (subst (λ ts. AreRuns (about c.in-Ok.made.0).with ts runs) made.0 c.in_ok-runs.ensures)
