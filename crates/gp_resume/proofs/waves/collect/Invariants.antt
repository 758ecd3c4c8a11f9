use Rattle.std.proofs.Common.{◌≡◌, length}
use Rattle.gp_resume.specs.inner.Waves.{Filling}
use Rattle.gp_resume.proofs.waves.collect.Given as goal

abbrev pub invariant-collecting : goal.invariant-collecting
invariant-collecting g l = record {
  filling : Filling (g.C.Crew.work l.fn.crew) (g.C.Crew.out l.fn.crew) (g.C.Crew.out l.crew) l.runs.items;
  is_ready : g.C.Crew.ready l.crew;
  work_is : g.C.Crew.work l.crew ≡ g.C.Crew.work l.fn.crew;
  posted_is : g.C.Crew.posted l.crew ≡ g.C.Crew.posted l.fn.crew;
}

abbrev pub decreases-collecting : goal.decreases-collecting
decreases-collecting g l = length (g.C.Crew.out l.crew)
