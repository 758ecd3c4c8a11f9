use Rattle.std.proofs.Common.{◌≡◌}
use Rattle.dependence.specs.meaning.Restarts.{progress}
use Rattle.gp_audit.specs.Steps.{dependence_by}
use Rattle.gp_audit.specs.inner.Audited.{kept}
use Rattle.gp_audit.specs.inner.Replayed.{Replays, progress_in}
use Rattle.gp_audit.proofs.replay.restarts_of.Given as goal

-- the progress after so many steps
abbrev pub invariant-loop : goal.invariant-loop
invariant-loop l = record {
  steps : (kept l.audit).steps ≡ l.order;
  faults : (kept l.audit).faults ≡ l.faults.list;
  replays : Replays (kept l.audit) l.made;
  progress_is : progress_in (kept l.audit) l.made ≡ progress (dependence_by l.order) l.faults.list l.counter;
}
