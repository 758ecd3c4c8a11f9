use Rattle.std.proofs.Common.{◌≡◌, ◌≤◌, take}
use Rattle.std.specs.Prelude.{count_by}
use Rattle.dependence.specs.meaning.Restarts.{redoes}
use Rattle.run_views.proofs.restarted.attempt_of.Given as goal

-- so many of the restarts so far redo the position
abbrev pub invariant-loop-restart : goal.invariant-loop-restart
invariant-loop-restart l = record {
  counted : l.attempt ≡ count_by (redoes l.position) (take l.restart-index l.restarts);
  few : l.attempt ≤ l.restart-index;
}
