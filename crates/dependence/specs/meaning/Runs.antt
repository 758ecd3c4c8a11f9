-- What the plain run's order says of conflicts, restarts and journals.
use Rattle.std.specs.Prelude.{ℕ, false, List, length, map, slice_get}
use Rattle.std.specs.Option.{option_and_then, option_map_or}
use Rattle.gp_base.specs.declared.fault.Fault.{Fault}
use Rattle.gp_base.specs.declared.journal.Restart.{Restart}
use Rattle.gp_base.specs.declared.footprint.Footprint.{Footprint}
use Rattle.task_ast.specs.meaning.Table.{is_settle}
use Rattle.task_ast.specs.meaning.Plain.{Subthread, foot_of}
use Rattle.task_ast.specs.meaning.Position.{last_below}
use Rattle.dependence.specs.meaning.Conflict.{clash_in}
use Rattle.dependence.specs.meaning.Dependents.{dependents}
use Rattle.dependence.specs.meaning.Restarts.{Dependence, restarts}

-- the footprints of the positions
abbrev pub feet_of : List Subthread → List Footprint
feet_of run = map foot_of run

-- what the rules of restarts and journals read of a run
abbrev pub dependence_of : List Subthread → Dependence
dependence_of run =
    record {
      count = length run;
      clash = clash_in (feet_of run);
      redo = dependents (clash_in (feet_of run));
      before = λ p. option_and_then (λ s. last_below run s.thread p) (slice_get run p);
      settles = λ p. option_map_or (λ s. is_settle s.begins.sync) (slice_get run p) false;
      block = λ p. p;
    }

-- the restarts that a list of faults makes of a run
abbrev pub restarts_of : List Subthread → List Fault → List Restart
restarts_of run faults = restarts (dependence_of run) faults
