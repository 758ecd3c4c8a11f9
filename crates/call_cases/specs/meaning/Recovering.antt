-- How the run of a command recovers from faults.
use Rattle.std.specs.Prelude.{List}
use Rattle.task_ast.specs.meaning.Plain.{Subthread}
use Rattle.dependence.specs.meaning.Restarts.{Dependence}
use Rattle.dependence.specs.meaning.Runs.{dependence_of}
use Rattle.rollback.specs.meaning.Cuts.{cuts_of, rolling_of}
use Rattle.command_line.specs.declared.asked.Command.{Command}
use Rattle.command_line.specs.declared.asked.Command.TheVariants.{Ckpt}

-- what is read of a run of this command: by checkpoints it rolls back to cuts, and else it redoes what is struck with its dependents
abbrev pub recovering_by : Command → List Subthread → Dependence
recovering_by (Ckpt every) run = rolling_of (cuts_of every run) run
recovering_by other run = dependence_of run
