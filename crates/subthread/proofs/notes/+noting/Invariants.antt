use Rattle.std.proofs.Common.{drop}
use Rattle.task_ast.specs.meaning.Footprint.{arm_naming}
use Rattle.task_ast.proofs.Arms.{Ahead}
use Rattle.task_code.specs.Reading.{deeds_arm}
use Rattle.task_code.specs.View.{plain_arm}
use Rattle.subthread.specs.inner.Running.{env_in}
use Rattle.subthread.proofs.notes.+noting.Given as goal

abbrev pub invariant-note_all-loop-deed : goal.invariant-note_all-loop-deed
invariant-note_all-loop-deed l =
    Ahead arm_naming (deeds_arm (plain_arm l.deeds) (env_in l.ground l.ctl))
    (deeds_arm (plain_arm (drop l.deed-index l.deeds)) (env_in l.ground l.ctl)) l.names l.initial.names
