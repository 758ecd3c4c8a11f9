-- What the subthreads of a plain run may touch by their locks.
use Rattle.std.specs.Prelude.{List, map}
use Rattle.gp_base.specs.declared.footprint.Footprint.{Footprint}
use Rattle.task_ast.specs.meaning.Plain.{Subthread}
use Rattle.task_ast.specs.Plain.{lock_foot_of}

-- what they may touch by their locks
abbrev pub lock_feet_of : List Subthread → List Footprint
lock_feet_of run = map lock_foot_of run
