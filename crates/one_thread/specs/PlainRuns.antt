-- The plain run that the code gives.
use Rattle.std.specs.Prelude.{◌≡◌, map}
use Rattle.gp_base.specs.declared.limits.Limits.{Limits}
use Rattle.gp_base.specs.declared.feed.Inputs.{Inputs}
use Rattle.task_ast.specs.meaning.Tree.{Program}
use Rattle.task_ast.specs.meaning.Plain.{Subthread, foot_of}
use Rattle.task_ast.specs.Plain.{order, end, final_records}
use Rattle.one_thread.specs.declared.run.Step.{Step}
use Rattle.one_thread.specs.declared.run.PlainRun.{PlainRun}

-- what the code says of a subthread
abbrev pub shown : Subthread → Step
shown s = record { thread = s.thread; begins = s.begins; held = s.held; foot = foot_of s; prints = s.lines }

-- the run is the plain run of the definitions
pub record IsPlainRun (program : Program) (inputs : Inputs) (limits : Limits) (run : PlainRun) : Type 0 where
  pub order : run.order ≡ map shown (order program inputs limits)
  pub records : run.records ≡ final_records program inputs limits
  pub end : run.end ≡ end program inputs limits
