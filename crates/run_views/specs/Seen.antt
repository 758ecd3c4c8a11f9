-- What a step of the code's run says of a subthread.
use Rattle.std.specs.Prelude.{ℕ, [], Option, Some, None, slice_get}
use Rattle.gp_base.specs.declared.footprint.Loc.{Loc}
use Rattle.gp_base.specs.declared.footprint.Loc.TheVariants as loc
use Rattle.gp_base.specs.declared.footprint.Footprint.{Footprint}
use Rattle.task_ast.specs.meaning.Plain.{Subthread}
use Rattle.one_thread.specs.declared.run.Step.{Step}
use Rattle.run_views.specs.meaning.Links.{Party}

-- the thread whose registers a location is
abbrev pub thread_in : Option Loc → Option ℕ
thread_in (Some (loc.Regs thread)) = Some thread
thread_in location = None

-- the thread that a subthread forked, whose registers it writes beside its own
abbrev pub child_in : Footprint → Option ℕ
child_in foot = thread_in (slice_get foot.writes 1)

-- a step as a subthread, but for its actions
abbrev pub seen : Step → Subthread
seen step =
    record { thread = step.thread; begins = step.begins; child = child_in step.foot; held = step.held; actions = []; lines = step.prints }

-- what is looked at of it where it is linked to another
abbrev pub party_in : Step → Party
party_in step = record { thread = step.thread; begins = step.begins.sync; child = child_in step.foot; foot = step.foot }
