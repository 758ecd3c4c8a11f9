-- The trace of a run's events.
use Rattle.std.specs.Prelude.{ℕ, true, false, List, [], ◌++◌, codes, decimal, flat_map, slice_get, Some, None}
use Rattle.gp_base.specs.declared.journal.Restart.{Restart as Restarted}
use Rattle.gp_base.specs.declared.journal.Event.{Event}
use Rattle.gp_base.specs.declared.journal.Event.TheVariants.{Issue, Post, Take, Restart, Retire}
use Rattle.gp_base.specs.declared.journal.Journal.{Journal}
use Rattle.restart_log.specs.meaning.Tail.{redo_text}

-- an attempt of a position
abbrev pub attempt_text : (position attempt : ℕ) → List ℕ
attempt_text position attempt = decimal position ++ codes " " ++ decimal attempt

-- the line of a restart among the events
abbrev pub event_restart : Restarted → List ℕ
event_restart r = codes "restart " ++ decimal r.front ++ codes " " ++ attempt_text r.struck r.attempt ++ redo_text r.redo ++ codes "\n"

-- the line of an event; a restart is a member of this list
abbrev pub event_line : List Restarted → Event → List ℕ
event_line restarts (Issue position) = codes "issue " ++ decimal position ++ codes "\n"
event_line restarts (Post position attempt) = codes "post " ++ attempt_text position attempt ++ codes "\n"
event_line restarts (Take position attempt true) = codes "take " ++ attempt_text position attempt ++ codes " applied\n"
event_line restarts (Take position attempt false) = codes "take " ++ attempt_text position attempt ++ codes " stale\n"
event_line restarts (Restart number) = elim (slice_get restarts number) [ None ↦ [] | Some r ↦ event_restart r ]
event_line restarts (Retire position) = codes "retire " ++ decimal position ++ codes "\n"

-- the trace of a journal: its events, a line for each
abbrev pub trace_text : Journal → List ℕ
trace_text journal = flat_map (event_line journal.restarts) journal.events
