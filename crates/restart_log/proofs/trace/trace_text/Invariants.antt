use Rattle.std.proofs.Common.{◌≡◌, take, flat_map}
use Rattle.restart_log.specs.meaning.Trace.{event_line}
use Rattle.restart_log.proofs.trace.trace_text.Given as goal

-- the lines of the events so far
abbrev pub invariant-loop-event : goal.invariant-loop-event
invariant-loop-event l = l.text.items ≡ flat_map (event_line l.j.restarts) (take l.event-index l.event-items)
