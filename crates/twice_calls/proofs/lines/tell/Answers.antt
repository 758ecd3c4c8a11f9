use Rattle.std.proofs.Common.{[], inl, refl}
use Rattle.call_cases.proofs.Headlines.{none_taken}
use Rattle.twice_calls.proofs.lines.tell.Goals as goal

pub returns-in_default-clause-behind : goal.returns-in_default-clause-behind
returns-in_default-clause-behind g c = (
  [],
  record { stop = []; is_stop = inl refl; seen = []; is_seen = inl refl; lines_are = refl },
  (0, none_taken (g.E.Sink.written c.args.err.now)),
)
