use Rattle.std.proofs.Common.{◌≡◌, take}
use Rattle.restart_log.specs.meaning.Lines.{printed}
use Rattle.batch_calls.specs.inner.Steps.{lines_in}
use Rattle.batch_calls.proofs.texts.printed.Given as goal

-- the lines of the subthreads so far
abbrev pub invariant-loop-step : goal.invariant-loop-step
invariant-loop-step l = l.text.items ≡ printed (lines_in (take l.step-index l.order))
