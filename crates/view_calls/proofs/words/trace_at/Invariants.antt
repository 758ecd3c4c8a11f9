use Rattle.std.proofs.Common.{◌≡◌, ◌+◌, drop}
use Rattle.command_line.specs.meaning.Words.{texts}
use Rattle.view_calls.specs.meaning.Commands.{trace_at}
use Rattle.view_calls.proofs.words.trace_at.Given as goal

-- the option does not stand among the words so far
abbrev pub invariant-loop-at : goal.invariant-loop-at
invariant-loop-at l = l.at + trace_at (texts (drop l.at l.words)) ≡ trace_at (texts l.words)
