-- What the call that takes the words is promised to do, where each subthread is walked twice.
use Rattle.std.specs.Prelude.{ℕ, List, Bool, true, false, codes}
use Rattle.command_line.specs.meaning.Words.{begins_with, asked_waiting}
use Rattle.call_cases.specs.meaning.Answers.{Change}
use Rattle.call_cases.specs.meaning.Headline.{Call, Headline}
use Rattle.batch_calls.specs.meaning.WaitingCommands as waiting
use Rattle.batch_calls.specs.meaning.LogCommands as log
use Rattle.twice_calls.specs.meaning.Differences.{traces, MayTellBehind}

-- whether the call that keeps a log takes the words
abbrev pub logs : List (List ℕ) → Bool
logs words = begins_with (codes "log") words

-- the promise of that call, or that of the one which runs and checks
abbrev pub TwicePromised : (logs : Bool) → Call → Type 0
TwicePromised true call = Headline log.commands call
TwicePromised false call =
    (due : Change) × MayTellBehind (traces (asked_waiting call.words)) call.status due call.err
    × Headline waiting.commands (record call { err = due })
