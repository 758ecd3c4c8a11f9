-- The commands of `log_run`: `log`, whose run writes a log of what retires to the error stream.
use Rattle.std.specs.Prelude.{ℕ, List, take}
use Rattle.gp_base.specs.declared.journal.Journal.{Journal}
use Rattle.crew.specs.meaning.Noted.{left_in_order}
use Rattle.retirement_log.specs.meaning.Log.{log}
use Rattle.retirement_log.specs.meaning.Telling.{TellsPart}
use Rattle.command_line.specs.meaning.LogWords.{log_by}
use Rattle.command_line.specs.declared.asked.Asked.{Asked}
use Rattle.call_cases.specs.meaning.Work.{ToDo}
use Rattle.call_cases.specs.meaning.Answers.{Change}
use Rattle.call_cases.specs.meaning.Journals.{retired_in}
use Rattle.call_cases.specs.meaning.Commands.{Asking, Commands, Logged}
use Rattle.call_cases.specs.meaning.RunCommands as gprs

-- what words ask for, and what that comes to by the files
abbrev pub asking : Asking Asked ToDo
asking = record gprs.asking { reading = log_by }

-- the log of the whole run of what is to be done
abbrev pub log_for : ToDo → List ℕ
log_for work = log work.program work.inputs work.limits

-- the error stream took a part of the log of what has retired in the journal, with the whole rows of all positions but the last of these
abbrev pub TakesLog : ToDo → Journal → Change → Type 0
TakesLog work journal err =
    TellsPart err.written err.written' (take (retired_in work journal) (left_in_order work.program work.inputs work.limits))

-- the promises
abbrev pub commands : Commands Asked ToDo
commands = record gprs.commands { asking = asking; log = Logged (record { whole = log_for; taken = TakesLog }) }
