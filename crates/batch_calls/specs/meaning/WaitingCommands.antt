-- The commands of `gprs_run_pipe`: those of `gprs_run`, where `pipe` is the word of a crew too.
use Rattle.command_line.specs.meaning.Words.{asked_waiting}
use Rattle.command_line.specs.declared.asked.Asked.{Asked}
use Rattle.call_cases.specs.meaning.Work.{ToDo}
use Rattle.call_cases.specs.meaning.Commands.{Asking, Commands}
use Rattle.call_cases.specs.meaning.RunCommands as gprs

-- what words ask for, and what that comes to by the files
abbrev pub asking : Asking Asked ToDo
asking = record gprs.asking { reading = asked_waiting }

-- the promises
abbrev pub commands : Commands Asked ToDo
commands = record gprs.commands { asking = asking }
