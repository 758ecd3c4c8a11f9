-- The commands of `ckpt_run`: `ckpt`, whose run recovers by rolling back to checkpoints.
use Rattle.command_line.specs.meaning.CkptWords.{ckpt_by}
use Rattle.command_line.specs.declared.asked.Asked.{Asked}
use Rattle.call_cases.specs.meaning.Work.{ToDo}
use Rattle.call_cases.specs.meaning.Commands.{Asking, Commands}
use Rattle.call_cases.specs.meaning.RunCommands as gprs

-- what words ask for, and what that comes to by the files
abbrev pub asking : Asking Asked ToDo
asking = record gprs.asking { reading = ckpt_by }

-- the promises
abbrev pub commands : Commands Asked ToDo
commands = record gprs.commands { asking = asking }
