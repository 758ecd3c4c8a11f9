-- The command `resume`, as one value of the record of promises.
use Rattle.std.specs.Prelude.{ℕ, List}
use Rattle.task_ast.specs.meaning.Tree.{Name}
use Rattle.gp_resume.specs.meaning.Resumed as rest
use Rattle.command_line.specs.meaning.ResumeWords.{resumed_by}
use Rattle.command_line.specs.declared.resume_words.Resumed.{Resumed}
use Rattle.call_cases.specs.declared.lines.Tool.TheVariants.{Gprs}
use Rattle.call_cases.specs.meaning.RunCommands.{IsWhole, end_status}
use Rattle.call_cases.specs.meaning.RunCommands.{MayRead as MayReadFor}
use Rattle.call_cases.specs.meaning.Commands.{Asking, Commands, unjournalled}
use Rattle.resume_calls.specs.meaning.Resumption.{Resumption, supplies}

-- A file that may be read for what the words ask: one of those of the run, or that of the log.
pub data MayRead (resumed : Resumed) : Name → Type 0 where
  of_run : {name : Name} → MayReadFor resumed.run name → MayRead resumed name
  the_log : MayRead resumed resumed.log

-- the status by how the run ends
abbrev pub rest_status : Resumption → ℕ
rest_status resumption = let work = resumption.work in end_status (rest.end work.program work.inputs work.limits resumption.rows)

-- the text that is still to come
abbrev pub rest_text : Resumption → List ℕ
rest_text resumption = let work = resumption.work in rest.text work.program work.inputs work.limits resumption.rows

-- what words ask for, and what that comes to by the files of the shelf
abbrev pub asking : Asking Resumed Resumption
asking =
    record {
      tool = Gprs;
      reading = resumed_by;
      program = λ resumed. resumed.run.program;
      files = λ resumed files. files;
      supplies = supplies;
    }

-- The promises: the output takes the text that is still to come, and the status is that of the run. The error stream then took nothing, and
-- no run over a journal begins.
abbrev pub commands : Commands Resumed Resumption
commands = unjournalled asking MayRead rest_status IsWhole rest_text
