-- A law of runs that go on.
use Rattle.std.specs.Prelude.{◌≡◌, ℕ, pos, ◌++◌, take}
use Rattle.retirement_log.specs.meaning.Log.{log}
use Rattle.gp_resume.specs.meaning.Reading.{IsLogOf}
use Rattle.gp_resume.specs.meaning.Resumed.{bytes_before}
use Rattle.command_line.specs.declared.asked.Command.TheVariants.{One}
use Rattle.call_cases.specs.meaning.RunCommands.{work_text}
use Rattle.resume_calls.specs.meaning.Resumption.{Resumption}
use Rattle.resume_calls.specs.meaning.ResumeCommands.{rest_text}

-- Where the bytes of a log are the first of those of the run's own log, and come to these rows, the text of one thread begins with as many
-- bytes as the last row says, and those that the run still writes when it goes on are all the others.
abbrev pub JoinedTextLaw : Type 0
JoinedTextLaw =
    (resumption : Resumption) (logged : ℕ) → let work = resumption.work in
    IsLogOf work.program work.inputs work.limits (take logged (log work.program work.inputs work.limits)) resumption.rows
    → (count : ℕ) × (bytes_before resumption.rows ≡ pos count)
    × (take count (work_text One work) ++ rest_text resumption ≡ work_text One work)
