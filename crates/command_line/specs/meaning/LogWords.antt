-- What words ask for that have a log kept of a run.
use Rattle.std.specs.Prelude.{false, true, Bool, List, Option, Some, None, option_and_then, codes, if◌then◌else◌}
use Rattle.clap.specs.Words.{App, Row, Text, with_rule}
use Rattle.command_line.specs.meaning.Arguments.{option_of}
use Rattle.command_line.specs.meaning.Words.{on_program, with_limits, with_crew, asked_in, accepted_as}
use Rattle.command_line.specs.declared.asked.Asked.{Asked}
use Rattle.command_line.specs.declared.asked.Command.TheVariants.{Log}
use Rattle.command_line.specs.declared.asked.CrewKind.{CrewKind}
use Rattle.command_line.specs.declared.asked.CrewKind.TheVariants as crew
use Rattle.command_line.specs.declared.asked.Verb.TheVariants.{Run}

-- what takes the words of `log`: those of `run` without a trace
unfoldable pub for_log : App
for_log = with_crew (with_limits (with_rule (on_program (codes "log")) (option_of (codes "faults"))))

-- no log is kept of a run whose workers steal
abbrev pub steals : CrewKind → Bool
steals crew.Steal = true
steals kind = false

-- the run that is asked for, with a log; it is not traced
abbrev pub log_with : Asked → Option Asked
log_with run = if steals run.crew then None else Some (record run { command = Log; trace = false })

-- what the arguments ask for
abbrev pub log_in : List Row → Option Asked
log_in rows = option_and_then log_with (asked_in false Run rows)

-- what the words ask for, where they are those of `log`
abbrev pub log_by : List Text → Option Asked
log_by = accepted_as (codes "log") for_log log_in
