-- What words ask for that have a run go on from its log.
use Rattle.std.specs.Prelude.{false, List, Option, codes}
use Rattle.clap.specs.Words.{App, Row, Text, with_rule, first_of}
use Rattle.command_line.specs.meaning.Arguments.{positional}
use Rattle.command_line.specs.meaning.Words.{on_program, with_limits, asked_in, both, accepted_as}
use Rattle.command_line.specs.declared.asked.Asked.{Asked}
use Rattle.command_line.specs.declared.asked.Verb.TheVariants.{One}
use Rattle.command_line.specs.declared.resume_words.Resumed.{Resumed}

-- what takes the words of `resume`
unfoldable pub for_resume : App
for_resume = with_limits (with_rule (on_program (codes "resume")) (positional (codes "log_file")))

-- the run that is to go on, and the file of its log, where both have to be there
abbrev pub resumed_in : List Row → Option Resumed
resumed_in rows = both (λ run log. record { run = run; log = log }) (asked_in false One rows) (first_of (codes "log_file") rows)

-- what the words ask for, where they are those of `resume`
abbrev pub resumed_by : List Text → Option Resumed
resumed_by = accepted_as (codes "resume") for_resume resumed_in
