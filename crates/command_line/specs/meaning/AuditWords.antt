-- What words ask for that have a trace audited.
use Rattle.std.specs.Prelude.{false, List, Option, codes}
use Rattle.clap.specs.Words.{App, Row, Text, with_rule, first_of}
use Rattle.command_line.specs.meaning.Arguments.{positional, option_of}
use Rattle.command_line.specs.meaning.Words.{on_program, with_limits, asked_in, both, accepted_as}
use Rattle.command_line.specs.declared.asked.Asked.{Asked}
use Rattle.command_line.specs.declared.asked.Verb.TheVariants.{Run}
use Rattle.command_line.specs.declared.audit_words.Audited.{Audited}

-- what takes the words of `audit`
unfoldable pub for_audit : App
for_audit = with_limits (with_rule (with_rule (on_program (codes "audit")) (positional (codes "trace_file"))) (option_of (codes "faults")))

-- the run that is said to have been, and the file of its trace, where both have to be there
abbrev pub audited_in : List Row → Option Audited
audited_in rows = both (λ run trace. record { run = run; trace = trace }) (asked_in false Run rows) (first_of (codes "trace_file") rows)

-- what the words ask for, where they are those of `audit`
abbrev pub audited_by : List Text → Option Audited
audited_by = accepted_as (codes "audit") for_audit audited_in
