-- What words ask for that have told why a position was redone.
use Rattle.std.specs.Prelude.{ℕ, false, List, Option, codes}
use Rattle.clap.specs.Words.{App, Row, Text, with_rule, first_of}
use Rattle.command_line.specs.meaning.Arguments.{positional, option_of, number_of}
use Rattle.command_line.specs.meaning.Words.{on_program, with_limits, asked_in, both, accepted_as}
use Rattle.command_line.specs.declared.asked.Asked.{Asked}
use Rattle.command_line.specs.declared.asked.Verb.TheVariants.{Run}
use Rattle.command_line.specs.declared.why_words.Sought.{Sought}

-- what takes the words of `why`
unfoldable pub for_why : App
for_why = with_limits (with_rule (with_rule (on_program (codes "why")) (positional (codes "position"))) (option_of (codes "faults")))

-- a position is a number below 2^64
abbrev pub position_in : List Row → Option ℕ
position_in rows = number_of 0 18446744073709551615 (first_of (codes "position") rows)

-- the run, and the position of it, where both have to be there
abbrev pub sought_in : List Row → Option Sought
sought_in rows = both (λ run position. record { run = run; position = position }) (asked_in false Run rows) (position_in rows)

-- what the words ask for, where they are those of `why`
abbrev pub sought_by : List Text → Option Sought
sought_by = accepted_as (codes "why") for_why sought_in
