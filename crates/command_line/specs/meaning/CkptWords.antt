-- What words ask for that have a program run by checkpoints.
use Rattle.std.specs.Prelude.{ℕ, false, List, Option, codes}
use Rattle.clap.specs.Words.{App, Row, Text, with_rule, first_of}
use Rattle.command_line.specs.meaning.Arguments.{option_of, number_or}
use Rattle.command_line.specs.meaning.Words.{on_program, with_limits, with_crew, asked_in, both, accepted_as}
use Rattle.command_line.specs.declared.asked.Asked.{Asked}
use Rattle.command_line.specs.declared.asked.Command.TheVariants.{Ckpt}
use Rattle.command_line.specs.declared.asked.Verb.TheVariants.{Run}
use Rattle.command_line.specs.declared.ckpt_words.TheConstants.{LEAST_EVERY, MOST_EVERY, DEFAULT_EVERY}

-- what takes the words of `ckpt`: those of `run` without a trace, and after how many subthreads there is a checkpoint
unfoldable pub for_ckpt : App
for_ckpt =
    with_crew (with_limits (with_rule (with_rule (on_program (codes "ckpt")) (option_of (codes "every"))) (option_of (codes "faults"))))

-- after how many subthreads there is a checkpoint: a number in its range, or the default
abbrev pub every_in : List Row → Option ℕ
every_in rows = number_or LEAST_EVERY MOST_EVERY DEFAULT_EVERY (first_of (codes "every") rows)

-- a run by checkpoints after so many subthreads, which is not traced
abbrev pub cut_run : (every : ℕ) → Asked → Asked
cut_run every run = record run { command = Ckpt every; trace = false }

-- what the arguments ask for, where both have to be there
abbrev pub ckpt_in : List Row → Option Asked
ckpt_in rows = both cut_run (every_in rows) (asked_in false Run rows)

-- what the words ask for, where they are those of `ckpt`
abbrev pub ckpt_by : List Text → Option Asked
ckpt_by = accepted_as (codes "ckpt") for_ckpt ckpt_in
