-- How a command is carried out.
use Rattle.std.specs.Prelude.{◌≡◌, ◌⊎◌, ℕ}
use Rattle.command_line.specs.declared.asked.Command.{Command}
use Rattle.command_line.specs.declared.asked.Command.TheVariants as command
use Rattle.batch_calls.specs.declared.basis.Output.{Output}
use Rattle.batch_calls.specs.declared.basis.Output.TheVariants.{Lines, Summary, LinesAndLog}
use Rattle.batch_calls.specs.declared.basis.Way.{Way}
use Rattle.batch_calls.specs.declared.basis.Way.TheVariants.{Check, One, Journal}

-- the run of a command over a journal writes this
abbrev pub Writes : Command → Output → Type 0
Writes asked Lines = (asked ≡ command.Run) ⊎ (every : ℕ) × (asked ≡ command.Ckpt every)
Writes asked (Summary soak) = asked ≡ command.Soak soak
Writes asked LinesAndLog = asked ≡ command.Log

-- a command is carried out so
abbrev pub IsWay : Command → Way → Type 0
IsWay asked Check = asked ≡ command.Check
IsWay asked One = asked ≡ command.One
IsWay asked (Journal output) = Writes asked output
