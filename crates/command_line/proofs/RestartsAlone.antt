-- What the words of `gprs_run` ask for is no run by checkpoints.
use Rattle.std.proofs.Common.{false, List, IfSome}
use Rattle.std.specs.Prelude.{⊤}
use Rattle.clap.specs.Words.{Text}
use Rattle.command_line.specs.meaning.Words.{asked_by}
use Rattle.command_line.specs.declared.asked.Command.{Command}
use Rattle.command_line.specs.declared.asked.Command.TheVariants.{Ckpt}
use Rattle.command_line.proofs.NamedCommands.{named_command}

-- the command is no run by checkpoints
abbrev pub RestartsAlone : Command → Type 0
RestartsAlone (Ckpt every) = ⊥
RestartsAlone other = ⊤

-- no words of `gprs_run` ask for one
pub words_restart : (words : List Text) → IfSome (asked_by words) (λ asked. RestartsAlone asked.command)
words_restart words = named_command RestartsAlone tt tt tt (λ batch. tt) false words
