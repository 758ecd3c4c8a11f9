use Rattle.std.proofs.Common.{◌≡◌, take}
use Rattle.clap.specs.Words.{app_of}
use Rattle.command_line.specs.Arguments.{app_with}
use Rattle.command_line.proofs.arguments.command_of.Given as goal

-- the command takes the arguments so far
abbrev pub invariant-loop-argument : goal.invariant-loop-argument
invariant-loop-argument l = app_of l.command ≡ app_with l.name (take l.argument-index l.arguments)
