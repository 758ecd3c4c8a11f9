-- The commands that are made, and what is found by them.
use Rattle.std.specs.Prelude.{List}
use Rattle.std.specs.List.{fold}
use Rattle.clap.specs.Words.{App, Row, Rule, Text, found_of, new_app, rows_of, with_rule}
use Rattle.clap.specs.declared.parser.matches.ArgMatches.{ArgMatches}
use Rattle.command_line.specs.meaning.Arguments.{positional, option_of, flag_of}
use Rattle.command_line.specs.meaning.Words.{without_help}
use Rattle.command_line.specs.declared.arguments.Argument.{Argument}
use Rattle.command_line.specs.declared.arguments.Argument.TheVariants.{Positional, Valued, Flag}

-- the rule of an argument
abbrev pub rule_for : Argument → Rule
rule_for (Positional name) = positional name.now
rule_for (Valued name) = option_of name.now
rule_for (Flag name) = flag_of name.now

-- a command of this name that takes these arguments, without a help flag
abbrev pub app_with : Text → List Argument → App
app_with name arguments = fold (λ app argument. with_rule app (rule_for argument)) (without_help (new_app name)) arguments

-- the rows that a parse has found
abbrev pub found_rows : ArgMatches → List Row
found_rows matches = rows_of (found_of matches)
