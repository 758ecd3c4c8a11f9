-- What words ask for has a command that a word of `gprs_run` names: what holds of each of those holds of what is asked for.
use Rattle.std.proofs.Common.{ℕ, Bool, true, false, if◌then◌else◌, List, [], ◌∷◌, IfSome}
use Rattle.std.specs.Prelude.{option_and_then, option_map, codes}
use Rattle.std.specs.declared.option.Option.{Option}
use Rattle.std.specs.declared.option.Option.TheVariants.{None, Some}
use Rattle.clap.specs.Words.{Row, Text, fault_of, matches_of, first_of}
use Rattle.gp_base.specs.declared.limits.Limits.{Limits}
use Rattle.command_line.specs.meaning.Arguments.{is_faultless}
use Rattle.command_line.specs.meaning.Words.{named_verb, app_for, soak_in, command_in, program_in, faults_in, limits_in, crew_in, workers_in, asked_with, asked_in, asked_of, asked_among}
use Rattle.command_line.specs.declared.asked.Soak.{Soak}
use Rattle.command_line.specs.declared.asked.CrewKind.{CrewKind}
use Rattle.command_line.specs.declared.asked.Command.{Command}
use Rattle.command_line.specs.declared.asked.Command.TheVariants as command
use Rattle.command_line.specs.declared.asked.Verb.{Verb}
use Rattle.command_line.specs.declared.asked.Verb.TheVariants as verb

module _ (P : Command → Type 0) where
  soak_command : ((batch : Soak) → P (command.Soak batch)) → (batch : Option Soak) → IfSome (option_map command.Soak batch) P
  soak_command soak None = tt
  soak_command soak (Some batch) = soak batch

  verb_command : P command.Run → P command.One → P command.Check → ((batch : Soak) → P (command.Soak batch)) → (v : Verb) (rows : List Row)
      → IfSome (command_in v rows) P
  verb_command run one check soak verb.Run rows = run
  verb_command run one check soak verb.One rows = one
  verb_command run one check soak verb.Check rows = check
  verb_command run one check soak verb.Soak rows = soak_command soak (soak_in rows)

  with_command : (c : Option Command) (program faults : Option Text) (limits : Option Limits) (crew : Option CrewKind)
      (workers : Option ℕ) (trace : Option Text)
      → IfSome c P → IfSome (asked_with c program faults limits crew workers trace) (λ asked. P asked.command)
  with_command None program faults limits crew workers trace is = tt
  with_command (Some c) None faults limits crew workers trace is = tt
  with_command (Some c) (Some program) faults None crew workers trace is = tt
  with_command (Some c) (Some program) faults (Some limits) None workers trace is = tt
  with_command (Some c) (Some program) faults (Some limits) (Some crew) None trace is = tt
  with_command (Some c) (Some program) faults (Some limits) (Some crew) (Some workers) trace is = is

  module _ (run : P command.Run) (one : P command.One) (check : P command.Check)
      (soak : (batch : Soak) → P (command.Soak batch)) (waits : Bool) where
    taken_command : (v : Verb) (rows : List Row) (b : Bool) → IfSome (if b then asked_in waits v rows else None) (λ asked. P asked.command)
    taken_command v rows true =
        with_command (command_in v rows) (program_in v rows) (faults_in v rows) (limits_in rows) (crew_in waits rows) (workers_in rows)
        (first_of (codes "trace") rows)
        (verb_command run one check soak v rows)
    taken_command v rows false = tt

    pub named_command : (words : List Text) → IfSome (asked_among waits words) (λ asked. P asked.command)
    named_command [] = tt
    named_command (word ∷ words) = go (named_verb word)
      where
        go : (v : Option Verb) → IfSome (option_and_then (λ verb. asked_of waits verb (word ∷ words)) v) (λ asked. P asked.command)
        go None = tt
        go (Some v) = taken_command v (matches_of (app_for v) (word ∷ words)) (is_faultless (fault_of (app_for v) (word ∷ words)))
