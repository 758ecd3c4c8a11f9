-- What the words of a command line ask for.
use Rattle.std.specs.Prelude.{ℕ, Bool, true, false, ◌&&◌, List, [], ◌∷◌, map, Option, Some, None, option_and_then, option_map, codes, if◌then◌else◌, String, string_bytes}
use Rattle.std.specs.Option.{option_map_or}
use Rattle.std.specs.Str.{bytes_eq}
use Rattle.std.specs.declared.alloc.Global.{Global}
use Rattle.clap.specs.Words.{App, Row, Text, fault_of, matches_of, new_app, with_rule, first_of}
use Rattle.gp_base.specs.declared.limits.Limits.{Limits}
use Rattle.gp_base.specs.declared.limits.TheConstants.{DEFAULT_TURNS, DEFAULT_SUBTHREADS, DEFAULT_WORKERS, LEAST_MOVES, MOST_MOVES, MOST_TURNS, MOST_SUBTHREADS, MOST_WORKERS}
use Rattle.command_line.specs.meaning.Arguments.{is_faultless, positional, option_of, flag_of, is_on, number_of, number_or}
use Rattle.command_line.specs.declared.asked.Asked.{Asked}
use Rattle.command_line.specs.declared.asked.Soak.{Soak}
use Rattle.command_line.specs.declared.asked.Command.{Command}
use Rattle.command_line.specs.declared.asked.Command.TheVariants as command
use Rattle.command_line.specs.declared.asked.CrewKind.{CrewKind}
use Rattle.command_line.specs.declared.asked.CrewKind.TheVariants as crew
use Rattle.command_line.specs.declared.asked.Verb.{Verb}
use Rattle.command_line.specs.declared.asked.Verb.TheVariants.{Run, One, Check, Soak as SoakVerb}

-- the words as bytes
abbrev pub texts : List (String Global) → List Text
texts words = map string_bytes words

-- the command that a word names
abbrev pub named_verb : Text → Option Verb
named_verb word =
    if bytes_eq word (codes "run") then Some Run
    else (if bytes_eq word (codes "one") then Some One
    else (if bytes_eq word (codes "check") then Some Check
    else (if bytes_eq word (codes "soak") then Some SoakVerb else None)))

-- the crew that a word names; `pipe` is one only for a call that may wait
abbrev pub named_crew : (waits : Bool) → Text → Option CrewKind
named_crew waits word =
    if bytes_eq word (codes "one") then Some crew.One
    else (if bytes_eq word (codes "wave") then Some crew.Wave
    else (if bytes_eq word (codes "board") then Some crew.Board
    else (if bytes_eq word (codes "steal") then Some crew.Steal
    else (if waits && bytes_eq word (codes "pipe") then Some crew.Pipe else None))))

-- the first of the words is this one
abbrev pub begins_with : (name : Text) → List Text → Bool
begins_with name [] = false
begins_with name (word ∷ words) = bytes_eq word name

-- what words mean to a command, by the arguments that it finds in them, where it takes them
abbrev pub accepted : {A : Type 0} → App → (List Row → Option A) → List Text → Option A
accepted app meaning words = if is_faultless (fault_of app words) then meaning (matches_of app words) else None

-- the same where they begin with its name
abbrev pub accepted_as : {A : Type 0} → (name : Text) → App → (List Row → Option A) → List Text → Option A
accepted_as name app meaning words = if begins_with name words then accepted app meaning words else None

-- what two parts make, where both are there
abbrev pub both : {A B C : Type 0} → (A → B → C) → Option A → Option B → Option C
both make (Some a) (Some b) = Some (make a b)
both make a b = None

-- a command without a help flag
abbrev pub without_help : App → App
without_help app = record app { top = record app.top { disable_help_flag = true } }

-- a command of this name that takes a program's name, and no other word
abbrev pub on_program : Text → App
on_program name = with_rule (without_help (new_app name)) (positional (codes "program"))

-- the command with the options of limits
abbrev pub with_limits : App → App
with_limits app = with_rule (with_rule app (option_of (codes "turns"))) (option_of (codes "subthreads"))

-- the command with the options of a crew
abbrev pub with_crew : App → App
with_crew app = with_rule (with_rule app (option_of (codes "workers"))) (option_of (codes "crew"))

-- what takes the words of `run`, and those of `soak`
abbrev pub for_run : App
for_run = with_crew (with_limits (with_rule (with_rule (on_program (codes "run")) (option_of (codes "faults"))) (flag_of (codes "trace"))))

abbrev pub for_soak : App
for_soak =
    with_crew (with_rule (with_rule (without_help (new_app (codes "soak"))) (positional (codes "moves"))) (positional (codes "start")))

-- what takes the words of a command
unfoldable pub app_for : Verb → App
app_for Run = for_run
app_for One = with_limits (on_program (codes "one"))
app_for Check = on_program (codes "check")
app_for SoakVerb = for_soak

-- a batch of so many moves, from this number
abbrev pub soak_in : List Row → Option Soak
soak_in rows =
    both (λ moves start. record { moves = moves; start = start }) (number_of LEAST_MOVES MOST_MOVES (first_of (codes "moves") rows))
    (number_of 0 18446744073709551615 (first_of (codes "start") rows))

-- what is to be done
abbrev pub command_in : Verb → List Row → Option Command
command_in Run rows = Some command.Run
command_in One rows = Some command.One
command_in Check rows = Some command.Check
command_in SoakVerb rows = option_map command.Soak (soak_in rows)

-- the program's file, and the file of faults; a batch that is made has both in itself
abbrev pub program_in : Verb → List Row → Option Text
program_in SoakVerb rows = Some (codes "soak.gp")
program_in verb rows = first_of (codes "program") rows

abbrev pub faults_in : Verb → List Row → Option Text
faults_in SoakVerb rows = Some (codes "faults.csv")
faults_in verb rows = first_of (codes "faults") rows

-- a limit is a number in its range, or stands at its default
abbrev pub limits_in : List Row → Option Limits
limits_in rows =
    both (λ turns subthreads. record { turns = turns; subthreads = subthreads })
    (number_or 1 MOST_TURNS DEFAULT_TURNS (first_of (codes "turns") rows))
    (number_or 1 MOST_SUBTHREADS DEFAULT_SUBTHREADS (first_of (codes "subthreads") rows))

-- the crew is one that a word names, or the default
abbrev pub crew_in : (waits : Bool) → List Row → Option CrewKind
crew_in waits rows = option_map_or (named_crew waits) (first_of (codes "crew") rows) (Some crew.Wave)

abbrev pub workers_in : List Row → Option ℕ
workers_in rows = number_or 1 MOST_WORKERS DEFAULT_WORKERS (first_of (codes "workers") rows)

-- what is asked for, where all that has to be there is
abbrev pub asked_with : Option Command → (program faults : Option Text) → Option Limits → Option CrewKind → (workers : Option ℕ)
    → Option Text → Option Asked
asked_with (Some command) (Some program) faults (Some limits) (Some crew) (Some workers) trace =
    Some (record {
      command = command;
      program = program;
      faults = faults;
      limits = limits;
      crew = crew;
      workers = workers;
      trace = is_on trace;
    })
asked_with command program faults limits crew workers trace = None

-- what the texts that were found ask for
abbrev pub asked_in : (waits : Bool) → Verb → List Row → Option Asked
asked_in waits verb rows =
    asked_with (command_in verb rows) (program_in verb rows) (faults_in verb rows) (limits_in rows) (crew_in waits rows) (workers_in rows)
    (first_of (codes "trace") rows)

-- what the words of this command ask for, where it takes them
abbrev pub asked_of : (waits : Bool) → Verb → List Text → Option Asked
asked_of waits verb = accepted (app_for verb) (asked_in waits verb)

-- what the words ask for, where they are those of a command
abbrev pub asked_among : (waits : Bool) → List Text → Option Asked
asked_among waits [] = None
asked_among waits (word ∷ words) = option_and_then (λ verb. asked_of waits verb (word ∷ words)) (named_verb word)

-- the same for a call that may not wait, and for one that may
abbrev pub asked_by : List Text → Option Asked
asked_by = asked_among false

abbrev pub asked_waiting : List Text → Option Asked
asked_waiting = asked_among true

-- the words are those of a command with the crew `pipe`
abbrev pub is_pipe : CrewKind → Bool
is_pipe crew.Pipe = true
is_pipe kind = false

abbrev pub wants_pipe : List Text → Bool
wants_pipe words = option_map_or (λ asked. is_pipe asked.crew) (asked_waiting words) false
