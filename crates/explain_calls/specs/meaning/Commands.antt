-- What the words of `explain` ask for, and its case.
use Rattle.std.specs.Prelude.{◌≡◌, ℕ, Bool, true, false, List, [], ◌∷◌, Option, Some, None, option_and_then, codes, if◌then◌else◌}
use Rattle.std.specs.Str.{bytes_eq}
use Rattle.command_line.specs.meaning.Words.{asked_of}
use Rattle.command_line.specs.declared.asked.Asked.{Asked}
use Rattle.command_line.specs.declared.asked.Verb.TheVariants.{Run}
use Rattle.call_cases.specs.meaning.Work.{ToDo, Case, Refused, Go}
use Rattle.call_cases.specs.declared.lines.Tool.TheVariants.{GprsView}
use Rattle.call_cases.specs.meaning.Commands.{Asking}
use Rattle.call_cases.specs.meaning.InputFiles.{supplied_by}
use Rattle.call_cases.specs.meaning.RunCommands.{end_status}
use Rattle.call_cases.specs.meaning.PlainText.{plain_ran}

-- a run without a flag for a trace to be written
abbrev pub without_trace : Asked → Option Asked
without_trace asked = if asked.trace then None else Some asked

-- the first of the words is `explain`
abbrev pub is_explain : List (List ℕ) → Bool
is_explain [] = false
is_explain (word ∷ words) = bytes_eq word (codes "explain")

-- after it stand the words that `gprs run` takes, of which crew and workers change nothing
abbrev pub explained_by : List (List ℕ) → Option Asked
explained_by words = if is_explain words then option_and_then without_trace (asked_of true Run words) else None

abbrev pub asking : Asking Asked ToDo
asking =
    record {
      tool = GprsView;
      reading = explained_by;
      program = λ asked. asked.program;
      files = λ asked files. files;
      supplies = λ asked program files case. case ≡ supplied_by asked program files;
    }

-- the status of a case: a run is made on one thread, so that faults strike nothing
abbrev pub case_status : Case ToDo → ℕ
case_status (Refused status names line) = status
case_status (Go names work) = end_status (plain_ran work).end
