-- The parts of what a call shows.
use Rattle.std.specs.Prelude.{List, [], ◌∷◌, ◌++◌, Option, Some, None, option_map}
use Rattle.task_ast.specs.meaning.Tree.{Name}
use Rattle.gp_audit.specs.declared.line.TraceLine.{TraceLine}
use Rattle.call_cases.specs.meaning.Work.{Case, Go}
use Rattle.call_cases.specs.Decided.{program_in, work_of, files_read}
use Rattle.view_calls.specs.declared.words.Viewed.{Viewed}
use Rattle.view_calls.specs.declared.reading.Trace.{Trace}
use Rattle.view_calls.specs.declared.reading.Viewing.{Viewing}
use Rattle.view_calls.specs.meaning.Sights.{Sight}

-- what was read, as what is to be shown, and its case
abbrev pub lines_in : Option Trace → Option (List TraceLine)
lines_in = option_map (λ (trace : Trace). trace.lines)

abbrev pub file_in : Option Trace → Option Name
file_in = option_map (λ (trace : Trace). trace.file)

abbrev pub sight_of : Viewing → Sight
sight_of viewing = record { work = work_of viewing.request; position = viewing.position; trace = lines_in viewing.trace }

abbrev pub viewed_in : Viewing → Viewed
viewed_in viewing = record { run = viewing.request.asked; position = viewing.position; trace = file_in viewing.trace }

-- the files that were read for it
abbrev pub with_trace : List Name → Option Trace → List Name
with_trace names None = names
with_trace names (Some trace) = names ++ trace.file ∷ []

abbrev pub case_of : Viewing → Case Sight
case_of viewing = Go (with_trace (files_read viewing.request.asked (program_in viewing.request)) viewing.trace) (sight_of viewing)
