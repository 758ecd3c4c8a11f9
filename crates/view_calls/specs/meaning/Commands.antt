-- What the words of `gprs_view` ask for, and what is done for that, as one value of the record of promises.
use Rattle.std.specs.Prelude.{◌≡◌, ◌⊎◌, ℕ, suc, ◌+◌, true, nat_lt, List, [], ◌∷◌, ◌++◌, length, take, drop, get_or, Option, Some, None, option_and_then, option_map, codes, decimal, ◌==◌, if◌then◌else◌}
use Rattle.std.specs.Option.{option_or}
use Rattle.std.specs.Str.{bytes_eq}
use Rattle.task_ast.specs.meaning.Tree.{Name}
use Rattle.command_line.specs.meaning.Words.{asked_of}
use Rattle.command_line.specs.meaning.WhyWords.{sought_by}
use Rattle.command_line.specs.declared.asked.Asked.{Asked}
use Rattle.command_line.specs.declared.asked.Verb.TheVariants.{Run, One}
use Rattle.command_line.specs.declared.why_words.Sought.{Sought}
use Rattle.call_cases.specs.declared.lines.Tool.TheVariants.{GprsView}
use Rattle.call_cases.specs.meaning.Lines.{tool_line}
use Rattle.call_cases.specs.meaning.Headline.{Call, Headline}
use Rattle.call_cases.specs.meaning.Commands.{Asking, Commands, unjournalled}
use Rattle.call_cases.specs.meaning.RunCommands as gprs
use Rattle.run_picture.specs.meaning.Elements.{Layout}
use Rattle.view_calls.specs.declared.words.Viewed.{Viewed}
use Rattle.view_calls.specs.meaning.Sights.{Sight, supplies, sight_text, sight_status}

-- a whole run without a trace, and a position of a run
abbrev pub whole_run : Asked → Viewed
whole_run run = record { run = run; position = None; trace = None }

abbrev pub placed_run : Sought → Viewed
placed_run sought = record { run = sought.run; position = Some sought.position; trace = None }

-- after `order` stand the words that `gprs one` takes
abbrev pub order_asked : List (List ℕ) → Option Viewed
order_asked words = option_map whole_run (asked_of true One words)

-- where the option `--trace` stands among the words, which is past them where it is not there
abbrev pub trace_at : List (List ℕ) → ℕ
trace_at [] = 0
trace_at (word ∷ words) = if bytes_eq word (codes "--trace") then 0 else suc (trace_at words)

-- the words without the option at this place and the word after it
abbrev pub untraced : (at : ℕ) → List (List ℕ) → List (List ℕ)
untraced at words = take at words ++ drop (at + 2) words

-- a run with this trace, or with none; such a run has no flag for a trace to be written
abbrev pub traced_run : (trace : Option Name) → Asked → Option Viewed
traced_run trace run = if run.trace then None else Some (record { run = run; position = None; trace = trace })

abbrev pub traced_by : (trace : Option Name) → List (List ℕ) → Option Viewed
traced_by trace words = option_and_then (traced_run trace) (asked_of true Run words)

-- after `timeline` stand those that `gprs run` takes, of which crew and workers change nothing, and the option `--trace` with a file
-- after it
abbrev pub timeline_at : (at : ℕ) → List (List ℕ) → Option Viewed
timeline_at at words =
    if nat_lt (at + 1) (length words) then traced_by (Some (get_or words (at + 1) [])) (untraced at words) else traced_by None words

abbrev pub timeline_by : List (List ℕ) → Option Viewed
timeline_by words = timeline_at (trace_at words) words

-- the whole run that words ask for
abbrev pub run_by : List (List ℕ) → Option Viewed
run_by [] = None
run_by (word ∷ words) =
    if bytes_eq word (codes "order") then order_asked (word ∷ words) else
    (if bytes_eq word (codes "timeline") then timeline_by (word ∷ words) else None)

-- what the words ask for: it is the run of these that is shown, or a position of the run of `why`
abbrev pub viewed_by : List (List ℕ) → Option Viewed
viewed_by words = option_or (option_map placed_run (sought_by words)) (run_by words)

-- A file that may be read for what the words ask: one of those of the run, or that of the trace.
pub data MayRead (viewed : Viewed) : Name → Type 0 where
  of_run : {name : Name} → gprs.MayRead viewed.run name → MayRead viewed name
  the_trace : {name : Name} → viewed.trace ≡ Some name → MayRead viewed name

abbrev pub asking : Asking Viewed Sight
asking =
    record {
      tool = GprsView;
      reading = viewed_by;
      program = λ viewed. viewed.run.program;
      files = λ viewed files. files;
      supplies = supplies;
    }

-- shown, or there is no such position
abbrev pub IsShown : ℕ → Type 0
IsShown status = (status ≡ 0) ⊎ (status ≡ 5)

-- the line of a position that there is not, and what the error stream takes at this status
abbrev pub no_position_line : (position : ℕ) → List ℕ
no_position_line position = tool_line GprsView (codes "no position " ++ decimal position ++ codes "\n")

abbrev pub absent_line : (status : ℕ) → (position : Option ℕ) → List ℕ
absent_line status None = []
absent_line status (Some position) = if status == 5 then no_position_line position else []

-- the promises, where pictures are laid out so: no run over a journal begins, and a run that is stuck or has spent its limits is shown like
-- any other
abbrev pub commands : Layout → Commands Viewed Sight
commands layout =
    record (unjournalled asking MayRead (sight_status layout) IsShown (sight_text layout)) {
      error = λ viewed status journal. absent_line status viewed.position;
    }

-- what holds of each call, in some layout
abbrev pub Shows : Call → Type 0
Shows call = (layout : Layout) × Headline (commands layout) call
