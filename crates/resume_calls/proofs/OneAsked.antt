-- The words of `resume` ask for the run as those of `one` do.
use Rattle.std.proofs.Common.{◌≡◌, ℕ, Bool, true, false, if◌then◌else◌, List, [], ◌∷◌, length, ◌≤◌, IfSome, IfOk, refl, ap, ◌∙◌, subst}
use Rattle.std.specs.Prelude.{codes}
use Rattle.std.specs.Str.{bytes_eq}
use Rattle.std.specs.declared.option.Option.{Option}
use Rattle.std.specs.declared.option.Option.TheVariants.{None, Some}
use Rattle.std.specs.declared.result.Result.{Result}
use Rattle.std.specs.declared.result.Result.TheVariants.{Ok, Err}
use Rattle.clap.specs.Words.{Row, Text, fault_of, matches_of, first_of}
use Rattle.gp_base.specs.declared.limits.Limits.{Limits}
use Rattle.gp_base.specs.declared.limits.TheConstants.{MOST_FILE_BYTES}
use Rattle.command_line.specs.meaning.Arguments.{is_faultless}
use Rattle.command_line.specs.meaning.Words.{program_in, faults_in, limits_in, crew_in, workers_in, asked_with, asked_in, both}
use Rattle.command_line.specs.meaning.ResumeWords.{for_resume, resumed_in as found_in, resumed_by}
use Rattle.command_line.specs.declared.asked.Asked.{Asked}
use Rattle.command_line.specs.declared.asked.CrewKind.{CrewKind}
use Rattle.command_line.specs.declared.asked.Command.TheVariants as command
use Rattle.command_line.specs.declared.asked.Verb.TheVariants as verb
use Rattle.command_line.specs.declared.resume_words.Resumed.{Resumed}
use Rattle.call_cases.specs.declared.reading.Refusal.{Refusal}
use Rattle.call_cases.specs.meaning.Work.{runs}
use Rattle.call_cases.specs.Decided.{MayRun}
use Rattle.resume_calls.specs.declared.halted.Halted.{Halted}
use Rattle.resume_calls.specs.inner.Halting.{MayGoOn, resumed_in}

-- a run on one thread is asked for
abbrev IsOne : Asked → Type 0
IsOne asked = asked.command ≡ command.One

abbrev RunsOne : Resumed → Type 0
RunsOne resumed = IsOne resumed.run

one_with : (program faults : Option Text) (limits : Option Limits) (crew : Option CrewKind) (workers : Option ℕ) (trace : Option Text)
    → IfSome (asked_with (Some command.One) program faults limits crew workers trace) IsOne
one_with None faults limits crew workers trace = tt
one_with (Some program) faults None crew workers trace = tt
one_with (Some program) faults (Some limits) None workers trace = tt
one_with (Some program) faults (Some limits) (Some crew) None trace = tt
one_with (Some program) faults (Some limits) (Some crew) (Some workers) trace = refl

one_in : (rows : List Row) → IfSome (asked_in false verb.One rows) IsOne
one_in rows =
    one_with (program_in verb.One rows) (faults_in verb.One rows) (limits_in rows) (crew_in false rows) (workers_in rows)
    (first_of (codes "trace") rows)

abbrev made : Asked → Text → Resumed
made run log = record { run = run; log = log }

resumed_one : (run : Option Asked) (log : Option Text) → IfSome run IsOne → IfSome (both made run log) RunsOne
resumed_one None log is = tt
resumed_one (Some run) None is = tt
resumed_one (Some run) (Some log) is = is

if_taken : (resumed : Option Resumed) → IfSome resumed RunsOne → (b : Bool) → IfSome (if b then resumed else None) RunsOne
if_taken resumed is true = is
if_taken resumed is false = tt

words_ask : (words : List Text) → IfSome (resumed_by words) RunsOne
words_ask [] = tt
words_ask (word ∷ words) =
    let rows = matches_of for_resume (word ∷ words) in
    let taken = is_faultless (fault_of for_resume (word ∷ words)) in
    if_taken (if taken then found_in rows else None)
    (if_taken (found_in rows) (resumed_one (asked_in false verb.One rows) (first_of (codes "log_file") rows) (one_in rows)) taken)
    (bytes_eq word (codes "resume"))

-- what is asked for has that command, and so the run may begin
pub asks_one : (words : List Text) (resumed : Resumed) → resumed_by words ≡ Some resumed → resumed.run.command ≡ command.One
asks_one words resumed is = subst (λ asked. IfSome asked RunsOne) is (words_ask words)

pub may_go_on : (words : List Text) (resumed : Resumed) (result : Result Halted Refusal) → resumed_by words ≡ Some resumed
    → IfOk result (λ halted. MayRun halted.request)
    → IfOk result (λ halted. length halted.text ≤ MOST_FILE_BYTES) → IfOk result (λ halted. resumed_in halted ≡ resumed)
    → IfOk result MayGoOn
may_go_on words resumed (Ok halted) asks run short is =
    record { sound = run (ap runs (ap (λ (r : Resumed). r.run.command) is ∙ asks_one words resumed asks)); short = short }
may_go_on words resumed (Err refusal) asks run short is = tt
