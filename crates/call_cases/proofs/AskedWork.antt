-- What there is to be done for what is asked: the command that the words name, under limits in their range, with few faults, each with
-- numbers in their ranges.
use Rattle.std.proofs.Common.{◌≡◌, ◌≤◌, ◌&&◌, ℕ, Bool, true, false, List, [], ◌∷◌, ◌++◌, length, nat_lt, nat_le, if◌then◌else◌, refl, sym, subst, arith}
use Rattle.std.specs.Prelude.{IfSome, IfOk, ⊤, codes, option_and_then}
use Rattle.std.specs.Str.Parse.{digits_value}
use Rattle.std.specs.declared.option.Option.{Option}
use Rattle.std.specs.declared.option.Option.TheVariants.{None, Some}
use Rattle.std.specs.declared.result.Result.{Result}
use Rattle.std.specs.declared.result.Result.TheVariants.{Ok, Err}
use Rattle.std.proofs.lemmas.Bool.Decides.{nat_tests}
use Rattle.std.proofs.lemmas.List.Elements.{All-nil}
use Rattle.clap.specs.Words.{Row, Text, fault_of, matches_of, first_of}
use Rattle.gp_base.specs.meaning.Digits.{is_digits}
use Rattle.gp_base.specs.meaning.Files.{bytes_of}
use Rattle.gp_base.specs.declared.fault.Fault.{Fault}
use Rattle.gp_base.specs.declared.feed.Inputs.{Inputs}
use Rattle.gp_base.specs.declared.limits.Limits.{Limits}
use Rattle.gp_base.specs.declared.limits.TheConstants.{DEFAULT_SUBTHREADS, DEFAULT_TURNS, MOST_FAULTS, MOST_FILE_BYTES, MOST_SUBTHREADS, MOST_TURNS}
use Rattle.task_ast.specs.meaning.Tree.{Name, Program}
use Rattle.task_ast.specs.meaning.Check.{check_fault}
use Rattle.task_ast.specs.declared.check_kind.CheckKind.{CheckKind}
use Rattle.task_parser.specs.meaning.Spelling.{Meaning, Stands, LexFails, ParseFails}
use Rattle.batch_files.specs.meaning.Rows.{Broken, csv_rows}
use Rattle.batch_files.specs.meaning.Faults.{faults_by}
use Rattle.command_line.specs.meaning.Numbers.{number_between}
use Rattle.command_line.specs.meaning.Arguments.{is_faultless, number_or}
use Rattle.command_line.specs.meaning.Words.{named_verb, app_for, command_in, program_in, faults_in, limits_in, crew_in, workers_in, asked_with, asked_in, asked_of, asked_among, both}
use Rattle.command_line.specs.declared.asked.Asked.{Asked}
use Rattle.command_line.specs.declared.asked.Command.{Command}
use Rattle.command_line.specs.declared.asked.CrewKind.{CrewKind}
use Rattle.command_line.specs.declared.asked.Verb.{Verb}
use Rattle.call_cases.specs.meaning.Work.{Files, ToDo, work_for, Case, Refused, Go, after_file}
use Rattle.call_cases.specs.meaning.InputFiles.{by_rows, by_file, load_faults, supplied_for, then_load, with_faults}
use Rattle.call_cases.specs.meaning.Case.{IsCaseOf, no_program, of_text, IsCheckedCase, IsMeantCase}
use Rattle.call_cases.specs.meaning.Lines.{input_line}
use Rattle.call_cases.specs.meaning.RunCommands.{asking_among}
use Rattle.call_cases.proofs.FaultRows.{IsNarrow, AreNarrow, narrow_file}

-- words ask for no more subthreads than there may be
number_most : (low high : ℕ) (text : List ℕ) → IfSome (number_between low high text) (λ n. n ≤ high)
number_most low high text = go (is_digits text) (nat_le low (digits_value 10 text)) (nat_le (digits_value 10 text) high) refl
  where
    go : (a b c : Bool) → nat_le (digits_value 10 text) high ≡ c → IfSome (if a && (b && c) then Some (digits_value 10 text) else None) (λ n. n ≤ high)
    go false b c is = tt
    go true false c is = tt
    go true true false is = tt
    go true true true is = grind (arith, nat_tests, is)

most_or : (low high other : ℕ) (text : Option Text) → other ≤ high → IfSome (number_or low high other text) (λ n. n ≤ high)
most_or low high other None within = within
most_or low high other (Some text) within = number_most low high text

abbrev AreFew : Limits → Type 0
AreFew limits = limits.subthreads ≤ MOST_SUBTHREADS

abbrev limited : (turns subthreads : ℕ) → Limits
limited turns subthreads = record { turns = turns; subthreads = subthreads }

few_with : (turns subthreads : Option ℕ) → IfSome subthreads (λ n. n ≤ MOST_SUBTHREADS) → IfSome (both limited turns subthreads) AreFew
few_with None subthreads is = tt
few_with (Some turns) None is = tt
few_with (Some turns) (Some subthreads) is = is

few_in : (rows : List Row) → IfSome (limits_in rows) AreFew
few_in rows =
    few_with (number_or 1 MOST_TURNS DEFAULT_TURNS (first_of (codes "turns") rows))
    (number_or 1 MOST_SUBTHREADS DEFAULT_SUBTHREADS (first_of (codes "subthreads") rows))
    (most_or 1 MOST_SUBTHREADS DEFAULT_SUBTHREADS (first_of (codes "subthreads") rows) (omega arith))

abbrev AsksFew : Asked → Type 0
AsksFew asked = AreFew asked.limits

few_asked : (command : Option Command) (program faults : Option Text) (limits : Option Limits) (crew : Option CrewKind) (workers : Option ℕ)
    (trace : Option Text) → IfSome limits AreFew → IfSome (asked_with command program faults limits crew workers trace) AsksFew
few_asked None program faults limits crew workers trace is = tt
few_asked (Some command) None faults limits crew workers trace is = tt
few_asked (Some command) (Some program) faults None crew workers trace is = tt
few_asked (Some command) (Some program) faults (Some limits) None workers trace is = tt
few_asked (Some command) (Some program) faults (Some limits) (Some crew) None trace is = tt
few_asked (Some command) (Some program) faults (Some limits) (Some crew) (Some workers) trace is = is

few_taken : (waits : Bool) (verb : Verb) (rows : List Row) (b : Bool) → IfSome (if b then asked_in waits verb rows else None) AsksFew
few_taken waits verb rows false = tt
few_taken waits verb rows true =
    few_asked (command_in verb rows) (program_in verb rows) (faults_in verb rows) (limits_in rows) (crew_in waits rows) (workers_in rows)
    (first_of (codes "trace") rows) (few_in rows)

pub few_among : (waits : Bool) (words : List Text) → IfSome (asked_among waits words) AsksFew
few_among waits [] = tt
few_among waits (word ∷ words) = go (named_verb word)
  where
    go : (verb : Option Verb) → IfSome (option_and_then (λ verb. asked_of waits verb (word ∷ words)) verb) AsksFew
    go None = tt
    go (Some verb) =
        few_taken waits verb (matches_of (app_for verb) (word ∷ words)) (is_faultless (fault_of (app_for verb) (word ∷ words)))

-- the faults of a file
abbrev SuppliesNarrow : Case (List Fault) → Type 0
SuppliesNarrow (Go names faults) = AreNarrow MOST_FAULTS faults
SuppliesNarrow (Refused status names line) = ⊤

narrow_rows : (names : List Name) (file : Name) (rows : Result (List Fault) Broken) → IfOk rows (AreNarrow MOST_FAULTS)
    → SuppliesNarrow (by_rows names file rows Go)
narrow_rows names file (Ok faults) is = is
narrow_rows names file (Err broken) is = tt

narrow_bytes : (names : List Name) (file : Name) (bytes : Option (List ℕ)) → SuppliesNarrow (by_file names file bytes faults_by Go)
narrow_bytes names file None = tt
narrow_bytes names file (Some bytes) = go (nat_lt MOST_FILE_BYTES (length bytes))
  where
    go : (b : Bool) → SuppliesNarrow (if b then Refused 4 (names ++ file ∷ [])
        (input_line file 6 0) else by_rows names file (faults_by (csv_rows bytes)) Go)
    go true = tt
    go false = narrow_rows names file (faults_by (csv_rows bytes)) (narrow_file (csv_rows bytes))

narrow_load : (files : Files) (names : List Name) (file : Option Name) → SuppliesNarrow (load_faults files names file)
narrow_load files names None = record { few = omega arith; narrow = All-nil IsNarrow }
narrow_load files names (Some file) = narrow_bytes names file (bytes_of files file)

-- what there is to be done for what is asked
pub record IsAskedWork (asked : Asked) (work : ToDo) : Type 0 where
  pub command : work.command ≡ asked.command
  pub limits : work.limits ≡ asked.limits
  pub faults : AreNarrow MOST_FAULTS work.faults

abbrev SuppliesAsked : Asked → Case ToDo → Type 0
SuppliesAsked asked (Go names work) = IsAskedWork asked work
SuppliesAsked asked (Refused status names line) = ⊤

abbrev GoesAsked : Asked → Case ToDo → Type 0
GoesAsked asked (Go names work) = IsAskedWork asked work
GoesAsked asked case = ⊤

module _ (asked : Asked) (files : Files) where
  faults_supply : (program : Program) (inputs : Inputs) (supplied : Case (List Fault)) → SuppliesNarrow supplied
      → SuppliesAsked asked (then_load supplied (λ names faults. Go names (work_for asked program inputs faults)))
  faults_supply program inputs (Go names faults) narrow = record { command = refl; limits = refl; faults = narrow }
  faults_supply program inputs (Refused status names line) narrow = tt

  inputs_supply : (program : Program) (supplied : Case Inputs)
      → SuppliesAsked asked (then_load supplied (with_faults files asked program))
  inputs_supply program (Go names inputs) =
      faults_supply program inputs (load_faults files names asked.faults) (narrow_load files names asked.faults)
  inputs_supply program (Refused status names line) = tt

  supplied_goes : (supplied : Case ToDo) → SuppliesAsked asked supplied → GoesAsked asked (after_file asked.program supplied)
  supplied_goes (Go names work) is = is
  supplied_goes (Refused status names line) is = tt

  module _ (waits : Bool) where
    checked_goes : (program : Program) (fault : Option (CheckKind × ℕ)) (case : Case ToDo)
        → IsCheckedCase (asking_among waits) files asked program fault case → GoesAsked asked case
    checked_goes program (Some fault) case is = subst (GoesAsked asked) (sym is) tt
    checked_goes program None case (given, supplies, is) =
        subst (GoesAsked asked) (sym is)
        (supplied_goes given
        (subst (SuppliesAsked asked) (sym supplies) (inputs_supply program (supplied_for asked.command program.heads files))))

    meant_goes : (meaning : Meaning) (case : Case ToDo) → IsMeantCase (asking_among waits) files asked meaning case → GoesAsked asked case
    meant_goes (LexFails fault) case is = subst (GoesAsked asked) (sym is) tt
    meant_goes (ParseFails fault) case is = subst (GoesAsked asked) (sym is) tt
    meant_goes (Stands program) case is = checked_goes program (check_fault program) case is

    case_goes : (case : Case ToDo) → IsCaseOf (asking_among waits) asked files case → GoesAsked asked case
    case_goes case (no_program absent) = tt
    case_goes case (of_text meaning there means is) = meant_goes meaning case is

    pub asked_work : (names : List Name) (work : ToDo) → IsCaseOf (asking_among waits) asked files (Go names work) → IsAskedWork asked work
    asked_work names work is = case_goes (Go names work) is
