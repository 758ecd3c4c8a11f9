-- What the headline says of `run`, on one page.
use Rattle.std.proofs.Common.{◌≡◌, ◌⊎◌, inl, inr, ℕ, List, [], ◌∷◌, ◌++◌, refl, sym, ap, subst, ◌∙◌}
use Rattle.std.specs.declared.option.Option.{Option}
use Rattle.std.specs.declared.option.Option.TheVariants.{Some, None}
use Rattle.std.specs.declared.result.Result.{Result}
use Rattle.std.specs.declared.result.Result.TheVariants.{Ok, Err}
use Rattle.std.specs.List.{Contains}
use Rattle.gp_base.specs.declared.fault.Fault.{Fault}
use Rattle.gp_base.specs.declared.feed.Inputs.{Inputs}
use Rattle.gp_base.specs.meaning.Files.{bytes_of}
use Rattle.task_ast.specs.meaning.Check.{check_fault}
use Rattle.task_ast.specs.meaning.Tree.{Name, Program}
use Rattle.task_parser.specs.meaning.Spelling.{Stands}
use Rattle.batch_files.specs.meaning.Rows.{Broken, csv_rows}
use Rattle.batch_files.specs.meaning.Faults.{faults_by}
use Rattle.gp_base.specs.declared.limits.TheConstants.{MOST_FILE_BYTES}
use Rattle.gp_base.specs.declared.ending.End.{End}
use Rattle.gp_base.specs.declared.ending.End.TheVariants.{Finished, Stuck, Spent}
use Rattle.std.specs.Prelude.{Bool, true, false, nat_lt, length, if◌then◌else◌}
use Rattle.command_line.specs.declared.asked.Asked.{Asked}
use Rattle.command_line.specs.declared.asked.Command.TheVariants.{Run}
use Rattle.command_line.specs.meaning.Words.{asked_by}
use Rattle.call_cases.specs.declared.lines.Tool.TheVariants.{Gprs}
use Rattle.call_cases.specs.meaning.Answers.{TakesAll, TakesPart, Fails, Grew, IsStopLine, Yields, due_status, no_memory, read_fault, write_fault}
use Rattle.call_cases.specs.meaning.Case.{IsCase, IsCaseOf, asks, of_text, IsCheckedCase, ForCase, names_read}
use Rattle.call_cases.specs.meaning.Headline.{Call, Headline, MeetsCase, IsStop, error_for}
use Rattle.call_cases.specs.meaning.InputFiles.{load, load_faults, no_inputs, supplied_by, supplied_for, then_load, with_faults, by_file, by_rows}
use Rattle.call_cases.specs.meaning.Lines.{tool_line, read_fault_line, input_line}
use Rattle.command_line.specs.declared.asked.Command.{Command}
use Rattle.call_cases.specs.meaning.Texts.{run_text}
use Rattle.call_cases.specs.meaning.PlainText.{plain_ran, restarts_in}
use Rattle.call_cases.specs.meaning.RunCommands.{asking, commands, end_status, trace_for, work_text, work_status, IsWhole}
use Rattle.call_cases.specs.meaning.SoakFiles.{files_of}
use Rattle.call_cases.specs.meaning.Work.{Files, Case, Refused, Go, ToDo, work_for}
use Rattle.batch_calls.specs.meaning.RunTheorem.{gave, published, IsBatch, Ends, whole, stopped, unread, RunsBatch}

-- ---- the case of the batch

-- what is given was read, after some files
read_for : {T : Type 0} (case : Case T) (value : T) → gave case ≡ Some value → (names : List Name) × (case ≡ Go names value)
read_for (Go names other) value is = let same : other ≡ value = cc in (names, ap (Go names) same)
read_for (Refused status names line) value is = absurd (cc)

-- what rows or a file give does not hang on the files before
rows_given : {S : Type 0} (names names' : List Name) (file : Name) (rows : Result S Broken)
    → gave (by_rows names file rows Go) ≡ gave (by_rows names' file rows Go)
rows_given names names' file (Ok value) = refl
rows_given names names' file (Err broken) = refl

faults_given : (files : Files) (names : List Name) (file : Option Name) → gave (load_faults files names file) ≡ gave (load_faults files [] file)
faults_given files names None = refl
faults_given files names (Some file) = of_bytes (bytes_of files file)
  where
    of_size : (big : Bool) (rows : Result (List Fault) Broken)
        → gave (if big then Refused 4 (names ++ file ∷ []) (input_line file 6 0) else by_rows names file rows Go)
        ≡ gave (if big then Refused 4 ([] ++ file ∷ []) (input_line file 6 0) else by_rows [] file rows Go)
    of_size true rows = refl
    of_size false rows = rows_given names [] file rows

    of_bytes : (bytes : Option (List ℕ)) → gave (by_file names file bytes faults_by Go) ≡ gave (by_file [] file bytes faults_by Go)
    of_bytes None = refl
    of_bytes (Some bytes) = of_size (nat_lt MOST_FILE_BYTES (length bytes)) (faults_by (csv_rows bytes))

-- ---- what the work of the batch comes to

whole_end : (end : End) (status : ℕ) → status ≡ end_status end → IsWhole status
whole_end Finished status is = inl is
whole_end (Stuck why thread line) status is = inr (inl is)
whole_end (Spent position) status is = inr (inr is)

text_of_run : (command : Command) → command ≡ Run → (work : ToDo)
    → work_text command work ≡ run_text (plain_ran work) (restarts_in work) (length work.faults)
text_of_run command is work = subst (λ c. work_text c work ≡ run_text (plain_ran work) (restarts_in work) (length work.faults)) (sym is) refl

module _ (work : ToDo) (command : work.command ≡ Run) where
  text_is : work_text work.command work ≡ published work
  text_is = text_of_run work.command command work

  status_is : work_status work.command work ≡ end_status (plain_ran work).end
  status_is = ap (λ c. work_status c work) command

-- ---- the call

module _ (call : Call) (files : Files) (asked : Asked) (program : Program) (inputs : Inputs) (faults : List Fault)
    (headline : Headline commands call) (known : call.files ≡ Some files) (reads : asked_by call.words ≡ Some asked)
    (batch : IsBatch asked files program inputs faults) where
  abbrev work : ToDo
  work = work_for asked program inputs faults

  inputs_read : (names : List Name) × (load files [] no_inputs program.heads ≡ Go names inputs)
  inputs_read = read_for (load files [] no_inputs program.heads) inputs batch.gives

  faults_read : (names : List Name) × (load_faults files inputs_read.0 asked.faults ≡ Go names faults)
  faults_read =
      read_for (load_faults files inputs_read.0 asked.faults) faults (faults_given files inputs_read.0 asked.faults ∙ batch.lists)

  supplied : supplied_by asked program files ≡ Go faults_read.0 work
  supplied =
      ap (λ c. then_load (supplied_for c program.heads files) (with_faults files asked program)) batch.run
      ∙ (ap (λ c. then_load c (with_faults files asked program)) inputs_read.1
      ∙ ap (λ c. then_load c (λ names faults. Go names (work_for asked program inputs faults))) faults_read.1)

  abbrev case : Case ToDo
  case = Go (asked.program ∷ faults_read.0) work

  checked : IsCheckedCase asking files asked program (check_fault program) case
  checked =
      subst (λ fault. IsCheckedCase asking files asked program fault case) (sym batch.accepted)
      (Go faults_read.0 work, sym supplied, refl)

  is_case : IsCase asking call.words files case
  is_case =
      asks reads
      (subst (λ c. IsCaseOf asking asked (files_of c files) case) (sym batch.run)
      (of_text (Stands program) batch.stands batch.spells checked))

  meets : MeetsCase commands call case
  meets = subst (λ told. ForCase commands.asking call.words told (MeetsCase commands call)) known headline.by_case case is_case

  -- the text and the status of the work are those of the page
  same_text : work_text asked.command work ≡ published work
  same_text = text_is work batch.run

  same_status : work_status asked.command work ≡ end_status (plain_ran work).end
  same_status = status_is work batch.run

  is_whole : IsWhole (work_status asked.command work)
  is_whole = whole_end (plain_ran work).end (work_status asked.command work) same_status

  -- the trace that the error stream is to take
  same_trace : (status : ℕ) → error_for commands (asked_by call.words) status call.journal ≡ trace_for asked call.journal
  same_trace status = ap (λ a. error_for commands a status call.journal) reads

  part : TakesPart call.out (published work)
  part = subst (TakesPart call.out) same_text meets.prefix

  ended : work_status asked.command work ≡ call.status → Ends (published work) (end_status (plain_ran work).end) (trace_for asked call.journal) call
  ended is =
      let is_end = subst IsWhole is is_whole in
      whole (sym is ∙ same_status) (subst (TakesAll call.out) same_text (meets.text is_end))
      (subst (TakesAll call.err) (same_trace call.status) (headline.quiet is_end))

  stops : (call.status ≡ 1) ⊎ (call.status ≡ 8) × (Fails call.out ⊎ Fails call.err) → IsStop call.status → Ends (published work) (end_status (plain_ran work).end) (trace_for asked call.journal) call
  stops why is = let told = meets.stopped is in stopped why part told.0 (line_told told.0 told.1) told.2
    where
      line_told : (line : List ℕ) → IsStopLine Gprs line ⊎ (line ≡ error_for commands (asked_by call.words) (work_status asked.command work) call.journal)
          ⊎ Grew call.failed call.failed' × (name : Name) × Contains (names_read case) name × (line ≡ tool_line Gprs (read_fault_line name))
          → IsStopLine Gprs line ⊎ (line ≡ trace_for asked call.journal) ⊎ (name : Name) × (line ≡ tool_line Gprs (read_fault_line name))
      line_told line (inl stop) = inl stop
      line_told line (inr (inl traced)) = inr (inl (traced ∙ same_trace (work_status asked.command work)))
      line_told line (inr (inr read)) = inr (inr (read.1, read.3))

  ends_by : (status : ℕ) → call.status ≡ status
      → Yields (work_status asked.command work) (Grew call.failed call.failed') (Fails call.out ⊎ Fails call.err) status
      → Ends (published work) (end_status (plain_ran work).end) (trace_for asked call.journal) call
  ends_by status is due_status = ended (sym is)
  ends_by status is no_memory = stops (inl is) (inl is)
  ends_by status is (read_fault grew) =
      let told = headline.read_fault is in unread is grew (headline.refused (inr is)) told.name told.line
  ends_by status is (write_fault fails) = stops (inr (is, fails)) (inr is)

  run_ends : Ends (published work) (end_status (plain_ran work).end) (trace_for asked call.journal) call
  run_ends = ends_by call.status refl meets.status

pub runs_batch : (call : Call) → Headline commands call → RunsBatch call
runs_batch call headline files asked program inputs faults known reads batch =
    run_ends call files asked program inputs faults headline known reads batch
