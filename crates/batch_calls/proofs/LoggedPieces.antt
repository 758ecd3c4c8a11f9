-- Runs of which a log is kept: from what notes told of a batch to the log of a work.
use Rattle.std.proofs.Common.{◌≡◌, ◌⊎◌, ℕ, ◌+◌, ◌-◌, ◌≤◌, zero, suc, List, [], ◌∷◌, length, take, codes, Result, Ok, Err, IfOk, inl, inr, refl, sym, ap, subst, ◌∙◌, arith, length-append}
use Rattle.std.specs.declared.option.Option.{Option}
use Rattle.std.specs.declared.option.Option.TheVariants.{None}
use Rattle.std.specs.Io.KnownBytes.{Appends}
use Rattle.std.proofs.lemmas.Bool.{false≢true}
use Rattle.std.specs.Prelude.{All}
use Rattle.std.proofs.lemmas.List.{take_all}
use Rattle.std.proofs.lemmas.List.Elements.{All-nil}
use Rattle.std.proofs.Math.Nat.{le_refl}
use Rattle.gp_base.specs.declared.limits.Limits.{Limits}
use Rattle.gp_base.specs.declared.feed.Inputs.{Inputs}
use Rattle.gp_base.specs.declared.journal.Journal.{Journal}
use Rattle.std.proofs.KnownBytes.{Appends-nil}
use Rattle.task_ast.specs.meaning.Tree.{Program}
use Rattle.task_ast.specs.meaning.Plain.{Subthread}
use Rattle.task_ast.specs.declared.effect.Effect.{Effect}
use Rattle.dependence.specs.meaning.Journal.{stage}
use Rattle.reorder_list.specs.declared.report.Report.{Report}
use Rattle.reorder_list.specs.declared.report.EngineStop.{EngineStop}
use Rattle.crew.specs.meaning.Noted.{left_from, left_in_order}
use Rattle.whole_run.specs.Recovering as whole
use Rattle.whole_run.specs.View.{Batch, program_in}
use Rattle.whole_run.specs.Drive.{stage_in}
use Rattle.whole_run.specs.Notes.{left_below, NotesRun}
use Rattle.whole_run.specs.declared.recovery.Recovery.TheVariants.{Selective}
use Rattle.retirement_log.specs.meaning.Rows.{IsWideRow, row_text, log_text}
use Rattle.retirement_log.specs.meaning.Log.{log_row, size_of, rows_from, log_rows, log_told}
use Rattle.retirement_log.specs.meaning.Telling.{TellsPart}
use Rattle.retirement_log.specs.Telling.{Tells}
use Rattle.retirement_log.specs.declared.notes.LogNotes.{LogNotes}
use Rattle.retirement_log.proofs.Told.{wide_first}
use Rattle.call_cases.specs.meaning.Work.{ToDo}
use Rattle.call_cases.specs.meaning.Journals.{run_of, recovering_for, retired_in, IsCompleteOf}
use Rattle.call_cases.specs.meaning.Answers.{Change, IsEmpty}
use Rattle.call_cases.proofs.RunSound.{none_retired}
use Rattle.batch_calls.specs.meaning.LogCommands.{TakesLog}
use Rattle.batch_calls.specs.inner.Logged.{IsLogged}
use Rattle.batch_calls.specs.inner.Planned.{recovery_of}
use Rattle.batch_calls.specs.inner.Ran.{IsReportOf}
use Rattle.batch_calls.proofs.RanPieces.{same_recovering, crossed, all_retired}

-- the rows of the first positions have no more bytes than those of all
rows_within : (p bytes n : ℕ) (told : List Effect)
    → length (log_text (rows_from p bytes (take n told))) ≤ length (log_text (rows_from p bytes told))
rows_within p bytes zero told = omega arith
rows_within p bytes (suc n) [] = omega arith
rows_within p bytes (suc n) (e ∷ told) =
    let row = row_text (log_row p (bytes + size_of e) e) in
    let shorter = rows_within (suc p) (bytes + size_of e) n told in
    omega (
      arith,
      shorter,
      length-append row (log_text (rows_from (suc p) (bytes + size_of e) (take n told))),
      length-append row (log_text (rows_from (suc p) (bytes + size_of e) told)),
    )

-- a whole log is a part that lacks nothing
whole_part : (start written : Option (List ℕ)) (told : List Effect) → Appends start written (log_told told) → All IsWideRow (log_rows told)
    → TellsPart start written told
whole_part start written told all wide = record {
  part = length (log_told told);
  most = rows_within 0 (length (codes "output\n")) (length told - 1) told;
  taken = subst (Appends start written) (sym (take_all (length (log_told told)) (log_told told) (le_refl (length (log_told told))))) all;
  wide = λ rows whole. wide_first rows told wide;
}

-- each position left something
module _ (program : Program) (inputs : Inputs) (limits : Limits) where
  length-left : (p : ℕ) (run : List Subthread) → length (left_from program inputs limits p run) ≡ length run
  length-left p [] = refl
  length-left p (s ∷ run) = ap suc (length-left (suc p) run)

-- what has retired in a journal left this
abbrev left_for : ToDo → ℕ → List Effect
left_for work p = take p (left_in_order work.program work.inputs work.limits)

left_all : (work : ToDo) (journal : Journal) → IsCompleteOf work journal
    → left_for work (retired_in work journal) ≡ left_in_order work.program work.inputs work.limits
unfolding run_of
left_all work journal complete =
    let all = left_in_order work.program work.inputs work.limits in
    let retired = all_retired work journal complete in
    let left = length-left work.program work.inputs work.limits 0 (run_of work) in
    let enough : length all ≤ retired_in work journal = omega (arith, retired, left) in
    take_all (retired_in work journal) all enough

-- nothing has retired, and the log took nothing
pub unlogged : (work : ToDo) (journal : Journal) (written : Option (List ℕ)) (faults : ℕ) → IsEmpty journal
    → TakesLog work journal (record { written = written; written' = written; faults = faults; faults' = faults })
unlogged work journal written faults empty =
    let none = none_retired work journal empty in
    subst (λ r. TellsPart written written (left_for work r)) (sym none)
    (whole_part written written [] (Appends-nil written) (All-nil IsWideRow))

-- a run that stopped before it began
pub logs_nothing : (work : ToDo) (written : Option (List ℕ)) (faults : ℕ) (stop : EngineStop) → IsEmpty stop.journal
    → IsLogged work (record { written = written; written' = written; faults = faults; faults' = faults }) (Err stop)
logs_nothing work written faults stop empty = record { whole = tt; taken = unlogged work stop.journal written faults empty }

-- a run that stopped after its last line
pub logs_before : (work : ToDo) (log : Change) (report : Report) (stop : EngineStop) → IsLogged work log (Ok report)
    → stop.journal ≡ report.journal → IsLogged work log (Err stop)
logs_before work log report stop is same = record { whole = tt; taken = subst (λ j. TakesLog work j log) (sym same) is.taken }

-- what failed of the output failed of what comes later, too
pub fails_later : (here later log : Type 0) → (here → later) → here ⊎ log → later ⊎ log
fails_later here later log fails (inl is) = inl (fails is)
fails_later here later log fails (inr is) = inr is

-- a batch that is the run of a work, whose notes told its log
module _ (batch : Batch) (work : ToDo) (program : program_in batch ≡ work.program) (inputs : batch.inputs ≡ work.inputs)
    (limits : batch.limits ≡ work.limits) (faults : batch.faults ≡ work.faults)
    (recovery : batch.recovery ≡ recovery_of work.command) where
  retired_same : (journal : Journal) → (stage_in batch journal).retired ≡ retired_in work journal
  unfolding recovering_for
  retired_same journal =
      crossed batch work program inputs limits faults recovery
      (λ r run f. (stage_in batch journal).retired ≡ (stage (whole.recovering r run) f journal.events).retired) refl
      ∙ ap (λ d. (stage d work.faults journal.events).retired) (same_recovering work.command (run_of work))

  left_same : (p : ℕ) → left_below batch p ≡ left_for work p
  left_same p =
      ap (λ o. take p (left_in_order o batch.inputs batch.limits)) program
      ∙ ap (λ i. take p (left_in_order work.program i batch.limits)) inputs
      ∙ ap (λ l. take p (left_in_order work.program work.inputs l)) limits

  told_same : (journal : Journal) → left_below batch (stage_in batch journal).retired ≡ left_for work (retired_in work journal)
  told_same journal = left_same (stage_in batch journal).retired ∙ ap (left_for work) (retired_same journal)

  abbrev told_of : Journal → List Effect
  told_of journal = left_below batch (stage_in batch journal).retired

  module _ (notes notes' : LogNotes) (log : Change) (begun : Tells notes log.written log.written (λ p. None) [])
      (selective : batch.recovery ≡ Selective) where
    pub logs_run : (result : Result Report EngineStop) → IfOk result (IsReportOf work)
        → NotesRun (Tells notes) (Tells notes') TellsPart batch log.written log.written' result → IsLogged work log result
    logs_run (Ok report) reports run = elim (run selective log.written (λ p. None) begun) [
      | inl told ↦
          let taken : Appends log.written log.written' (log_told (left_for work (retired_in work report.journal))) =
          subst (λ l. Appends log.written log.written' (log_told l)) (told_same report.journal) told.1.log in
          let wide = subst (λ l. All IsWideRow (log_rows l)) (told_same report.journal) told.1.wide in
          record {
            whole = subst (λ l. Appends log.written log.written' (log_told l)) (left_all work report.journal reports.complete) taken;
            taken = whole_part log.written log.written' (left_for work (retired_in work report.journal)) taken wide;
          }
      | inr stopped ↦ absurd (false≢true stopped.0)
    ]
    logs_run (Err stop) reports run = record {
      whole = tt;
      taken = elim (run selective log.written (λ p. None) begun) [
        | inl told ↦ whole_part log.written log.written' (left_for work (retired_in work stop.journal))
            (subst (λ l. Appends log.written log.written' (log_told l)) (told_same stop.journal) told.1.log)
            (subst (λ l. All IsWideRow (log_rows l)) (told_same stop.journal) told.1.wide)
        | inr stopped ↦ subst (TellsPart log.written log.written') (told_same stop.journal) stopped.1
      ];
    }
