-- How a run ends of which a log is kept, and how a work ends by its command.
use Rattle.std.proofs.Common.{◌≡◌, ◌⊎◌, ℕ, List, refl, sym, ap, ◌∙◌, subst, inl, inr, arith, Result, Ok, Err}
use Rattle.std.specs.declared.option.Option.{Option}
use Rattle.gp_base.specs.declared.journal.Journal.{Journal}
use Rattle.gp_base.proofs.Written.{prefix_none}
use Rattle.reorder_list.specs.declared.report.Report.{Report}
use Rattle.reorder_list.specs.declared.report.EngineStop.{EngineStop}
use Rattle.reorder_list.specs.declared.report.StopWhy.{StopWhy}
use Rattle.reorder_list.specs.declared.report.StopWhy.TheVariants as why
use Rattle.command_line.specs.declared.asked.Asked.{Asked}
use Rattle.command_line.specs.declared.asked.Command.{Command}
use Rattle.command_line.specs.declared.asked.Command.TheVariants as command
use Rattle.command_line.proofs.KeepsNoLog.{KeepsNoLog}
use Rattle.call_cases.specs.meaning.Work.{ToDo}
use Rattle.call_cases.specs.meaning.PlainText.{plain_ran}
use Rattle.call_cases.specs.declared.lines.Tool.TheVariants.{Gprs}
use Rattle.call_cases.specs.meaning.RunCommands.{end_status, work_status, work_text, trace_for}
use Rattle.call_cases.specs.meaning.Answers.{Change, Fails, IsEmpty}
use Rattle.call_cases.specs.Answers.{unwritten, LineEnds, memory_line, RunEnds, LogEnds, log_finished, log_no_memory, log_write_failed, log_unbegun}
use Rattle.call_cases.proofs.Headlines.{run_of_memory}
use Rattle.batch_calls.specs.meaning.LogCommands.{log_for, TakesLog}
use Rattle.batch_calls.specs.inner.Logged.{IsLogged, LogsFor, stop_status}
use Rattle.batch_calls.specs.inner.Planned.{EndsBy}
use Rattle.batch_calls.specs.inner.Ran.{RanIf}

-- how it ends, by how it ran
module _ (work : ToDo) (text : List ℕ) (out log : Change) where
  abbrev Fault : Type 0
  Fault = Fails out ⊎ Fails log

  pub logged_to_end : (ran : Result Report EngineStop) (report : Report) (status : ℕ) → ran ≡ Ok report → status ≡ end_status report.end
      → RanIf Fault work text out ran → IsLogged work log ran
      → LogsFor work text out log status report.journal
  logged_to_end ran report status ok is went logged =
      let here = subst (RanIf Fault work text out) ok went in
      let there = subst (IsLogged work log) ok logged in
      let due : end_status (plain_ran work).end ≡ status = sym (is ∙ ap end_status here.report.end) in
      record {
        ends =
            subst (λ s. LogEnds text (log_for work) (TakesLog work report.journal)
            (end_status (plain_ran work).end) out log report.journal s) due (log_finished here.all there.whole there.taken);
        journalled = record { lawful = here.journal; complete = λ is. here.report.complete; retired = here.retired };
      }

  pub logged_to_stop : (ran : Result Report EngineStop) (stop : EngineStop) (status : ℕ) → ran ≡ Err stop → status ≡ stop_status stop.why
      → RanIf Fault work text out ran → IsLogged work log ran
      → LogsFor work text out log status stop.journal
  logged_to_stop ran stop status failed is went logged = go stop.why refl
    where
      here : RanIf Fault work text out (Err stop)
      here = subst (RanIf Fault work text out) failed went

      there : IsLogged work log (Err stop)
      there = subst (IsLogged work log) failed logged

      ended : (s : ℕ) → status ≡ s → (s ≡ 1) ⊎ (s ≡ 8)
          → LogEnds text (log_for work) (TakesLog work stop.journal) (end_status (plain_ran work).end) out log stop.journal s
          → LogsFor work text out log status stop.journal
      ended s same stops ends = record {
        ends =
            subst (LogEnds text (log_for work) (TakesLog work stop.journal) (end_status (plain_ran work).end) out log stop.journal)
            (sym same) ends;
        journalled = record { lawful = here.journal; complete = λ told. absurd (grind (arith, same, stops, told)); retired = here.retired };
      }

      go : (w : StopWhy) → stop.why ≡ w → LogsFor work text out log status stop.journal
      go why.WriteFault same = ended 8 (is ∙ ap stop_status same) (inr refl) (log_write_failed here.part (here.cause same) there.taken)
      go why.OutOfMemory same = ended 1 (is ∙ ap stop_status same) (inl refl) (log_no_memory here.part there.taken)

-- a work by its command
module _ (asked : Asked) (work : ToDo) (out err : Change) (status : ℕ) (journal : Journal) where
  -- it keeps no log
  pub run_ends : (c : Command) → KeepsNoLog c → EndsBy c asked work out err status journal
      → RunEnds (work_text c work) (trace_for asked journal) (work_status c work) out err status
  run_ends command.Run none ends = ends
  run_ends command.One none ends = ends
  run_ends command.Check none ends = ends
  run_ends (command.Soak batch) none ends = ends
  run_ends (command.Ckpt every) none ends = ends
  run_ends command.Log none ends = absurd none

  -- it keeps one
  pub log_ends : (c : Command) → c ≡ command.Log → EndsBy c asked work out err status journal
      → LogEnds (work_text c work) (log_for work) (TakesLog work journal) (work_status c work) out err journal status
  log_ends c is ends =
      subst (λ k. LogEnds (work_text k work) (log_for work) (TakesLog work journal) (work_status k work) out err journal status) (sym is)
      (subst (λ k. EndsBy k asked work out err status journal) is ends)

-- a run that did not begin, since memory was out
pub unbegun_ends : (c : Command) (asked : Asked) (work : ToDo) (written : Option (List ℕ)) (faults : ℕ) (err : Change) (status : ℕ)
    (journal : Journal) → IsEmpty journal
    → LineEnds 1 memory_line err status → EndsBy c asked work (unwritten written faults) err status journal
unbegun_ends c asked work written faults err status journal empty ends = go c
  where
    ran : (k : Command) → RunEnds (work_text k work) (trace_for asked journal) (work_status k work) (unwritten written faults) err status
    ran k =
        run_of_memory Gprs (work_text k work) (trace_for asked journal) (work_status k work) (unwritten written faults) err status
        (prefix_none written (work_text k work)) ends

    go : (k : Command) → EndsBy k asked work (unwritten written faults) err status journal
    go command.Run = ran command.Run
    go command.One = ran command.One
    go command.Check = ran command.Check
    go (command.Soak batch) = ran (command.Soak batch)
    go (command.Ckpt every) = ran (command.Ckpt every)
    go command.Log = log_unbegun (record { written = refl; faults = refl }) empty ends
