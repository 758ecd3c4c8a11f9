-- How a run over a journal ends, and what is promised of it.
use Rattle.std.proofs.Common.{◌≡◌, ◌⊎◌, ℕ, Bool, false, if◌then◌else◌, List, [], refl, sym, ap, ◌∙◌, subst, inl, inr, arith}
use Rattle.std.specs.declared.option.Option.{Option}
use Rattle.std.specs.declared.result.Result.{Result}
use Rattle.std.specs.declared.result.Result.TheVariants.{Ok, Err}
use Rattle.std.specs.Io.KnownBytes.{Appends}
use Rattle.reorder_list.specs.declared.report.Report.{Report}
use Rattle.reorder_list.specs.declared.report.EngineStop.{EngineStop}
use Rattle.reorder_list.specs.declared.report.StopWhy.{StopWhy}
use Rattle.reorder_list.specs.declared.report.StopWhy.TheVariants as why
use Rattle.gp_base.specs.declared.journal.Journal.{Journal}
use Rattle.gp_base.proofs.Written.{prefix_whole}
use Rattle.command_line.specs.declared.asked.Asked.{Asked}
use Rattle.call_cases.specs.meaning.Work.{ToDo}
use Rattle.call_cases.specs.meaning.PlainText.{plain_ran}
use Rattle.call_cases.specs.meaning.RunCommands.{IsWhole, end_status}
use Rattle.call_cases.specs.declared.lines.Tool.TheVariants.{Gprs}
use Rattle.call_cases.specs.meaning.Answers.{Change, IsEmpty, TakesAll}
use Rattle.call_cases.specs.Answers.{unwritten, LineEnds, whole, line_failed, line_no_memory, memory_line, write_line, RunEnds}
use Rattle.call_cases.proofs.Headlines.{none_taken, run_of_failed, run_of_memory, run_of_whole}
use Rattle.call_cases.proofs.RunSound.{empty_journal_of, retired_none}
use Rattle.batch_calls.specs.inner.Planned.{Carries}
use Rattle.batch_calls.specs.inner.Ran.{EndsFor, RanFor, StopsWith, TraceEnds}
use Rattle.batch_calls.proofs.LoggedEnds.{unbegun_ends}

-- a stop has a status of its own
stopped_whole : (due status : ℕ) (line : List ℕ) (err : Change) → (due ≡ 8) ⊎ (due ≡ 1) → LineEnds due line err status → IsWhole status → ⊥
stopped_whole due status line err is (whole all) told = grind (arith, is, told)
stopped_whole due status line err is (line_failed part failed) told = grind (arith, told)
stopped_whole due status line err is (line_no_memory part) told = grind (arith, told)

-- how a run over a journal ends, by what was written after it
module _ (work : ToDo) (text trace : List ℕ) (out err : Change) (status : ℕ) where
  pub ran_to_end : (ran : Result Report EngineStop) (report : Report) (due : ℕ) → ran ≡ Ok report → due ≡ end_status report.end
      → RanFor work text out ran → TraceEnds due trace err status
      → EndsFor work text trace out err status report.journal
  ran_to_end ran report due ok is_due went ends =
      let here = subst (RanFor work text out) ok went in
      record {
        ends =
            subst (λ d. RunEnds text trace d out err status) (is_due ∙ ap end_status here.report.end)
            (go here.all ends);
        journalled = record { lawful = here.journal; complete = λ is. here.report.complete; retired = here.retired };
      }
    where
      go : TakesAll out text → TraceEnds due trace err status → RunEnds text trace due out err status
      go all (inl traced) = run_of_whole Gprs text trace due out err status all traced
      go all (inr told) = run_of_memory Gprs text trace due out err status (prefix_whole out.written out.written' text all) told

  pub ran_to_stop : (ran : Result Report EngineStop) (stop : EngineStop) → ran ≡ Err stop → RanFor work text out ran
      → StopsWith stop.why err status → EndsFor work text trace out err status stop.journal
  ran_to_stop ran stop failed went ends = go stop.why refl ends
    where
      here : RanFor work text out (Err stop)
      here = subst (RanFor work text out) failed went

      ended : RunEnds text trace (end_status (plain_ran work).end) out err status → (IsWhole status → ⊥)
          → EndsFor work text trace out err status stop.journal
      ended run not_whole =
          record {
            ends = run;
            journalled = record {
              lawful = here.journal;
              complete = λ told. absurd (not_whole told);
              retired = here.retired;
            };
          }

      go : (w : StopWhy) → stop.why ≡ w → StopsWith w err status → EndsFor work text trace out err status stop.journal
      go why.WriteFault is ends =
          ended (run_of_failed Gprs text trace (end_status (plain_ran work).end) out err status here.part (here.cause is) ends)
          (stopped_whole 8 status write_line err (inl refl) ends)
      go why.OutOfMemory is ends =
          ended (run_of_memory Gprs text trace (end_status (plain_ran work).end) out err status here.part ends)
          (stopped_whole 1 status memory_line err (inr refl) ends)

-- no trace is asked for, and nothing is written
pub untraced : (due : ℕ) (traced : Bool) (trace : List ℕ) (err : Change) → traced ≡ false → err.written' ≡ err.written
    → TraceEnds due (if traced then trace else []) err due
untraced due traced trace err is kept =
    inl
    (subst (λ b. LineEnds due (if b then trace else []) err due) (sym is)
    (whole (subst (λ w. Appends err.written w []) (sym kept) (none_taken err.written))))

-- a run that did not begin, since memory was out
pub unbegun_carries : (asked : Asked) (work : ToDo) (written : Option (List ℕ)) (faults : ℕ) (err : Change) (status : ℕ) (journal : Journal)
    → IsEmpty journal → LineEnds 1 memory_line err status
    → Carries asked work (unwritten written faults) err status journal
unbegun_carries asked work written faults err status journal empty ends =
    record {
      ends = unbegun_ends work.command asked work written faults err status journal empty ends;
      unjournalled = λ is. empty;
      run = λ is. record {
        lawful = empty_journal_of work journal empty;
        complete = λ whole. absurd (stopped_whole 1 status memory_line err (inr refl) ends whole);
        retired = retired_none work journal written faults empty;
      };
    }
