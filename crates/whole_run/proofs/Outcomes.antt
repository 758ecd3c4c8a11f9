-- What a whole run leaves, from what its rounds leave.
use Rattle.std.proofs.Common.{◌≡◌, ℕ, ◌-◌, ◌<◌, List, length, take, map, Option, sym, ap, subst, ◌∙◌, arith}
use Rattle.std.specs.List.{flat_map}
use Rattle.std.specs.Io.KnownBytes.{Appends}
use Rattle.std.proofs.Math.Seq.{take-length}
use Rattle.std.proofs.KnownBytes.{Appends-nil}
use Rattle.std.proofs.lemmas.Option.{slice_get_within}
use Rattle.gp_base.specs.declared.ending.End.{End}
use Rattle.gp_base.specs.declared.journal.Journal.{Journal}
use Rattle.task_ast.specs.meaning.Names.{records_of, cells_in}
use Rattle.task_ast.specs.meaning.State.{State, cell_value}
use Rattle.task_ast.specs.meaning.Table.{numbers}
use Rattle.task_ast.specs.meaning.Plain.{Subthread}
use Rattle.dependence.specs.meaning.Journal.{initial_stage, Complete}
use Rattle.dependence.specs.Counts.{posts, takes}
use Rattle.dependence.proofs.Counts.{counted}
use Rattle.subthread.specs.declared.task.Task.{Task}
use Rattle.crew.specs.Standing.{untaken}
use Rattle.reorder_list.specs.declared.report.Report.{Report}
use Rattle.restart_log.specs.meaning.Lines.{printed}
use Rattle.whole_run.specs.View.{View, program_in, run_in, dependence_in, end_in, now, begun, Stands}
use Rattle.whole_run.specs.Gives.{NoneLent, IsJournalOf, IsReportOf}
use Rattle.whole_run.specs.Takes.{CrewStands}
use Rattle.whole_run.specs.Drive.{JournalStands, ReportsRun, all_lines, WritesRetired, ArePosts, IsUntaken}
use Rattle.whole_run.specs.inner.Rounds.{Wrote, WrotePart}
use Rattle.whole_run.proofs.Events.{stage-stands}
use Rattle.whole_run.proofs.Folds.{last-fold}
use Rattle.whole_run.proofs.Recoverings.{restarts-first, restarts-all}
use Rattle.whole_run.proofs.Crews.{posts-are, takes-are}

-- a journal of a run that stands
pub journal-stands : (view : View) (journal : Journal) → Stands view → IsJournalOf view journal → JournalStands view.batch journal
journal-stands view journal stands of =
    rw (of.events, of.restarts)
    (record {
      lawful = stands.lawful;
      first = restarts-first (run_in view.batch) view.batch.faults stands.short view.batch.recovery view.events stands.lawful;
      counted =
          let made = (counted (dependence_in view.batch) view.batch.faults initial_stage view.events
          stands.lawful).made_is in omega arith;
    })

-- a complete journal of a run
abbrev IsComplete : View → Type 0
IsComplete view = Complete (dependence_in view.batch) view.batch.faults view.events

-- where all have retired nothing is out, so each lock is at home
pub complete-home : (view : View) → Stands view → IsComplete view → NoneLent view
complete-home view stands complete p s there posted out =
    let stood = stage-stands view stands in
    let below : p < (now view).retired =
    subst (λ n. p < n) (sym complete.retired) (slice_get_within (run_in view.batch) p s there) in
    absurd (out (stood.applied_taken p (stood.retired_applied p below) posted))

-- the report of a complete run
pub run-reported : (view : View) (ending : End) (report : Report) → Stands view → IsComplete view
    → ending ≡ end_in view.batch → IsReportOf view ending report → ReportsRun view.batch report
run-reported view ending report stands complete ended of =
    record {
      complete = rw of.journal.events complete;
      restarts =
          of.journal.restarts ∙ restarts-all (run_in view.batch) view.batch.faults stands.short view.batch.recovery view.events complete;
      end = of.end ∙ ended;
      records = of.records
          ∙ ap (λ (state : State). map (cell_value state) (numbers 0 (cells_in (records_of (program_in view.batch).heads))))
          (last-fold (program_in view.batch) view.batch.inputs view.batch.limits view.batch.faults stands.short view.batch.recovery
          view.events complete);
      subthreads = of.subthreads ∙ complete.final.passed;
      unused = of.unused ∙ ap (λ restarts. length view.batch.faults - length restarts) (sym of.journal.restarts);
    }

-- nothing was written at first
pub wrote-none : (view : View) (written : Option (List ℕ)) → view ≡ begun view.batch → Wrote written view written
wrote-none view written first = subst (λ v. Wrote written v written) (sym first) (Appends-nil written)

-- what was written when the run stopped
pub part-written : (view : View) (journal : Journal) (start written : Option (List ℕ)) → IsJournalOf view journal
    → WrotePart start view written
    → WritesRetired view.batch start written journal
part-written view journal start written of wrote = rw of.events (record { part = wrote.part; bytes = wrote.bytes })

-- what was written when it was complete
pub all-written : (view : View) (start written : Option (List ℕ)) → IsComplete view → Wrote start view written
    → Appends start written (printed (all_lines view.batch))
all-written view start written complete wrote =
    subst (λ n. Appends start written (printed (flat_map (λ (s : Subthread). s.lines) n)))
    (ap (λ n. take n (run_in view.batch)) complete.retired ∙ take-length (run_in view.batch)) wrote

-- the posts, and what is out
pub posts-told : (view : View) (journal : Journal) (posted : List (ℕ × ℕ)) → IsJournalOf view journal → posted ≡ (now view).posted
    → ArePosts posted journal
posts-told view journal posted of same = same ∙ (posts-are view ∙ ap posts (sym of.events))

pub untaken-told : (view : View) (journal : Journal) (posted : List (ℕ × ℕ)) (out : List Task) → IsJournalOf view journal
    → CrewStands view posted out → IsUntaken out journal
untaken-told view journal posted out of crew =
    crew.tied.out_are
    ∙ ((λ i. untaken (posts-are view i) (takes-are view i)) ∙ ap (λ events. untaken (posts events) (takes events)) (sym of.events))
