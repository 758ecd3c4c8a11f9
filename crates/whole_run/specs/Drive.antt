-- What a whole run leaves.
use Rattle.std.specs.Prelude.{◌≡◌, ◌⊎◌, ℕ, ◌-◌, ◌≤◌, ℤ, List, ◌++◌, length, take, map, flat_map, count_by, Option, Result, Ok, Err, IfErr}
use Rattle.std.specs.Io.KnownBytes.{Appends}
use Rattle.gp_base.specs.declared.limits.Limits.{Limits}
use Rattle.gp_base.specs.declared.feed.Inputs.{Inputs}
use Rattle.gp_base.specs.declared.fault.Faults.{Faults}
use Rattle.gp_base.specs.declared.journal.Restart.{Restart}
use Rattle.gp_base.specs.declared.journal.Journal.{Journal}
use Rattle.gp_base.specs.meaning.Sinks.{Rose}
use Rattle.task_ast.specs.meaning.Plain.{Subthread}
use Rattle.task_ast.specs.Plain.{final_records}
use Rattle.dependence.specs.meaning.Restarts.{restarts}
use Rattle.dependence.specs.meaning.Journal.{Stage, stage, Lawful, Complete}
use Rattle.dependence.specs.meaning.Counts.{is_restart}
use Rattle.dependence.specs.Counts.{posts, takes}
use Rattle.subthread.specs.declared.task.Work.{Work}
use Rattle.subthread.specs.declared.task.Task.{Task}
use Rattle.crew.specs.Out.{pair_of}
use Rattle.crew.specs.Standing.{untaken}
use Rattle.reorder_list.specs.declared.report.StopWhy.TheVariants.{WriteFault, OutOfMemory}
use Rattle.reorder_list.specs.declared.report.EngineStop.{EngineStop}
use Rattle.reorder_list.specs.declared.report.Report.{Report}
use Rattle.restart_log.specs.meaning.Lines.{printed}
use Rattle.whole_run.specs.declared.recovery.Recovery.{Recovery}
use Rattle.whole_run.specs.View.{Batch, program_in, run_in, dependence_in, end_in, lines_at, lines_below}

-- a batch of this work
abbrev pub batch_of : Recovery → Work → Inputs → Limits → Faults → Batch
batch_of recovery w inputs limits faults = record { work = w; recovery = recovery; inputs = inputs; limits = limits; faults = faults.list }

-- all restarts that the faults make of the run
abbrev pub restarts_in : Batch → List Restart
restarts_in batch = restarts (dependence_in batch) batch.faults

-- the journal of an outcome
abbrev pub journal_in : Result Report EngineStop → Journal
journal_in (Ok report) = report.journal
journal_in (Err stop) = stop.journal

-- the stage that a journal of the batch comes to
abbrev pub stage_in : Batch → Journal → Stage
stage_in batch journal = stage (dependence_in batch) batch.faults journal.events

-- a journal of the batch: it is lawful, and its restarts are the first of all restarts, as many as its events make
pub record JournalStands (batch : Batch) (journal : Journal) : Type 0 where
  pub lawful : Lawful (dependence_in batch) batch.faults journal.events
  pub first : (rest : List Restart) × (restarts_in batch ≡ journal.restarts ++ rest)
  pub counted : length journal.restarts ≡ count_by is_restart journal.events

-- a run that came to its end: a complete journal with all restarts, and the end, the records and the number of subthreads of the plain run
pub record ReportsRun (batch : Batch) (report : Report) : Type 0 where
  pub complete : Complete (dependence_in batch) batch.faults report.journal.events
  pub restarts : report.journal.restarts ≡ restarts_in batch
  pub end : report.end ≡ end_in batch
  pub records : report.records ≡ final_records (program_in batch) batch.inputs batch.limits
  pub subthreads : report.subthreads ≡ length (run_in batch)
  pub unused : report.unused ≡ length batch.faults - length report.journal.restarts

-- all lines of the plain run
abbrev pub all_lines : Batch → List (List ℤ)
all_lines batch = flat_map (λ (s : Subthread). s.lines) (run_in batch)

-- what was written is the lines of all positions that have retired, and then a part of those of the next one
pub record WritesRetired (batch : Batch) (before after : Option (List ℕ)) (journal : Journal) : Type 0 where
  pub part : ℕ
  pub bytes : Appends before after
      (printed (lines_below batch (stage_in batch journal).retired)
      ++ take part (printed (lines_at batch (stage_in batch journal).retired)))

-- the sink's count of faults does not fall, and the run stops with a write fault only where it rose
pub record HasRunCause (before after : ℕ) (result : Result Report EngineStop) : Type 0 where
  pub later : before ≤ after
  pub failed : IfErr result (λ stop. stop.why ≡ WriteFault → Rose before after)

-- the same of the sink of the lines and of that of the log: one of their counts rose
pub record HasRunCauses (before after before' after' : ℕ) (result : Result Report EngineStop) : Type 0 where
  pub later : before ≤ after
  pub later' : before' ≤ after'
  pub failed : IfErr result (λ stop. stop.why ≡ WriteFault → Rose before after ⊎ Rose before' after')

-- all posts were to this crew, in order
abbrev pub ArePosts : (posted : List (ℕ × ℕ)) → Journal → Type 0
ArePosts posted journal = posted ≡ posts journal.events

-- what is out with the crew is what was posted and not taken
abbrev pub IsUntaken : (out : List Task) → Journal → Type 0
IsUntaken out journal = map pair_of out ≡ untaken (posts journal.events) (takes journal.events)

-- the outcome is that memory is out
abbrev pub RanOut : Result Report EngineStop → Type 0
RanOut (Ok report) = ⊥
RanOut (Err stop) = stop.why ≡ OutOfMemory
