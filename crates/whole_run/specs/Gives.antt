-- What the calls of an engine answer.
use Rattle.std.specs.Prelude.{◌≡◌, ◌≢◌, ◌⊎◌, ℕ, map, ◌-◌, ◌+◌, ◌≤◌, ◌<◌, ⊤, Bool, true, false, cond, List, [], length, Contains, Option, Some, None, Result, Ok, Err, IsErrOf, slice_get}
use Rattle.std.specs.Option.{option_or}
use Rattle.std.specs.Io.KnownBytes.{Appends}
use Rattle.gp_base.specs.declared.ending.End.{End}
use Rattle.gp_base.specs.declared.journal.Event.{Event}
use Rattle.gp_base.specs.declared.journal.Journal.{Journal}
use Rattle.gp_base.specs.declared.journal.Event.TheVariants as event
use Rattle.gp_base.specs.meaning.Sinks.{Rose, AppendsPrefix}
use Rattle.task_ast.specs.meaning.Names.{records_of, cells_in}
use Rattle.task_ast.specs.meaning.State.{cell_value}
use Rattle.task_ast.specs.declared.sync.Next.{Next}
use Rattle.task_ast.specs.meaning.Repeat.{Done}
use Rattle.task_ast.specs.meaning.Plain.{Subthread}
use Rattle.task_ast.specs.meaning.Table.{numbers, is_settle}
use Rattle.task_ast.specs.Table.{Table}
use Rattle.task_ast.specs.Turn.{Turn, turn}
use Rattle.task_ast.specs.Turn as turns
use Rattle.task_ast.specs.laws.Standing.{Stands as StandsAt}
use Rattle.task_ast.specs.meaning.Position.{last_below}
use Rattle.dependence.specs.meaning.Restarts.{is_live, is_due, least_struck, NoneDue, NoneLive}
use Rattle.dependence.specs.meaning.Journal.{Stage, WasTaken, MayPost, RestIsSafe, Allowed}
use Rattle.dependence.specs.Posting.{posting_of}
use Rattle.dependence.specs.Standing.{present}
use Rattle.dependence.specs.RunBuffer.{IsOut}
use Rattle.rollback.specs.meaning.Cuts.{cuts_of, cut_at}
use Rattle.reorder_list.specs.Stages.{AllTaken}
use Rattle.reorder_list.specs.declared.report.Report.{Report}
use Rattle.reorder_list.specs.declared.report.StopWhy.{StopWhy}
use Rattle.reorder_list.specs.declared.report.StopWhy.TheVariants.{WriteFault}
use Rattle.restart_log.specs.meaning.Lines.{printed}
use Rattle.whole_run.specs.declared.recovery.Recovery.{Recovery}
use Rattle.whole_run.specs.declared.recovery.Recovery.TheVariants.{Selective, Rollback}
use Rattle.whole_run.specs.inner.RingStands.{IsLearnt}
use Rattle.whole_run.specs.declared.parts.closing.TheConstants.{WINDOW}
use Rattle.whole_run.specs.declared.calls.Issued.{Issued}
use Rattle.whole_run.specs.declared.calls.Issued.TheVariants.{One, Needs, Settles, Ended}
use Rattle.whole_run.specs.declared.calls.Halt.TheVariants as halt
use Rattle.whole_run.specs.View.{View, program_in, run_in, dependence_in, end_in, lines_at, now, state_in, is_known, grown, learnt}

-- each lock is at home: no present attempt of a position that was posted and not taken holds one
abbrev pub NoneHolds : List Subthread → Stage → Type 0
NoneHolds run at =
    (p : ℕ) (s : Subthread) → slice_get run p ≡ Some s → Contains at.posted (p, present at p) → ¬ Contains at.taken (p, present at p)
    → s.held ≡ []

abbrev pub NoneLent : View → Type 0
NoneLent view = NoneHolds (run_in view.batch) (now view)

-- no attempt is out
abbrev pub NoneOut : Stage → Type 0
NoneOut at = (p attempt : ℕ) → ¬ IsOut at p attempt

-- what a restart waits for: until each lock is at home, or until nothing is out where all is rolled back
abbrev pub IsBackBy : Recovery → List Subthread → Stage → Type 0
IsBackBy Selective run at = NoneHolds run at
IsBackBy (Rollback every) run at = NoneOut at

abbrev pub IsBack : View → Type 0
IsBack view = IsBackBy view.batch.recovery (run_in view.batch) (now view)

-- a post waits for each earlier position that is in conflict by locks, and a restart as said
abbrev pub HasWaited : Recovery → List Subthread → Stage → Event → Type 0
HasWaited recovery run at (event.Post p attempt) = MayPost (posting_of run) at p attempt
HasWaited recovery run at (event.Restart number) = IsBackBy recovery run at
HasWaited recovery run at _ = ⊤

-- the event was allowed, had waited, and was made
pub record Did (before : View) (event : Event) (after : View) : Type 0 where
  pub allowed : Allowed (dependence_in before.batch) before.batch.faults (now before) event
  pub waited : HasWaited before.batch.recovery (run_in before.batch) (now before) event
  pub grown : after ≡ grown before event

-- the thread's last subthread is at a position of which no attempt was taken
abbrev pub IsAwaited : View → (thread : ℕ) → Type 0
IsAwaited view t = (q : ℕ) × (last_below (run_in view.batch) t (now view).progress.front ≡ Some q) × ¬ WasTaken (now view) q

-- the rules of turns answer this of the run's table at this front, after some passes, of which exactly the next
-- synchronisations are unknown that follow a subthread of which no attempt was taken
pub record TurnsTo (view : View) (answer : Turn) : Type 0 where
  pub table : Table
  pub stands : StandsAt (program_in view.batch) view.batch.inputs view.batch.limits (now view).progress.front table
  pub learnt : IsLearnt (now view) table
  pub turned : turn table ≡ Done answer

-- they issue a subthread
pub record TurnsToIssue (view : View) : Type 0 where
  pub thread : ℕ
  pub begins : Next
  pub child : Option ℕ
  pub later : Table
  pub turns : TurnsTo view (turns.Issue thread begins child later)

-- they issue a subthread of this thread, which begins with a settle
pub record TurnsToSettle (view : View) (thread : ℕ) : Type 0 where
  pub begins : Next
  pub child : Option ℕ
  pub later : Table
  pub turns : TurnsTo view (turns.Issue thread begins child later)
  pub settles : is_settle begins.sync ≡ true

-- an issue makes the next position, or needs what a thread does next, or finds that a settle comes next while some
-- position has not retired, or that the run has ended
abbrev pub IssueGives : (before after : View) → Issued → Type 0
IssueGives before after (One p) = Did before (event.Issue p) after × TurnsToIssue before
IssueGives before after (Needs t) = (after ≡ before) × IsAwaited before t × TurnsTo before (turns.Needs t)
IssueGives before after (Settles t) =
    (after ≡ learnt halt.Settling before) × ((dependence_in before.batch).settles (now before).progress.front ≡ true)
    × ((now before).retired < (now before).progress.front)
    × TurnsToSettle before t
IssueGives before after (Ended ending) =
    (after ≡ learnt (halt.Ended ending) before) × ((now before).progress.front ≡ (dependence_in before.batch).count)
    × (ending ≡ end_in before.batch)
    × TurnsTo before (turns.Ended ending)

-- the position that is struck next, as far as the end is known
abbrev pub struck_now : View → Option ℕ
struck_now view =
    option_or (least_struck (is_due (now view).progress) view.batch.faults)
    (cond (is_known view) (least_struck (is_live (now view).progress) view.batch.faults) None)

-- each position that has not retired was run at some attempt, so that it is known what it touches; where all is rolled
-- back, that need not be known
abbrev pub IsScoutedBy : Recovery → Stage → Type 0
IsScoutedBy Selective at = AllTaken at
IsScoutedBy (Rollback every) at = ⊤

abbrev pub IsScouted : View → Type 0
IsScouted view = IsScoutedBy view.batch.recovery (now view)

-- a restart was made, or no position is struck
abbrev pub DetectGives : (before after : View) → Bool → Type 0
DetectGives before after true = Did before (event.Restart (length (now before).progress.made)) after × (struck_now before ≢ None)
DetectGives before after false = (after ≡ before) × (struck_now before ≡ None)

-- the oldest position may retire, as far as the end is known: the rest of its block is safe, or no fault is left
pub record MayRetireNow (view : View) : Type 0 where
  pub issued : (now view).retired < (now view).progress.front
  pub applied : (now view).applied (now view).retired ≡ true
  pub none_due : NoneDue view.batch.faults (now view).progress
  pub safe : RestIsSafe (dependence_in view.batch) (now view) (now view).retired
      ⊎ ((is_known view ≡ true) × NoneLive view.batch.faults (now view).progress)

-- the oldest position retired, or may not retire
abbrev pub RetireGives : (before after : View) → Option ℕ → Type 0
RetireGives before after (Some p) = (p ≡ (now before).retired) × Did before (event.Retire p) after × MayRetireNow before
RetireGives before after None = (after ≡ before) × ¬ MayRetireNow before

-- all lines of the oldest position are written where it retires, none where it may not, and a part of them where the call stops
abbrev pub RetireWrites : View → (before after : Option (List ℕ)) → Result (Option ℕ) StopWhy → Type 0
RetireWrites view before after (Ok (Some p)) = Appends before after (printed (lines_at view.batch (now view).retired))
RetireWrites view before after (Ok None) = after ≡ before
RetireWrites view before after (Err why) = AppendsPrefix before after (printed (lines_at view.batch (now view).retired))

-- the sink's count of faults does not fall, and a write fault is answered only where it rose
pub record HasStopCause {T : Type 0} (before after : ℕ) (result : Result T StopWhy) : Type 0 where
  pub later : before ≤ after
  pub failed : IsErrOf result WriteFault → Rose before after

-- the same of the sink of the lines and of that of the log: one of their counts rose
pub record HasStopCauses {T : Type 0} (before after before' after' : ℕ) (result : Result T StopWhy) : Type 0 where
  pub later : before ≤ after
  pub later' : before' ≤ after'
  pub failed : IsErrOf result WriteFault → Rose before after ⊎ Rose before' after'

-- where all is rolled back, a position waits until all before its block is applied
abbrev pub BlockIsOpen : Recovery → List Subthread → Stage → (position : ℕ) → Type 0
BlockIsOpen Selective run at p = ⊤
BlockIsOpen (Rollback every) run at p = (q : ℕ) → q < cut_at (cuts_of every run) p → at.applied q ≡ true

-- the present attempt of the position may be posted, which waits for each earlier position that is in conflict with it
-- by locks, and for its block
pub record MayPostNow (view : View) (position : ℕ) : Type 0 where
  pub by_locks : MayPost (posting_of (run_in view.batch)) (now view) position (present (now view) position)
  pub is_open : BlockIsOpen view.batch.recovery (run_in view.batch) (now view) position

-- the first position from this one on whose present attempt may be posted
pub record IsNextToPost (view : View) (from position : ℕ) : Type 0 where
  pub later : from ≤ position
  pub may : MayPostNow view position
  pub first : (p : ℕ) → from ≤ p → p < position → ¬ MayPostNow view p

-- the position is looked at for a post: where all is rolled back, each that is so far before it is applied
abbrev pub IsNear : Recovery → Stage → (position : ℕ) → Type 0
IsNear Selective at p = ⊤
IsNear (Rollback every) at p = (q : ℕ) → q + WINDOW ≤ p → at.applied q ≡ true

-- none from this one on may be posted of those that are looked at
abbrev pub NoneToPost : View → (from : ℕ) → Type 0
NoneToPost view from = (p : ℕ) → from ≤ p → IsNear view.batch.recovery (now view) p → ¬ MayPostNow view p

-- the run has ended so, which is known, and all positions have retired
pub record HasFinished (view : View) (ending : End) : Type 0 where
  pub ended : view.ended ≡ Some (halt.Ended ending)
  pub retired : (now view).retired ≡ (now view).progress.front

-- the events of the run, and the restarts that they made
pub record IsJournalOf (view : View) (journal : Journal) : Type 0 where
  pub events : journal.events ≡ view.events
  pub restarts : journal.restarts ≡ (now view).progress.made

-- the run as it stands: its end, the cells of all records, how many subthreads were issued, and how many faults made no restart
pub record IsReportOf (view : View) (ending : End) (report : Report) : Type 0 where
  pub end : report.end ≡ ending
  pub records : report.records ≡ map (cell_value (state_in view)) (numbers 0 (cells_in (records_of (program_in view.batch).heads)))
  pub subthreads : report.subthreads ≡ (now view).progress.front
  pub unused : report.unused ≡ length view.batch.faults - length (now view).progress.made
  pub journal : IsJournalOf view report.journal
