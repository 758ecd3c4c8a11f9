-- What an audit says of the trace of a journal.
use Rattle.std.specs.Prelude.{◌≡◌, ◌⊎◌, ◌<◌, ◌≤◌, ◌^◌, List, ◌++◌, length, map, count_by, All, Result, Ok, Err}
use Rattle.gp_base.specs.declared.limits.TheConstants.{LONGEST_DELAY, MOST_FAULTS}
use Rattle.gp_base.specs.declared.fault.Fault.{Fault}
use Rattle.gp_base.specs.declared.journal.Restart.{Restart}
use Rattle.gp_base.specs.declared.journal.Journal.{Journal}
use Rattle.task_ast.specs.meaning.Plain.{Subthread}
use Rattle.one_thread.specs.PlainRuns.{shown}
use Rattle.dependence.specs.meaning.Restarts.{Dependence, restarts}
use Rattle.dependence.specs.meaning.Journal.{Lawful, Complete}
use Rattle.dependence.specs.meaning.Runs.{dependence_of, restarts_of}
use Rattle.dependence.specs.meaning.Counts.{is_restart}
use Rattle.restart_log.specs.meaning.Trace.{trace_text}
use Rattle.gp_audit.specs.declared.line.TraceLine.{TraceLine}
use Rattle.gp_audit.specs.declared.line.TraceFault.{TraceFault}
use Rattle.gp_audit.specs.declared.line.TraceFault.TheVariants as fault
use Rattle.gp_audit.specs.declared.verdict.Verdict.{Verdict}
use Rattle.gp_audit.specs.declared.verdict.Verdict.TheVariants.{Lawful as IsLawful}
use Rattle.gp_audit.specs.LineTexts.{lines_text as text_of}
use Rattle.gp_audit.specs.Reading.{AnswersTrace}
use Rattle.gp_audit.specs.Steps.{dependence_by}
use Rattle.gp_audit.specs.meaning.Verdicts.{LawfulLines, IsVerdict}
use Rattle.gp_audit.specs.ToldLines.{events_of}
use Rattle.audit_calls.specs.JournalLines.{lines_of}

-- the trace of a journal is the text of its lines
abbrev pub TextLaw : Type 0
TextLaw = (journal : Journal) → trace_text journal ≡ text_of (lines_of journal)

-- a lawful journal with its restarts has lawful lines, which stand for its events
abbrev pub LinesLaw : Type 0
LinesLaw =
    (dependence : Dependence) (faults : List Fault) (journal : Journal) → Lawful dependence faults journal.events
    → (rest : List Restart) × (restarts dependence faults ≡ journal.restarts ++ rest)
    → length journal.restarts ≡ count_by is_restart journal.events
    → (events_of (lines_of journal) ≡ journal.events) × LawfulLines dependence faults (lines_of journal)

-- the steps of a plain run say of conflicts, restarts and journals what its subthreads say
abbrev pub OrderLaw : Type 0
OrderLaw = (run : List Subthread) → dependence_by (map shown run) ≡ dependence_of run

-- a whole run: its journal is complete, and its restarts are the first of all restarts, as many as its events make
pub record IsWholeRun (run : List Subthread) (faults : List Fault) (journal : Journal) : Type 0 where
  pub complete : Complete (dependence_of run) faults journal.events
  pub first : (rest : List Restart) × (restarts_of run faults ≡ journal.restarts ++ rest)
  pub counted : length journal.restarts ≡ count_by is_restart journal.events

-- an attempt of 32 bits, and a delay that is not too long
pub record IsNarrowFault (fault : Fault) : Type 0 where
  pub attempt : fault.attempt < 2 ^ 32
  pub delay : fault.delay ≤ LONGEST_DELAY

-- a run and its faults have numbers of 32 bits
pub record IsNarrowRun (run : List Subthread) (faults : List Fault) : Type 0 where
  pub subthreads : length run < 2 ^ 32
  pub few : length faults ≤ MOST_FAULTS
  pub narrow : All IsNarrowFault faults

-- the trace of a whole run is read, unless memory is out, and an audit of its lines by the plain run answers that they are lawful
abbrev pub WholeRunLaw : Type 0
WholeRunLaw =
    (run : List Subthread) (faults : List Fault) (journal : Journal) (read : Result (List TraceLine) TraceFault) → IsNarrowRun run faults
    → IsWholeRun run faults journal
    → AnswersTrace (trace_text journal) read
    → (read ≡ Err fault.OutOfMemory)
    ⊎ ((lines : List TraceLine) × (read ≡ Ok lines)
    × ((verdict : Verdict) → IsVerdict (dependence_by (map shown run)) faults lines verdict → verdict ≡ IsLawful))
