-- Which lines are those of a lawful run, and of a whole one.
use Rattle.std.specs.Prelude.{◌≡◌, ℕ, ◌-◌, List, map, take, Some}
use Rattle.gp_base.specs.declared.fault.Fault.{Fault}
use Rattle.gp_base.specs.declared.journal.Event.{Event}
use Rattle.dependence.specs.meaning.Restarts.{Dependence, restarts}
use Rattle.dependence.specs.meaning.Journal.{Lawful, Complete}
use Rattle.gp_audit.specs.declared.line.TraceLine.{TraceLine}
use Rattle.gp_audit.specs.declared.verdict.Verdict.{Verdict}
use Rattle.gp_audit.specs.declared.verdict.Verdict.TheVariants.{Lawful as IsLawful, Unlawful, Incomplete}
use Rattle.gp_audit.specs.meaning.Lines.{line_of}

-- the lines of lawful events, which tell the restarts of the run by their numbers
pub record LawfulLines (dependence : Dependence) (faults : List Fault) (lines : List TraceLine) : Type 0 where
  pub events : List Event
  pub lawful : Lawful dependence faults events
  pub lines_are : map Some lines ≡ map (line_of (restarts dependence faults)) events

-- What an audit answers of lines: they are those of a whole run; the first with which they are not lawful has this number, counted from 1; or they
-- are lawful, and the run has not ended.
abbrev pub IsVerdict : Dependence → List Fault → List TraceLine → Verdict → Type 0
IsVerdict dependence faults lines IsLawful = (lawful : LawfulLines dependence faults lines) × Complete dependence faults lawful.events
IsVerdict dependence faults lines (Unlawful number) =
    LawfulLines dependence faults (take (number - 1) lines) × ¬ LawfulLines dependence faults (take number lines)
IsVerdict dependence faults lines Incomplete = (lawful : LawfulLines dependence faults lines) × ¬ Complete dependence faults lawful.events
