-- Lines by the events and the restarts that are read off them. Proofs go by these; they say what LawfulLines and IsVerdict say (ToldLaw).
use Rattle.std.specs.Prelude.{◌≡◌, ◌+◌, ℕ, suc, List, [], ◌∷◌, ◌++◌, length}
use Rattle.gp_base.specs.declared.fault.Fault.{Fault}
use Rattle.gp_base.specs.declared.journal.Event.{Event}
use Rattle.gp_base.specs.declared.journal.Event.TheVariants as event
use Rattle.gp_base.specs.declared.journal.Restart.{Restart}
use Rattle.dependence.specs.meaning.Restarts.{Dependence, restarts}
use Rattle.dependence.specs.meaning.Journal.{Lawful, Complete}
use Rattle.gp_audit.specs.declared.line.TraceLine.{TraceLine}
use Rattle.gp_audit.specs.declared.line.TraceLine.TheVariants as line
use Rattle.gp_audit.specs.declared.verdict.Verdict.{Verdict}
use Rattle.gp_audit.specs.declared.verdict.Verdict.TheVariants.{Lawful as IsLawful, Unlawful, Incomplete}

-- the event for which a line stands, after so many restarts
abbrev pub event_of : (made : ℕ) → TraceLine → Event
event_of made (line.Issue position) = event.Issue position
event_of made (line.Post position attempt) = event.Post position attempt
event_of made (line.Take position attempt applies) = event.Take position attempt applies
event_of made (line.Restart r) = event.Restart made
event_of made (line.Retire position) = event.Retire position

-- how many restarts there are after the line
abbrev pub made_after : ℕ → TraceLine → ℕ
made_after made (line.Restart r) = suc made
made_after made _ = made

-- the events for which lines stand
abbrev pub events_from : (made : ℕ) → List TraceLine → List Event
events_from made [] = []
events_from made (line ∷ lines) = event_of made line ∷ events_from (made_after made line) lines

abbrev pub events_of : List TraceLine → List Event
events_of lines = events_from 0 lines

-- the restarts that lines tell, in order
abbrev pub restarts_told : List TraceLine → List Restart
restarts_told [] = []
restarts_told (line.Restart r ∷ lines) = r ∷ restarts_told lines
restarts_told (_ ∷ lines) = restarts_told lines

-- lines of a lawful journal, which tell the first of all restarts
pub record TellLawful (dependence : Dependence) (faults : List Fault) (lines : List TraceLine) : Type 0 where
  pub lawful : Lawful dependence faults (events_of lines)
  pub first : (rest : List Restart) × (restarts dependence faults ≡ restarts_told lines ++ rest)

-- the first line with which the lines are not lawful has this number, counted from 1
pub record IsFirstUnlawful (dependence : Dependence) (faults : List Fault) (lines : List TraceLine) (number : ℕ) : Type 0 where
  pub before : List TraceLine
  pub line : TraceLine
  pub later : List TraceLine
  pub lines_are : lines ≡ before ++ line ∷ later
  pub numbered : number ≡ length before + 1
  pub lawful : TellLawful dependence faults before
  pub unlawful : ¬ TellLawful dependence faults (before ++ line ∷ [])

-- what an audit answers of lines
abbrev pub IsToldVerdict : Dependence → List Fault → List TraceLine → Verdict → Type 0
IsToldVerdict dependence faults lines IsLawful = TellLawful dependence faults lines × Complete dependence faults (events_of lines)
IsToldVerdict dependence faults lines (Unlawful number) = IsFirstUnlawful dependence faults lines number
IsToldVerdict dependence faults lines Incomplete = TellLawful dependence faults lines × ¬ Complete dependence faults (events_of lines)
