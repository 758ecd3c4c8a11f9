-- What the rounds of a run leave.
use Rattle.std.specs.Prelude.{◌≡◌, ◌⊎◌, ℕ, ◌+◌, ◌*◌, ◌<◌, Bool, true, false, cond, List, ◌++◌, take, Option, Some, None, Contains}
use Rattle.gp_base.specs.declared.ending.End.{End}
use Rattle.std.specs.Io.KnownBytes.{Appends}
use Rattle.dependence.specs.meaning.Journal.{WasTaken}
use Rattle.dependence.specs.Measure.{left_after}
use Rattle.subthread.specs.declared.task.Task.{Task}
use Rattle.subthread.specs.declared.task.Work.{Work}
use Rattle.restart_log.specs.meaning.Lines.{printed}
use Rattle.whole_run.specs.View.{View, dependence_in, lines_at, lines_below, now, is_known, Stands}
use Rattle.whole_run.specs.declared.calls.Halt.TheVariants as halt
use Rattle.whole_run.specs.Gives.{struck_now, MayRetireNow, HasFinished}
use Rattle.whole_run.specs.Takes.{CrewStands}

-- what is left to do
abbrev pub left : View → ℕ
left view = left_after (dependence_in view.batch) view.batch.faults (now view)

-- what is left to do, and to know
abbrev pub left_to_know : View → ℕ
left_to_know view = 2 * left view + cond (is_known view) 0 1

-- no event was made, and an end that was known is known
pub record Rests (before after : View) : Type 0 where
  pub events : after.events ≡ before.events
  pub known : is_known before ≡ true → is_known after ≡ true

-- the run of the batch went on, or rests
pub record Onward (before after : View) : Type 0 where
  pub batch : after.batch ≡ before.batch
  pub stands : Stands after
  pub moved : (left after < left before) ⊎ Rests before after

-- between two parts of a round: the engine stands, and the crew is ready, is of its work, and agrees with it
pub record Agrees (view : View) (ready : Type 0) (work : Work) (posted : List (ℕ × ℕ)) (out : List Task) : Type 0 where
  pub stands : Stands view
  pub is_ready : ready
  pub work_is : work ≡ view.batch.work
  pub crew : CrewStands view posted out

-- what each part leaves, whatever it answers: the run went on, or rests, and the crew is ready, is of its work, and has all posts
pub record Leaves (before after : View) (ready : Type 0) (work : Work) (posted : List (ℕ × ℕ)) : Type 0 where
  pub onward : Onward before after
  pub is_ready : ready
  pub work_is : work ≡ after.batch.work
  pub posted_are : posted ≡ (now after).posted

-- no position is struck, and the oldest may not retire
pub record IsQuiet (view : View) : Type 0 where
  pub none_struck : struck_now view ≡ None
  pub none_retires : ¬ MayRetireNow view

-- the run has not ended with all positions retired
abbrev pub IsUnfinished : View → Type 0
IsUnfinished view = (ending : End) → ¬ HasFinished view ending

-- the run has ended, or a settle waits for some position to retire, or some position below the front was never taken
abbrev pub IsIssued : View → Type 0
IsIssued view =
    ((ending : End) × (view.ended ≡ Some (halt.Ended ending)))
    ⊎ ((view.ended ≡ Some halt.Settling) × ((now view).retired < (now view).progress.front))
    ⊎ ((q : ℕ) × (q < (now view).progress.front) × ¬ WasTaken (now view) q)

-- what was written since `start` is the lines of all positions that have retired
abbrev pub Wrote : (start : Option (List ℕ)) → View → (written : Option (List ℕ)) → Type 0
Wrote start view written = Appends start written (printed (lines_below view.batch (now view).retired))

-- what was written then is still so
abbrev pub KeepsWritten : (before after : View) → (written later : Option (List ℕ)) → Type 0
KeepsWritten before after written later = (start : Option (List ℕ)) → Wrote start before written → Wrote start after later

-- these, and then a part of the lines of the next one
pub record WrotePart (start : Option (List ℕ)) (view : View) (written : Option (List ℕ)) : Type 0 where
  pub part : ℕ
  pub bytes : Appends start written (printed (lines_below view.batch (now view).retired)
      ++ take part (printed (lines_at view.batch (now view).retired)))

-- what was written then is still so, or a part of the next lines was written besides
abbrev pub KeepsPart : (before after : View) → (written later : Option (List ℕ)) → Type 0
KeepsPart before after written later = (start : Option (List ℕ)) → Wrote start before written → WrotePart start after later

-- each post was taken
abbrev pub AreTaken : View → Type 0
AreTaken view = (pair : ℕ × ℕ) → Contains (now view).posted pair → Contains (now view).taken pair

-- a result was taken, or nothing is out
abbrev pub TakeGives : (before after : View) → Bool → Type 0
TakeGives before after true = left after < left before
TakeGives before after false = (after ≡ before) × AreTaken before
