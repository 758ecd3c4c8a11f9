-- What each call of `gprs_view explain` is promised to do.
use Rattle.std.specs.Prelude.{◌≡◌, ◌⊎◌, ℕ, List, [], None, IfSome}
use Rattle.call_cases.specs.meaning.Work.{ToDo, Case}
use Rattle.call_cases.specs.meaning.RunCommands.{MayRead, IsWhole}
use Rattle.call_cases.specs.meaning.Case.{IsCase, ForCase, due_of}
use Rattle.call_cases.specs.meaning.Answers.{TakesAll, TakesPart, Fails, Grew, Yields}
use Rattle.call_cases.specs.meaning.Headline.{Call, HasCaseLine, IsStop, TakesOneLine, TellsReadFault, TellsWriteFault}
use Rattle.explain_calls.specs.meaning.Commands.{explained_by, asking, case_status}
use Rattle.explain_calls.specs.meaning.Fronts.{IsHint, IsText}

-- a status that tells the case: a run that finished, is stuck or has spent its limits; or words, a program or a file that are refused
abbrev pub IsExplained : ℕ → Type 0
IsExplained status = IsWhole status ⊎ HasCaseLine status

-- a fact about the case of a call
abbrev pub ForOwn : Call → (Case ToDo → Type 0) → Type 0
ForOwn call P = ForCase asking call.words call.files P

-- a text of the case, or, where a read failed, a hint on that
abbrev pub IsOwnText : Call → Case ToDo → List ℕ → Type 0
IsOwnText call case text = IsText case text ⊎ Grew call.failed call.failed' × IsHint text

-- what holds of each call
pub record Explains (call : Call) : Type 0 where
  -- The status is that of the case. It yields to running out of memory, and to a fault that was counted in this call.
  pub status : ForOwn call (λ case. Yields (case_status case) (Grew call.failed call.failed') (Fails call.out ⊎ Fails call.err) call.status)
  -- There is a case, where the status is one of those that tell it.
  pub told : IsExplained call.status
      → IfSome call.files (λ files. (case : Case ToDo) × IsCase asking call.words files case × (case_status case ≡ call.status))
  -- These three hold of a shelf that does not tell its files, too: which statuses there are, and when one is that of no command.
  pub among : IsExplained call.status ⊎ (call.status ≡ 7) ⊎ IsStop call.status
  pub usage : call.status ≡ 2 → explained_by call.words ≡ None
  pub no_command : explained_by call.words ≡ None → Yields 2 ⊥ (Fails call.out ⊎ Fails call.err) call.status
  -- The output grew by a text of the case, and at each status by a prefix of one, or of a hint on a read that failed.
  pub text : ForOwn call (λ case. IsExplained call.status → (text : List ℕ) × IsText case text × TakesAll call.out text)
  pub prefix : ForOwn call (λ case. (text : List ℕ) × IsOwnText call case text × TakesPart call.out text)
  -- The error stream grew by nothing, or by the line that tells the refusal or the fault.
  pub quiet : IsWhole call.status → TakesAll call.err []
  pub line : ForOwn call (λ case. HasCaseLine call.status → TakesAll call.err (due_of asking.tool case []))
  pub read_fault : call.status ≡ 7 → TellsReadFault asking MayRead call × (text : List ℕ) × IsHint text × TakesAll call.out text
  pub write_fault : call.status ≡ 8 → TellsWriteFault asking.tool call.out call.err
  pub stopped : IsStop call.status → ForOwn call (λ case. TakesOneLine asking call case [])
  -- No read failed where a run is told, or a refusal of its program; and nothing is read for words of no command. The
  -- file that is refused is read once more, for what is told of it.
  pub untouched : IsWhole call.status ⊎ (call.status ≡ 3) → call.failed' ≡ call.failed
  pub unread : explained_by call.words ≡ None → call.failed' ≡ call.failed
