-- What a call is promised to do: its answer, and what it wrote, by its case.
use Rattle.std.specs.Prelude.{◌≡◌, ◌⊎◌, ℕ, true, false, [], List, Option, Some, None, Contains, IfSome, IsSomeAnd}
use Rattle.gp_base.specs.declared.journal.Journal.{Journal}
use Rattle.gp_base.specs.meaning.Files.{GrowsByOnly}
use Rattle.task_ast.specs.meaning.Tree.{Name}
use Rattle.call_cases.specs.declared.lines.Tool.{Tool}
use Rattle.call_cases.specs.meaning.Work.{Files, Case}
use Rattle.call_cases.specs.meaning.Commands.{Asking, Commands, MayLog, Unlogged, Logged}
use Rattle.call_cases.specs.meaning.Case.{IsCase, ForCase, ForRun, HasWork, status_of, text_of, due_of, names_read}
use Rattle.call_cases.specs.meaning.Lines.{tool_line, read_fault_line, write_fault_line}
use Rattle.call_cases.specs.meaning.Answers.{Change, TakesAll, TakesPart, TakesNothing, IsUntouched, Fails, Grew, Yields, IsStopLine, IsEmpty}

-- a call: what it was given, and what it left
pub record Call : Type 0 where
  pub words : List (List ℕ)
  pub files : Option Files
  pub failed : List Name
  pub failed' : List Name
  pub out : Change
  pub err : Change
  pub status : ℕ
  pub journal : Journal

-- refused with the line of the case
abbrev pub HasCaseLine : ℕ → Type 0
HasCaseLine status = (status ≡ 2) ⊎ (status ≡ 3) ⊎ (status ≡ 4)

-- refused before anything was written to the output
abbrev pub IsRefusal : ℕ → Type 0
IsRefusal status = HasCaseLine status ⊎ (status ≡ 7)

-- the call was stopped: memory ran out, or a write failed
abbrev pub IsStop : ℕ → Type 0
IsStop status = (status ≡ 1) ⊎ (status ≡ 8)

-- The error stream took a prefix of one line alone: of that of the stop, of what is due for the case, as this text at the end of what is done, or,
-- where a read failed, of the line of a file that the case reads.
abbrev pub TakesOneLine : {A T : Type 0} → Asking A T → Call → Case T → (error : List ℕ) → Type 0
TakesOneLine asking call case error =
    (line : List ℕ) × (IsStopLine asking.tool line ⊎ (line ≡ due_of asking.tool case error) ⊎ Grew call.failed call.failed'
    × (name : Name) × Contains (names_read case) name × (line ≡ tool_line asking.tool (read_fault_line name))) × TakesPart call.err line

-- a write failed: one of the line, or one of the output, and then the line tells it
abbrev pub TellsWriteFault : Tool → Change → Change → Type 0
TellsWriteFault tool out err = Fails err ⊎ Fails out × TakesAll err (tool_line tool write_fault_line)

module _ {A T : Type 0} (commands : Commands A T) where
  -- a status that tells the case
  abbrev pub TellsCase : ℕ → Type 0
  TellsCase status = commands.whole status ⊎ HasCaseLine status

  -- what the error stream takes where what is asked was done to its end
  abbrev pub error_for : Option A → (status : ℕ) → Journal → List ℕ
  error_for None status journal = []
  error_for (Some asked) status journal = commands.error asked status journal

  -- no run begins for what is asked: the words are those of no command, or of one that runs nothing over a journal
  abbrev pub RunsNothing : Option A → Type 0
  RunsNothing asked = IfSome asked (λ asked. commands.is_journalled asked ≡ false)

  -- no file of the shelf is read for what is asked: the words are those of no command, or of one that makes its files itself
  abbrev pub ReadsNothing : Option A → Type 0
  ReadsNothing asked = IfSome asked (λ asked. commands.makes_files asked ≡ true)

module _ {A T : Type 0} (commands : Commands A T) (call : Call) where
  -- what the error stream took where what is asked was done to its end: the text that is due then, or the whole log
  abbrev pub IsQuiet : MayLog T → Type 0
  IsQuiet Unlogged = TakesAll call.err (error_for commands (commands.asking.reading call.words) call.status call.journal)
  IsQuiet (Logged log) =
      ForCase commands.asking call.words call.files
      (λ case. ForRun commands case (λ work. TakesAll call.err (log.whole work) × log.taken work call.journal call.err))

  -- a write failed, of which a line tells, but where a log is kept
  abbrev pub TellsWrite : MayLog T → Type 0
  TellsWrite Unlogged = TellsWriteFault commands.asking.tool call.out call.err
  TellsWrite (Logged log) = Fails call.out ⊎ Fails call.err

  -- The call stopped, of which a line tells. Where a log is kept, one does only before anything was done to the output, and else the error
  -- stream has that log.
  abbrev pub TellsStop : MayLog T → Case T → Type 0
  TellsStop Unlogged case =
      TakesOneLine commands.asking call case (error_for commands (commands.asking.reading call.words) (status_of commands case) call.journal)
  TellsStop (Logged log) case =
      (IsUntouched call.out × IsEmpty call.journal × TakesOneLine commands.asking call case [])
      ⊎ HasWork case × ForRun commands case (λ work. log.taken work call.journal call.err)

-- A file could not be read: its reads alone failed, and the line names it. It is one that the case reads, and one that the words ask for.
pub record TellsReadFault {A T : Type 0} (asking : Asking A T) (may_read : A → Name → Type 0) (call : Call) : Type 0 where
  pub name : Name
  pub read : ForCase asking call.words call.files (λ case. Contains (names_read case) name)
  pub asked : IsSomeAnd (asking.reading call.words) (λ asked. may_read asked name)
  pub alone : GrowsByOnly name call.failed call.failed'
  pub grew : Grew call.failed call.failed'
  pub line : TakesAll call.err (tool_line asking.tool (read_fault_line name))

-- what holds of a call with these commands whose case is this
pub record MeetsCase {A T : Type 0} (commands : Commands A T) (call : Call) (case : Case T) : Type 0 where
  -- The status is that of the case. It yields to running out of memory, and to a fault that was counted in this call.
  pub status : Yields (status_of commands case) (Grew call.failed call.failed') (Fails call.out ⊎ Fails call.err) call.status
  -- The output grew by the text of the case where it is whole, and at each status by a prefix of it.
  pub text : commands.whole call.status → TakesAll call.out (text_of commands case)
  pub prefix : TakesPart call.out (text_of commands case)
  -- The error stream grew by the line that tells a refusal, and where the call stopped by what is due then.
  pub line : HasCaseLine call.status → TakesAll call.err (due_of commands.asking.tool case [])
  pub stopped : IsStop call.status → TellsStop commands call commands.log case
  -- Where a file that is read is not there, a read of it failed, or memory ran out before; status 8 then says that the line of that could
  -- not be written.
  pub missing : status_of commands case ≡ 7 → Grew call.failed call.failed' ⊎ (call.status ≡ 1) ⊎ Fails call.err
  -- The journal is empty where nothing is to be done. Else it is a journal of the run, and complete where the text is whole.
  pub unbegun : HasWork case ⊎ IsEmpty call.journal
  pub lawful : ForRun commands case (λ work. commands.lawful work call.journal)
  pub complete : commands.whole call.status → ForRun commands case (λ work. commands.complete work call.journal)
  -- The output holds all lines of each subthread that has retired; where the journal is not complete, it holds nothing
  -- past those of the next one.
  pub retired : ForRun commands case (λ work. commands.retired work call.journal call.out)

-- what holds of each call of a top call with these commands
pub record Headline {A T : Type 0} (commands : Commands A T) (call : Call) : Type 0 where
  -- What holds by its case. There is one, where the status is one of those that tell it. All else holds of a shelf that does not tell its
  -- files, too.
  pub by_case : ForCase commands.asking call.words call.files (MeetsCase commands call)
  pub told : TellsCase commands call.status
      → IfSome call.files (λ files. (case : Case T) × IsCase commands.asking call.words files case
      × (status_of commands case ≡ call.status))
  -- which statuses there are, and when one is that of no command
  pub among : commands.whole call.status ⊎ IsRefusal call.status ⊎ IsStop call.status
  pub usage : call.status ≡ 2 → commands.asking.reading call.words ≡ None
  pub no_command : commands.asking.reading call.words ≡ None → Yields 2 ⊥ (Fails call.err) call.status
  -- A refusal writes nothing to the output.
  pub refused : IsRefusal call.status → TakesNothing call.out
  -- The error stream grew by what is due at a whole text, as a trace, or by the log, where one is kept; or by the line that tells the fault.
  pub quiet : commands.whole call.status → IsQuiet commands call commands.log
  pub read_fault : call.status ≡ 7 → TellsReadFault commands.asking commands.may_read call
  pub write_fault : call.status ≡ 8 → TellsWrite commands call commands.log
  -- No read failed where the status tells the case, and none was made where nothing is read.
  pub untouched : TellsCase commands call.status → call.failed' ≡ call.failed
  pub unread : ReadsNothing commands (commands.asking.reading call.words) → call.failed' ≡ call.failed
  -- The journal is empty where no run begins.
  pub journal : IsRefusal call.status ⊎ RunsNothing commands (commands.asking.reading call.words) → IsEmpty call.journal
