-- How a refusal, as any top call reads one, stands to the case of the call, and how it ends.
use Rattle.std.specs.Prelude.{◌≡◌, ◌<◌, ◌≤◌, List, [], ◌∷◌, ℕ, length, Option, Some, None, Result, IsSomeAnd, Contains, ⊤}
use Rattle.std.specs.declared.result.Result.TheVariants.{Ok, Err}
use Rattle.gp_base.specs.meaning.Files.{GrowsByOnly}
use Rattle.gp_base.specs.declared.limits.TheConstants.{MOST_FILE_BYTES}
use Rattle.task_ast.specs.meaning.Tree.{Name}
use Rattle.call_cases.specs.declared.reading.Refusal.{Refusal}
use Rattle.call_cases.specs.declared.reading.Refusal.TheVariants.{Usage as RefusedUsage, BadProgram as RefusedProgram, BadInput as RefusedInput, ReadFault, OutOfMemory}
use Rattle.call_cases.specs.meaning.Work.{Case, Refused}
use Rattle.call_cases.specs.meaning.Case.{names_read}
use Rattle.call_cases.specs.declared.lines.Tool.{Tool}
use Rattle.call_cases.specs.declared.lines.Tool.TheVariants.{Gprs}
use Rattle.call_cases.specs.meaning.Lines.{tool_line, usage_line, read_fault_line, out_of_memory_line, input_line}
use Rattle.call_cases.specs.meaning.Answers.{Change, Grew}
use Rattle.call_cases.specs.Answers.{LineEnds}

-- a refusal tells this case; a fault of reading tells that the case reads the file
abbrev pub RefusesCase : {T : Type 0} → (Case T → Type 0) → Refusal → Type 0
RefusesCase Is RefusedUsage = (line : List ℕ) × Is (Refused 2 [] line)
RefusesCase Is (RefusedProgram line) = (name : Name) × Is (Refused 3 (name ∷ []) line)
RefusesCase Is (RefusedInput line) = (names : List Name) × Is (Refused 4 names line)
RefusesCase {T} Is (ReadFault name) = (case : Case T) × Is case × Contains (names_read case) name
RefusesCase Is OutOfMemory = ⊤

-- an answer tells this case, where what was read has a case
abbrev pub AnswersCase : {R T : Type 0} → (R → Case T) → (Case T → Type 0) → Result R Refusal → Type 0
AnswersCase case_of Is (Ok request) = Is (case_of request)
AnswersCase case_of Is (Err refusal) = RefusesCase Is refusal

-- the refusals of words of no command, and the answers to them
abbrev pub RefusesWords : Refusal → Type 0
RefusesWords RefusedUsage = ⊤
RefusesWords (RefusedProgram line) = ⊥
RefusesWords (RefusedInput line) = ⊥
RefusesWords (ReadFault name) = ⊥
RefusesWords OutOfMemory = ⊤

abbrev pub AnswersNoCommand : {R : Type 0} → Result R Refusal → Type 0
AnswersNoCommand (Ok request) = ⊥
AnswersNoCommand (Err refusal) = RefusesWords refusal

-- The reads failed only where the refusal names a file whose read failed, one that may be read for what the words ask,
-- and no other name was added. Words of no command are told as such, and no other words.
abbrev pub RefusesShelf : {A : Type 0} → (may_read : A → Name → Type 0) → Option A → List Name → List Name → Refusal → Type 0
RefusesShelf may_read asked before now RefusedUsage = (asked ≡ None) × (now ≡ before)
RefusesShelf may_read asked before now (RefusedProgram line) = now ≡ before
RefusesShelf may_read asked before now (RefusedInput line) = now ≡ before
RefusesShelf may_read asked before now (ReadFault name) =
    GrowsByOnly name before now × Grew before now × IsSomeAnd asked (λ a. may_read a name)
RefusesShelf may_read asked before now OutOfMemory = ⊤

-- the same of an answer; no read failed where there is something to be done
abbrev pub TouchesShelf : {A R : Type 0} → (may_read : A → Name → Type 0) → Option A → List Name → List Name → Result R Refusal → Type 0
TouchesShelf may_read asked before now (Ok request) = now ≡ before
TouchesShelf may_read asked before now (Err refusal) = RefusesShelf may_read asked before now refusal

-- a refusal of a file with this line, unless memory is short
abbrev pub IsInputRefused : List ℕ → Refusal → Type 0
IsInputRefused line (RefusedInput told) = told ≡ line
IsInputRefused line OutOfMemory = ⊤
IsInputRefused line refusal = ⊥

-- the refusal of a file whose read failed, unless memory is short
abbrev pub IsUnread : Name → Refusal → Type 0
IsUnread name (ReadFault told) = told ≡ name
IsUnread name OutOfMemory = ⊤
IsUnread name refusal = ⊥

-- The reads failed only where the answer names a file whose read failed, one of these, and no other name was added.
abbrev pub ReadsAmong : {T : Type 0} → List Name → (before now : List Name) → Result T Refusal → Type 0
ReadsAmong names before now (Ok value) = now ≡ before
ReadsAmong names before now (Err (RefusedInput line)) = now ≡ before
ReadsAmong names before now (Err (ReadFault name)) = Contains names name × GrowsByOnly name before now × Grew before now
ReadsAmong names before now (Err OutOfMemory) = ⊤
ReadsAmong names before now (Err refusal) = ⊥

-- a file was read; it is too long; or its read failed, or memory is short
abbrev pub AnswersFile : Name → Option (List ℕ) → Result (List ℕ) Refusal → Type 0
AnswersFile name bytes (Ok text) = (bytes ≡ Some text) × (length text ≤ MOST_FILE_BYTES)
AnswersFile name bytes (Err (RefusedInput line)) = (line ≡ input_line name 6 0) × IsSomeAnd bytes (λ text. MOST_FILE_BYTES < length text)
AnswersFile name bytes (Err (ReadFault told)) = ⊤
AnswersFile name bytes (Err OutOfMemory) = ⊤
AnswersFile name bytes (Err refusal) = ⊥

-- the line that tells a refusal, and the status of it
abbrev pub refusal_line : Tool → Refusal → List ℕ
refusal_line tool RefusedUsage = tool_line tool (usage_line tool)
refusal_line tool (RefusedProgram line) = tool_line tool line
refusal_line tool (RefusedInput line) = tool_line tool line
refusal_line tool (ReadFault name) = tool_line tool (read_fault_line name)
refusal_line tool OutOfMemory = tool_line tool out_of_memory_line

abbrev pub refusal_status : Refusal → ℕ
refusal_status RefusedUsage = 2
refusal_status (RefusedProgram line) = 3
refusal_status (RefusedInput line) = 4
refusal_status (ReadFault name) = 7
refusal_status OutOfMemory = 1

-- how a refusal ends, and how one of `gprs` does
abbrev pub RefusalEndsOf : Tool → (err : Change) → Refusal → ℕ → Type 0
RefusalEndsOf tool err refusal status = LineEnds (refusal_status refusal) (refusal_line tool refusal) err status

abbrev pub RefusalEnds : (err : Change) → Refusal → ℕ → Type 0
RefusalEnds = RefusalEndsOf Gprs
