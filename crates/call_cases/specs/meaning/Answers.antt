-- How the answer of a call, and what it wrote, stand to its case.
use Rattle.std.specs.Prelude.{◌≡◌, ◌⊎◌, ℕ, ◌<◌, List, [], Option, length}
use Rattle.std.specs.Io.KnownBytes.{Appends, Keeps}
use Rattle.gp_base.specs.meaning.Sinks.{Rose, AppendsPrefix}
use Rattle.gp_base.specs.declared.journal.Journal.{Journal}
use Rattle.call_cases.specs.declared.lines.Tool.{Tool}
use Rattle.call_cases.specs.meaning.Lines.{tool_line, out_of_memory_line, write_fault_line}

-- what a call did to a sink: its bytes where it tells them, and its count of faults
pub record Change : Type 0 where
  pub written : Option (List ℕ)
  pub written' : Option (List ℕ)
  pub faults : ℕ
  pub faults' : ℕ

abbrev pub change_of : {S : Type 0} → (S → Option (List ℕ)) → (S → ℕ) → S → S → Change
change_of written faults before after =
    record { written = written before; written' = written after; faults = faults before; faults' = faults after }

-- it took all these bytes, a prefix of them, or none
abbrev pub TakesAll : Change → List ℕ → Type 0
TakesAll change bytes = Appends change.written change.written' bytes

abbrev pub TakesPart : Change → List ℕ → Type 0
TakesPart change bytes = AppendsPrefix change.written change.written' bytes

abbrev pub TakesNothing : Change → Type 0
TakesNothing change = Keeps change.written change.written'

-- nothing was done to it
pub record IsUntouched (change : Change) : Type 0 where
  pub written : change.written' ≡ change.written
  pub faults : change.faults' ≡ change.faults

-- its count rose
abbrev pub Fails : Change → Type 0
Fails change = Rose change.faults change.faults'

-- a journal of no event
abbrev pub IsEmpty : Journal → Type 0
IsEmpty journal = (journal.events ≡ []) × (journal.restarts ≡ [])

-- that of a call that makes none
abbrev pub no_journal : Journal
no_journal = record { events = []; restarts = [] }

-- the list of failed names grew
abbrev pub Grew : List (List ℕ) → List (List ℕ) → Type 0
Grew before now = length before < length now

-- The status is the due one. It yields to running out of memory, and to a fault of reading or of writing that was counted in this call.
pub data Yields (due : ℕ) (shelf_failed sink_failed : Type 0) : ℕ → Type 0 where
  due_status : Yields due shelf_failed sink_failed due
  no_memory : Yields due shelf_failed sink_failed 1
  read_fault : shelf_failed → Yields due shelf_failed sink_failed 7
  write_fault : sink_failed → Yields due shelf_failed sink_failed 8

-- the line of status 1 or of status 8
abbrev pub IsStopLine : Tool → List ℕ → Type 0
IsStopLine tool line = (line ≡ tool_line tool out_of_memory_line) ⊎ (line ≡ tool_line tool write_fault_line)
