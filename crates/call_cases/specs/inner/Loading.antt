-- How the reading of files stands to what the files give.
use Rattle.std.specs.Prelude.{◌≡◌, ◌⊎◌, ◌<◌, ◌≤◌, ◌+◌, ℕ, map, List, [], ◌∷◌, ◌++◌, length, Contains, Option, Result, Ok, Err, IsSomeAnd, ⊤}
use Rattle.gp_base.specs.declared.fault.Fault.{Fault}
use Rattle.gp_base.specs.declared.fault.Faults.{Faults}
use Rattle.gp_base.specs.declared.feed.Inputs.{Inputs}
use Rattle.gp_base.specs.declared.limits.TheConstants.{MOST_CELLS, MOST_FIELDS, MOST_FILE_BYTES}
use Rattle.task_ast.specs.declared.tree.Head.{Head}
use Rattle.task_ast.specs.declared.tree.Head.TheVariants.{RecHead, FeedHead}
use Rattle.task_ast.specs.meaning.Tree.{Name}
use Rattle.task_ast.specs.meaning.Names.{natural, records_of, cells_in}
use Rattle.task_ast.specs.Inputs.{fields_of, fields_in}
use Rattle.batch_files.specs.declared.fault.FileFault.{FileFault}
use Rattle.batch_files.specs.declared.fault.FileFault.TheVariants as file
use Rattle.batch_files.specs.meaning.Rows.{Row, Broken, csv_rows}
use Rattle.call_cases.specs.declared.reading.Refusal.{Refusal}
use Rattle.call_cases.specs.declared.reading.Refusal.TheVariants as refused
use Rattle.call_cases.specs.declared.inputs.Loading.{Loading}
use Rattle.call_cases.specs.meaning.Work.{Case, Refused, Go}
use Rattle.call_cases.specs.meaning.Case.{names_read}
use Rattle.call_cases.specs.meaning.Lines.{input_line, kind_number}
use Rattle.call_cases.specs.Refusals.{IsInputRefused}

-- the inputs so far
abbrev pub seen : Loading → Inputs
seen loading = record { records = loading.records.items; feeds = loading.feeds.items }

-- the refusal of a file with this fault
abbrev pub RefusesFile : Name → FileFault → Refusal → Type 0
RefusesFile name (file.Bad kind row) refusal = IsInputRefused (input_line name (kind_number kind) row) refusal
RefusesFile name file.OutOfMemory refusal = refusal ≡ refused.OutOfMemory

-- the line of a file with these bytes, of which this is meant
abbrev pub IsRefusedBy : {T : Type 0} → Name → List ℕ → (text : List ℕ) → Result T Broken → Type 0
IsRefusedBy name line text (Ok value) = (line ≡ input_line name 6 0) × (MOST_FILE_BYTES < length text)
IsRefusedBy name line text (Err broken) =
    (line ≡ input_line name 6 0) × (MOST_FILE_BYTES < length text) ⊎ (line ≡ input_line name (kind_number broken.0) broken.1)
    × (length text ≤ MOST_FILE_BYTES)

-- what is answered, as it is seen, is what is meant by the bytes of the file, or its line
abbrev pub AnswersRows : {A T : Type 0} → (A → T) → Name → (List Row → Result T Broken) → Option (List ℕ) → Result A Refusal → Type 0
AnswersRows see name meant bytes (Ok value) = IsSomeAnd bytes (λ text. (length text ≤ MOST_FILE_BYTES) × (meant (csv_rows text) ≡ Ok (see value)))
AnswersRows see name meant bytes (Err (refused.BadInput line)) = IsSomeAnd bytes (λ text. IsRefusedBy name line text (meant (csv_rows text)))
AnswersRows see name meant bytes (Err (refused.ReadFault told)) = ⊤
AnswersRows see name meant bytes (Err refused.OutOfMemory) = ⊤
AnswersRows see name meant bytes (Err refusal) = ⊥

-- a head whose file can be read: the limits of an accepted program hold
abbrev pub IsReadable : Head → Type 0
IsReadable (RecHead name size by from line) = natural size ≤ MOST_CELLS
IsReadable (FeedHead name fields from line) = (0 < natural fields) × (natural fields ≤ MOST_FIELDS)
IsReadable head = ⊤

abbrev pub AreReadable : List Head → Type 0
AreReadable [] = ⊤
AreReadable (head ∷ heads) = IsReadable head × AreReadable heads

-- the answer to one head, after these files, where this comes of it
abbrev pub StepsTo : {T : Type 0} → (names named : List Name) → Case Inputs → Inputs → Result T Refusal → Type 0
StepsTo names named step after (Ok done) = step ≡ Go (names ++ named) after
StepsTo names named step after (Err (refused.BadInput line)) = (read : List Name) × (step ≡ Refused 4 read line)
StepsTo names named step after (Err (refused.ReadFault name)) = ⊤
StepsTo names named step after (Err refused.OutOfMemory) = ⊤
StepsTo names named step after (Err refusal) = ⊥

-- the answer to all heads, which name these files
abbrev pub AnswersLoad : Case Inputs → List Name → Result Inputs Refusal → Type 0
AnswersLoad supplied names (Ok inputs) = supplied ≡ Go names inputs
AnswersLoad supplied names (Err (refused.BadInput line)) = (read : List Name) × (supplied ≡ Refused 4 read line)
AnswersLoad supplied names (Err (refused.ReadFault name)) = Contains (names_read supplied) name
AnswersLoad supplied names (Err refused.OutOfMemory) = ⊤
AnswersLoad supplied names (Err refusal) = ⊥

-- the answer to the file of faults, after these files
abbrev pub AnswersFaults : (names named : List Name) → Case (List Fault) → Result Faults Refusal → Type 0
AnswersFaults names named supplied (Ok faults) = supplied ≡ Go (names ++ named) faults.list
AnswersFaults names named supplied (Err (refused.BadInput line)) = (read : List Name) × (supplied ≡ Refused 4 read line)
AnswersFaults names named supplied (Err (refused.ReadFault name)) = Contains (names_read supplied) name
AnswersFaults names named supplied (Err refused.OutOfMemory) = ⊤
AnswersFaults names named supplied (Err refusal) = ⊥

-- the inputs have as many record cells and feeds as these heads declare, each feed with its fields
pub record Counts (heads : List Head) (inputs : Inputs) : Type 0 where
  pub records : length inputs.records ≡ cells_in (records_of heads)
  pub feeds : map fields_in inputs.feeds ≡ fields_of heads

-- the inputs grew by what one head declares
pub record Grows (head : Head) (before after : Inputs) : Type 0 where
  pub records : length after.records ≡ length before.records + cells_in (records_of (head ∷ []))
  pub feeds : map fields_in after.feeds ≡ map fields_in before.feeds ++ fields_of (head ∷ [])
