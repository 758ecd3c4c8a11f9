-- What the files beside a program give: those of its records and feeds, read in declared order.
use Rattle.std.specs.Prelude.{◌≡◌, ◌⊎◌, ℕ, ◌-◌, ◌%◌, ◌<◌, ◌≤◌, ◌==◌, ◌&&◌, pos, ℤ, Bool, true, false, List, [], ◌∷◌, ◌++◌, length, replicate, sum_by, Option, None, Some, Result, Ok, Err, nat_lt, nat_le, if◌then◌else◌}
use Rattle.std.proofs.Common.{inl, inr, arith}
use Rattle.std.proofs.lemmas.Bool.{cases_Bool}
use Rattle.std.proofs.lemmas.Bool.Decides.{nat_tests}
use Rattle.gp_base.specs.meaning.Files.{bytes_of}
use Rattle.gp_base.specs.declared.fault.Fault.{Fault}
use Rattle.gp_base.specs.declared.feed.Feed.{Feed}
use Rattle.gp_base.specs.declared.feed.Inputs.{Inputs}
use Rattle.gp_base.specs.declared.limits.TheConstants.{MOST_FEED_CELLS, MOST_FILE_BYTES}
use Rattle.task_ast.specs.declared.tree.Head.{Head}
use Rattle.task_ast.specs.declared.tree.Head.TheVariants.{RecHead, FeedHead}
use Rattle.task_ast.specs.meaning.Tree.{Name, Program}
use Rattle.task_ast.specs.meaning.Names.{natural}
use Rattle.batch_files.specs.meaning.Rows.{Row, Broken, csv_rows}
use Rattle.batch_files.specs.meaning.Records.{records_by}
use Rattle.batch_files.specs.meaning.Feeds.{feed_by}
use Rattle.batch_files.specs.meaning.Faults.{faults_by}
use Rattle.command_line.specs.declared.asked.Asked.{Asked}
use Rattle.command_line.specs.declared.asked.Command.{Command}
use Rattle.call_cases.specs.meaning.Work.{Files, Case, Refused, Go, absent_case, ToDo, work_for, runs}
use Rattle.call_cases.specs.meaning.Lines.{input_line, kind_number}

-- these are whole rows of at least one field, and few enough
abbrev pub are_rows : (fields : ℕ) → List ℤ → Bool
are_rows fields cells = nat_lt 0 fields && ((length cells % fields) == 0 && nat_le (length cells) MOST_FEED_CELLS)

pub rows_facts : (fields : ℕ) (cells : List ℤ) → are_rows fields cells ≡ true
    → (0 < fields) × (length cells % fields ≡ 0) × (length cells ≤ MOST_FEED_CELLS)
rows_facts fields cells is = grind (arith, nat_tests, is)

-- the feed of these cells, by whether they are such rows
abbrev pub feed_where : (fields : ℕ) (cells : List ℤ) → (are_rows fields cells ≡ true) ⊎ (are_rows fields cells ≡ false) → Option Feed
feed_where fields cells (inl is) =
    let facts = rows_facts fields cells is in
    Some (record { fields = fields; cells = cells; some_field = facts.0; whole_rows = facts.1; few_cells = facts.2 })
feed_where fields cells (inr not) = None

-- the feed of these cells, where they are such rows; those of an accepted program are
abbrev pub feed_with : (fields : ℕ) → List ℤ → Option Feed
feed_with fields cells = feed_where fields cells (cases_Bool (are_rows fields cells))

-- no inputs
abbrev pub no_inputs : Inputs
no_inputs = record { records = []; feeds = [] }

-- the inputs with the cells of one more record
abbrev pub with_cells : Inputs → List ℤ → Inputs
with_cells inputs cells = record inputs { records = inputs.records ++ cells }

-- the inputs with one more feed
abbrev pub with_feed : Inputs → Option Feed → Inputs
with_feed inputs None = inputs
with_feed inputs (Some feed) = record inputs { feeds = inputs.feeds ++ feed ∷ [] }

-- how many cells there is room for beside those of these feeds
abbrev pub room_after : List Feed → ℕ
room_after feeds = MOST_FEED_CELLS - sum_by (λ (feed : Feed). length feed.cells) feeds

-- what comes of the rows of a file, after these files: the next of what they mean, or the line of the first that breaks a rule
abbrev pub by_rows : {S T : Type 0} → List Name → Name → Result S Broken → (List Name → S → Case T) → Case T
by_rows names file (Ok value) next = next (names ++ file ∷ []) value
by_rows names file (Err broken) next = Refused 4 (names ++ file ∷ []) (input_line file (kind_number broken.0) broken.1)

-- the same of the file with these bytes, by what its rows mean, or of none
abbrev pub by_file : {S T : Type 0} → List Name → Name → Option (List ℕ) → (List Row → Result S Broken) → (List Name → S → Case T)
    → Case T
by_file names file None meant next = absent_case names file
by_file names file (Some bytes) meant next =
    if nat_lt MOST_FILE_BYTES (length bytes) then Refused 4 (names ++ file ∷ []) (input_line file 6 0) else by_rows names file (meant (csv_rows bytes)) next

-- the inputs with the cells of one more record, and with one more feed
abbrev pub more_cells : Inputs → List Name → List ℤ → Case Inputs
more_cells inputs names cells = Go names (with_cells inputs cells)

abbrev pub more_feed : Inputs → (fields : ℕ) → List Name → List ℤ → Case Inputs
more_feed inputs fields names cells = Go names (with_feed inputs (feed_with fields cells))

-- what comes of a record of this size, which has cells of 0 where it names no file
abbrev pub by_record : Files → List Name → Inputs → (size : ℕ) → Option Name → Case Inputs
by_record files names inputs size None = Go names (with_cells inputs (replicate size (pos 0)))
by_record files names inputs size (Some file) = by_file names file (bytes_of files file) (records_by size) (more_cells inputs)

-- what comes of a head, after these files and inputs
abbrev pub load_head : Files → List Name → Inputs → Head → Case Inputs
load_head files names inputs (RecHead name size by from line) = by_record files names inputs (natural size) from
load_head files names inputs (FeedHead name fields file line) =
    by_file names file (bytes_of files file) (feed_by (natural fields) (room_after inputs.feeds)) (more_feed inputs (natural fields))
load_head files names inputs head = Go names inputs

-- what comes after it, where nothing is wrong
abbrev pub then_load : {S T : Type 0} → Case S → (List Name → S → Case T) → Case T
then_load (Go names value) next = next names value
then_load (Refused status names line) next = Refused status names line

-- the case is what comes after it, where that is told by a relation
abbrev pub ThenLoads : {S T : Type 0} → Case S → (List Name → S → Case T → Type 0) → Case T → Type 0
ThenLoads (Go names value) Next case = Next names value case
ThenLoads (Refused status names line) Next case = case ≡ Refused status names line

-- what comes of heads, one after another
abbrev pub load : Files → List Name → Inputs → List Head → Case Inputs
load files names inputs [] = Go names inputs
load files names inputs (head ∷ heads) = then_load (load_head files names inputs head) (λ names inputs. load files names inputs heads)

-- what comes of the file of faults, after these files, where one is named
abbrev pub load_faults : Files → List Name → Option Name → Case (List Fault)
load_faults files names None = Go names []
load_faults files names (Some file) = by_file names file (bytes_of files file) faults_by Go

-- what they give
abbrev pub supplied_for : Command → List Head → Files → Case Inputs
supplied_for command heads files = if runs command then load files [] no_inputs heads else Go [] no_inputs

-- what is to be done for what is asked on a program, after these files, from these inputs
abbrev pub with_faults : Files → Asked → Program → List Name → Inputs → Case ToDo
with_faults files asked program names inputs =
    then_load (load_faults files names asked.faults) (λ names faults. Go names (work_for asked program inputs faults))

-- what is to be done for what is asked on a program, by the files beside it: those that it names, and then that of the faults
abbrev pub supplied_by : Asked → Program → Files → Case ToDo
supplied_by asked program files = then_load (supplied_for asked.command program.heads files) (with_faults files asked program)

-- what comes of a file with these bytes, or of none, after these files, where its bytes come to such a case if they are not too many
abbrev pub ReadsFile : {T : Type 0} → List Name → Name → Option (List ℕ) → (List ℕ → Case T → Type 0) → Case T → Type 0
ReadsFile names file None Comes case = case ≡ absent_case names file
ReadsFile names file (Some bytes) Comes case =
    (MOST_FILE_BYTES < length bytes) × (case ≡ Refused 4 (names ++ file ∷ []) (input_line file 6 0))
    ⊎ (length bytes ≤ MOST_FILE_BYTES) × Comes bytes case
