-- The rows of a file, and the first of them that breaks a rule.
use Rattle.std.specs.Prelude.{ℕ, ◌+◌, List, [], ◌∷◌, ◌++◌, length, Option, Some, None, Result, Ok, Err}
use Rattle.std.specs.Option.{option_map_or}
use Rattle.csv.specs.Reading.{default_config, records, strip_bom}
use Rattle.batch_files.specs.declared.fault.FileKind.{FileKind}

-- the fields of a row, as bytes
abbrev pub Row : Type 0
Row = List (List ℕ)

-- the rows of a file that has no header row, as the crate `csv` defines them: blank lines are none
abbrev pub csv_rows : List ℕ → List Row
csv_rows bytes = records default_config (strip_bom bytes)

-- a rule that a row breaks, and the row's number from 1
abbrev pub Broken : Type 0
Broken = FileKind × ℕ

-- the first rule that a row breaks, after the rows before it
abbrev pub Rule : Type 0
Rule = List Row → Row → Option FileKind

-- the first row that breaks a rule; `before` are the rows that were passed
unfoldable pub first_broken : Rule → (before rows : List Row) → Option Broken
first_broken rule before [] = None
first_broken rule before (row ∷ rest) =
    option_map_or (λ kind. Some (kind, length before + 1)) (rule before row) (first_broken rule (before ++ row ∷ []) rest)

-- what rows mean by this function, or the first of them that breaks a rule
abbrev pub by_rule : {T : Type 0} → Rule → (List Row → T) → List Row → Result T Broken
by_rule rule meaning rows = option_map_or Err (first_broken rule [] rows) (Ok (meaning rows))
