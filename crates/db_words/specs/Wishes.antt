-- What the words of a call over a database ask for.
use Rattle.std.specs.Prelude.{List, [], ◌∷◌, ◌++◌, Option, Some, None, option_map, option_and_then, codes, if◌then◌else◌, string_bytes}
use Rattle.std.specs.Str.{bytes_eq}
use Rattle.clap.specs.Words.{Text}
use Rattle.command_line.specs.meaning.Words.{texts, asked_by}
use Rattle.command_line.specs.declared.asked.Asked.{Asked}
use Rattle.db_words.specs.Names.{named_in}
use Rattle.db_words.specs.declared.wish.Batch.{Batch}
use Rattle.db_words.specs.declared.wish.Wish.{Wish}
use Rattle.db_words.specs.declared.wish.Wish.TheVariants as wish

-- a batch over the database of this path, the words of `gprs` that it is asked for by, and what they ask for
pub record Task : Type 0 where
  pub database : Text
  pub words : List Text
  pub asked : Asked

-- to run it and publish it under this name; to read and judge it; to show what was published
pub data Deed : Type 0 where
  Runs : Task → (name : Text) → Deed
  Checks : Task → Deed
  Shows : (database name : Text) → Deed

abbrev pub task_of : Batch → Task
task_of batch = record { database = string_bytes batch.database; words = texts batch.words.items; asked = batch.asked }

abbrev pub deed_of : Wish → Deed
deed_of (wish.Run batch name) = Runs (task_of batch) (string_bytes name)
deed_of (wish.Check batch) = Checks (task_of batch)
deed_of (wish.Show database name) = Shows (string_bytes database) (string_bytes name)

-- the batch that these words of `gprs` ask for
abbrev pub task_by : (database : Text) → List Text → Option Task
task_by database words = option_map (λ asked. record { database = database; words = words; asked = asked }) (asked_by words)

-- to run a batch that is not traced
abbrev pub runs_untraced : (name : Text) → Option Task → Option Deed
runs_untraced name None = None
runs_untraced name (Some task) = if task.asked.trace then None else Some (Runs task name)

-- the words of `gprs` are those of its `run`, without the name
abbrev pub run_named : (database : Text) → Text × List Text → Option Deed
run_named database named = runs_untraced named.0 (task_by database (codes "run" ∷ named.1))

abbrev pub run_by : List Text → Option Deed
run_by [] = None
run_by (database ∷ words) = option_and_then (run_named database) (named_in words)

-- those of its `one`, which has the limits alone as options
abbrev pub check_by : List Text → Option Deed
check_by [] = None
check_by (database ∷ words) = option_map Checks (task_by database (codes "one" ∷ (words ++ [])))

abbrev pub show_by : List Text → Option Deed
show_by (database ∷ name ∷ []) = Some (Shows database name)
show_by words = None

-- what the words ask for, where they are those of a call over a database
abbrev pub deed_by : List Text → Option Deed
deed_by [] = None
deed_by (verb ∷ words) =
    if bytes_eq verb (codes "run") then run_by words
    else (if bytes_eq verb (codes "check") then check_by words
    else (if bytes_eq verb (codes "show") then show_by words else None))
