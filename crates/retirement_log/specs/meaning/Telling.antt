-- What notes that keep a log tell.
use Rattle.std.specs.Prelude.{ℕ, ◌-◌, ◌≤◌, List, length, take, All, Option}
use Rattle.std.specs.Io.KnownBytes.{Appends}
use Rattle.task_ast.specs.declared.effect.Effect.{Effect}
use Rattle.retirement_log.specs.meaning.Rows.{IsWideRow}
use Rattle.retirement_log.specs.meaning.Log.{log_rows, log_told}

-- the sink took a part of the log of these positions, with the whole rows of all but the last; the numbers of each whole row are of 64 bits
pub record TellsPart (start written : Option (List ℕ)) (told : List Effect) : Type 0 where
  pub part : ℕ
  pub most : length (log_told (take (length told - 1) told)) ≤ part
  pub taken : Appends start written (take part (log_told told))
  pub wide : (rows : ℕ) → length (log_told (take rows told)) ≤ part → All IsWideRow (log_rows (take rows told))
