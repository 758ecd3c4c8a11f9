-- What was read of the tables, one after the other.
use Rattle.std.proofs.Common.{◌≡◌, ◌∙◌, ◌<◌, ◌+◌, ℕ, Bool, true, false, List, [], ◌∷◌, ◌++◌, length, take, get_or, refl, sym, ap, subst, Result, Ok, Err, None}
use Rattle.std.specs.Prelude.{IfOk}
use Rattle.std.specs.Result.{is_ok}
use Rattle.std.proofs.lemmas.List.{take_more}
use Rattle.sqlite_value.specs.Order.{Row}
use Rattle.sqlite.specs.Store.{Ghosts}
use Rattle.sqlite.specs.Effect.{Database}
use Rattle.sqlite.specs.Held.{Held}
use Rattle.task_ast.specs.meaning.Tree.{Name}
use Rattle.db_rows.specs.Csv.{csv_of}
use Rattle.db_names.specs.declared.sources.Source.{Source}
use Rattle.db_steps.specs.Shows.{Shows}
use Rattle.db_steps.specs.Steps.{IsStep}
use Rattle.db_tables.specs.Queries.{select_of}
use Rattle.db_tables.specs.Reading.{IsRead, IsFileRead, ReadEach, out_of_order, skip_of}

module _ {S : Type 0} (g : Ghosts S) where
  -- a step from which nothing is asked
  pub step_as : (old new : Held S) (answered : Bool) → IsStep g old new true → IsStep g old new answered
  step_as old new answered step = record { survives = step.survives; kept = step.kept; inside = λ clean inside answer. step.inside clean inside refl }

  pub step_fails : {T E : Type 0} (old new : Held S) (answer : Result T E) (e : E) → answer ≡ Err e → IsStep g old new false → IsStep g old new (is_ok answer)
  step_fails old new answer e is step = rw is step

  -- the same rows are shown of the same database, by the same text
  pub shows_as : (sql same : List ℕ) (params : Row) (old mid new : Database) (rows these : List Row) → sql ≡ same → mid ≡ old → rows ≡ these
      → Shows g sql params mid new rows → Shows g same params old new these
  shows_as sql same params old mid new rows these text seen shows shown =
      subst (λ (it : List ℕ). Shows g it params old new these) text
      (subst (Shows g sql params old new) shows
      (record { from = shown.from; to = shown.to; before = shown.before ∙ seen; shown = shown.shown; after = shown.after }))

  pub are_read : (source : Source) (old new : Database) (rows : List Row) {E : Type 0} (answer : Result (List ℕ) E) → Shows g (select_of source) [] old new rows
      → IfOk answer (λ _. out_of_order source.shape rows ≡ None) → IfOk answer (λ text. text ≡ csv_of (skip_of source.shape) rows) → IfOk answer (IsRead g source old new)
  are_read source old new rows (Ok text) shown ordered is = record { rows = rows; shown = shown; ordered = ordered; is = is }
  are_read source old new rows (Err e) shown ordered is = tt

  pub file_is_read : (source : Source) (old new : Database) (text : List ℕ) {E : Type 0} (answer : Result (Name × List ℕ) E) → IsRead g source old new text
      → IfOk answer (λ file. (file.0 ≡ source.file) × (file.1 ≡ text)) → IfOk answer (IsFileRead g source old new)
  file_is_read source old new text (Ok file) read is = (is.0, subst (IsRead g source old new) (sym is.1) read)
  file_is_read source old new text (Err e) read is = tt

  -- one more table
  read_after : (sources : List Source) (source : Source) (old mid new : Database) (files : List (Name × List ℕ)) (file : Name × List ℕ)
      → ReadEach g sources old mid files → IsFileRead g source mid new file → ReadEach g (sources ++ source ∷ []) old new (files ++ file ∷ [])
  read_after [] source old mid new [] file so_far read = (new, subst (λ db. IsFileRead g source db new file) (sym so_far) read, refl)
  read_after [] source old mid new (other ∷ files) file so_far read = absurd so_far
  read_after (first ∷ sources) source old mid new [] file so_far read = absurd so_far
  read_after (first ∷ sources) source old mid new (other ∷ files) file (next, is, so_far) read =
      (next, is, read_after sources source next mid new files file so_far read)

  pub read_more : (sources : List Source) (at : ℕ) (source : Source) (old mid new : Database) (files : List (Name × List ℕ)) (file : Name × List ℕ)
      → at < length sources → source ≡ get_or sources at source
      → ReadEach g (take at sources) old mid files → IsFileRead g source mid new file → ReadEach g (take (at + 1) sources) old new (files ++ file ∷ [])
  read_more sources at source old mid new files file low is so_far read =
      let more : take (at + 1) sources ≡ take at sources ++ source ∷ [] = take_more sources at source low ∙ ap (λ it. take at sources ++ it ∷ []) (sym is) in
      subst (λ these. ReadEach g these old new (files ++ file ∷ [])) (sym more) (read_after (take at sources) source old mid new files file so_far read)
