-- What a statement inside a transaction keeps: the last commit and, where it is answered, the transaction.
use Rattle.std.proofs.Common.{◌≡◌, ◌⊎◌, ℕ, List, [], Option, None, Some, Result, Ok, Err, IsTrue, cond, ap, ◌∙◌, false, refl, inl, inr}
use Rattle.std.specs.Prelude.{IfOk, IfErr}
use Rattle.std.specs.Result.{is_ok}
use Rattle.sqlite_value.specs.Order.{Row}
use Rattle.sqlite_schema.specs.declared.command.Returning.{Returning}
use Rattle.sqlite_resolve.specs.declared.compiled.Compiled.{Compiled}
use Rattle.sqlite.specs.declared.error.Error.{Error}
use Rattle.sqlite.specs.State.{State, KeepsCommit, ShowsRows, Shown, FailsToShow, FailsToQuery, IsNotRun, IsTooLate, IsUnchanged, ExecutesInside}
use Rattle.sqlite.specs.Store.{Ghosts}
use Rattle.sqlite.specs.Held.{Held, state}
use Rattle.sqlite.proofs.InsideLemmas.{unchanged_keeps, inside_keeps}
use Rattle.db_steps.specs.Shows.{Shows}

module _ (sql : List ℕ) (params : Row) (old new : State) (inside : IsTrue old.in_transaction) where
  rows_keep : (c : Compiled) (full : Row) (rows : List Row) (what : Option Returning) → ShowsRows old new sql c full rows what → KeepsCommit old new × IsTrue new.in_transaction
  rows_keep c full rows None h = (unchanged_keeps old new (inl h.3), h.3.0.mode ∙ inside)
  rows_keep c full rows (Some what) h = (
    record { was_open = λ _. h.1.shown.was_open; committed = λ _. h.1.shown.committed_is ∙ ap (λ b. cond b old.committed new.now) inside },
    h.1.shown.mode ∙ inside,
  )

  pub shown_keeps : (rows : List Row) → Shown sql params old new rows → KeepsCommit old new × IsTrue new.in_transaction
  unfolding Shown
  shown_keeps rows h = rows_keep h.0 _ rows h.0.returning h.2

  refused_keeps : (c : Compiled) (full : Row) (e : Error) (what : Option Returning) → FailsToShow old new sql c full e what → KeepsCommit old new
  refused_keeps c full e None h = unchanged_keeps old new (inl h.3)
  refused_keeps c full e (Some what) (inl refused) = unchanged_keeps old new (inl refused.1)
  refused_keeps c full e (Some what) (inr failed) = unchanged_keeps old new (inr failed.3)

  pub failed_keeps : (e : Error) → FailsToQuery sql params old new e ⊎ IsTooLate sql params old new e → KeepsCommit old new
  unfolding FailsToQuery IsNotRun
  failed_keeps e (inl (inl (inl refused))) = unchanged_keeps old new (inl refused.1)
  failed_keeps e (inl (inl (inr failed))) = unchanged_keeps old new (inr failed.3)
  failed_keeps e (inl (inr ran)) = refused_keeps ran.0 _ e ran.0.returning ran.2
  failed_keeps e (inr late) = unchanged_keeps old new (inl late.5)

  -- what is kept by a statement with this answer
  abbrev pub Keeps : {T : Type 0} → Result T Error → Type 0
  Keeps answer = KeepsCommit old new × (IsTrue (is_ok answer) → IsTrue new.in_transaction)

  pub query_keeps : {T : Type 0} (answer : Result T Error) (rows : T → List Row) → IfOk answer (λ x. Shown sql params old new (rows x))
      → IfErr answer (λ e. FailsToQuery sql params old new e ⊎ IsTooLate sql params old new e) → Keeps answer
  query_keeps (Ok x) rows shown failed = let keeps = shown_keeps (rows x) shown in (keeps.0, λ _. keeps.1)
  query_keeps (Err e) rows shown failed = (failed_keeps e failed, λ no. absurd cc)

  pub change_keeps : (answer : Result ℕ Error) → ExecutesInside 0 sql params old new answer → Keeps answer
  change_keeps (Ok count) ran = (inside_keeps old new 0 false sql params (Ok count) ran, λ _. ran.1.mode)
  change_keeps (Err e) ran = (inside_keeps old new 0 false sql params (Err e) ran, λ no. absurd cc)

  pub outline_keeps : {T : Type 0} (Is : T → Type 0) (answer : Result T Error) → IfOk answer (λ x. Is x × IsUnchanged old new)
      → IfErr answer (λ e. (given : Row) → IsNotRun old new sql given e) → Keeps answer
  unfolding IsNotRun
  outline_keeps Is (Ok x) same failed = (unchanged_keeps old new (inl same.1), λ _. same.1.0.mode ∙ inside)
  outline_keeps Is (Err e) same failed = (elim (failed []) [ inl refused ↦ unchanged_keeps old new (inl refused.1) | inr fails ↦ unchanged_keeps old new (inr fails.3) ], λ no. absurd cc)

-- why a text is not run, without parameters
pub at_params : {T : Type 0} (old new : State) (sql : List ℕ) (answer : Result T Error) → IfErr answer (λ e. (given : Row) → IsNotRun old new sql given e)
    → IfErr answer (IsNotRun old new sql [])
at_params old new sql (Ok x) why = tt
at_params old new sql (Err e) why = why []

-- what a query shows, in the words of what is promised
pub shows_rows : {S T : Type 0} (g : Ghosts S) (sql : List ℕ) (params : Row) (old new : Held S) (rows : T → List Row) (answer : Result T Error)
    → IfOk answer (λ x. Shown sql params (state g old) (state g new) (rows x)) → IfOk answer (λ x. Shows g sql params (state g old).now (state g new).now (rows x))
shows_rows g sql params old new rows (Ok x) shown = record { from = old; to = new; before = refl; shown = shown; after = refl }
shows_rows g sql params old new rows (Err e) shown = tt

-- the database that is seen after a text was prepared
pub same_seen : {T E : Type 0} (Is : T → Type 0) (old new : State) (answer : Result T E) → IfOk answer (λ x. Is x × IsUnchanged old new) → IfOk answer (λ _. new.now ≡ old.now)
same_seen Is old new (Ok x) both = both.1.0.now_is
same_seen Is old new (Err e) both = tt
