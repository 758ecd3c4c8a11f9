-- Why the table of a source is not read, by the part that found it.
use Rattle.std.proofs.Common.{◌≡◌, ◌∙◌, ℕ, List, [], refl, sym, ap, subst, Result, Ok, Err, inl, inr}
use Rattle.std.specs.Prelude.{IfErr}
use Rattle.sqlite_value.specs.Order.{Row}
use Rattle.sqlite_trees.specs.declared.error.StoreError.TheVariants as store
use Rattle.sqlite_schema.specs.declared.schema.Schema.{Schema}
use Rattle.sqlite_resolve.specs.declared.compiled.Compiled.{Compiled}
use Rattle.sqlite_resolve.specs.declared.error.CompileError.{CompileError}
use Rattle.sqlite_resolve.specs.declared.error.CompileError.TheVariants.{NoSuchTable}
use Rattle.sqlite.specs.declared.error.Error.TheVariants.{SqlInputError}
use Rattle.sqlite.specs.Store.{Ghosts}
use Rattle.sqlite.specs.Effect.{Database}
use Rattle.sqlite.specs.Listing.{understood}
use Rattle.sqlite.specs.State.{State, IsNotRun}
use Rattle.sqlite.specs.Steps.{Outlines}
use Rattle.sqlite.specs.Outline.{Outline}
use Rattle.db_names.specs.declared.sources.Source.{Source}
use Rattle.db_names.specs.Tables.{table_of}
use Rattle.db_steps.specs.Shows.{Shows}
use Rattle.db_tables.specs.declared.fault.TableFault.{TableFault}
use Rattle.db_tables.specs.declared.fault.TableFault.TheVariants.{BadName, NoTable, NoColumn, Order, Unreadable, OutOfMemory}
use Rattle.db_tables.specs.Faults.{IsCause, IsPlain, IsMissing, IsSeenFault, IsReadFault, IsOrderFault}
use Rattle.db_tables.specs.Queries.{whole_of, select_of}

module _ {S : Type 0} (g : Ghosts S) (source : Source) (old new : Database) where
  pub plain_cause : (fault : TableFault) → IsPlain fault → IsCause g source old new fault
  plain_cause BadName plain = tt
  plain_cause NoTable plain = absurd plain
  plain_cause (NoColumn column) plain = absurd plain
  plain_cause (Order number) plain = absurd plain
  plain_cause (Unreadable error) plain = tt
  plain_cause OutOfMemory plain = tt

  pub seen_cause : (fault : TableFault) → IsSeenFault old.schema (whole_of (table_of source.file)) fault → IsCause g source old new fault
  seen_cause BadName seen = tt
  seen_cause NoTable seen = seen
  seen_cause (NoColumn column) seen = seen
  seen_cause (Order number) seen = absurd seen
  seen_cause (Unreadable error) seen = tt
  seen_cause OutOfMemory seen = tt

  pub read_cause : (fault : TableFault) → IsReadFault fault → IsCause g source old new fault
  read_cause BadName read = tt
  read_cause NoTable read = absurd read
  read_cause (NoColumn column) read = absurd read
  read_cause (Order number) read = absurd read
  read_cause (Unreadable error) read = tt
  read_cause OutOfMemory read = tt

  order_cause : (rows : List Row) → Shows g (select_of source) [] old new rows → (fault : TableFault) → IsOrderFault source.shape rows fault
      → IsCause g source old new fault
  order_cause rows shown BadName order = tt
  order_cause rows shown NoTable order = absurd order
  order_cause rows shown (NoColumn column) order = absurd order
  order_cause rows shown (Order number) order = (rows, shown, order)
  order_cause rows shown (Unreadable error) order = tt
  order_cause rows shown OutOfMemory order = tt

  pub order_causes : {T : Type 0} (rows : List Row) → Shows g (select_of source) [] old new rows → (answer : Result T TableFault)
      → IfErr answer (IsOrderFault source.shape rows) → IfErr answer (IsCause g source old new)
  order_causes rows shown (Ok x) order = tt
  order_causes rows shown (Err fault) order = order_cause rows shown fault order

-- a table that is missed is not there
pub no_table : (old new : State) (sql : List ℕ) → IsNotRun old new sql [] (SqlInputError NoSuchTable) → understood old.now.schema sql ≡ Err NoSuchTable
unfolding IsNotRun
no_table old new sql (inl (inl (fault, is, same), unchanged)) = is ∙ ap Err (let e : fault ≡ NoSuchTable = cc same in e)
no_table old new sql (inl (inr (c, is, inl (several, other)), unchanged)) = absurd (cc other)
no_table old new sql (inl (inr (c, is, inr (inl (count, other))), unchanged)) = absurd (cc other)
no_table old new sql (inl (inr (c, is, inr (inr (clock, other))), unchanged)) = absurd (cc other)
no_table old new sql (inr (store.OutOfMemory, is, cause, undone, told)) = absurd (cc is)
no_table old new sql (inr (store.Io, is, cause, undone, told)) = absurd (cc is)
no_table old new sql (inr (store.Corrupt, is, cause, undone, told)) = absurd (cc is)
no_table old new sql (inr (store.Full, is, cause, undone, told)) = absurd (cc is)
no_table old new sql (inr (store.Broken, is, cause, undone, told)) = absurd (cc is)
no_table old new sql (inr (store.Unstorable, is, cause, undone, told)) = absurd (cc is)

-- a column that an outline lacks
missing : (schema : Schema) (sql : List ℕ) (is : Result Compiled CompileError) (outline : Outline) → understood schema sql ≡ is → Outlines is outline
    → (fault : TableFault) → IsMissing outline.columns fault → IsSeenFault schema sql fault
missing schema sql (Ok c) outline is outlined (NoColumn column) lacks = (c, is, rw outlined.2 at lacks)
missing schema sql (Err e) outline is outlined (NoColumn column) lacks = absurd outlined
missing schema sql is outline same outlined BadName lacks = absurd lacks
missing schema sql is outline same outlined NoTable lacks = absurd lacks
missing schema sql is outline same outlined (Order number) lacks = absurd lacks
missing schema sql is outline same outlined (Unreadable error) lacks = absurd lacks
missing schema sql is outline same outlined OutOfMemory lacks = absurd lacks

pub missing_columns : {T : Type 0} (schema : Schema) (sql : List ℕ) (outline : Outline) → Outlines (understood schema sql) outline → (answer : Result T TableFault)
    → IfErr answer (IsMissing outline.columns) → IfErr answer (IsSeenFault schema sql)
missing_columns schema sql outline outlined (Ok x) lacks = tt
missing_columns schema sql outline outlined (Err fault) lacks = missing schema sql (understood schema sql) outline refl outlined fault lacks

-- what holds of an error that is answered
pub if_error : {T E : Type 0} (P : E → Type 0) (answer : Result T E) (e : E) → answer ≡ Err e → P e → IfErr answer P
if_error P (Ok x) e is holds = tt
if_error P (Err f) e is holds = let same : f ≡ e = cc is in subst P (sym same) holds
