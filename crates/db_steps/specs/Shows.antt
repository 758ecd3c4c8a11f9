-- What a query shows of a database.
use Rattle.std.specs.Prelude.{◌≡◌, ℕ, List}
use Rattle.sqlite_value.specs.Order.{Row}
use Rattle.sqlite.specs.Store.{Ghosts}
use Rattle.sqlite.specs.Effect.{Database}
use Rattle.sqlite.specs.State.{Shown}
use Rattle.sqlite.specs.Held.{Held, state}

module _ {S : Type 0} (g : Ghosts S) where
  -- A connection that sees the old database is shown these rows, by the kit's meaning of the text, and sees the new one afterwards. A text that only
  -- reads leaves the old one.
  pub record Shows (sql : List ℕ) (params : Row) (old new : Database) (rows : List Row) : Type 0 where
    pub from : Held S
    pub to : Held S
    pub before : (state g from).now ≡ old
    pub shown : Shown sql params (state g from) (state g to) rows
    pub after : (state g to).now ≡ new
