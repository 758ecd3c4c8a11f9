-- What contracts see of an engine with its room.
use Rattle.std.specs.Prelude.{ℕ}
use Rattle.whole_run.specs.View.{View}

-- an engine, and how many events it has room for
pub record Engaged : Type 0 where
  pub view : View
  pub room : ℕ
