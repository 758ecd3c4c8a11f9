-- Workers at a board.
use Rattle.std.specs.Prelude.{◌≡◌, [], length}
use Rattle.gp_base.specs.declared.job.Job.{Ghosts}
use Rattle.gp_steal.specs.declared.types.StealBoard.{StealBoard}
use Rattle.gp_steal.specs.declared.types.StealPass.{StealPass}
use Rattle.gp_steal.specs.Held.{about, hand, IsPassOf}

module _ {J W R : Type 0} {g : Ghosts J W R} where
  -- a pass of the board, whose jobs run under `with`, that holds no desk
  abbrev pub IsIdle : StealBoard J W R → W → StealPass J W R g → Type 0
  IsIdle board with pass = IsPassOf board pass × ((about board).with ≡ with) × ((hand pass).held ≡ [])

  -- each desk of the board was tried or claimed, as the pass knows
  abbrev pub HasSwept : StealBoard J W R → StealPass J W R g → Type 0
  HasSwept board pass = (hand pass).swept ≡ length (about board).jobs
