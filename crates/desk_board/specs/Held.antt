-- What callers know by what they hold: a board, a pass, a clerk, a desk.
use Rattle.std.specs.Prelude.{◌≡◌, ◌≤◌, ◌<◌, length, All, IfSome}
use Rattle.gp_base.specs.declared.job.Job.{Ghosts}
use Rattle.desk_board.specs.declared.types.Board.{Board}
use Rattle.desk_board.specs.declared.types.Pass.{Pass}
use Rattle.desk_board.specs.declared.types.Clerk.{Clerk}
use Rattle.desk_board.specs.declared.types.Desk.{Desk}
use Rattle.desk_board.specs.declared.view.About.{About}
use Rattle.desk_board.specs.declared.view.Hand.{Hand}
use Rattle.desk_board.specs.declared.view.Book.{Book}
use Rattle.desk_board.specs.Rule.{about_of}
use Rattle.desk_board.specs.Views.{IsOf}

-- the jobs of the board, and what they are run under
abbrev pub about : {J W R : Type 0} → Board J W R → About J W
about board = about_of board.table.shared.key

module _ {J W R : Type 0} {g : Ghosts J W R} where
  -- the pass's share, its desks, and the ticket at which it ended
  abbrev pub hand : Pass J W R g → Hand
  hand pass = pass.seat.me.0.hand

  -- the hand of the pass that the clerk has gathered
  abbrev pub gathered : Clerk J W R g → Hand
  gathered clerk = clerk.seat.me.0.hand

  -- what the clerk has seen and taken, and its looks
  abbrev pub book : Clerk J W R g → Book
  book clerk = clerk.seat.me.0.book

  -- the pass belongs to this board; where it has ended, its ticket is past the last desk
  abbrev pub IsPassOf : Board J W R → Pass J W R g → Type 0
  IsPassOf board pass =
      IsOf board.table.shared.table_id (about board) pass.seat × IfSome (hand pass).ticket (λ t. length (about board).jobs ≤ t)

  -- the clerk belongs to this board, and has seen none but its desks
  abbrev pub IsClerkOf : Board J W R → Clerk J W R g → Type 0
  IsClerkOf board clerk =
      IsOf board.table.shared.table_id (about board) clerk.seat × All (λ k. k < length (about board).jobs) (book clerk).seen

  -- the desk belongs to this board
  abbrev pub IsDeskOf : Board J W R → Desk J W R g → Type 0
  IsDeskOf board desk = desk.seat.table_id ≡ board.table.shared.table_id
