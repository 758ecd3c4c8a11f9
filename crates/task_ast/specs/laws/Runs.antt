-- The plain run is the run of the general turn over the points of the tree.
use Rattle.std.specs.Prelude.{◌≡◌, ℕ, ◌<◌, map, length, Some}
use Rattle.gp_base.specs.declared.limits.Limits.{Limits}
use Rattle.gp_base.specs.declared.feed.Inputs.{Inputs}
use Rattle.gp_base.specs.declared.ending.End.{End}
use Rattle.task_ast.specs.meaning.Tree.{Program}
use Rattle.task_ast.specs.meaning.Names.{barriers_of}
use Rattle.task_ast.specs.meaning.Repeat.{Move, Goes, Ends}
use Rattle.task_ast.specs.Table.{Seat, Table}
use Rattle.task_ast.specs.meaning.Plain.{Subthread}
use Rattle.task_ast.specs.Plain.{Plain, move, order, end, final_records}
use Rattle.task_ast.specs.Position.{before}
use Rattle.task_ast.specs.meaning.Run.{Thread, Run, plain_opening, plain_move, plain_order, plain_before, plain_end, plain_records}

-- the seat of a thread
abbrev pub seat_for : Thread → Seat
seat_for th = record { next = Some th.next; last = th.last; passed = th.passed; stand = th.stand }

module _ (program : Program) (limits : Limits) where
  -- the thread table of a run
  abbrev pub table_for : Run → Table
  table_for x =
      record {
        limit = limits.subthreads;
        barriers = map (λ h. h.1) (barriers_of program.heads);
        seats = map seat_for x.threads;
        owners = x.owners;
        token = x.token;
        issued = x.issued;
      }

  abbrev pub plain_for : Run → Plain
  plain_for x = record { table = table_for x; points = map (λ (th : Thread). th.at) x.threads; state = x.state }

  abbrev pub move_for : Move Run Subthread End → Move Plain Subthread End
  move_for (Goes s y) = Goes s (plain_for y)
  move_for (Ends e) = Ends e

-- the token is at a thread
abbrev pub IsInside : Run → Type 0
IsInside x = (t : ℕ) → x.token ≡ Some t → t < length x.threads

abbrev pub RunMoveLaw : Type 0
RunMoveLaw =
    (program : Program) (inputs : Inputs) (limits : Limits) (x : Run) → IsInside x
    → move program inputs limits (plain_for program limits x) ≡ move_for program limits (plain_move program inputs limits x)

-- where it leads, the token is at a thread; so it is at the opening
abbrev pub RunInsideLaw : Type 0
RunInsideLaw =
    (program : Program) (inputs : Inputs) (limits : Limits)
    → IsInside (plain_opening program inputs limits)
    × ((x y : Run) (s : Subthread) → IsInside x → plain_move program inputs limits x ≡ Goes s y → IsInside y)

abbrev pub RunOrderLaw : Type 0
RunOrderLaw = (program : Program) (inputs : Inputs) (limits : Limits) → plain_order program inputs limits ≡ order program inputs limits

abbrev pub RunBeforeLaw : Type 0
RunBeforeLaw =
    (program : Program) (inputs : Inputs) (limits : Limits) (p : ℕ)
    → plain_for program limits (plain_before program inputs limits p) ≡ before program inputs limits p

abbrev pub RunEndLaw : Type 0
RunEndLaw =
    (program : Program) (inputs : Inputs) (limits : Limits)
    → (plain_end program inputs limits ≡ end program inputs limits)
    × (plain_records program inputs limits ≡ final_records program inputs limits)
