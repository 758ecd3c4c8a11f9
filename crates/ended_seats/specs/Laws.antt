-- Laws of threads that are idle.
use Rattle.std.specs.Prelude.{◌≡◌, ℕ, ◌-◌, ◌≤◌, false, List, map, Some, slice_get}
use Rattle.task_ast.specs.declared.sync.SyncOp.{SyncOp}
use Rattle.task_ast.specs.Table.{Seat, Table, unpassed}
use Rattle.task_ast.specs.meaning.Table.{numbers, with_nth}
use Rattle.task_ast.specs.Turn.{look, released_at, seats_after}
use Rattle.ended_seats.specs.Idle.{is_idle, IdleBetween}

-- a look finds what it finds from the first thread on that is not idle
abbrev pub PastLaw : Type 0
PastLaw =
    (table : Table) (from to onward : ℕ) → IdleBetween from onward table.seats → from ≤ onward
    → look table (numbers from (to - from)) ≡ look table (numbers onward (to - onward))

-- idle threads stay so where another is changed
abbrev pub ChangedLaw : Type 0
ChangedLaw =
    (from to : ℕ) (seats : List Seat) (t : ℕ) (seat : Seat) (f : Seat → Seat) → slice_get seats t ≡ Some seat → is_idle seat ≡ false
    → IdleBetween from to seats → IdleBetween from to (with_nth seats t f)

-- they do where no thread has passed any more
abbrev pub UnpassedLaw : Type 0
UnpassedLaw = (from to : ℕ) (seats : List Seat) → IdleBetween from to seats → IdleBetween from to (map unpassed seats)

-- they do where those are released that wait at a barrier
abbrev pub ReleasedLaw : Type 0
ReleasedLaw = (from to : ℕ) (seats : List Seat) (b : ℕ) → IdleBetween from to seats → IdleBetween from to (map (released_at b) seats)

-- they do after an issue
abbrev pub IssuedLaw : Type 0
IssuedLaw = (from to : ℕ) (op : SyncOp) (seats : List Seat) → IdleBetween from to seats → IdleBetween from to (seats_after op seats)
