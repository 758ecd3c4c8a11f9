-- A turn that finds nobody to go on.
use Rattle.std.proofs.Common.{◌≡◌, ℕ, length, Some, None, true, refl, ◌∙◌, Result, IfOk}
use Rattle.std.specs.Prelude.{slice_get}
use Rattle.std.specs.declared.alloc.AllocError.{AllocError}
use Rattle.std.proofs.lemmas.Result.{IfOk-weaker}
use Rattle.gp_base.specs.declared.ending.End.TheVariants.{Finished}
use Rattle.task_ast.specs.declared.sync.Next.{Next}
use Rattle.task_ast.specs.meaning.Repeat.{Done}
use Rattle.task_ast.specs.meaning.Table.{numbers}
use Rattle.task_ast.specs.Table.{Seat, Table}
use Rattle.task_ast.specs.Turn.{Needs, Ended, turn, look, deadlocked}
use Rattle.task_ast.proofs.SeenSeats.{LooksAt, next-at, passed-at}
use Rattle.one_thread.specs.declared.turns.Turn.{Turn as TurnHere}
use Rattle.one_thread.specs.View.{gives}

-- no thread is left
pub turn-ends : (table : Table) → LooksAt table None → turn table ≡ Done (Ended Finished)
turn-ends table looks = rw looks refl

-- nothing is known of the thread that the token comes to
pub turn-needs : (table : Table) (t : ℕ) (seat : Seat) → LooksAt table (Some t) → slice_get table.seats t ≡ Some seat → seat.next ≡ None
    → turn table ≡ Done (Needs t)
turn-needs table t seat looks at is = rw (looks, next-at table t seat at ∙ is) refl

turn-stops : (table : Table) (t : ℕ) (seat : Seat) (next : Next) → LooksAt table (Some t) → slice_get table.seats t ≡ Some seat
    → seat.next ≡ Some next → seat.passed ≡ true → turn table ≡ deadlocked (look table (numbers 0 (length table.seats)))
turn-stops table t seat next looks at is passed = rw (looks, next-at table t seat at ∙ is, passed-at table t seat at, passed) refl

-- that thread has passed
pub by-deadlock : (r : Result TurnHere AllocError) (table : Table) (t : ℕ) (seat : Seat) (next : Next) → LooksAt table (Some t)
    → slice_get table.seats t ≡ Some seat → seat.next ≡ Some next → seat.passed ≡ true
    → IfOk r (λ r. deadlocked (look table (numbers 0 (length table.seats))) ≡ gives r table) → IfOk r (λ r. turn table ≡ gives r table)
by-deadlock r table t seat next looks at is passed stops =
    IfOk-weaker r (λ r. deadlocked (look table (numbers 0 (length table.seats))) ≡ gives r table) (λ r. turn table ≡ gives r table)
    (λ r gives_it. turn-stops table t seat next looks at is passed ∙ gives_it) stops
