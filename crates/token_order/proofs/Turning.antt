-- What the code answers in a turn.
use Rattle.std.proofs.Common.{◌≡◌, ℕ, ◌<◌, true, nat_lt, length, Option, Some, refl, sym, subst, get_or}
use Rattle.std.specs.Prelude.{slice_get}
use Rattle.std.proofs.lemmas.Bool.{lt-ltb}
use Rattle.task_ast.specs.declared.sync.Next.{Next}
use Rattle.task_ast.specs.meaning.Repeat.{Again, Done}
use Rattle.task_ast.specs.Table.{Table}
use Rattle.task_ast.specs.meaning.Turn.{child_of}
use Rattle.task_ast.specs.Turn.{Turn, Issue, issuing}
use Rattle.task_ast.proofs.Looks.{get-at}
use Rattle.task_ast.proofs.SeenSeats.{seen-at}
use Rattle.task_ast.proofs.TurnForms.{issued_table}
use Rattle.token_order.specs.declared.threads.Threads.{Threads}
use Rattle.token_order.specs.declared.threads.Seat.{Seat}
use Rattle.token_order.specs.declared.rules.Turn.{Turn as TurnHere}
use Rattle.token_order.specs.declared.rules.Turn.TheVariants as here
use Rattle.token_order.specs.View.{table, seat_of}
use Rattle.token_order.specs.Turned.{Answered}

-- the same answer of another term
pub by : {a b : Again Table Turn} (before after : Table) (r : TurnHere) → a ≡ b → Answered b before r after → Answered a before r after
by before after r e h = subst (λ x. Answered x before r after) (sym e) h

moved_at : (t : ℕ) (next : Next) (child : Option ℕ) (new there before after : Table) (r : TurnHere)
    → Answered (Done (Issue t next child new)) there r after → Answered (Done (Issue t next child new)) before r after
moved_at t next child new there before after (here.Issue u other c) h = h
moved_at t next child new there before after (here.Settles u) h = absurd h
moved_at t next child new there before after here.Pass h = absurd (cc h)
moved_at t next child new there before after (here.Needs u) h = absurd (cc (h.0))
moved_at t next child new there before after (here.Ended e) h = absurd (cc (h.0))

issues : (there : Table) (t : ℕ) (next : Next) → nat_lt there.issued there.limit ≡ true
    → issuing there t next ≡ Done (Issue t next (child_of next.sync (length there.seats)) (issued_table there t next))
issues there t next e = rw e refl

-- below the limit an issue moves a thread, so nothing is said of the table before
pub moved : (there before after : Table) (t : ℕ) (next : Next) (r : TurnHere) → there.issued < there.limit
    → Answered (issuing there t next) there r after → Answered (issuing there t next) before r after
moved there before after t next r less h =
    let e = issues there t next (lt-ltb there.issued there.limit less) in
    by before after r e (moved_at t next (child_of next.sync (length there.seats)) (issued_table there t next) there before after r
    (by there after r (sym e) h))

-- the seat that was read
pub seen : (threads : Threads) (t : ℕ) (seat : Seat) → t < length threads.seats.items → seat ≡ get_or threads.seats.items t seat
    → slice_get (table threads).seats t ≡ Some (seat_of seat)
seen threads t seat l e = seen-at seat_of threads.seats.items t seat (get-at threads.seats.items t seat l e)
