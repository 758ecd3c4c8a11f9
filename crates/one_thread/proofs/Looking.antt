-- What the code reads of the table.
use Rattle.std.proofs.Common.{◌≡◌, ℕ, zero, suc, ◌+◌, ◌<◌, true, List, length, Some, refl, sym, ap, ◌∙◌, arith, get_or, nat_lt}
use Rattle.std.specs.Prelude.{slice_get}
use Rattle.std.proofs.lemmas.Bool.{ltb-true}
use Rattle.task_ast.specs.Looking.{start_of}
use Rattle.task_ast.proofs.Looks.{get-at}
use Rattle.task_ast.proofs.SeenSeats.{seen-at}
use Rattle.one_thread.specs.declared.seats.Table.{Table}
use Rattle.one_thread.specs.declared.seats.Seat.{Seat}
use Rattle.one_thread.specs.View.{table_of, seat_of, token_of}

-- what `get` found
pub at-get : {X : Type 0} (xs items : List X) (i : ℕ) (x : X) → xs ≡ items → true ≡ nat_lt i (length xs) → x ≡ get_or xs i x
    → slice_get items i ≡ Some x
at-get xs items i x same within is = ap (λ l. slice_get l i) (sym same) ∙ get-at xs i x (ltb-true i (length xs) (sym within)) is

-- the seat that was read
pub seen : (table : Table) (t : ℕ) (seat : Seat) → t < length table.seats.items → seat ≡ get_or table.seats.items t seat
    → slice_get (table_of table).seats t ≡ Some (seat_of seat)
seen table t seat l e = seen-at seat_of table.seats.items t seat (get-at table.seats.items t seat l e)

-- the one that `get` found
pub seen-get : (table : Table) (xs : List Seat) (t : ℕ) (seat : Seat) → xs ≡ table.seats.items → true ≡ nat_lt t (length xs)
    → seat ≡ get_or xs t seat → slice_get (table_of table).seats t ≡ Some (seat_of seat)
seen-get table xs t seat same within is =
    seen-at seat_of table.seats.items t seat (at-get xs table.seats.items t seat same within is)

-- the token of the thread before the one that it looks at first
pub start-is : (start : ℕ) → start ≡ start_of (token_of start)
start-is zero = refl
start-is (suc t) = refl

pub token-is : (t : ℕ) → token_of (t + 1) ≡ Some t
token-is t = let next : t + 1 ≡ suc t = omega arith in rw next refl
