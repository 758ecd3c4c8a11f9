use Rattle.std.proofs.Common.{◌∙◌, sym, map}
use Rattle.one_thread.specs.View.{seat_of}
use Rattle.task_ast.proofs.Looks.{get-at}
use Rattle.task_ast.proofs.SeenSeats.{seen-at}
use Rattle.one_thread.proofs.Sleepers.{uncrossed}
use Rattle.one_thread.proofs.sleeping.wake.Goals as goal

pub returns-else-sleeps-clause-uncrossed : goal.returns-else-sleeps-clause-uncrossed
returns-else-sleeps-clause-uncrossed c =
    let seats = c.args.seats.now in
    let seat = c.index-seats-t.result in
    uncrossed c.args.ways.now.items (map seat_of seats) c.args.t (seat_of seat)
    (seen-at seat_of seats c.args.t seat (get-at seats c.args.t seat c.requires.exists c.index-seats-t.is))
    (sym c.sleeps.ensures ∙ c.if-sleeps.false) c.requires.sleep
