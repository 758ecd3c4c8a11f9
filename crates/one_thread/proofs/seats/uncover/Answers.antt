use Rattle.std.proofs.Common.{◌∙◌, sym, map}
use Rattle.std.proofs.lemmas.Option.{slice_get-get_or}
use Rattle.one_thread.specs.View.{seat_of, onward_of}
use Rattle.task_ast.proofs.SeenSeats.{seen-at}
use Rattle.ended_seats.proofs.Walks.{uncovered, uncovered_none, idle_none}
use Rattle.one_thread.proofs.seats.uncover.Goals as goal

pub returns-then-is_idle-clause-idle : goal.returns-then-is_idle-clause-idle
returns-then-is_idle-clause-idle c = idle_none (map onward_of c.forget.new.seats) (map seat_of c.args.seats.now) c.forget.ensures.onward

pub returns-then-is_idle-clause-uncovered : goal.returns-then-is_idle-clause-uncovered
returns-then-is_idle-clause-uncovered c = uncovered_none (map onward_of c.forget.new.seats) c.args.t c.forget.ensures.onward

pub returns-else-is_idle-clause-uncovered : goal.returns-else-is_idle-clause-uncovered
returns-else-is_idle-clause-uncovered c =
    uncovered (map onward_of c.args.seats.now) (map seat_of c.args.seats.now) c.args.t _
    (seen-at seat_of c.args.seats.now c.args.t _ (slice_get-get_or c.args.seats.now c.args.t c.index-seats-t.result c.requires.exists))
    (sym c.is_idle.ensures ∙ c.if-is_idle.false) c.requires.idle
