use Rattle.task_ast.specs.meaning.Control.{size}
use Rattle.one_thread.specs.Walking.{point_of, Came}
use Rattle.one_thread.proofs.walk.Walk.stretch.Given as goal

abbrev pub invariant-loop-went : goal.invariant-loop-went
invariant-loop-went g l = Came l.fn.self l.self

abbrev pub decreases-loop-went : goal.decreases-loop-went
decreases-loop-went g l = size (point_of l.self)
