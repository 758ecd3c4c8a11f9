use Rattle.std.proofs.Common.{suc, ◌+◌, ◌-◌, ◌*◌, length}
use Rattle.subthread.specs.inner.Running.{body_in, place_in}
use Rattle.subthread.proofs.Moves.{Leads}
use Rattle.subthread.proofs.control.control_body.Given as goal

abbrev pub invariant-loop-pc : goal.invariant-loop-pc
invariant-loop-pc l = Leads (body_in l.ground l.turns (place_in l.ground l.fn.cursor)) (body_in l.ground l.left (place_in l.ground l.cursor))

abbrev pub decreases-loop-pc : goal.decreases-loop-pc
decreases-loop-pc l = l.left * suc (length l.ground.instrs.now) + (length l.ground.instrs.now - l.cursor.pc)
