use Rattle.subthread.specs.inner.Running.{place_in, did}
use Rattle.subthread.proofs.Moves.{control_stepped}
use Rattle.subthread.proofs.walk.step_at.Goals as goal

pub returns-in_default : goal.returns-in_default
returns-in_default c =
    let ground = c.args.ground.now in
    let place = place_in ground c.args.cursor.now in
    let then = place_in ground c.control_at.new.cursor in
    let old = did c.args.doing.now c.args.names.now in
    let does = c.args.does.now in
    record {
      holds = c.requires.cells;
      steps = control_stepped ground c.args.line does c.control_at.result place then old c.in_default.not-Do c.control_at.ensures;
    }
