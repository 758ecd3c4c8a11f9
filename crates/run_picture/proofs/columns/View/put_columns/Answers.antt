use Rattle.run_picture.specs.inner.Drawn.{shows_in, values_in}
use Rattle.run_picture.specs.inner.Tellings.{found}
use Rattle.run_picture.proofs.Pictures.{columns-next}
use Rattle.run_picture.proofs.columns.View.put_columns.Goals as goal

pub loop-position-preserved : goal.loop-position-preserved
loop-position-preserved c =
    let view = c.args.self.now in
    columns-next view.heads.now (found view.tellings.now) view.restarts.now (shows_in view.bands.now) (values_in view.known.now)
    c.loop-position.follows c.in_ok-follows.follows c.loop-position.position view.order.now c.step-item.result c.loop-position.drawing.elements
    c.put_position.new.drawing.elements _ c.loop-position-test.true c.step-item.is c.in_ok-follows.ensures.shown c.loop-position.invariant
    c.in_ok-follows.ensures.elements
