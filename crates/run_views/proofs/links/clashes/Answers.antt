use Rattle.run_views.proofs.Linking.{parties-clash}
use Rattle.run_views.proofs.links.clashes.Goals as goal

pub returns : goal.returns
returns c =
    parties-clash c.args.order.now c.args.earlier c.args.later c.index-order-earlier.result c.index-order-later.result c.conflict.result
    c.requires.earlier c.requires.later c.conflict.ensures
