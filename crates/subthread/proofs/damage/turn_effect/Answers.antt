use Rattle.std.proofs.Common.{rules}
use Rattle.subthread.proofs.Damages.{struck}
use Rattle.subthread.proofs.damage.turn_effect.Goals as goal

pub returns : goal.returns
returns c = struck c.args.mask c.requires c.args.effect.now (search rules) (search rules) (search rules)
