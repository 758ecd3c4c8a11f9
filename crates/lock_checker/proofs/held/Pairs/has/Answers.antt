use Rattle.std.proofs.Common.{◌∙◌}
use Rattle.lock_checker.proofs.PairLemmas.{has_told}
use Rattle.lock_checker.proofs.held.Pairs.has.Goals as goal

pub returns : goal.returns
returns c = c.contains.ensures ∙ has_told c.args.p.now c.args.self.now.members.keys
