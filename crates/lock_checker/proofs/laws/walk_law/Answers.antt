use Rattle.lock_checker.proofs.WalkLemmas.{walk_law}
use Rattle.lock_checker.proofs.laws.walk_law.Goals as goal

pub returns : goal.returns
returns c = walk_law
