use Rattle.std.proofs.Common.{rules}
use Rattle.one_thread.proofs.Holds.{none_held}
use Rattle.one_thread.proofs.owners.Owners.new.Goals as goal

pub returns-clause-held : goal.returns-clause-held
returns-clause-held c = none_held c.args.locks _ _ (search rules) (search rules)
