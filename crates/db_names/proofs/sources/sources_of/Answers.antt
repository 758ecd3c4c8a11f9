use Rattle.db_names.proofs.Apart.{sources_distinct}
use Rattle.db_names.proofs.sources.sources_of.Goals as goal

pub returns-clause-apart : goal.returns-clause-apart
returns-clause-apart c = λ files names. sources_distinct c.args.program.now c.args.heads.now c.in_ok-sources.sources files c.in_ok-sources.ensures names
